use Rattle.std.proofs.Common.{◌-◌, length}
use Rattle.typed_path.specs.typed.{typed_dialect}
use Rattle.typed_path.specs.views.TypedViews.{typed_bytes}
use Rattle.typed_path_c.proofs.Batches.{Runs}
use Rattle.typed_path_c.proofs.batch.join_each.Given as goal

abbrev pub invariant-names : goal.invariant-names
invariant-names l =
    Runs l.fn.rule (typed_dialect l.fn.base) (typed_bytes l.fn.base) l.fn.names l.fn.ends l.fn.out l.out l.fn.out_ends l.out_ends l.fn.statuses l.statuses l.done l.start l.at

abbrev pub decreases-names : goal.decreases-names
decreases-names l = length l.ends - l.done
