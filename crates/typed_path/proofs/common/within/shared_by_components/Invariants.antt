use Rattle.std.proofs.Common.{length}
use Rattle.typed_path.specs.views.PathViews.{path_bytes, components_items, components_slice}
use Rattle.typed_path.proofs.lemmas.queries.Shared.{Shares}
use Rattle.typed_path.proofs.common.within.shared_by_components.Given as goal

abbrev pub invariant-pieces : goal.invariant-pieces
invariant-pieces g l =
    Shares g.T.Encoding.dialect (path_bytes l.path) (path_bytes l.other) (components_items l.own) (components_items l.others) (components_slice l.own) l.end

abbrev pub decreases-pieces : goal.decreases-pieces
decreases-pieces g l = length (components_items l.others)
