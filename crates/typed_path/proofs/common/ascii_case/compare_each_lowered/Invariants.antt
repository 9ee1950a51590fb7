use Rattle.std.proofs.Common.{◌≡◌, length}
use Rattle.typed_path.specs.order.{lowered_cmp}
use Rattle.typed_path.specs.views.BodyViews.{body_items}
use Rattle.typed_path.proofs.common.ascii_case.compare_each_lowered.Given as goal

abbrev pub invariant-steps : goal.invariant-steps
invariant-steps g l = lowered_cmp (body_items l.fn.rest) (body_items l.fn.wanted) ≡ lowered_cmp (body_items l.rest) (body_items l.wanted)

abbrev pub decreases-steps : goal.decreases-steps
decreases-steps g l = length (body_items l.wanted)
