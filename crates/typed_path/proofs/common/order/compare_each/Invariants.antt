use Rattle.std.proofs.Common.{◌≡◌, length}
use Rattle.typed_path.specs.order.{left_cmp}
use Rattle.typed_path.specs.views.BodyViews.{body_items}
use Rattle.typed_path.proofs.common.order.compare_each.Given as goal

abbrev pub invariant-steps : goal.invariant-steps
invariant-steps l = left_cmp (body_items l.fn.rest) (body_items l.fn.wanted) ≡ left_cmp (body_items l.rest) (body_items l.wanted)

abbrev pub decreases-steps : goal.decreases-steps
decreases-steps l = length (body_items l.wanted)
