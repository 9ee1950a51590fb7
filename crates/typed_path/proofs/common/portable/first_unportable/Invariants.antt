use Rattle.std.proofs.Common.{◌≡◌, length}
use Rattle.typed_path.specs.views.PathViews.{components_items, components_parts}
use Rattle.typed_path.specs.queries.{offender}
use Rattle.typed_path.proofs.common.portable.first_unportable.Given as goal

abbrev pub invariant-pieces : goal.invariant-pieces
invariant-pieces g l = offender (components_parts l.rest) ≡ offender (components_parts l.fn.rest)

abbrev pub decreases-pieces : goal.decreases-pieces
decreases-pieces g l = length (components_items l.rest)
