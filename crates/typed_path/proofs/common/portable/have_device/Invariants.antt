use Rattle.std.proofs.Common.{◌≡◌, length}
use Rattle.std.specs.List.{list_any}
use Rattle.typed_path.specs.components.{kinds}
use Rattle.typed_path.specs.views.PathViews.{components_items, components_parts}
use Rattle.typed_path.specs.queries.{kind_may_be_device}
use Rattle.typed_path.proofs.common.portable.have_device.Given as goal

abbrev pub invariant-pieces : goal.invariant-pieces
invariant-pieces g l = list_any kind_may_be_device (kinds (components_parts l.rest)) ≡ list_any kind_may_be_device (kinds (components_parts l.fn.rest))

abbrev pub decreases-pieces : goal.decreases-pieces
decreases-pieces g l = length (components_items l.rest)
