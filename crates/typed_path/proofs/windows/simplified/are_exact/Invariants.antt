use Rattle.std.proofs.Common.{◌≡◌, length}
use Rattle.std.specs.List.{list_all}
use Rattle.typed_path.specs.components.{kinds}
use Rattle.typed_path.specs.views.PathViews.{components_items, components_parts}
use Rattle.typed_path.specs.queries.{is_exact}
use Rattle.typed_path.proofs.windows.simplified.are_exact.Given as goal

abbrev pub invariant-pieces : goal.invariant-pieces
invariant-pieces l = list_all is_exact (kinds (components_parts l.rest)) ≡ list_all is_exact (kinds (components_parts l.fn.rest))

abbrev pub decreases-pieces : goal.decreases-pieces
decreases-pieces l = length (components_items l.rest)
