use Rattle.std.proofs.Common.{◌≡◌, ◌≤◌, List, length}
use Rattle.typed_path.specs.components.{Placed}
use Rattle.typed_path.specs.views.PathViews.{components_items, components_slice}
use Rattle.typed_path_c.specs.Parts.{IsBehind}
use Rattle.typed_path_c.proofs.parts.component_at.Given as goal

abbrev pub invariant-components : goal.invariant-components
invariant-components g l = (seen : List Placed)
    × IsBehind g.T.Encoding.dialect l.fn.path seen (components_items l.rest) (components_slice l.rest)
    × (length seen ≡ l.at)
    × (l.at ≤ l.index)

abbrev pub decreases-components : goal.decreases-components
decreases-components g l = length (components_items l.rest)
