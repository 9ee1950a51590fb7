use Rattle.std.proofs.Common.{◌≡◌, ◌++◌}
use Rattle.typed_path.specs.components.{unix, parts_of}
use Rattle.typed_path.specs.views.PathViews.{path_bytes, components_parts}
use Rattle.typed_path_uses.specs.Uses.{lines_of}
use Rattle.typed_path_uses.proofs.walk.listing.Given as goal

abbrev pub invariant-components : goal.invariant-components
invariant-components l = l.text.items ++ lines_of (components_parts l.component-iterator) ≡ lines_of (parts_of unix (path_bytes l.path))
