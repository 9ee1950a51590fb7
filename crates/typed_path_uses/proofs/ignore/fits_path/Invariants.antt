use Rattle.std.proofs.Common.{◌≡◌}
use Rattle.typed_path.specs.components.{kinds, parts_of}
use Rattle.typed_path.specs.views.PathViews.{path_bytes, components_parts}
use Rattle.typed_path_uses.specs.Ignore.{fits}
use Rattle.typed_path_uses.proofs.ignore.fits_path.Given as goal

abbrev pub invariant-pieces : goal.invariant-pieces
invariant-pieces g l =
    let d = g.T.Encoding.dialect in
    fits (kinds (components_parts l.wanted-iterator)) (kinds (components_parts l.rest))
    ≡ fits (kinds (parts_of d (path_bytes l.pattern))) (kinds (parts_of d (path_bytes l.path)))
