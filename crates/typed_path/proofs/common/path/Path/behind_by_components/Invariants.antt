use Rattle.std.proofs.Common.{length}
use Rattle.typed_path.specs.views.PathViews.{path_bytes, components_items, components_slice}
use Rattle.typed_path.proofs.lemmas.queries.Bases.{Strips}
use Rattle.typed_path.proofs.common.path.Path.behind_by_components.Given as goal

abbrev pub invariant-pieces : goal.invariant-pieces
invariant-pieces g l =
    Strips g.T.Encoding.dialect (path_bytes l.self) (path_bytes l.base) (components_items l.rest) (components_items l.wanted) (components_slice l.rest)

abbrev pub decreases-pieces : goal.decreases-pieces
decreases-pieces g l = length (components_items l.wanted)
