use Rattle.std.proofs.Common.{◌≡◌, length}
use Rattle.typed_path.specs.queries.{path_ends_with}
use Rattle.typed_path.specs.views.PathViews.{path_bytes, components_items}
use Rattle.typed_path.proofs.lemmas.queries.Bases.{ends}
use Rattle.typed_path.proofs.common.path.Path.ends_with.Given as goal

abbrev pub invariant-pieces : goal.invariant-pieces
invariant-pieces g l =
    path_ends_with g.T.Encoding.dialect (path_bytes l.self) (path_bytes l.end) ≡ ends (components_items l.rest) (components_items l.wanted)

abbrev pub decreases-pieces : goal.decreases-pieces
decreases-pieces g l = length (components_items l.wanted)
