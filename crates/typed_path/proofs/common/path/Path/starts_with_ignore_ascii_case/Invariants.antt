use Rattle.std.proofs.Common.{◌≡◌, length}
use Rattle.typed_path.specs.queries.{path_starts_with}
use Rattle.typed_path.specs.order.{lowered, lowered_begins}
use Rattle.typed_path.specs.views.PathViews.{path_bytes, components_items}
use Rattle.typed_path.proofs.common.path.Path.starts_with_ignore_ascii_case.Given as goal

abbrev pub invariant-pieces : goal.invariant-pieces
invariant-pieces g l =
    path_starts_with g.T.Encoding.dialect (lowered g.T.Encoding.dialect (path_bytes l.self)) (lowered g.T.Encoding.dialect (path_bytes l.base)) ≡ lowered_begins (components_items l.rest) (components_items l.wanted)

abbrev pub decreases-pieces : goal.decreases-pieces
decreases-pieces g l = length (components_items l.wanted)
