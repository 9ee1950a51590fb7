use Rattle.std.proofs.Common.{◌≡◌, ◌≤◌, ◌+◌, length, fold, sum_by}
use Rattle.typed_path.specs.components.{parts}
use Rattle.typed_path.specs.order.Words.{path_words}
use Rattle.typed_path.specs.views.BodyViews.{body_items}
use Rattle.typed_path.proofs.lemmas.order.Comparisons.{counted, fed_from}
use Rattle.typed_path.proofs.common.encoding.Encoding.hash.Given as goal

abbrev pub invariant-steps : goal.invariant-steps
invariant-steps g l =
    (fold g.H.Hasher.write l.fn.state (path_words g.Self.Encoding.dialect l.path) ≡ fold g.H.Hasher.write l.state (fed_from l.len (body_items l.body)))
    × (l.len + sum_by counted (parts (body_items l.body)) ≤ length l.path)

abbrev pub decreases-steps : goal.decreases-steps
decreases-steps g l = length (body_items l.body)
