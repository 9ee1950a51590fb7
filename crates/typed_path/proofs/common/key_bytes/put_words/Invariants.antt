use Rattle.std.proofs.Common.{length}
use Rattle.typed_path.specs.order.{key_bytes, left_key_bytes}
use Rattle.typed_path.specs.views.BodyViews.{body_items}
use Rattle.typed_path.proofs.lemmas.order.KeyBytes.{IsPutSoFar}
use Rattle.typed_path.proofs.common.key_bytes.put_words.Given as goal

abbrev pub invariant-steps : goal.invariant-steps
invariant-steps g l = IsPutSoFar (key_bytes g.T.Encoding.dialect l.path) l.fn.out (body_items l.body) l.out l.at

abbrev pub decreases-steps : goal.decreases-steps
decreases-steps g l = length (left_key_bytes (body_items l.body))
