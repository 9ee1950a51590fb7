use Rattle.std.proofs.Common.{arith}
use Rattle.typed_path.specs.changes.{is_forbidden_or}
use Rattle.typed_path.proofs.lemmas.scan.Searches.{any-told}
use Rattle.typed_path.proofs.scan.lanes.has_forbidden.Goals as goal

pub returns-then-len-ge32 : goal.returns-then-len-ge32
returns-then-len-ge32 c =
    any-told (is_forbidden_or c.args.pair) c.args.text.now _ _ _ c.is_forbidden_in_32-then-len-ge32.ensures (λ k below. c.loop-at.invariant.passed k (omega arith) (omega (arith, below, c.loop-at-test.false))) (omega (arith, c.if-len-ge32.true))
