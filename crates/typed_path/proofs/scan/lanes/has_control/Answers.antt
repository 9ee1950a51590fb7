use Rattle.std.proofs.Common.{arith}
use Rattle.typed_path.specs.queries.{is_control}
use Rattle.typed_path.proofs.lemmas.scan.Searches.{any-told}
use Rattle.typed_path.proofs.scan.lanes.has_control.Goals as goal

pub returns-then-len-ge32 : goal.returns-then-len-ge32
returns-then-len-ge32 c =
    any-told is_control c.args.text.now _ _ _ c.has_control_in_block-then-len-ge32.ensures (λ k below. c.loop-at.invariant.passed k (omega arith) (omega (arith, below, c.loop-at-test.false))) (omega (arith, c.if-len-ge32.true))
