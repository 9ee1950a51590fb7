use Rattle.std.proofs.Common.{length, ap, arith}
use Rattle.typed_path.proofs.common.relative.count_ends.Goals as goal

pub ends-preserved : goal.ends-preserved
ends-preserved c = grind arith

pub returns-clause-count : goal.returns-clause-count
returns-clause-count c = omega (arith, c.ends.invariant.sum, ap length c.in_default.ensures.pieces)
