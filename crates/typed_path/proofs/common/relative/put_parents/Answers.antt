use Rattle.std.proofs.Common.{arith}
use Rattle.typed_path.proofs.common.relative.put_parents.Goals as goal

pub parents-preserved : goal.parents-preserved
parents-preserved c = grind arith

pub returns-in_err-put_reversed-clause-succeeds : goal.returns-in_err-put_reversed-clause-succeeds
returns-in_err-put_reversed-clause-succeeds c = grind arith
