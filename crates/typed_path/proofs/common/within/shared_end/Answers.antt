use Rattle.std.proofs.Common.{arith}
use Rattle.typed_path.proofs.lemmas.queries.SharedFronts.{shared-within}
use Rattle.typed_path.proofs.common.within.shared_end.Goals as goal

pub returns-in-Some-clause-within : goal.returns-in-Some-clause-within
returns-in-Some-clause-within g c = grind (arith, shared-within)
