use Rattle.std.proofs.Common.{arith}
use Rattle.typed_path.proofs.lemmas.queries.Parents.{upwards-length, upwards-top}
use Rattle.typed_path.proofs.laws.ancestors_end_at_the_top.Goals as goal

pub returns : goal.returns
returns g c = grind (arith, upwards-length, upwards-top)
