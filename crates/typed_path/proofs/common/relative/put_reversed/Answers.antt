use Rattle.std.proofs.Common.{arith}
use Rattle.std.proofs.lemmas.Grind.{common_steps}
use Rattle.typed_path.proofs.lemmas.places.TakenNames.{patched-turned, turned-name}
use Rattle.typed_path.proofs.common.relative.put_reversed.Goals as goal

pub returns-clause-ok : goal.returns-clause-ok
returns-clause-ok c = grind (arith, common_steps, patched-turned, turned-name)
