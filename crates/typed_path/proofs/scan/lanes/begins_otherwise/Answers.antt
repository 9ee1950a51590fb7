use Rattle.std.proofs.Common.{arith}
use Rattle.typed_path.proofs.scan.lanes.begins_otherwise.Goals as goal

pub returns : goal.returns
returns g c = grind arith
