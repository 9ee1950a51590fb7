use Rattle.std.proofs.Common.{arith}
use Rattle.typed_path.proofs.scan.lanes.has_nul_or_dot_pair_in_two.Goals as goal

pub returns : goal.returns
returns g c = grind arith
