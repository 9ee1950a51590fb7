use Rattle.std.proofs.Common.{arith}
use Rattle.typed_path.proofs.scan.names.first_no_name_by_one.Goals as goal
use Rattle.typed_path.proofs.scan.names.first_no_name_by_one.Goals.{then-is_one_of, else-is_one_of}

pub loop-at-preserved : goal.loop-at-preserved
loop-at-preserved c = grind arith
