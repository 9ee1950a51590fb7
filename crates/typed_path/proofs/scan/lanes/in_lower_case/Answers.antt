use Rattle.typed_path.proofs.lemmas.scan.LowerCase.{lanes-lowered}
use Rattle.typed_path.proofs.scan.lanes.in_lower_case.Goals as goal

pub returns : goal.returns
returns g c = lanes-lowered g.row.N c.args.block c.fits-block.0
