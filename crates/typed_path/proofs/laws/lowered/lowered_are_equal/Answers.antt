use Rattle.typed_path.proofs.lemmas.promises.LoweredPaths.{same-lowered}
use Rattle.typed_path.proofs.laws.lowered.lowered_are_equal.Goals as goal

pub returns : goal.returns
returns g c = same-lowered g.d c.args.path.now c.args.other.now
