use Rattle.typed_path.proofs.lemmas.promises.UnixRelative.{has_none}
use Rattle.typed_path.proofs.laws.relative_has_none.Goals as goal

pub returns : goal.returns
returns g c = has_none g.d c.args.path.now c.args.base.now
