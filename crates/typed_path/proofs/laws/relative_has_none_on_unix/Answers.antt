use Rattle.typed_path.proofs.lemmas.promises.UnixRelative.{has_none_on_unix}
use Rattle.typed_path.proofs.laws.relative_has_none_on_unix.Goals as goal

pub returns : goal.returns
returns c = has_none_on_unix c.args.path.now c.args.base.now
