use Rattle.typed_path.proofs.lemmas.promises.UnixRelative.{dot_alike}
use Rattle.typed_path.proofs.laws.dot_leads_to_the_same.Goals as goal

pub returns : goal.returns
returns c = dot_alike c.args.path.now c.args.base.now
