use Rattle.typed_path.proofs.lemmas.changes.AddedFronts.{extends_name}
use Rattle.typed_path.proofs.laws.added_extension_keeps_the_parent.Goals as goal

pub returns : goal.returns
returns g c = extends_name g.d c.args.path.now c.args.extension.now
