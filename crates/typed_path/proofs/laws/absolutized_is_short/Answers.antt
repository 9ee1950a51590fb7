use Rattle.typed_path.specs.components.{unix}
use Rattle.typed_path.proofs.lemmas.changes.PushLengths.{absolute_length}
use Rattle.typed_path.proofs.laws.absolutized_is_short.Goals as goal

pub returns : goal.returns
returns g c = absolute_length g.d unix c.args.directory.now c.args.path.now
