use Rattle.typed_path.proofs.lemmas.changes.PushLengths.{absolute_length}
use Rattle.typed_path.proofs.laws.absolutized_from_is_short.Goals as goal

pub returns : goal.returns
returns g c e = absolute_length g.d e c.args.directory.now c.args.path.now
