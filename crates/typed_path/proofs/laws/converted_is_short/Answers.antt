use Rattle.typed_path.proofs.lemmas.changes.PushLengths.{converted_length, converted_checked_length}
use Rattle.typed_path.proofs.laws.converted_is_short.Goals as goal

pub returns-clause-converted : goal.returns-clause-converted
returns-clause-converted g c e = converted_length g.d e c.args.path.now

pub returns-clause-checked : goal.returns-clause-checked
returns-clause-checked g c e = converted_checked_length g.d e c.args.path.now
