use Rattle.typed_path.proofs.lemmas.changes.Lengths.{push_length, with_extension_length}
use Rattle.typed_path.proofs.laws.joined_is_short.Goals as goal

pub returns-clause-joined : goal.returns-clause-joined
returns-clause-joined g c = push_length g.d c.args.base.now c.args.path.now

pub returns-clause-extended : goal.returns-clause-extended
returns-clause-extended g c = with_extension_length g.d c.args.base.now c.args.path.now
