use Rattle.typed_path.proofs.lemmas.changes.PushLengths.{normal_text_length}
use Rattle.typed_path.proofs.laws.normalized_is_short.Goals as goal

pub returns : goal.returns
returns g c = normal_text_length g.d c.args.path.now
