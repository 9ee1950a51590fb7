use Rattle.typed_path.proofs.lemmas.places.CleanLengths.{relative_text_length}
use Rattle.typed_path.proofs.laws.led_is_short.Goals as goal

pub returns : goal.returns
returns g c = relative_text_length g.d c.args.path.now c.args.base.now
