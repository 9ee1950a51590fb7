use Rattle.typed_path.proofs.lemmas.components.Cuts.{comps-count}
use Rattle.typed_path.proofs.laws.list_is_no_longer_than_its_text.Goals as goal

pub returns : goal.returns
returns g c = comps-count g.d c.args.path.now
