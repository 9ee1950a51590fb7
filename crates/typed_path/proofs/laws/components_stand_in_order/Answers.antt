use Rattle.typed_path.proofs.lemmas.components.Cuts.{comps-laid_out}
use Rattle.typed_path.proofs.laws.components_stand_in_order.Goals as goal

pub returns : goal.returns
returns g c = comps-laid_out g.d c.args.path.now
