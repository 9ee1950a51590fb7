use Rattle.typed_path.proofs.lemmas.promises.VerbatimRelative.{leads_windows}
use Rattle.typed_path.proofs.laws.windows.relative_leads_back_on_windows.Goals as goal

pub returns : goal.returns
returns c = leads_windows c.args.path.now c.args.base.now
