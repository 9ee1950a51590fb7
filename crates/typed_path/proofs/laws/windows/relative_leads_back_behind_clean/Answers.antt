use Rattle.typed_path.proofs.lemmas.promises.VerbatimRelative.{leads_clean}
use Rattle.typed_path.proofs.laws.windows.relative_leads_back_behind_clean.Goals as goal

pub returns : goal.returns
returns c = leads_clean c.args.path.now c.args.base.now
