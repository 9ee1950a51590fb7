use Rattle.typed_path.proofs.lemmas.changes.MayBegins.{marks-together}
use Rattle.typed_path.proofs.scan.separators.may_begins.Goals as goal

pub returns : goal.returns
returns c = marks-together c.args.separators c.args.firsts c.args.seconds c.args.ends
