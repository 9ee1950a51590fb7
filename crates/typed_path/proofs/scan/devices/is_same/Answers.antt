use Rattle.typed_path.proofs.lemmas.queries.Simplified.{told_same}
use Rattle.typed_path.proofs.scan.devices.is_same.Goals as goal

pub returns : goal.returns
returns c = told_same c.args.text.now c.args.other.now c.eq_ignore_ascii_case.result c.eq_ignore_ascii_case.ensures.test
