use Rattle.typed_path.proofs.lemmas.scan.Blanks.{tells_none}
use Rattle.typed_path.proofs.scan.names.blanks_behind.Goals as goal

pub returns : goal.returns
returns c = tells_none c.args.separators c.args.ends c.args.dots
