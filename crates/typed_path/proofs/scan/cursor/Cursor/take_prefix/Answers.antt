use Rattle.typed_path.proofs.lemmas.scan.Steps.{slice_behind-prefix}
use Rattle.typed_path.proofs.scan.cursor.Cursor.take_prefix.Goals as goal

pub returns-clause-slice : goal.returns-clause-slice
returns-clause-slice c = slice_behind-prefix c.args.self.now c.args.found c.requires
