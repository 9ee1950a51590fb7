use Rattle.std.proofs.Common.{arith}
use Rattle.typed_path.proofs.lemmas.places.UnixRows.{name_dropped, none_dropped}
use Rattle.typed_path.proofs.common.writing.drop_name.Goals as goal

pub returns-then-len-clause-dropped : goal.returns-then-len-clause-dropped
returns-then-len-clause-dropped c = grind (arith, name_dropped)

pub returns-else-len-clause-dropped : goal.returns-else-len-clause-dropped
returns-else-len-clause-dropped c = λ head names size are. none_dropped c.args.separators c.args.text.now.items head names are (omega (arith, c.if-len.false, c.len.ensures, c.requires, c.args.text.now.ok))
