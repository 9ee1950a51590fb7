use Rattle.std.proofs.Common.{length-append, arith}
use Rattle.std.proofs.lemmas.Grind.{common_steps}
use Rattle.std.proofs.lemmas.List.{drop-append-le}
use Rattle.typed_path.proofs.lemmas.changes.NamePieces.{stands-names, jointed-joined, jointed-apart, jointed-long, turned-end}
use Rattle.typed_path.proofs.windows.push.put_names.Goals as goal

pub returns-clause-stands : goal.returns-clause-stands
returns-clause-stands c = grind (arith, common_steps, jointed-long, length-append, stands-names, jointed-joined, jointed-apart, turned-end, drop-append-le, c.requires.within, c.in_ok-put_component.ensures.put, c.requires.named, c.len.ensures, c.turn_behind.ensures.turned)
