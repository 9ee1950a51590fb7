use Rattle.std.proofs.Common.{sym}
use Rattle.typed_path_uses.proofs.beside.shown.Goals as goal

pub returns-clause-alike : goal.returns-clause-alike
returns-clause-alike c = rw c.simplified.ensures (rw (sym c.as_bytes.ensures) c.simplified_is_alike_behind.ensures)

pub returns-clause-again : goal.returns-clause-again
returns-clause-again c = rw c.simplified.ensures (rw (sym c.as_bytes-2.ensures) c.simplified_stays.ensures)
