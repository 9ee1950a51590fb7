use Rattle.std.proofs.Common.{sym}
use Rattle.typed_path.specs.components.{windows}
use Rattle.typed_path.proofs.typed.numbers.taken_up.Goals as goal

pub returns-in-Windows-clause-items : goal.returns-in-Windows-clause-items
returns-in-Windows-clause-items c =
    rw c.in-Windows.is (rw (sym c.as_bytes-text.ensures) (c.taken_up-in-Windows.ensures.items windows (c.of_windows.ensures, c.untaken_prefix-prefix.ensures)))
