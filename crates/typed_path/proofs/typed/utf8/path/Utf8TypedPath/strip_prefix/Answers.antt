use Rattle.std.proofs.Common.{sym}
use Rattle.typed_path.proofs.typed.utf8.path.Utf8TypedPath.strip_prefix.Goals as goal

pub returns-in-Ok-strip_prefix-clause-bytes : goal.returns-in-Ok-strip_prefix-clause-bytes
returns-in-Ok-strip_prefix-clause-bytes c =
    rw c.in-Windows.is (rw (sym c.new-in-Windows.ensures) c.in-Ok-strip_prefix.ensures)

pub returns-in-Err-strip_prefix-clause-bytes : goal.returns-in-Err-strip_prefix-clause-bytes
returns-in-Err-strip_prefix-clause-bytes c =
    rw c.in-Windows.is (rw (sym c.new-in-Windows.ensures) c.in-Err-strip_prefix.ensures)
