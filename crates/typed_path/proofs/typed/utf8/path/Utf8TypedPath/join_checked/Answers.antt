use Rattle.std.proofs.Common.{sym}
use Rattle.typed_path.proofs.typed.utf8.path.Utf8TypedPath.join_checked.Goals as goal

pub returns-in-Ok-join_checked-clause-joined : goal.returns-in-Ok-join_checked-clause-joined
returns-in-Ok-join_checked-clause-joined c =
    rw c.in-Windows.is (rw (sym c.new-in-Windows.ensures) c.in-Ok-join_checked.ensures)

pub returns-in-Err-join_checked-clause-joined : goal.returns-in-Err-join_checked-clause-joined
returns-in-Err-join_checked-clause-joined c =
    rw c.in-Windows.is (rw (sym c.new-in-Windows.ensures) c.in-Err-join_checked.ensures)
