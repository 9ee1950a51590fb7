use Rattle.std.proofs.Common.{sym}
use Rattle.typed_path.proofs.typed.utf8.path_buf.Utf8TypedPathBuf.push_checked.Goals as goal

pub returns-in-Windows-clause-pushed : goal.returns-in-Windows-clause-pushed
returns-in-Windows-clause-pushed c =
    let pushed = c.push_checked-in-Windows.ensures in
    rw c.in-Windows.is (rw (sym c.new-in-Windows.ensures)
    (pushed.refused, (pushed.ok, pushed.err, pushed.capacity), pushed.unchanged, pushed.succeeds, pushed.prefix, pushed.contained))
