use Rattle.std.proofs.Common.{sym}
use Rattle.typed_path.proofs.typed.utf8.path.Utf8TypedPath.is_within.Goals as goal

pub returns-in-Windows : goal.returns-in-Windows
returns-in-Windows c = rw c.in-Windows.is (rw (sym c.new-in-Windows.ensures) c.is_within-in-Windows.ensures)
