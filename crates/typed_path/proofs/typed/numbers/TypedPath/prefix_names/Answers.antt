use Rattle.std.proofs.Common.{sym}
use Rattle.typed_path.proofs.typed.numbers.TypedPath.prefix_names.Goals as goal

pub returns-in-Windows : goal.returns-in-Windows
returns-in-Windows c = rw c.in-Windows.is (rw (sym c.as_bytes.ensures) c.prefix_names.ensures)
