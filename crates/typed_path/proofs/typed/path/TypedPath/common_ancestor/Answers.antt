use Rattle.std.proofs.Common.{sym}
use Rattle.typed_path.proofs.typed.path.TypedPath.common_ancestor.Goals as goal

pub returns-in-Some-common_ancestor-clause-bytes : goal.returns-in-Some-common_ancestor-clause-bytes
returns-in-Some-common_ancestor-clause-bytes c =
    rw c.in-Windows.is (rw (sym c.new-in-Windows.ensures) c.in-Some-common_ancestor.ensures)

pub returns-in-None-common_ancestor-clause-bytes : goal.returns-in-None-common_ancestor-clause-bytes
returns-in-None-common_ancestor-clause-bytes c =
    rw c.in-Windows.is (rw (sym c.new-in-Windows.ensures) c.in-None-common_ancestor.ensures)
