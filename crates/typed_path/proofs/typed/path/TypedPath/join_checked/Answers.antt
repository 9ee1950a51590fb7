use Rattle.std.proofs.Common.{sym}
use Rattle.typed_path.proofs.typed.path.TypedPath.join_checked.Goals as goal

pub returns-in-Ok-join_checked-clause-joined : goal.returns-in-Ok-join_checked-clause-joined
returns-in-Ok-join_checked-clause-joined c =
    rw c.in-Windows.is (rw (sym c.new-in-Windows.ensures) (c.in-Ok-join_checked.ensures.refused, c.in-Ok-join_checked.ensures.joined, c.in-Ok-join_checked.ensures.prefix, c.in-Ok-join_checked.ensures.contained, c.in-Ok-join_checked.ensures.below, c.in-Ok-join_checked.ensures.within))

pub returns-in-Err-join_checked-clause-joined : goal.returns-in-Err-join_checked-clause-joined
returns-in-Err-join_checked-clause-joined c =
    rw c.in-Windows.is (rw (sym c.new-in-Windows.ensures) (c.in-Err-join_checked.ensures.refused, c.in-Err-join_checked.ensures.joined, c.in-Err-join_checked.ensures.prefix, c.in-Err-join_checked.ensures.contained, c.in-Err-join_checked.ensures.below, c.in-Err-join_checked.ensures.within))
