use Rattle.std.proofs.Common.{sym}
use Rattle.typed_path.proofs.typed.path.TypedPath.join_portable.Goals as goal

pub returns-in-Ok-join_portable-clause-joined : goal.returns-in-Ok-join_portable-clause-joined
returns-in-Ok-join_portable-clause-joined c =
    rw c.in-Windows.is (rw (sym c.new-in-Windows.ensures) (c.in-Ok-join_portable.ensures.refused, c.in-Ok-join_portable.ensures.joined, c.in-Ok-join_portable.ensures.prefix, c.in-Ok-join_portable.ensures.contained, c.in-Ok-join_portable.ensures.below, c.in-Ok-join_portable.ensures.within))

pub returns-in-Err-join_portable-clause-joined : goal.returns-in-Err-join_portable-clause-joined
returns-in-Err-join_portable-clause-joined c =
    rw c.in-Windows.is (rw (sym c.new-in-Windows.ensures) (c.in-Err-join_portable.ensures.refused, c.in-Err-join_portable.ensures.joined, c.in-Err-join_portable.ensures.prefix, c.in-Err-join_portable.ensures.contained, c.in-Err-join_portable.ensures.below, c.in-Err-join_portable.ensures.within))
