use Rattle.std.proofs.Common.{sym}
use Rattle.typed_path.proofs.typed.path_buf.TypedPathBuf.join_portable.Goals as goal

pub returns-clause-joined : goal.returns-clause-joined
returns-clause-joined c = rw (sym c.to_path.ensures.dialect) (rw (sym c.to_path.ensures.bytes) c.join_portable.ensures.joined)
