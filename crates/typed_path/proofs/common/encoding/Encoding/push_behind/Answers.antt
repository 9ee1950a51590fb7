use Rattle.std.proofs.Common.{true≢false, false, sym}
use Rattle.typed_path.proofs.common.encoding.Encoding.push_behind.Goals as goal

pub returns-in_err-push_next-clause-succeeds : goal.returns-in_err-push_next-clause-succeeds
returns-in_err-push_next-clause-succeeds g c = λ room within fits. absurd (true≢false (sym {a = false} (c.in_err-push_next.ensures.succeeds room within tt fits)))
