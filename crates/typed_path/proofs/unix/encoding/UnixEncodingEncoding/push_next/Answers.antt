use Rattle.std.proofs.Common.{arith}
use Rattle.std.proofs.lemmas.List.{drop_min}
use Rattle.typed_path.proofs.unix.encoding.UnixEncodingEncoding.push_next.Goals as goal
use Rattle.typed_path.proofs.lemmas.lists.Lists.{whole_range}

pub returns-in_err-push_at-clause-succeeds : goal.returns-in_err-push_at-clause-succeeds
returns-in_err-push_at-clause-succeeds c = grind (arith, drop_min, whole_range)
