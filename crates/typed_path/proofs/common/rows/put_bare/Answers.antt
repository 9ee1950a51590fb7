use Rattle.std.proofs.Common.{arith, rules}
use Rattle.std.proofs.lemmas.List.{take_at, drop_at}
use Rattle.std.proofs.lemmas.Result.{on_ok_weaker}
use Rattle.typed_path.proofs.lemmas.places.CleanTexts.{loose-text}
use Rattle.typed_path.proofs.common.rows.put_bare.Goals as goal

pub returns-then-branch : goal.returns-then-branch
returns-then-branch c = grind arith

pub returns : goal.returns
returns c = record { ok = grind (arith, on_ok_weaker, take_at, drop_at, loose-text); kept = search rules; capacity = search rules; succeeds = search rules }
