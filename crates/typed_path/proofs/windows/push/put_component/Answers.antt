use Rattle.std.proofs.Common.{◌≡◌, ◌++◌, List, OnOk, length-append, length-drop, arith, ℕ, Result, is_ok, if◌then◌else◌}
use Rattle.std.proofs.lemmas.List.{drop-append-le}
use Rattle.typed_path.proofs.lemmas.changes.WindowsPushes.{stands-more}
use Rattle.typed_path.proofs.windows.push.put_component.Goals as goal
use Rattle.typed_path.proofs.windows.push.put_component.Goals.{then-len-head+in_ok-push, else-len-head}

on_ok : {A E P : Type 0} (r : Result A E) (new old more : List ℕ) → new ≡ (if is_ok r then old ++ more else old) → (new ≡ old ++ more → P) → OnOk r P
on_ok r new old more e f = grind arith

pub returns-clause-stands : goal.returns-clause-stands
returns-clause-stands c = grind (arith, length-drop, then-len-head+in_ok-push, else-len-head, drop-append-le, length-append, on_ok, stands-more)
