-- What a call does that puts bytes behind others.
use Rattle.std.specs.Prelude.{◌≡◌, ◌≤◌, ◌+◌, ◌++◌, ℕ, List, Vec, vec_len, vec_capacity, length, take, Result, OnOk, OnErr, IsOk}

-- the bytes stand behind what was there, or the call was refused and nothing else stands there; there is no less room, and where there is room for so many it is not refused
pub record Puts {A E Z : Type 0} (done : Result A E) (old new : Vec ℕ Z) (bytes : List ℕ) (needed : ℕ) : Type 0 where
  pub ok : OnOk done (new.items ≡ old.items ++ bytes)
  pub err : OnErr done (new.items ≡ old.items)
  pub capacity : vec_capacity old ≤ vec_capacity new
  pub succeeds : vec_len old + needed ≤ vec_capacity old → IsOk done

-- the same, but of a call that was refused a part may stand there
pub record PutsPart {A E Z : Type 0} (done : Result A E) (old new : Vec ℕ Z) (bytes : List ℕ) (needed : ℕ) : Type 0 where
  pub ok : OnOk done (new.items ≡ old.items ++ bytes)
  pub kept : take (length old.items) new.items ≡ old.items
  pub capacity : vec_capacity old ≤ vec_capacity new
  pub succeeds : vec_len old + needed ≤ vec_capacity old → IsOk done
