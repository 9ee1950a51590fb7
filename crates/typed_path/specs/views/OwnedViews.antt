-- What an owned path is: its bytes, and for how many there is room.
use Rattle.std.specs.Prelude.{ℕ, List}

pub record Owned : Type 0 where
  pub bytes : List ℕ
  pub capacity : ℕ
