-- What the bits of a mask say of the places of a text, and the first and the last place of one of two bytes within a range.
use Rattle.std.specs.Prelude.{◌≡◌, ◌≤◌, ◌<◌, ◌==◌, ◌||◌, ℕ, Bool, true, false, not, List, length, min, slice_index, if◌then◌else◌, MatchBool}
use Rattle.std.specs.Int.{bit_at}
use Rattle.std.specs.Str.{str_to_ascii_lowercase}
use Rattle.std.specs.Slice.Scan.{HoldsNowhere, HoldsSomewhere, IsFirstPlace, IsLastPlace}

-- of the first `n` bits of a mask, bit `k` is set exactly where `p k` is true; no other bit is set
pub record IsMask (p : ℕ → Bool) (n mask : ℕ) : Type 0 where
  pub within : (k : ℕ) → k < n → bit_at mask k ≡ (if p k then 1 else 0)
  pub beyond : (k : ℕ) → n ≤ k → bit_at mask k ≡ 0

-- whether a byte is one of a pair
abbrev pub is_one_of : ℕ × ℕ → ℕ → Bool
is_one_of pair b = b == pair.0 || b == pair.1

-- whether one of a pair stands at a place of a text
abbrev pub stands_at : ℕ × ℕ → List ℕ → ℕ → Bool
stands_at pair text k = is_one_of pair (slice_index text k)

-- whether two texts differ at a place
abbrev pub differs_at : List ℕ → List ℕ → ℕ → Bool
differs_at text other k = not (slice_index text k == slice_index other k)

-- the same of the texts, or of these in lower case
abbrev pub differs_in : Bool → List ℕ → List ℕ → ℕ → Bool
differs_in false text other = differs_at text other
differs_in true text other = differs_at (str_to_ascii_lowercase text) (str_to_ascii_lowercase other)

-- the place where two texts part: the first at which they differ, or the length of the shorter one
abbrev pub PartAt : List ℕ → List ℕ → ℕ → Type 0
PartAt text other place = IsFirstPlace (differs_at text other) 0 (min (length text) (length other)) place

-- the place of the first of a pair in a text from one place up to another, or that other where there is none
abbrev pub IsFirstOf : ℕ × ℕ → List ℕ → ℕ → ℕ → ℕ → Type 0
IsFirstOf pair text from to place = IsFirstPlace (stands_at pair text) from to place

-- the place behind the last such byte, or the first of the two where there is none
abbrev pub IsBehindLastOf : ℕ × ℕ → List ℕ → ℕ → ℕ → ℕ → Type 0
IsBehindLastOf pair text from to place = IsLastPlace (stands_at pair text) from to place

-- whether a test holds at some place of a range
abbrev pub TellsWhether : (ℕ → Bool) → ℕ → ℕ → Bool → Type 0
TellsWhether holds from to told = MatchBool told (HoldsSomewhere holds from to) (HoldsNowhere holds from to)
