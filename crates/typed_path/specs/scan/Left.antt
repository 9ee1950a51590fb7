-- What is left of a reading from both ends, and what each end gives.
use Rattle.std.specs.Prelude.{ℕ, ◌+◌, ◌-◌, List, [], ◌∷◌, ◌&&◌, ◌==◌, nat_lt, length, drop, take, reverse, slice_get, slice_range, if◌then◌else◌, Option, Some, None}
use Rattle.std.specs.Option.{option_map, unwrap_or}
use Rattle.typed_path.specs.components.Parts.{Placed, end_of}

-- where component `i` begins, and where it ends
abbrev pub start_at : List Placed → ℕ → ℕ
start_at cs i = unwrap_or (option_map (λ c. c.start) (slice_get cs i)) 0

abbrev pub end_at : List Placed → ℕ → ℕ
end_at cs i = unwrap_or (option_map end_of (slice_get cs i)) 0

-- the slice left once `i` components were taken from the front, and `j` from the back
abbrev pub left : List Placed → List ℕ → ℕ → ℕ → List ℕ
left cs text i j =
    if (i + j == length cs && nat_lt 0 (length cs)) then []
    else slice_range text (if i == 0 then 0 else start_at cs i) (if j == 0 then length text else end_at cs (length cs - j - 1))

-- the components left
abbrev pub items_between : List Placed → ℕ → ℕ → List Placed
items_between cs i j = slice_range cs i (length cs - j)

-- from which end a component is asked for
pub data Side : Type 0 where
  front back : Side

-- the answer to a request after `i` from the front and `j` from the back: none once all are taken
abbrev pub answer : List Placed → ℕ → ℕ → Side → Option Placed
answer cs i j front = if nat_lt (i + j) (length cs) then slice_get cs i else None
answer cs i j back = if nat_lt (i + j) (length cs) then slice_get cs (length cs - j - 1) else None

abbrev pub reads_after : List Placed → ℕ → ℕ → List Side → List (Option Placed)
reads_after cs i j [] = []
reads_after cs i j (front ∷ sides) = answer cs i j front ∷ reads_after cs (i + 1) j sides
reads_after cs i j (back ∷ sides) = answer cs i j back ∷ reads_after cs i (j + 1) sides

-- the answers to a list of requests
abbrev pub reads : List Placed → List Side → List (Option Placed)
reads cs sides = reads_after cs 0 0 sides

-- one step from either end: what it gives, and what it leaves
abbrev pub first_of : List Placed → Option Placed
first_of [] = None
first_of (c ∷ cs) = Some c

abbrev pub last_of : List Placed → Option Placed
last_of cs = first_of (reverse cs)

abbrev pub but_last : List Placed → List Placed
but_last cs = take (length cs - 1) cs

-- the slice left behind the first component, and before the last
abbrev pub slice_after_front : List Placed → List ℕ → List ℕ
slice_after_front [] slice = slice
slice_after_front (c ∷ []) slice = []
slice_after_front (c ∷ d ∷ cs) slice = drop (d.start - c.start) slice

abbrev pub end_before_last : List Placed → Option ℕ
end_before_last cs = option_map end_of (last_of (but_last cs))

abbrev pub cut_to : ℕ → List ℕ → Option ℕ → List ℕ
cut_to start slice None = []
cut_to start slice (Some end) = take (end - start) slice

abbrev pub slice_after_back : List Placed → List ℕ → List ℕ
slice_after_back [] slice = slice
slice_after_back (c ∷ cs) slice = cut_to c.start slice (end_before_last (c ∷ cs))
