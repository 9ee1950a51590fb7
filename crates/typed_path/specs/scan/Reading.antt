-- A reading from both ends, step by step.
use Rattle.std.specs.Prelude.{◌≡◌, ℕ, ◌+◌, ◌≤◌, List, [], ◌∷◌, ◌++◌, length, drop, take, reverse, Option}
use Rattle.typed_path.specs.components.Parts.{Placed, end_of}
use Rattle.typed_path.specs.scan.Left.{Side, front, back, first_of, last_of, but_last, slice_after_front, slice_after_back, items_between, start_at}

-- what one step answers
abbrev pub answer_of : List Placed → Side → Option Placed
answer_of cs front = first_of cs
answer_of cs back = last_of cs

-- the list that one step leaves
abbrev pub items_behind : List Placed → Side → List Placed
items_behind cs front = drop 1 cs
items_behind cs back = but_last cs

-- the slice that one step leaves
abbrev pub slice_behind : List Placed → List ℕ → Side → List ℕ
slice_behind cs slice front = slice_after_front cs slice
slice_behind cs slice back = slice_after_back cs slice

-- what all steps answer
abbrev pub answers_after : List Placed → List Side → List (Option Placed)
answers_after cs [] = []
answers_after cs (side ∷ sides) = answer_of cs side ∷ answers_after (items_behind cs side) sides

-- the list that all steps leave
abbrev pub items_after : List Placed → List Side → List Placed
items_after cs [] = cs
items_after cs (side ∷ sides) = items_after (items_behind cs side) sides

-- the slice that all steps leave
abbrev pub slice_after : List Placed → List ℕ → List Side → List ℕ
slice_after cs slice [] = slice
slice_after cs slice (side ∷ sides) = slice_after (items_behind cs side) (slice_behind cs slice side) sides

-- how many steps go from the front
abbrev pub fronts : List Side → ℕ
fronts [] = 0
fronts (front ∷ sides) = 1 + fronts sides
fronts (back ∷ sides) = fronts sides

-- how many steps go from the back
abbrev pub backs : List Side → ℕ
backs [] = 0
backs (front ∷ sides) = backs sides
backs (back ∷ sides) = 1 + backs sides

-- what was taken from the front, what is left, and what was taken from the back are together the list
abbrev pub IsWhole : List Placed → ℕ → ℕ → Type 0
IsWhole cs i j = i + j ≤ length cs → take i cs ++ items_between cs i j ++ reverse (take j (reverse cs)) ≡ cs

-- each component begins at or behind the end of the one before, and ends within the text
abbrev pub AreInOrder : ℕ → ℕ → List Placed → Type 0
AreInOrder at end [] = at ≤ end
AreInOrder at end (c ∷ cs) = (at ≤ c.start) × AreInOrder (end_of c) end cs

-- the places of a list are those of a text: the first component begins where the text does, and all stand in order within it
pub record IsLaidOut (cs : List Placed) (text : List ℕ) : Type 0 where
  pub from_start : start_at cs 0 ≡ 0
  pub in_order : AreInOrder 0 (length text) cs
