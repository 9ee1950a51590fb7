-- A path and those above it.
use Rattle.std.specs.Prelude.{◌≡◌, ℕ, zero, suc, List, [], ◌∷◌, ◌++◌, length, Bool, true, false, ◌&&◌, if◌then◌else◌, Option, Some, None, is_some}
use Rattle.std.specs.Ordering.{is_eq}
use Rattle.typed_path.specs.components.Dialects.{Dialect}
use Rattle.typed_path.specs.components.Parts.{Kind, normal, Placed, kinds}
use Rattle.typed_path.specs.components.Comps.{comps, parts_of}
use Rattle.typed_path.specs.scan.Left.{last_of, but_last, slice_after_back}
use Rattle.typed_path.specs.order.Same.{kinds_cmp}
use Rattle.typed_path.specs.queries.Queries.{is_root, file_name_of, parent_of}

-- a text, its parent and so on, over at most so many parents
abbrev pub upwards : Dialect → ℕ → Option (List ℕ) → List (List ℕ)
upwards d zero None = []
upwards d zero (Some t) = t ∷ []
upwards d (suc n) None = []
upwards d (suc n) (Some t) = t ∷ upwards d n (parent_of d t)

-- a path, its parent and so on: at most as many parents as it has components
abbrev pub ancestors_of : Dialect → List ℕ → List (List ℕ)
ancestors_of d t = upwards d (length (comps d t)) (Some t)

-- a reading from the back ends at a component above which nothing is, and where there is none
abbrev pub is_top : Option Placed → Bool
is_top None = true
is_top (Some c) = is_root c.part.kind

-- what is left of a reading, and what is left as it goes on from the back, over at most so many components
abbrev pub upwards_from : ℕ → List Placed → List ℕ → List (List ℕ)
upwards_from zero cs slice = slice ∷ []
upwards_from (suc n) cs slice = slice ∷ (if is_top (last_of cs) then [] else upwards_from n (but_last cs) (slice_after_back cs slice))

-- what is left behind the first of these
abbrev pub readings_behind : List Placed → List ℕ → List (List ℕ)
readings_behind cs slice = if is_top (last_of cs) then [] else upwards_from (length (but_last cs)) (but_last cs) (slice_after_back cs slice)

-- the same of a reading, over all its components
abbrev pub readings_above : List Placed → List ℕ → List (List ℕ)
readings_above cs slice = upwards_from (length cs) cs slice

-- a path, where there is one, is read as a list
abbrev pub is_read_as : Dialect → List Kind → Option (List ℕ) → Bool
is_read_as d ks None = false
is_read_as d ks (Some t) = is_eq (kinds_cmp (kinds (parts_of d t)) ks)

-- a path ends in a name, and its parent is read as a list
abbrev pub is_child_of : Dialect → List Kind → List ℕ → Bool
is_child_of d above t = is_some (file_name_of d t) && is_read_as d above (parent_of d t)

-- a list is another, and one name behind it
abbrev pub IsOneBelow : List Kind → List Kind → Type 0
IsOneBelow above ks = (name : List ℕ) × (ks ≡ above ++ normal name ∷ [])
