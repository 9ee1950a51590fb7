-- When two component lists are the same, and which is less.
use Rattle.std.specs.Prelude.{◌≡◌, ℕ, List, [], ◌∷◌, Bool, true, false, Option, Some, None}
use Rattle.std.specs.declared.cmp.Ordering.{Ordering}
use Rattle.std.specs.Ordering.{nat_cmp, is_eq}
use Rattle.std.specs.Cmp.Lexicographic.{slice_cmp}
use Rattle.typed_path.specs.components.Parts.{Prefix, verbatim, verbatim_unc, verbatim_disk, device_ns, unc, disk, Kind, prefix, root, current, parent, normal, Placed, kinds, parts}
use Rattle.typed_path.specs.components.Dialects.{Dialect}
use Rattle.typed_path.specs.components.Comps.{parts_of}

abbrev pub rank : ℕ → List ℕ
rank n = n ∷ []

-- what the order looks at: first the place of the kind among all kinds, then the names
abbrev pub key : Kind → List (List ℕ)
key (prefix (verbatim name)) = rank 0 ∷ name ∷ []
key (prefix (verbatim_unc server share)) = rank 1 ∷ server ∷ share ∷ []
key (prefix (verbatim_disk letter)) = rank 2 ∷ (letter ∷ []) ∷ []
key (prefix (device_ns name)) = rank 3 ∷ name ∷ []
key (prefix (unc server share)) = rank 4 ∷ server ∷ share ∷ []
key (prefix (disk letter)) = rank 5 ∷ (letter ∷ []) ∷ []
key root = rank 6 ∷ []
key current = rank 7 ∷ []
key parent = rank 8 ∷ []
key (normal name) = rank 9 ∷ name ∷ []

abbrev pub bytes_cmp : List ℕ → List ℕ → Ordering
bytes_cmp = slice_cmp nat_cmp

abbrev pub kind_cmp : Kind → Kind → Ordering
kind_cmp k l = slice_cmp bytes_cmp (key k) (key l)

-- two lists begin with the same prefix, or with none
abbrev pub are_same_prefixes : Option Prefix → Option Prefix → Bool
are_same_prefixes None None = true
are_same_prefixes (Some p) (Some q) = is_eq (kind_cmp (prefix p) (prefix q))
are_same_prefixes o r = false

-- the order of lists: that of the first kinds in which they differ
abbrev pub kinds_cmp : List Kind → List Kind → Ordering
kinds_cmp = slice_cmp kind_cmp

-- two texts have the same components, however these are written
abbrev pub IsSame : Dialect → List ℕ → List ℕ → Type 0
IsSame d t u = kinds (parts_of d t) ≡ kinds (parts_of d u)

abbrev pub path_cmp : Dialect → List ℕ → List ℕ → Ordering
path_cmp d t u = kinds_cmp (kinds (parts_of d t)) (kinds (parts_of d u))

-- the same as a test: whether the order does not tell them apart
abbrev pub is_same : Dialect → List ℕ → List ℕ → Bool
is_same d t u = is_eq (path_cmp d t u)

-- the order of what two readings have left
abbrev pub left_cmp : List Placed → List Placed → Ordering
left_cmp cs ds = kinds_cmp (kinds (parts cs)) (kinds (parts ds))

-- whether they have the same left
abbrev pub left_same : List Placed → List Placed → Bool
left_same cs ds = is_eq (left_cmp cs ds)
