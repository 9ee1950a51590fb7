-- How often a path comes among names, and what a map that counts them has.
use Rattle.std.specs.Prelude.{ℕ, ◌+◌, List, [], ◌∷◌, Bool, if◌then◌else◌}
use Rattle.std.specs.Borrow.{Bor}
use Rattle.std.specs.Option.{unwrap_or}
use Rattle.std.specs.Ordering.{is_eq}
use Rattle.std.specs.HashMap.{HashMap, get_by}
use Rattle.typed_path.specs.components.{Dialect, Kind, kinds, parts_of}
use Rattle.typed_path.specs.order.{kinds_cmp}
use Rattle.typed_path.specs.views.OwnedViews.{Owned}
use Rattle.typed_path.specs.declared.common.keys.Key.{Key}

-- whether a path has the components of a list
abbrev pub is_read_as : Dialect → List Kind → List ℕ → Bool
is_read_as d ks path = is_eq (kinds_cmp ks (kinds (parts_of d path)))

-- 1 for yes
abbrev pub one_if : Bool → ℕ
one_if b = if b then 1 else 0

-- how many of some names have the components of a list
abbrev pub times : Dialect → List Kind → List (Bor (List ℕ)) → ℕ
times d ks [] = 0
times d ks (name ∷ names) = one_if (is_read_as d ks name.now) + times d ks names

-- the same of the path of a key
abbrev pub is_key_of : Dialect → List Kind → Key Owned → Bool
is_key_of d ks key = is_read_as d ks key.path.bytes

-- what a map has at the path with the components of a list, or 0
abbrev pub count_at : {S : Type 0} → Dialect → List Kind → HashMap (Key Owned) ℕ S → ℕ
count_at d ks counts = unwrap_or (get_by (is_key_of d ks) counts) 0
