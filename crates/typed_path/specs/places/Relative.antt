-- The path that leads from a base to another: up to where the two part, and from there down.
use Rattle.std.specs.Prelude.{◌≡◌, ℕ, suc, ◌+◌, ◌-◌, ◌≤◌, List, [], ◌∷◌, ◌++◌, Bool, true, not, ◌&&◌, ◌==◌, ◌⊎◌, nat_le, length, drop, if◌then◌else◌, Option, Some, None}
use Rattle.std.specs.List.{join_with_byte, list_any}
use Rattle.std.specs.Str.{bytes_eq}
use Rattle.typed_path.specs.declared.scan.separators.Separators.{Separators}
use Rattle.typed_path.specs.declared.scan.separators.Separators.TheVariants.{Slash, Either}
use Rattle.typed_path.specs.components.Dialects.{Dialect, unix, windows, slash}
use Rattle.typed_path.specs.components.Parts.{Kind, kinds}
use Rattle.typed_path.specs.components.Comps.{parts_of}
use Rattle.typed_path.specs.places.Routes.{kept_names, rising, same_heads}
use Rattle.typed_path.specs.places.Clean.{dots, own_separator, unheaded}

-- how many first names two lists share
abbrev pub shared_count : List (List ℕ) → List (List ℕ) → ℕ
shared_count [] ys = 0
shared_count (x ∷ xs) [] = 0
shared_count (x ∷ xs) (y ∷ ys) = if bytes_eq x y then suc (shared_count xs ys) else 0

-- names of which none holds `/`: one that does, as one of a verbatim path may, would be read as more than one
abbrev pub can_stand : List (List ℕ) → Bool
can_stand [] = true
can_stand (name ∷ names) = not (list_any (λ b. b == slash) name) && can_stand names

-- how many first names of a base lead to a path too; where the path leads higher, none
abbrev pub met_count : List Kind → List Kind → ℕ
met_count ks ls = if rising ks == rising ls then shared_count (kept_names ks) (kept_names ls) else 0

-- as many parents as names of the base are not shared, and parents of the path are left over
abbrev pub steps_up : List Kind → List Kind → ℕ
steps_up ks ls = (length (kept_names ls) - met_count ks ls) + (rising ks - rising ls)

-- and then the names of the path that are left
abbrev pub names_down : List Kind → List Kind → List (List ℕ)
names_down ks ls = drop (met_count ks ls) (kept_names ks)

-- from a base that begins alike, and leads no higher
abbrev pub is_reached : List Kind → List Kind → Bool
is_reached ks ls = same_heads ks ls && nat_le (rising ls) (rising ks) && can_stand (names_down ks ls)

-- so many parents and then names, as they are written
abbrev pub steps_text : Dialect → ℕ → List (List ℕ) → List ℕ
steps_text d n names = unheaded d (join_with_byte (own_separator d) (dots n ++ names))

abbrev pub relative_by : Dialect → List Kind → List Kind → Option (List ℕ)
relative_by d ks ls = if is_reached ks ls then Some (steps_text d (steps_up ks ls) (names_down ks ls)) else None

-- the path that leads from a base to a path, where there is one
abbrev pub relative_text : Dialect → List ℕ → List ℕ → Option (List ℕ)
relative_text d path base = relative_by d (kinds (parts_of d path)) (kinds (parts_of d base))

-- What is told and written of it from the back.

-- the separators of the texts of a dialect that have no prefix
abbrev pub bare_separators : Dialect → Separators
bare_separators unix = Slash
bare_separators windows = Either

-- so many parents, and so many of the last names, lead from one list to another
pub record AreSteps (ks ls : List Kind) (ups downs : ℕ) : Type 0 where
  pub reached : is_reached ks ls ≡ true
  pub up : ups ≡ steps_up ks ls
  pub within : downs ≤ length (kept_names ks)
  pub names : drop (length (kept_names ks) - downs) (kept_names ks) ≡ names_down ks ls

-- a list whose last item was taken, and whether that is the given one; of an empty list none is
abbrev pub IsLast : List (List ℕ) → List (List ℕ) → List ℕ → Bool → Type 0
IsLast whole left name is = ((some : List ℕ) × (whole ≡ left ++ some ∷ []) × (is ≡ bytes_eq some name)) ⊎ (whole ≡ [])
