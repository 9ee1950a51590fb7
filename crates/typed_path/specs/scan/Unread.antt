-- What is left of a path, by two places of it and a stage.
use Rattle.std.specs.Prelude.{◌≡◌, ℕ, zero, suc, List, ◌++◌, Bool, true, false, ◌&&◌, ◌==◌, nat_le, take, length, slice_range, Option, Some, None}
use Rattle.typed_path.specs.declared.scan.cursor.Begin.TheVariants.{Inside}
use Rattle.typed_path.specs.declared.scan.unread.Unread.{Unread}
use Rattle.typed_path.specs.components.Dialects.{Dialect, separators}
use Rattle.typed_path.specs.components.Parts.{Placed, prefix_part}
use Rattle.typed_path.specs.components.Prefixes.{Found, prefix_of}
use Rattle.typed_path.specs.components.Comps.{component, body, later_body}
use Rattle.typed_path.specs.changes.Push.{raw_length}
use Rattle.typed_path.specs.scan.Steps.{is_clean}

-- the components of a path up to a place, of which none was taken from the front
abbrev pub whole_to : Dialect → List ℕ → ℕ → Option Found → List Placed
whole_to d t to None = body (separators d t) 0 (slice_range t 0 to)
whole_to d t to (Some f) = component (prefix_part f.prefix (take f.length t)) 0 ++ body (separators d t) f.length (slice_range t f.length to)

-- in stage 0 nothing was taken from the front, in stage 1 at most the prefix, and in stage 2 a component behind it
abbrev pub unread_by : Dialect → List ℕ → ℕ → ℕ → ℕ → List Placed
unread_by d t from to zero = whole_to d t to (prefix_of d t)
unread_by d t from to (suc zero) = body (separators d t) from (slice_range t from to)
unread_by d t from to (suc (suc n)) = later_body (separators d t) from (slice_range t from to)

-- the components that are left of a path
abbrev pub unread_items : Dialect → List ℕ → Unread → List Placed
unread_items d t u = unread_by d t u.from u.to u.stage

-- the slice left
abbrev pub unread_slice : List ℕ → Unread → List ℕ
unread_slice t u = slice_range t u.from u.to

abbrev pub fits_by : Dialect → List ℕ → ℕ → ℕ → ℕ → Bool
fits_by d t from to zero = from == 0 && nat_le (raw_length (prefix_of d t)) to
fits_by d t from to (suc zero) = nat_le from to
fits_by d t from to (suc (suc zero)) = nat_le from to && is_clean Inside (separators d t) (slice_range t from to)
fits_by d t from to (suc (suc (suc n))) = false

-- whether a reading of the path may stand at these numbers
abbrev pub is_unread : Dialect → List ℕ → Unread → Bool
is_unread d t u = nat_le u.to (length t) && fits_by d t u.from u.to u.stage

-- one may, and has these components left
abbrev pub IsReading : Dialect → List ℕ → Unread → List Placed → Type 0
IsReading d t u items = (is_unread d t u ≡ true) × (unread_items d t u ≡ items)
