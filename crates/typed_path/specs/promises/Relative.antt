-- What a path that leads from a base to another promises, and where there is none.
use Rattle.std.specs.Prelude.{◌≡◌, ◌≢◌, ◌↔◌, ◌⊎◌, ◌<◌, ◌≤◌, ◌&&◌, ◌==◌, ℕ, suc, List, [], ◌∷◌, true, false, length, if◌then◌else◌, Some, None}
use Rattle.typed_path.specs.components.Dialects.{Dialect, unix, windows, dot}
use Rattle.typed_path.specs.components.Parts.{Kind, kinds, is_name}
use Rattle.typed_path.specs.components.Prefixes.{prefix_of}
use Rattle.typed_path.specs.components.Comps.{parts_of}
use Rattle.typed_path.specs.queries.Queries.{begins_with_root, has_any_verbatim_prefix}
use Rattle.typed_path.specs.changes.Push.{push}
use Rattle.typed_path.specs.places.Routes.{head_of, kept_names, rising}
use Rattle.typed_path.specs.places.Clean.{clean_text, route}
use Rattle.typed_path.specs.places.Relative.{names_down, relative_text, steps_up}
use Rattle.typed_path.specs.promises.Promises.{keeps_prefix}

-- neither a prefix nor a root
pub record IsRelative (d : Dialect) (t : List ℕ) : Type 0 where
  pub prefix : prefix_of d t ≡ None
  pub root : begins_with_root (kinds (parts_of d t)) ≡ false

-- what leads from a base to a path has neither
abbrev pub StaysRelative : Dialect → List ℕ → List ℕ → Type 0
StaysRelative d path base = (r : List ℕ) → relative_text d path base ≡ Some r → IsRelative d r

-- joined to the base it leads where the path leads
abbrev pub LeadsBack : Dialect → List ℕ → List ℕ → Type 0
LeadsBack d path base = (r : List ℕ) → relative_text d path base ≡ Some r → route d (push d base r) ≡ route d path

-- how many names stand at the end of a list
abbrev pub names_at_end : List Kind → ℕ
names_at_end [] = 0
names_at_end (k ∷ ks) = if is_name k && (names_at_end ks == length ks) then suc (length ks) else names_at_end ks

-- so it is on Windows behind a base that keeps its prefix; a verbatim one must end with as many names as parents lead up
abbrev pub LeadsBackOnWindows : List ℕ → List ℕ → Type 0
LeadsBackOnWindows path base =
    keeps_prefix windows base ≡ true
    → (has_any_verbatim_prefix (kinds (parts_of windows base)) ≡ true → steps_up (kinds (parts_of windows path)) (kinds (parts_of windows base)) ≤ names_at_end (kinds (parts_of windows base)))
    → LeadsBack windows path base

-- each clean base ends so
abbrev pub LeadsBackBehindClean : List ℕ → List ℕ → Type 0
LeadsBackBehindClean path base = keeps_prefix windows base ≡ true → clean_text windows base ≡ base → LeadsBack windows path base

-- on Unix `.` leads from a base to a path exactly where both have one route
abbrev pub IsDotAlike : List ℕ → List ℕ → Type 0
IsDotAlike path base = (relative_text unix path base ≡ Some (dot ∷ [])) ↔ (route unix path ≡ route unix base)

-- why a path is not reached: both begin differently, the base leads higher, or no text reads as the names that are left
pub data IsUnreached (d : Dialect) (path base : List ℕ) : Type 0 where
  apart : head_of (kinds (parts_of d path)) ≢ head_of (kinds (parts_of d base)) → IsUnreached d path base
  higher : rising (kinds (parts_of d path)) < rising (kinds (parts_of d base)) → IsUnreached d path base
  unreadable : ((r : List ℕ) → prefix_of d r ≡ None → kept_names (kinds (parts_of d r)) ≢ names_down (kinds (parts_of d path)) (kinds (parts_of d base))) → IsUnreached d path base

-- there is no relative path exactly there
abbrev pub HasNone : Dialect → List ℕ → List ℕ → Type 0
HasNone d path base = (relative_text d path base ≡ None) ↔ IsUnreached d path base

-- on Unix exactly where one of both alone has a root, or more parents of the base are left over
abbrev pub HasNoneOnUnix : List ℕ → List ℕ → Type 0
HasNoneOnUnix path base =
    (relative_text unix path base ≡ None)
    ↔ ((begins_with_root (kinds (parts_of unix path)) ≢ begins_with_root (kinds (parts_of unix base))) ⊎ (rising (kinds (parts_of unix path)) < rising (kinds (parts_of unix base))))

-- and so exactly where no relative path at all leads from the base to the path
abbrev pub HasNoneAtAll : List ℕ → List ℕ → Type 0
HasNoneAtAll path base =
    (relative_text unix path base ≡ None)
    ↔ ((r : List ℕ) → begins_with_root (kinds (parts_of unix r)) ≡ false → route unix (push unix base r) ≢ route unix path)
