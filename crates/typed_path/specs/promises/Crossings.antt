-- What becomes of a path that is converted to the other dialect.
use Rattle.std.specs.Prelude.{◌≡◌, ◌↔◌, ℕ, List, [], ◌∷◌, ◌++◌, Bool, true, not, ◌||◌, ◌==◌, if◌then◌else◌, Ok, IsOk}
use Rattle.std.specs.List.{list_any, list_all, filter}
use Rattle.typed_path.specs.components.Dialects.{unix, windows, backslash, root_of}
use Rattle.typed_path.specs.components.Parts.{disk, Kind, prefix, current, normal, Part, kinds, name_part, root_part, is_name, is_parent}
use Rattle.typed_path.specs.components.Comps.{parts_of}
use Rattle.typed_path.specs.order.Same.{IsSame}
use Rattle.typed_path.specs.queries.Queries.{is_root, is_valid, have_allowed_bytes}
use Rattle.typed_path.specs.conversions.Convert.{converted, converted_checked}

-- no name holds a `\`
abbrev pub lack_backslash : List Kind → Bool
lack_backslash ks = list_all lacks ks
  where
    lacks : Kind → Bool
    lacks (normal name) = not (list_any (λ b. b == backslash) name)
    lacks k = true

-- the checked conversion to Windows accepts a Unix path without `\` in a name exactly where Windows allows each name
abbrev pub CrossesWhereAllowed : List ℕ → Type 0
CrossesWhereAllowed t =
    lack_backslash (kinds (parts_of unix t)) ≡ true → IsOk (converted_checked unix windows t) ↔ (is_valid windows (kinds (parts_of unix t)) ≡ true)

-- what it answers then is read as the same components
abbrev pub CrossesAsItIs : List ℕ → Type 0
CrossesAsItIs t =
    lack_backslash (kinds (parts_of unix t)) ≡ true → (u : List ℕ) → converted_checked unix windows t ≡ Ok u → kinds (parts_of windows u) ≡ kinds (parts_of unix t)

-- and its conversion to Unix equals the path
abbrev pub CrossesBack : List ℕ → Type 0
CrossesBack t =
    lack_backslash (kinds (parts_of unix t)) ≡ true → (u : List ℕ) → converted_checked unix windows t ≡ Ok u → IsSame unix (converted windows unix u) t

-- what stands before the parents and the names of a Windows list on Unix: a root, for a root or a prefix that is no drive; else a drive as a name, or a current that stands first
abbrev pub unix_head : List Part → List Part
unix_head ps = if list_any is_root (kinds ps) then root_part (root_of unix) ∷ [] else first_of ps
  where
    first_by_kind : Part → Kind → List Part
    first_by_kind p (prefix (disk letter)) = name_part p.text ∷ []
    first_by_kind p current = p ∷ []
    first_by_kind p k = []

    first_of : List Part → List Part
    first_of [] = []
    first_of (p ∷ ps) = first_by_kind p p.kind

-- the parents and the names of a list
abbrev pub parents_and_names : List Part → List Part
parents_and_names ps = filter (λ p. is_name p.kind || is_parent p.kind) ps

-- a Windows list as it is read on Unix
abbrev pub on_unix : List Part → List Part
on_unix ps = unix_head ps ++ parents_and_names ps

-- a Windows path none of whose names has a byte that Windows allows in no name, on Unix
abbrev pub CrossesToUnix : List ℕ → Type 0
CrossesToUnix t = have_allowed_bytes windows (kinds (parts_of windows t)) ≡ true → parts_of unix (converted windows unix t) ≡ on_unix (parts_of windows t)
