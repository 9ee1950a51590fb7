-- A path with another pushed onto it.
use Rattle.std.specs.Prelude.{◌≡◌, ◌≤◌, ◌<◌, ℕ, ◌+◌, ◌-◌, List, [], ◌∷◌, ◌++◌, Bool, true, false, not, ◌&&◌, ◌||◌, ◌==◌, length, take, slice_index, if◌then◌else◌, Option, Some, None}
use Rattle.std.specs.List.{fold}
use Rattle.typed_path.specs.declared.scan.separators.Separators.{Separators}
use Rattle.typed_path.specs.components.Dialects.{Dialect, unix, windows, separators, slash, backslash}
use Rattle.typed_path.specs.components.Parts.{disk, Kind, prefix, root, current, parent, Part, kinds, is_name}
use Rattle.typed_path.specs.components.Prefixes.{Found, is_empty, prefix_of}
use Rattle.typed_path.specs.components.Comps.{parts_of}
use Rattle.typed_path.specs.queries.Queries.{begins_with_root, begins_with_prefix, has_prefix, has_any_verbatim_prefix}

-- a text, with the byte at its end unless it is empty or ends with that byte
abbrev pub ended_with : ℕ → List ℕ → List ℕ
ended_with b text = if (length text == 0 || slice_index text (length text - 1) == b) then text else text ++ b ∷ []

-- Unix: an empty path changes nothing, an absolute one replaces
abbrev pub push_unix : List ℕ → List ℕ → List ℕ
push_unix base [] = base
push_unix base (b ∷ path) = if b == slash then b ∷ path else ended_with slash base ++ b ∷ path

-- the prefix and nothing else
abbrev pub prefix_alone : List Part → List Part
prefix_alone [] = []
prefix_alone (p ∷ ps) = if begins_with_prefix (λ q. true) (p.kind ∷ []) then p ∷ [] else []

-- a list without a name at its end
abbrev pub without_last_name : List Part → List Part
without_last_name [] = []
without_last_name (p ∷ []) = if is_name p.kind then [] else p ∷ []
without_last_name (p ∷ q ∷ ps) = p ∷ without_last_name (q ∷ ps)

abbrev pub merge_by_kind : List Part → Part → Kind → List Part
merge_by_kind ps p root = prefix_alone ps ++ p ∷ []
merge_by_kind ps p current = ps
merge_by_kind ps p parent = without_last_name ps
merge_by_kind ps p k = ps ++ p ∷ []

-- what a verbatim list becomes as it takes another: a root cuts it to its prefix, `.` is passed over, `..` takes a name away
abbrev pub merged : List Part → List Part → List Part
merged ps qs = fold (λ rs q. merge_by_kind rs q q.kind) ps qs

-- between two neighbours stands `\`, unless one of them is the root
abbrev pub joint : Kind → Kind → List ℕ
joint root l = []
joint k root = []
joint k l = backslash ∷ []

-- a list written anew
abbrev pub spelled : List Part → List ℕ
spelled [] = []
spelled (p ∷ []) = p.text
spelled (p ∷ q ∷ ps) = p.text ++ joint p.kind q.kind ++ spelled (q ∷ ps)

abbrev pub raw_length : Option Found → ℕ
raw_length None = 0
raw_length (Some f) = f.length

-- the raw text of the prefix
abbrev pub raw_prefix : List ℕ → List ℕ
raw_prefix text = take (raw_length (prefix_of windows text)) text

-- two texts of Windows have one prefix, or none, that takes so many bytes of either, and one set of bytes separates in both
abbrev pub HaveOnePrefix : List ℕ → List ℕ → ℕ → Separators → Type 0
HaveOnePrefix text other n s =
    (separators windows text ≡ s) × (separators windows other ≡ s) × (prefix_of windows other ≡ prefix_of windows text) × (n ≡ raw_length (prefix_of windows text))

abbrev pub is_disk_alone : List Kind → Bool
is_disk_alone (prefix (disk letter) ∷ []) = true
is_disk_alone ks = false

-- a base, with `\` at its end unless it is empty, ends with it or is a drive alone
abbrev pub ended_windows : List ℕ → List ℕ
ended_windows base = if is_disk_alone (kinds (parts_of windows base)) then base else ended_with backslash base

abbrev pub push_behind : List ℕ → List ℕ → List ℕ
push_behind base path =
    if begins_with_root (kinds (parts_of windows path)) then raw_prefix base ++ path else ended_windows base ++ path

-- Windows: the first case that holds
abbrev pub push_windows : List ℕ → List ℕ → List ℕ
push_windows base [] = base
push_windows base (b ∷ path) =
    if has_prefix (kinds (parts_of windows (b ∷ path))) then b ∷ path
    else (if has_any_verbatim_prefix (kinds (parts_of windows base)) then spelled (merged (parts_of windows base) (parts_of windows (b ∷ path)))
    else push_behind base (b ∷ path))

-- a path that is put behind its base: it is not empty, and has neither a prefix nor a root
pub record IsPutBehind (path : List ℕ) : Type 0 where
  pub filled : is_empty path ≡ false
  pub unprefixed : has_prefix (kinds (parts_of windows path)) ≡ false
  pub relative : begins_with_root (kinds (parts_of windows path)) ≡ false

abbrev pub push : Dialect → List ℕ → List ℕ → List ℕ
push unix base path = push_unix base path
push windows base path = push_windows base path

-- whether a push onto the base spells the base anew, as under a verbatim prefix
abbrev pub spells_anew : Dialect → List ℕ → Bool
spells_anew unix base = false
spells_anew windows base = has_any_verbatim_prefix (kinds (parts_of windows base))

-- whether a push merges components into the base
abbrev pub merges : Dialect → List ℕ → List ℕ → Bool
merges unix base path = false
merges windows base path = not (is_empty path || has_prefix (kinds (parts_of windows path))) && spells_anew windows base

-- there is room for what a push makes; a base that it merges components into is spelled as it stands, and has room for the path and a separator
abbrev pub FitsBy : Dialect → ℕ → List ℕ → List ℕ → Bool → Type 0
FitsBy d room base path true = (spelled (parts_of d base) ≡ base) × (length base + length path < room)
FitsBy d room base path false = length (push d base path) ≤ room

abbrev pub FitsPush : Dialect → ℕ → List ℕ → List ℕ → Type 0
FitsPush d room base path = FitsBy d room base path (merges d base path)

-- paths pushed one by one
abbrev pub push_all : Dialect → List ℕ → List (List ℕ) → List ℕ
push_all d base paths = fold (push d) base paths
