-- The texts of Windows that a push spells anew as they stand, and how such a text is written.
use Rattle.std.specs.Prelude.{◌≡◌, ◌≤◌, ℕ, ◌+◌, drop, List, [], ◌∷◌, ◌++◌, map, length, sum_by, slice_index, if◌then◌else◌, Bool, true, false, not, ◌&&◌, ◌||◌, ◌==◌, Option, Some, None, ⊤}
use Rattle.std.specs.List.{list_any, list_all, slice_split, All, AllByRecursion}
use Rattle.typed_path.specs.declared.scan.names.Leading.{Leading}
use Rattle.typed_path.specs.declared.scan.names.Leading.TheVariants.{Whole, First}
use Rattle.typed_path.specs.declared.scan.separators.Separators.{Separators}
use Rattle.typed_path.specs.declared.scan.separators.Separators.TheVariants.{Slash, Backslash, Either}
use Rattle.typed_path.specs.components.Dialects.{Dialect, unix, windows, dot, backslash, is_separator, is_verbatim}
use Rattle.typed_path.specs.components.Parts.{Kind, prefix, root, current, parent, normal, Part, is_name, name_part, root_part}
use Rattle.typed_path.specs.components.Prefixes.{is_empty, prefix_of}
use Rattle.typed_path.specs.components.Comps.{is_dot, is_dot_dot, parts_of}
use Rattle.typed_path.specs.scan.Masks.{is_one_of, stands_at}
use Rattle.typed_path.specs.queries.Queries.{begins_with_root, has_prefix}
use Rattle.typed_path.specs.changes.Push.{spelled, spells_anew, raw_length}

-- a piece that is a component as it stands, where others stand before it
abbrev pub is_component : Separators → List ℕ → Bool
is_component s piece = not (is_empty piece || (is_dot piece && not (is_verbatim s)))

-- components with `\` between them, as they are read
abbrev pub is_row : Separators → List ℕ → Bool
is_row s text = (is_verbatim s || not (list_any (is_separator Slash) text)) && list_all (is_component s) (slice_split (is_separator Backslash) text)

-- a push spells the text anew, and as it stands
abbrev pub IsSpelled : List ℕ → Type 0
IsSpelled t = (spells_anew windows t ≡ true) × (spelled (parts_of windows t) ≡ t)

-- whether it is, as a truth value
abbrev pub TellsSpelled : Bool → List ℕ → Type 0
TellsSpelled true t = IsSpelled t
TellsSpelled false t = IsSpelled t → ⊥

-- what is known of a path onto which others are pushed: nothing, or how many bytes the prefix takes of one that is spelled as it stands
abbrev pub IsKnown : Dialect → Option ℕ → List ℕ → Type 0
IsKnown d None t = ⊤
IsKnown unix (Some head) t = ⊤
IsKnown windows (Some head) t = IsSpelled t × (head ≡ raw_length (prefix_of windows t))

-- how many bytes the prefix takes of a text that is spelled as it stands; none where it is not
abbrev pub IsSpelledHead : Option ℕ → List ℕ → Type 0
IsSpelledHead None t = IsSpelled t → ⊥
IsSpelledHead (Some head) t = IsKnown windows (Some head) t

-- components with `\` between them, and before the first one where it is parted from what stands before it
abbrev pub names_behind : Bool → List Part → List ℕ
names_behind parted [] = []
names_behind parted (p ∷ ps) = (if parted then backslash ∷ [] else []) ++ p.text ++ names_behind true ps

-- a piece that is a name, where it holds no separator
abbrev pub is_name_piece : List ℕ → Bool
is_name_piece piece = not (is_empty piece || is_dot piece || is_dot_dot piece)

-- a piece that begins with these two bytes is empty, or begins as `.` or `..`
abbrev pub begins_no_name : ℕ × ℕ → ℕ → ℕ → Bool
begins_no_name pair a b = is_one_of pair a || (a == dot && (is_one_of pair b || b == dot))

-- one of a pair stands at a place of a text, and such a piece behind it
abbrev pub begins_no_name_at : ℕ × ℕ → List ℕ → ℕ → Bool
begins_no_name_at pair text k = stands_at pair text k && begins_no_name pair (slice_index text (k + 1)) (slice_index text (k + 2))

-- names are the pieces of a text before a place: a byte of a pair stands behind each
pub record AreNamesBefore (pair : ℕ × ℕ) (text : List ℕ) (place : ℕ) : Type 0 where
  pub names : List (List ℕ)
  pub within : place ≤ length text
  pub named : list_all is_name_piece names ≡ true
  pub parted : slice_split (is_one_of pair) text ≡ names ++ slice_split (is_one_of pair) (drop place text)

-- what looks tell of the names at the front of a text: the place behind them, or that each piece is one
abbrev pub TellsNames : ℕ × ℕ → List ℕ → Leading → Type 0
TellsNames pair text Whole = list_all is_name_piece (slice_split (is_one_of pair) text) ≡ true
TellsNames pair text (First place) = AreNamesBefore pair text place

-- what stands between the separators of a path of Windows, as names
abbrev pub names_of : List ℕ → List Part
names_of path = map name_part (slice_split (is_separator Either) path)

-- each of them is a name
abbrev pub HoldsNames : List ℕ → Type 0
HoldsNames path = list_all is_name_piece (slice_split (is_separator Either) path) ≡ true

-- a text with `\` at its end, unless one byte stands behind its head
abbrev pub jointed : ℕ → List ℕ → List ℕ
jointed head text = if length text == head + 1 then text else text ++ backslash ∷ []

-- a component as it stands between two `\`: it is a name unless it is `.` or `..`
pub record IsStanding (p : Part) : Type 0 where
  pub unprefixed : has_prefix (p.kind ∷ []) ≡ false
  pub relative : begins_with_root (p.kind ∷ []) ≡ false
  pub filled : is_empty p.text ≡ false
  pub unseparated : All (λ b. is_separator Backslash b ≡ false) p.text
  pub named : is_name p.kind ≡ is_name_piece p.text

-- what stands behind a prefix that is written anew, and its text: each component is parted from the one before it by `\`, the first one from the prefix or behind a root
pub record Stands (parted : Bool) (ps : List Part) (text : List ℕ) : Type 0 where
  pub names : List Part
  pub standing : AllByRecursion IsStanding names
  pub list : ps ≡ (if parted then [] else root_part (backslash ∷ []) ∷ []) ++ names
  pub written : text ≡ (if parted then [] else backslash ∷ []) ++ names_behind parted names

-- components as they are read behind a prefix: only the first may be a root
abbrev pub IsReadFirst : Part → Kind → Type 0
IsReadFirst p root = p.text ≡ backslash ∷ []
IsReadFirst p k = IsStanding p

abbrev pub AreReadBehind : List Part → Type 0
AreReadBehind [] = ⊤
AreReadBehind (p ∷ ps) = IsReadFirst p p.kind × AllByRecursion IsStanding ps

-- a component of a path that is merged into such a list
abbrev pub IsMergeable : Part → Kind → Type 0
IsMergeable p (prefix q) = ⊥
IsMergeable p root = p.text ≡ backslash ∷ []
IsMergeable p current = ⊤
IsMergeable p parent = ⊤
IsMergeable p (normal name) = IsStanding p

abbrev pub AreMergeable : List Part → Type 0
AreMergeable ps = AllByRecursion (λ p. IsMergeable p p.kind) ps

-- the room that components take at most: each but a root with a separator
abbrev pub room_of : List Part → ℕ
room_of ps = sum_by (λ p. length p.text + (if begins_with_root (p.kind ∷ []) then 0 else 1)) ps
