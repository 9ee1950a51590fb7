-- The clean text of a path: where it leads from a directory that is not known, written behind its head.
use Rattle.std.specs.Prelude.{◌≡◌, ℕ, ◌+◌, List, [], ◌∷◌, ◌++◌, map, replicate, Bool, true, false, not, ◌||◌, ◌&&◌, ◌==◌, length, if◌then◌else◌, is_some}
use Rattle.std.specs.List.{join_with_byte, slice_split}
use Rattle.typed_path.specs.declared.scan.names.Leading.{Leading}
use Rattle.typed_path.specs.declared.scan.separators.Separators.{Separators}
use Rattle.typed_path.specs.components.Dialects.{Dialect, unix, windows, slash, backslash, dot, is_separator}
use Rattle.typed_path.specs.components.Parts.{Kind, prefix, root, current, parent, normal, Part, kinds}
use Rattle.typed_path.specs.components.Prefixes.{prefix_of}
use Rattle.typed_path.specs.components.Comps.{is_dot, is_dot_dot, parts_of}
use Rattle.typed_path.specs.scan.Masks.{is_one_of}
use Rattle.typed_path.specs.queries.Queries.{is_disk, begins_with_root}
use Rattle.typed_path.specs.changes.Spelled.{TellsNames}
use Rattle.typed_path.specs.places.Routes.{unmet, kept_names, is_anchored, head_of, rising, parents}
use Rattle.typed_path.specs.places.Rows.{rows_of, AreRowsOf}

-- where a list leads from a directory that is not known: its head, the parents that are left over, and the names that are kept
abbrev pub routed : List Kind → List Kind
routed ks = head_of ks ++ (parents (rising ks) ++ map normal (kept_names ks))

abbrev pub route : Dialect → List ℕ → List Kind
route d t = routed (kinds (parts_of d t))

-- so many `..`
abbrev pub dots : ℕ → List (List ℕ)
dots n = replicate n (dot ∷ dot ∷ [])

-- the same parents and names as they are written: where a list is anchored, no parent is left over
abbrev pub kept_segments : Bool → List Kind → List (List ℕ)
kept_segments anchored ks = dots (if anchored then 0 else unmet ks) ++ kept_names ks

-- the separator that a dialect writes
abbrev pub own_separator : Dialect → ℕ
own_separator unix = slash
own_separator windows = backslash

-- segments behind neither a prefix nor a root: what would be read as a prefix stands behind `.`, and nothing is `.`
abbrev pub unheaded : Dialect → List ℕ → List ℕ
unheaded d [] = dot ∷ []
unheaded d (b ∷ bs) = if is_some (prefix_of d (b ∷ bs)) then dot ∷ own_separator d ∷ b ∷ bs else b ∷ bs

-- segments behind a prefix or none, and a root that is written; one that the prefix implies stands there where something follows
abbrev pub behind_head : ℕ → List ℕ → Bool → Bool → List (List ℕ) → List ℕ
behind_head sep raw rooted implied segments =
    (raw ++ (if rooted || (implied && not (length segments == 0)) then sep ∷ [] else [])) ++ join_with_byte sep segments

-- the same by the first component of a list
abbrev pub clean_by : Dialect → List Part → List (List ℕ) → List ℕ
clean_by d [] segments = unheaded d (join_with_byte (own_separator d) segments)
clean_by d (p ∷ ps) segments = by p.kind
  where
    by : Kind → List ℕ
    by (prefix q) = behind_head (own_separator d) p.text (begins_with_root (kinds ps)) (not (is_disk q)) segments
    by root = behind_head (own_separator d) [] true false segments
    by k = unheaded d (join_with_byte (own_separator d) segments)

abbrev pub cleaned : Dialect → List Part → List ℕ
cleaned d ps = clean_by d ps (kept_segments (is_anchored (kinds ps)) (kinds ps))

abbrev pub clean_text : Dialect → List ℕ → List ℕ
clean_text d t = cleaned d (parts_of d t)

-- What is written of it segment by segment.

-- what a segment is behind a head: nothing and `.` count for nothing
abbrev pub segment_kind : List ℕ → Kind
segment_kind segment = if (length segment == 0 || is_dot segment) then current else (if is_dot_dot segment then parent else normal segment)

abbrev pub segment_kinds : Separators → List ℕ → List Kind
segment_kinds s text = map segment_kind (slice_split (is_separator s) text)

-- what looks tell of the names at the front of a text, by the separators of that
abbrev pub TellsNamesOf : Separators → List ℕ → Leading → Type 0
TellsNamesOf s text told = (pair : ℕ × ℕ) × ((b : ℕ) → is_separator s b ≡ is_one_of pair b) × TellsNames pair text told

-- parents and then names stand behind a head, each with a separator behind it and the names from a place on, while the rest of a whole list is still to come
pub record AreKept (s : Separators) (anchored : Bool) (head text : List ℕ) (floor : ℕ) (rest whole : List Kind) : Type 0 where
  pub over : ℕ
  pub names : List (List ℕ)
  pub rows : AreRowsOf s text (head ++ rows_of s (dots over)) names
  pub begin : floor ≡ length (head ++ rows_of s (dots over))
  pub fixed : anchored ≡ true → over ≡ 0
  pub left : kept_names (map normal names ++ rest) ≡ kept_names whole
  pub rises : anchored ≡ false → over + unmet (map normal names ++ rest) ≡ unmet whole
