-- The component list of a text, from which every answer is read.
use Rattle.std.specs.Prelude.{ℕ, ◌+◌, List, [], ◌∷◌, ◌++◌, Bool, false, ◌&&◌, ◌==◌, length, drop, take, if◌then◌else◌, Option, Some, None}
use Rattle.std.specs.List.{slice_split, flat_map}
use Rattle.typed_path.specs.declared.scan.separators.Separators.{Separators}
use Rattle.typed_path.specs.components.Dialects.{Dialect, dot, separators, is_separator, is_verbatim, root_text}
use Rattle.typed_path.specs.components.Parts.{Part, Placed, parts, current_part, parent_part, name_part, root_part, prefix_part}
use Rattle.typed_path.specs.components.Prefixes.{Found, prefix_of}

abbrev pub is_dot : List ℕ → Bool
is_dot (a ∷ []) = a == dot
is_dot bytes = false

abbrev pub is_dot_dot : List ℕ → Bool
is_dot_dot (a ∷ b ∷ []) = a == dot && b == dot
is_dot_dot bytes = false

-- what stands between two separators of a text, and where it begins
pub record Segment : Type 0 where
  pub text : List ℕ
  pub start : ℕ

-- texts that stand one separator apart, the first at the given place
abbrev pub placed : ℕ → List (List ℕ) → List Segment
placed at [] = []
placed at (text ∷ texts) = record { text = text; start = at } ∷ placed (at + length text + 1) texts

-- the segments of a text that begins at the given place: what stands between its separators
abbrev pub segments : Separators → ℕ → List ℕ → List Segment
segments s at text = placed at (slice_split (is_separator s) text)

abbrev pub component : Part → ℕ → List Placed
component p at = record { part = p; start = at } ∷ []

-- a segment that is neither empty nor `.`
abbrev pub named : Segment → List Placed
named g = if is_dot_dot g.text then component parent_part g.start else component (name_part g.text) g.start

-- a later segment: an empty one vanishes, and `.` does unless the text is read verbatim
abbrev pub later : Separators → Segment → List Placed
later s g =
    if length g.text == 0 then []
    else (if is_dot g.text then (if is_verbatim s then component current_part g.start else []) else named g)

-- the first segment: an empty one is the root, and `.` is the current directory
abbrev pub first : Separators → Segment → List Placed
first s g =
    if length g.text == 0 then component (root_part (root_text s)) g.start
    else (if is_dot g.text then component current_part g.start else named g)

abbrev pub body_of : Separators → List Segment → List Placed
body_of s [] = []
body_of s (g ∷ gs) = first s g ++ flat_map (later s) gs

-- the components of what stands behind the prefix
abbrev pub body : Separators → ℕ → List ℕ → List Placed
body s at [] = []
body s at (b ∷ bs) = body_of s (segments s at (b ∷ bs))

-- the components of a text that does not stand at the beginning
abbrev pub later_body : Separators → ℕ → List ℕ → List Placed
later_body s at text = flat_map (later s) (segments s at text)

abbrev pub comps_behind : Separators → List ℕ → Option Found → List Placed
comps_behind s text None = body s 0 text
comps_behind s text (Some f) = component (prefix_part f.prefix (take f.length text)) 0 ++ body s f.length (drop f.length text)

-- the components of a text, each with its place
abbrev pub comps : Dialect → List ℕ → List Placed
comps d text = comps_behind (separators d text) text (prefix_of d text)

abbrev pub parts_of : Dialect → List ℕ → List Part
parts_of d text = parts (comps d text)
