-- What is left of a text, by where it begins.
use Rattle.std.specs.Prelude.{◌≡◌, ◌≤◌, ℕ, drop, take, List, [], ◌∷◌, Bool, true, not, ◌||◌, ◌&&◌, ◌==◌, if◌then◌else◌, nat_lt, length, Option, option_map}
use Rattle.std.specs.Option.{unwrap_or}
use Rattle.std.specs.List.{before_first, after_last, IsAfterLastMatch}
use Rattle.typed_path.specs.declared.scan.separators.Separators.{Separators}
use Rattle.typed_path.specs.declared.scan.cursor.Begin.{Begin}
use Rattle.typed_path.specs.declared.scan.cursor.Begin.TheVariants.{Body, Inside}
use Rattle.typed_path.specs.components.Dialects.{dot, is_separator, is_verbatim}
use Rattle.typed_path.specs.components.Parts.{Part, Placed, end_of}
use Rattle.typed_path.specs.components.Comps.{body, later_body, is_dot, is_dot_dot}
use Rattle.typed_path.specs.scan.Masks.{PartAt}
use Rattle.typed_path.specs.scan.Left.{first_of, last_of, but_last, slice_after_front, slice_after_back}
use Rattle.typed_path.specs.changes.Spelled.{is_name_piece}

-- the components of a text that begins at a place
abbrev pub body_from : Begin → Separators → ℕ → List ℕ → List Placed
body_from Body s at text = body s at text
body_from Inside s at text = later_body s at text

-- a later segment that is a component
abbrev pub counts : Separators → List ℕ → Bool
counts s name = not (length name == 0) && (is_verbatim s || not (is_dot name))

-- a text is empty or begins with a component
abbrev pub is_clean : Begin → Separators → List ℕ → Bool
is_clean Body s text = true
is_clean Inside s [] = true
is_clean Inside s (b ∷ bs) = counts s (before_first (is_separator s) (b ∷ bs))

-- the rank of a segment that is not empty: `.` comes before `..`, and that before names
abbrev pub dots_rank : List ℕ → ℕ
dots_rank segment = if is_dot segment then 0 else (if is_dot_dot segment then 1 else 2)

-- a segment that holds such a byte is a name: it neither separates nor is a dot
abbrev pub tells_name : Separators → ℕ → Bool
tells_name s b = not (is_separator s b) && not (b == dot)

-- the segment that a text begins with is a name
abbrev pub begins_with_name : Separators → List ℕ → Bool
begins_with_name s text = is_name_piece (before_first (is_separator s) text)

-- two texts are alike up to the first of two places, where they differ or one ends, and the second stands behind the last separator before it
abbrev pub IsParting : Separators → List ℕ → List ℕ → ℕ → ℕ → Type 0
IsParting s text other shared start =
    PartAt text other shared
    × IsAfterLastMatch (is_separator s) (take shared text) start
    × (start ≤ length (take shared text))

-- the segments in which two texts part at a place are names
abbrev pub PartWithinNames : Separators → List ℕ → List ℕ → ℕ → Type 0
PartWithinNames s text other shared =
    (start : ℕ) × IsParting s text other shared start
    × (begins_with_name s (drop start text) ≡ true)
    × (begins_with_name s (drop start other) ≡ true)

-- a text ends with a component: it is one byte long or empty, or its last segment counts
abbrev pub is_trimmed : Separators → List ℕ → Bool
is_trimmed s text = nat_lt (length text) 2 || counts s (after_last (is_separator s) text)

-- where the last component ends, or the given place where there is none
abbrev pub end_from : ℕ → List Placed → ℕ
end_from at cs = unwrap_or (option_map end_of (last_of cs)) at

abbrev pub first_part : List Placed → Option Part
first_part cs = option_map (λ c. c.part) (first_of cs)

abbrev pub last_part : List Placed → Option Part
last_part cs = option_map (λ c. c.part) (last_of cs)

-- which components, each at its place, and which slice a step of an iterator from the front leaves
abbrev pub LeavesFront : {S : Type 0} → (S → List Placed) → (S → List ℕ) → S → S → Type 0
LeavesFront items slice s t = (items t ≡ drop 1 (items s)) × (slice t ≡ slice_after_front (items s) (slice s))

-- and one from the back
abbrev pub LeavesBack : {S : Type 0} → (S → List Placed) → (S → List ℕ) → S → S → Type 0
LeavesBack items slice s t = (items t ≡ but_last (items s)) × (slice t ≡ slice_after_back (items s) (slice s))
