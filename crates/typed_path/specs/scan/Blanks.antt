-- Segments that count for nothing behind others, and a text with its separators written as one byte.
use Rattle.std.specs.Prelude.{◌≡◌, ℕ, ◌+◌, List, [], ◌∷◌, Bool, true, false, ◌||◌, ◌&&◌, ◌==◌, map, if◌then◌else◌}
use Rattle.std.specs.Int.{bit_at}
use Rattle.std.specs.List.{before_first}
use Rattle.typed_path.specs.declared.scan.separators.Separators.{Separators}
use Rattle.typed_path.specs.components.Dialects.{dot, is_separator}

-- a segment is empty or `.`
abbrev pub is_blank : List ℕ → Bool
is_blank [] = true
is_blank (a ∷ []) = a == dot
is_blank segment = false

-- the first segment of a text is one
abbrev pub begins_blank : Separators → List ℕ → Bool
begins_blank s text = is_blank (before_first (is_separator s) text)

-- a segment behind a separator is one
abbrev pub has_blank_behind : Separators → List ℕ → Bool
has_blank_behind s [] = false
has_blank_behind s (b ∷ bs) = (is_separator s b && begins_blank s bs) || has_blank_behind s bs

-- no separator that is marked stands before one, by the marks of the ends of segments and of dots
abbrev pub MarksNoBlank : ℕ → ℕ → ℕ → Type 0
MarksNoBlank separators ends dots = (k : ℕ) → bit_at separators k ≡ 1 → (bit_at ends (1 + k) ≡ 0) × (bit_at dots (1 + k) ≡ 1 → bit_at ends (2 + k) ≡ 0)

-- a text with its separators written as one byte
abbrev pub turned : Separators → ℕ → List ℕ → List ℕ
turned s b text = map (λ c. if is_separator s c then b else c) text
