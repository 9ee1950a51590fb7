-- What a checked call was refused for.
use Rattle.std.specs.Prelude.{◌≡◌, ◌==◌, ◌/◌, ◌%◌, ◌^◌, ℕ, List, [], ◌∷◌, Bool, true, false, not, ◌&&◌, ◌||◌, ◌+◌, ◌<◌, min, max, drop, slice_index, Result, Ok, Err, Option, Some, None}
use Rattle.std.specs.Int.{bit_at}
use Rattle.std.specs.Int.Bits.{bit_and}
use Rattle.std.specs.List.{All, before_first, list_any}
use Rattle.typed_path.specs.declared.scan.separators.Separators.{Separators}
use Rattle.typed_path.specs.declared.scan.separators.Separators.TheVariants.{Either}
use Rattle.typed_path.specs.declared.errors.CheckedPathError.{CheckedPathError}
use Rattle.typed_path.specs.declared.errors.PathError.{PathError}
use Rattle.typed_path.specs.declared.errors.PathError.TheVariants.{Checked, OutOfMemory}
use Rattle.typed_path.specs.components.Dialects.{windows, dot, colon, question, dialect_of, is_separator}
use Rattle.typed_path.specs.scan.Masks.{is_one_of}
use Rattle.typed_path.specs.queries.Queries.{is_disallowed, is_reserved}

-- the refusal of a path; none where the call succeeds, and where memory is refused
abbrev pub refusal : {A : Type 0} → Result A PathError → Option CheckedPathError
refusal (Ok x) = None
refusal (Err (Checked e)) = Some e
refusal (Err OutOfMemory) = None

-- the error of a call that can be refused in no other way
abbrev pub error_of : {A E : Type 0} → Result A E → Option E
error_of (Ok x) = None
error_of (Err e) = Some e

-- a byte that no name may have, and that is no separator
abbrev pub is_stray : Separators → ℕ → Bool
is_stray s b = is_disallowed (dialect_of s) b && not (is_separator s b)

-- a byte that no name of Windows may have, and that separates in no text
abbrev pub is_forbidden : ℕ → Bool
is_forbidden b = b == colon || b == question || b == 42 || b == 34 || b == 62 || b == 60 || b == 124 || b == 0

-- the same, or one of a pair
abbrev pub is_forbidden_or : ℕ × ℕ → ℕ → Bool
is_forbidden_or pair b = is_forbidden b || is_one_of pair b

-- whether such a byte stands at a place of a text
abbrev pub forbidden_at : ℕ × ℕ → List ℕ → ℕ → Bool
forbidden_at pair text k = is_forbidden_or pair (slice_index text k)

-- each byte of a text that no name may have is a separator
abbrev pub SeparatesDisallowed : Separators → List ℕ → Type 0
SeparatesDisallowed s text = All (λ b. is_disallowed (dialect_of s) b ≡ true → is_separator s b ≡ true) text

-- the first of two bytes is NUL, or both are dots
abbrev pub is_nul_or_dot_pair : ℕ → ℕ → Bool
is_nul_or_dot_pair a b = a == 0 || a == dot && b == dot

-- NUL stands at a place of a text, or a dot with another behind it
abbrev pub nul_or_dot_pair_at : List ℕ → ℕ → Bool
nul_or_dot_pair_at text k = is_nul_or_dot_pair (slice_index text k) (slice_index text (k + 1))

-- a text begins with NUL, or with two dots
abbrev pub begins_with_nul_or_dot_pair : List ℕ → Bool
begins_with_nul_or_dot_pair [] = false
begins_with_nul_or_dot_pair (a ∷ []) = a == 0
begins_with_nul_or_dot_pair (a ∷ b ∷ bytes) = is_nul_or_dot_pair a b

-- neither NUL nor two dots side by side stand in a text
abbrev pub has_no_nul_or_dot_pair : List ℕ → Bool
has_no_nul_or_dot_pair [] = true
has_no_nul_or_dot_pair (a ∷ bytes) = not (begins_with_nul_or_dot_pair (a ∷ bytes)) && has_no_nul_or_dot_pair bytes

-- two dots stand side by side at a place of a text
abbrev pub dot_pair_at : List ℕ → ℕ → Bool
dot_pair_at text k = slice_index text k == dot && slice_index text (k + 1) == dot

-- and somewhere in it
abbrev pub has_dot_pair : List ℕ → Bool
has_dot_pair [] = false
has_dot_pair (a ∷ []) = false
has_dot_pair (a ∷ b ∷ bytes) = (a == dot && b == dot) || has_dot_pair (b ∷ bytes)

-- a text has a byte that no name of Windows may have, or one of a pair, where these are asked for
abbrev pub has_stray_of : Option (ℕ × ℕ) → List ℕ → Bool
has_stray_of None text = false
has_stray_of (Some pair) text = list_any (is_forbidden_or pair) text

-- whether such a byte stands at a place of a text
abbrev pub stray_of_at : Option (ℕ × ℕ) → List ℕ → ℕ → Bool
stray_of_at None text k = false
stray_of_at (Some pair) text k = forbidden_at pair text k

-- the bit of a set that the low five bits of a byte name
abbrev pub is_in : ℕ → ℕ → Bool
is_in set b = set / 2 ^ (b % 32) % 2 == 1

-- the first two bytes of a text are, but for higher bits, those of devices: one of `acnlp`, and one of `opru`
abbrev pub begins_like_device : List ℕ → Bool
begins_like_device (a ∷ b ∷ bytes) = is_in 86026 a && is_in 2457600 b
begins_like_device bytes = false

-- the first three are: one of `acnlp`, one of `opru`, and one of `lmntx`
abbrev pub begins_as_device : List ℕ → Bool
begins_as_device (a ∷ b ∷ c ∷ bytes) = is_in 86026 a && (is_in 2457600 b && is_in 17854464 c)
begins_as_device bytes = false

-- a stem ends before a byte: a dot or a separator
abbrev pub ends_stem : ℕ → Bool
ends_stem b = b == dot || is_separator Either b

-- where a text goes on, a stem of three bytes or of four ends
abbrev pub may_end_stem : List ℕ → Bool
may_end_stem (a ∷ b ∷ c ∷ d ∷ e ∷ bytes) = ends_stem d || ends_stem e
may_end_stem bytes = true

-- a byte is a letter that a table holds as a capital at the low four bits
abbrev pub is_letter_of : List ℕ → ℕ → Bool
is_letter_of table b = slice_index table (b % 16) == bit_and b 223

-- the bits of a mask: those of separators behind which stand the first letter, then the second, and then the end of a stem of three bytes or of four
abbrev pub AreMayBegins : ℕ → ℕ → ℕ → ℕ → ℕ → Type 0
AreMayBegins separators firsts seconds ends mask = (k : ℕ) → bit_at mask k
    ≡ min (bit_at separators k) (min (bit_at firsts (1 + k)) (min (bit_at seconds (2 + k)) (max (bit_at ends (4 + k)) (bit_at ends (5 + k)))))

-- the first segment of a text of Windows stands for a device
abbrev pub begins_with_device : List ℕ → Bool
begins_with_device text = is_reserved windows (before_first (is_separator Either) text)

-- a segment behind a separator does
abbrev pub has_device_behind : List ℕ → Bool
has_device_behind [] = false
has_device_behind (b ∷ bytes) = (is_separator Either b && begins_with_device bytes) || has_device_behind bytes

-- none begins behind a place of a text
abbrev pub BeginsNone : List ℕ → ℕ → Type 0
BeginsNone text k = (is_separator Either (slice_index text k) && begins_with_device (drop (k + 1) text)) ≡ false

-- marks of separators among the bytes of a text from a place on: behind those of so many bytes that have no mark none begins
pub record TellsBegins (text : List ℕ) (from n mask : ℕ) : Type 0 where
  pub separates : (k : ℕ) → bit_at mask k ≡ 1 → (k < n) × (is_separator Either (slice_index text (from + k)) ≡ true)
  pub none : (k : ℕ) → k < n → bit_at mask k ≡ 0 → BeginsNone text (from + k)

-- a segment of a text of Windows that is not read verbatim stands for a device: the first, or one behind a separator
abbrev pub has_device : List ℕ → Bool
has_device text = begins_with_device text || has_device_behind text

-- a text begins with a separator of Windows
abbrev pub begins_with_separator : List ℕ → Bool
begins_with_separator [] = false
begins_with_separator (b ∷ bytes) = is_separator Either b

-- the second byte of a text is a `:`, as behind the letter of a drive
abbrev pub has_second_colon : List ℕ → Bool
has_second_colon [] = false
has_second_colon (a ∷ []) = false
has_second_colon (a ∷ b ∷ bytes) = b == colon
