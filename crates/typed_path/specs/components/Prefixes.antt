-- The prefix that a Windows text begins with: the first of six cases that matches.
use Rattle.std.specs.Prelude.{◌≡◌, drop, ℕ, ◌+◌, ◌-◌, List, ◌∷◌, Bool, ◌&&◌, ◌||◌, not, ◌==◌, nat_le, nat_lt, length, if◌then◌else◌, Option, Some, None, option_and_then}
use Rattle.std.specs.List.{before_first, after_first}
use Rattle.std.specs.Option.{option_or}
use Rattle.typed_path.specs.declared.scan.separators.Separators.{Separators}
use Rattle.typed_path.specs.declared.scan.separators.Separators.TheVariants.{Either}
use Rattle.typed_path.specs.components.Dialects.{Dialect, unix, windows, separators, is_separator, question, dot, colon}
use Rattle.typed_path.specs.components.Parts.{Prefix, verbatim, verbatim_unc, verbatim_disk, device_ns, unc, disk}

-- a prefix, and how many bytes its raw text has
pub record Found : Type 0 where
  pub prefix : Prefix
  pub length : ℕ

-- ASCII letters, and the letters among the bytes from 128 on
abbrev pub is_drive_letter : ℕ → Bool
is_drive_letter b =
    (nat_le 65 b && nat_le b 90) || (nat_le 97 b && nat_le b 122) || b == 170 || b == 181 || b == 186
    || (nat_le 192 b && nat_le b 255 && not (b == 215) && not (b == 247))

-- a letter in ASCII upper case
abbrev pub to_upper : ℕ → ℕ
to_upper b = if (nat_le 97 b && nat_le b 122) then b - 32 else b

-- the letter of a text that begins with a drive
abbrev pub drive : List ℕ → Option ℕ
drive (letter ∷ second ∷ rest) = if (is_drive_letter letter && second == colon) then Some (to_upper letter) else None
drive bytes = None

-- what stands behind two separators, which may be mixed
abbrev pub after_two : List ℕ → Option (List ℕ)
after_two (a ∷ b ∷ rest) = if (is_separator Either a && is_separator Either b) then Some rest else None
after_two bytes = None

-- what stands behind four bytes, each of which passes its test
abbrev pub after_four : (ℕ → Bool) → (ℕ → Bool) → (ℕ → Bool) → (ℕ → Bool) → List ℕ → Option (List ℕ)
after_four p q r s (a ∷ b ∷ c ∷ d ∷ rest) = if (p a && q b && r c && s d) then Some rest else None
after_four p q r s bytes = None

-- what stands behind two separators, the byte `sign` and a separator
abbrev pub after_mark : ℕ → List ℕ → Option (List ℕ)
after_mark sign text = after_four (is_separator Either) (is_separator Either) (λ b. b == sign) (is_separator Either) text

-- what stands behind `UNC` in capitals and a separator
abbrev pub after_unc : Separators → List ℕ → Option (List ℕ)
after_unc s text = after_four (λ b. b == 85) (λ b. b == 78) (λ b. b == 67) (is_separator s) text

abbrev pub is_empty : List ℕ → Bool
is_empty bytes = length bytes == 0

-- the name that a text begins with, up to the next separator or the end
abbrev pub name : Separators → List ℕ → List ℕ
name s bytes = before_first (is_separator s) bytes

-- the name behind that one and a separator, or the empty name
abbrev pub second_name : Separators → List ℕ → List ℕ
second_name s bytes = name s (after_first (is_separator s) bytes)

-- how many bytes the two names take, with the separator between them where it is there
abbrev pub names_length : Separators → List ℕ → ℕ
names_length s bytes =
    if nat_lt (length (name s bytes)) (length bytes) then length (name s bytes) + 1 + length (second_name s bytes)
    else length (name s bytes)

abbrev pub found : Prefix → ℕ → Found
found p n = record { prefix = p; length = n }

-- the six cases
abbrev pub verbatim_unc_case : Separators → List ℕ → Option Found
verbatim_unc_case s text = option_and_then
    (λ rest. if is_empty (name s rest) then None else Some (found (verbatim_unc (name s rest) (second_name s rest)) (8 + names_length s rest)))
    (option_and_then (after_unc s) (after_mark question text))

abbrev pub verbatim_disk_case : List ℕ → Option Found
verbatim_disk_case text = option_and_then (λ letter. Some (found (verbatim_disk letter) 6)) (option_and_then drive (after_mark question text))

-- a name, or the empty name where a separator follows
abbrev pub verbatim_case : Separators → List ℕ → Option Found
verbatim_case s text = option_and_then
    (λ rest. if is_empty rest then None else Some (found (verbatim (name s rest)) (4 + length (name s rest))))
    (after_mark question text)

abbrev pub device_case : List ℕ → Option Found
device_case text = option_and_then
    (λ rest. if is_empty (name Either rest) then None else Some (found (device_ns (name Either rest)) (4 + length (name Either rest))))
    (after_mark dot text)

abbrev pub unc_case : List ℕ → Option Found
unc_case text = option_and_then
    (λ rest. if is_empty (name Either rest) then None else Some (found (unc (name Either rest) (second_name Either rest)) (2 + names_length Either rest)))
    (after_two text)

abbrev pub disk_case : List ℕ → Option Found
disk_case text = option_and_then (λ letter. Some (found (disk letter) 2)) (drive text)

-- the prefix that a text begins with; a Unix text has none
abbrev pub prefix_of : Dialect → List ℕ → Option Found
prefix_of unix text = None
prefix_of windows text =
    let s = separators windows text in
    option_or (verbatim_unc_case s text) (option_or (verbatim_disk_case text) (option_or (verbatim_case s text)
    (option_or (device_case text) (option_or (unc_case text) (disk_case text)))))

-- a Windows text with no prefix but a drive, by the letter of that, and what stands behind it
abbrev pub IsPartedDrive : List ℕ → Option ℕ → List ℕ → Type 0
IsPartedDrive text None behind = (separators windows text ≡ Either) × (prefix_of windows text ≡ None) × (behind ≡ text)
IsPartedDrive text (Some letter) behind = (separators windows text ≡ Either) × (prefix_of windows text ≡ Some (found (disk letter) 2)) × (behind ≡ drop 2 text)
