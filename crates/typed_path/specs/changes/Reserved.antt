-- Which names stand for devices, told by their first bytes alone.
use Rattle.std.specs.Prelude.{ℕ, List, [], ◌∷◌, Bool, false, ◌||◌, ◌&&◌, ◌==◌, nat_le, if◌then◌else◌}
use Rattle.std.specs.Char.{to_ascii_lowercase}
use Rattle.typed_path.specs.components.Dialects.{dot}

-- three small letters are the name of a device
abbrev pub is_bare_device : ℕ → ℕ → ℕ → Bool
is_bare_device a b c =
    ((a == 99 && b == 111) && c == 110) || ((a == 112 && b == 114) && c == 110) || ((a == 97 && b == 117) && c == 120) || ((a == 110 && b == 117) && c == 108)

-- three small letters and a digit are
abbrev pub is_numbered_device : ℕ → ℕ → ℕ → ℕ → Bool
is_numbered_device a b c d = (((a == 99 && b == 111) && c == 109) || ((a == 108 && b == 112) && c == 116)) && (nat_le 48 d && nat_le d 57)

-- the first bytes of a name are, ASCII case aside, the name of a device, with a dot or its end behind them
abbrev pub is_device : List ℕ → Bool
is_device (a ∷ b ∷ c ∷ d ∷ e ∷ name) =
    if d == dot then is_bare_device (to_ascii_lowercase a) (to_ascii_lowercase b) (to_ascii_lowercase c)
    else (e == dot && is_numbered_device (to_ascii_lowercase a) (to_ascii_lowercase b) (to_ascii_lowercase c) (to_ascii_lowercase d))
is_device (a ∷ b ∷ c ∷ d ∷ []) =
    if d == dot then is_bare_device (to_ascii_lowercase a) (to_ascii_lowercase b) (to_ascii_lowercase c)
    else is_numbered_device (to_ascii_lowercase a) (to_ascii_lowercase b) (to_ascii_lowercase c) (to_ascii_lowercase d)
is_device (a ∷ b ∷ c ∷ []) = is_bare_device (to_ascii_lowercase a) (to_ascii_lowercase b) (to_ascii_lowercase c)
is_device name = false
