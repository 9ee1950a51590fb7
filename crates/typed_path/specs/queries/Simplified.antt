-- A verbatim path of a drive, written without its `\\?\`.
use Rattle.std.specs.Prelude.{ℕ, ◌-◌, List, [], ◌∷◌, Bool, true, false, not, ◌&&◌, ◌||◌, ◌==◌, nat_eq, nat_lt, codes, length, take, drop, if◌then◌else◌}
use Rattle.std.specs.List.{list_all, list_any, ends_with, suffix_len, before_first}
use Rattle.std.specs.Str.{str_eq_ignore_ascii_case}
use Rattle.typed_path.specs.components.Dialects.{Dialect, unix, windows, dot}
use Rattle.typed_path.specs.components.Parts.{verbatim_disk, disk, Kind, prefix, root, normal, kinds}
use Rattle.typed_path.specs.components.Comps.{parts_of}
use Rattle.typed_path.specs.queries.Names.{is_a_dot}
use Rattle.typed_path.specs.queries.Queries.{is_reserved, is_valid_name}

abbrev pub space : ℕ
space = 32

abbrev pub is_a_space : ℕ → Bool
is_a_space b = b == space

-- a text without the spaces at its end
abbrev pub without_last_spaces : List ℕ → List ℕ
without_last_spaces bytes = take (length bytes - suffix_len is_a_space bytes) bytes

-- the names of devices that a valid name may be: `CONIN$`, `CONOUT$`, and `COM` and `LPT` with `¹`, `²` or `³` behind
abbrev pub further_devices : List (List ℕ)
further_devices =
    codes "CONIN$" ∷ codes "CONOUT$"
    ∷ (67 ∷ 79 ∷ 77 ∷ 194 ∷ 185 ∷ []) ∷ (67 ∷ 79 ∷ 77 ∷ 194 ∷ 178 ∷ []) ∷ (67 ∷ 79 ∷ 77 ∷ 194 ∷ 179 ∷ [])
    ∷ (76 ∷ 80 ∷ 84 ∷ 194 ∷ 185 ∷ []) ∷ (76 ∷ 80 ∷ 84 ∷ 194 ∷ 178 ∷ []) ∷ (76 ∷ 80 ∷ 84 ∷ 194 ∷ 179 ∷ []) ∷ []

abbrev pub is_further_device : List ℕ → Bool
is_further_device name = list_any (str_eq_ignore_ascii_case name) further_devices

abbrev pub is_device_stem : List ℕ → Bool
is_device_stem stem = is_reserved windows stem || is_further_device stem

-- what Windows takes for a device: a name of one with spaces and an extension behind, or without
abbrev pub is_taken_for_device : List ℕ → Bool
is_taken_for_device name = is_device_stem (without_last_spaces (before_first is_a_dot name))

abbrev pub ends_in : ℕ → List ℕ → Bool
ends_in b name = ends_with nat_eq name (b ∷ [])

-- a name that Windows takes as it is written, behind a drive too
abbrev pub is_exact_name : List ℕ → Bool
is_exact_name name = is_valid_name windows name && not (ends_in dot name) && not (ends_in space name) && not (is_taken_for_device name)

abbrev pub is_exact : Kind → Bool
is_exact (normal name) = is_exact_name name
is_exact k = false

abbrev pub is_verbatim_drive : Kind → Bool
is_verbatim_drive (prefix (verbatim_disk letter)) = true
is_verbatim_drive k = false

abbrev pub is_written_root : Kind → Bool
is_written_root root = true
is_written_root k = false

-- a verbatim drive, a root and such names
abbrev pub is_simple : List Kind → Bool
is_simple [] = false
is_simple (k ∷ []) = false
is_simple (k ∷ l ∷ ks) = is_verbatim_drive k && is_written_root l && list_all is_exact ks

-- a path to which its `\\?\` adds nothing: fewer than 260 bytes stand behind these four
abbrev pub can_be_simplified : List ℕ → Bool
can_be_simplified t = nat_lt (length t) 264 && is_simple (kinds (parts_of windows t))

-- the path without its `\\?\` where that adds nothing, else the path
abbrev pub simplified_text : Dialect → List ℕ → List ℕ
simplified_text unix t = t
simplified_text windows t = if can_be_simplified t then drop 4 t else t

-- a list that begins with the drive in place of the verbatim drive
abbrev pub with_drive : List Kind → List Kind
with_drive (prefix (verbatim_disk letter) ∷ ks) = prefix (disk letter) ∷ ks
with_drive ks = ks
