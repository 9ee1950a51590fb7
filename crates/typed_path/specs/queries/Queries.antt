-- What a path answers, read off its component list.
use Rattle.std.specs.Prelude.{ℕ, ◌+◌, ◌-◌, ◌==◌, List, [], ◌∷◌, codes, Bool, true, false, not, ◌||◌, ◌&&◌, length, drop, if◌then◌else◌, Option, Some, None, option_and_then}
use Rattle.std.specs.List.{list_any, list_all, starts_with, ends_with, before_first}
use Rattle.std.specs.Option.{option_map}
use Rattle.std.specs.Str.{bytes_eq, str_eq_ignore_ascii_case}
use Rattle.typed_path.specs.components.Dialects.{Dialect, unix, windows, slash, backslash, colon, question, is_separator, separators}
use Rattle.typed_path.specs.components.Parts.{Prefix, verbatim, verbatim_unc, verbatim_disk, device_ns, unc, disk, Kind, prefix, root, normal, Part, Placed, texts}
use Rattle.typed_path.specs.components.Prefixes.{is_empty}
use Rattle.typed_path.specs.components.Comps.{comps, parts_of}
use Rattle.typed_path.specs.scan.Left.{left, last_of}
use Rattle.typed_path.specs.queries.Names.{is_a_dot, stem_of, extension_of, first_stem_of}

abbrev pub begins_with_root : List Kind → Bool
begins_with_root (root ∷ ks) = true
begins_with_root ks = false

-- absolute: a share that isn't empty, or another prefix and the root behind it
abbrev pub is_absolute_prefix : Prefix → List Kind → Bool
is_absolute_prefix (verbatim_unc server share) ks = not (is_empty share)
is_absolute_prefix (unc server share) ks = not (is_empty share)
is_absolute_prefix p ks = begins_with_root ks

abbrev pub is_absolute : Dialect → List Kind → Bool
is_absolute unix ks = begins_with_root ks
is_absolute windows (prefix p ∷ ks) = is_absolute_prefix p ks
is_absolute windows ks = false

-- rooted: a drive needs a root behind it, every other prefix has one
abbrev pub has_root_behind : Prefix → List Kind → Bool
has_root_behind (disk letter) ks = begins_with_root ks
has_root_behind (verbatim_disk letter) ks = begins_with_root ks
has_root_behind p ks = true

abbrev pub has_root : Dialect → List Kind → Bool
has_root unix ks = begins_with_root ks
has_root windows (prefix p ∷ ks) = has_root_behind p ks
has_root windows ks = begins_with_root ks

-- the prefix queries
abbrev pub first_prefix : List Kind → Option Prefix
first_prefix (prefix p ∷ ks) = Some p
first_prefix ks = None

abbrev pub is_verbatim_prefix : Prefix → Bool
is_verbatim_prefix (verbatim name) = true
is_verbatim_prefix (verbatim_unc server share) = true
is_verbatim_prefix (verbatim_disk letter) = true
is_verbatim_prefix p = false

abbrev pub is_disk : Prefix → Bool
is_disk (disk letter) = true
is_disk p = false

abbrev pub begins_with_prefix : (Prefix → Bool) → List Kind → Bool
begins_with_prefix test (prefix p ∷ ks) = test p
begins_with_prefix test ks = false

abbrev pub has_prefix : List Kind → Bool
has_prefix = begins_with_prefix (λ p. true)

abbrev pub has_any_verbatim_prefix : List Kind → Bool
has_any_verbatim_prefix = begins_with_prefix is_verbatim_prefix

abbrev pub has_implicit_root : List Kind → Bool
has_implicit_root = begins_with_prefix (λ p. not (is_disk p))

abbrev pub has_physical_root : List Kind → Bool
has_physical_root (prefix p ∷ ks) = begins_with_root ks
has_physical_root ks = begins_with_root ks

-- whether a single component is a prefix, and which
abbrev pub is_prefix : Kind → Bool
is_prefix (prefix p) = true
is_prefix k = false

abbrev pub prefix_in : Kind → Option Prefix
prefix_in (prefix p) = Some p
prefix_in k = None

-- a component, where it is a prefix
abbrev pub prefix_part_in : Part → Option Part
prefix_part_in p = if is_prefix p.kind then Some p else None

-- the prefix among the components of a list: its first one, where that is a prefix
abbrev pub prefix_among : List Part → Option Part
prefix_among [] = None
prefix_among (p ∷ ps) = prefix_part_in p

-- the components behind the prefix, or all where there is none
abbrev pub behind_prefix : List Placed → List Placed
behind_prefix [] = []
behind_prefix (c ∷ cs) = if is_prefix c.part.kind then cs else c ∷ cs

-- a prefix of one kind alone
abbrev pub has_verbatim_prefix : List Kind → Bool
has_verbatim_prefix (prefix (verbatim name) ∷ ks) = true
has_verbatim_prefix ks = false

abbrev pub has_verbatim_unc_prefix : List Kind → Bool
has_verbatim_unc_prefix (prefix (verbatim_unc server share) ∷ ks) = true
has_verbatim_unc_prefix ks = false

abbrev pub has_verbatim_disk_prefix : List Kind → Bool
has_verbatim_disk_prefix (prefix (verbatim_disk letter) ∷ ks) = true
has_verbatim_disk_prefix ks = false

abbrev pub has_device_ns_prefix : List Kind → Bool
has_device_ns_prefix (prefix (device_ns name) ∷ ks) = true
has_device_ns_prefix ks = false

abbrev pub has_unc_prefix : List Kind → Bool
has_unc_prefix (prefix (unc server share) ∷ ks) = true
has_unc_prefix ks = false

abbrev pub has_disk_prefix : List Kind → Bool
has_disk_prefix (prefix (disk letter) ∷ ks) = true
has_disk_prefix ks = false

-- how many bytes a share adds to its server
abbrev pub share_length : List ℕ → ℕ
share_length share = if is_empty share then 0 else 1 + length share

-- how many bytes a prefix has: the mark and the names, and a separator before a share that is not empty
abbrev pub prefix_length : Prefix → ℕ
prefix_length (verbatim name) = 4 + length name
prefix_length (verbatim_unc server share) = 8 + length server + share_length share
prefix_length (verbatim_disk letter) = 6
prefix_length (device_ns name) = 4 + length name
prefix_length (unc server share) = 2 + length server + share_length share
prefix_length (disk letter) = 2

-- a component behind which nothing is above it: the root, and every prefix but a drive
abbrev pub is_root : Kind → Bool
is_root root = true
is_root (prefix p) = not (is_disk p)
is_root k = false

-- the parent: the slice left once the last component is taken, unless that is a root
abbrev pub parent_of : Dialect → List ℕ → Option (List ℕ)
parent_of d t = option_and_then
    (λ last. if is_root last.part.kind then None else Some (left (comps d t) t 0 1))
    (last_of (comps d t))

-- the bytes that no name may have
abbrev pub is_disallowed : Dialect → ℕ → Bool
is_disallowed unix b = b == slash || b == 0
is_disallowed windows b =
    b == backslash || b == slash || b == colon || b == question || b == 42 || b == 34 || b == 62 || b == 60 || b == 124 || b == 0

-- the names that stand for devices
abbrev pub reserved_names : List (List ℕ)
reserved_names =
    codes "CON" ∷ codes "PRN" ∷ codes "AUX" ∷ codes "NUL"
    ∷ codes "COM1" ∷ codes "COM2" ∷ codes "COM3" ∷ codes "COM4" ∷ codes "COM5"
    ∷ codes "COM6" ∷ codes "COM7" ∷ codes "COM8" ∷ codes "COM9" ∷ codes "COM0"
    ∷ codes "LPT1" ∷ codes "LPT2" ∷ codes "LPT3" ∷ codes "LPT4" ∷ codes "LPT5"
    ∷ codes "LPT6" ∷ codes "LPT7" ∷ codes "LPT8" ∷ codes "LPT9" ∷ codes "LPT0" ∷ []

-- a name stands for a device: on Windows, where its bytes before its first dot are, ASCII case aside, one of the names that do
abbrev pub is_reserved : Dialect → List ℕ → Bool
is_reserved unix name = false
is_reserved windows name = list_any (λ device. str_eq_ignore_ascii_case (before_first is_a_dot name) device) reserved_names

abbrev pub has_allowed_bytes : Dialect → List ℕ → Bool
has_allowed_bytes d name = not (list_any (is_disallowed d) name)

-- a name is valid: each of its bytes is allowed, and it stands for no device
abbrev pub is_valid_name : Dialect → List ℕ → Bool
is_valid_name d name = has_allowed_bytes d name && not (is_reserved d name)

abbrev pub is_valid_kind : Dialect → Kind → Bool
is_valid_kind d (normal name) = is_valid_name d name
is_valid_kind d k = true

abbrev pub is_valid : Dialect → List Kind → Bool
is_valid d ks = list_all (is_valid_kind d) ks

-- no name has a byte that no name may have, whatever else a valid name must be
abbrev pub kind_has_allowed_bytes : Dialect → Kind → Bool
kind_has_allowed_bytes d (normal name) = has_allowed_bytes d name
kind_has_allowed_bytes d k = true

abbrev pub have_allowed_bytes : Dialect → List Kind → Bool
have_allowed_bytes d ks = list_all (kind_has_allowed_bytes d) ks

-- the last component, where it is a name
abbrev pub name_of : Kind → Option (List ℕ)
name_of (normal name) = Some name
name_of k = None

abbrev pub file_name_of : Dialect → List ℕ → Option (List ℕ)
file_name_of d t = option_and_then (λ last. name_of last.part.kind) (last_of (comps d t))

abbrev pub file_stem_of : Dialect → List ℕ → Option (List ℕ)
file_stem_of d t = option_map stem_of (file_name_of d t)

abbrev pub extension : Dialect → List ℕ → Option (List ℕ)
extension d t = option_and_then extension_of (file_name_of d t)

abbrev pub file_prefix_of : Dialect → List ℕ → Option (List ℕ)
file_prefix_of d t = option_map first_stem_of (file_name_of d t)

-- the last byte of a path, where it has one, separates its components
abbrev pub has_trailing_separator : Dialect → List ℕ → Bool
has_trailing_separator d t = list_any (is_separator (separators d t)) (drop (length t - 1) t)

-- a path begins, or ends, with the components of another, as they are written
abbrev pub path_starts_with : Dialect → List ℕ → List ℕ → Bool
path_starts_with d t b = starts_with bytes_eq (texts (parts_of d t)) (texts (parts_of d b))

abbrev pub path_ends_with : Dialect → List ℕ → List ℕ → Bool
path_ends_with d t b = ends_with bytes_eq (texts (parts_of d t)) (texts (parts_of d b))

-- what is left of a path behind a base that it begins with
abbrev pub stripped : Dialect → List ℕ → List ℕ → Option (List ℕ)
stripped d t b = if path_starts_with d t b then Some (left (comps d t) t (length (comps d b)) 0) else None
