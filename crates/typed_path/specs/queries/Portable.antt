-- Names that may be devices, and names and paths that every system takes as they are written.
use Rattle.std.specs.Prelude.{◌≡◌, ◌<◌, ◌≤◌, ◌==◌, ◌&&◌, ◌||◌, ℕ, List, [], ◌∷◌, Bool, true, false, not, nat_lt, length, slice_index, if◌then◌else◌, Option, Some, None, is_none}
use Rattle.std.specs.List.{list_any, before_first}
use Rattle.std.specs.Option.{option_or}
use Rattle.std.specs.Str.{is_utf8}
use Rattle.typed_path.specs.declared.scan.separators.Separators.{Separators}
use Rattle.typed_path.specs.declared.errors.PortableError.{PortableError}
use Rattle.typed_path.specs.declared.errors.PortableError.TheVariants.{Prefix, Forbidden, Device, Ending, TooLong, NotText}
use Rattle.typed_path.specs.components.Dialects.{Dialect, windows, dot, colon, backslash, is_separator}
use Rattle.typed_path.specs.components.Parts.{Part, Kind, prefix, normal, kinds}
use Rattle.typed_path.specs.components.Prefixes.{is_empty}
use Rattle.typed_path.specs.components.Comps.{is_dot, is_dot_dot, parts_of}
use Rattle.typed_path.specs.queries.Queries.{has_allowed_bytes, is_disallowed, is_valid_name}
use Rattle.typed_path.specs.queries.Simplified.{ends_in, is_taken_for_device, space}

abbrev pub is_a_colon : ℕ → Bool
is_a_colon b = b == colon

abbrev pub is_backslash : ℕ → Bool
is_backslash b = b == backslash

-- some version of Windows may take a name for a device: what stands before its first `:` is taken for one
abbrev pub name_may_be_device : List ℕ → Bool
name_may_be_device name = is_taken_for_device (before_first is_a_colon name)

-- a component is a name that may be
abbrev pub kind_may_be_device : Kind → Bool
kind_may_be_device (normal name) = name_may_be_device name
kind_may_be_device k = false

-- a name of a path may be
abbrev pub may_be_device : Dialect → List ℕ → Bool
may_be_device d path = list_any kind_may_be_device (kinds (parts_of d path))

-- a control byte of ASCII
abbrev pub is_control : ℕ → Bool
is_control b = nat_lt b 32 || b == 127

-- whether one stands at a place of a text
abbrev pub control_at : List ℕ → ℕ → Bool
control_at text k = is_control (slice_index text k)

-- each byte is one that a name of Windows may have, and no control byte
abbrev pub has_portable_bytes : List ℕ → Bool
has_portable_bytes name = has_allowed_bytes windows name && not (list_any is_control name)

-- how many bytes a name has at most on every system
abbrev pub longest_name : ℕ
longest_name = 255

-- a name ends in a dot or a space
abbrev pub ends_unkept : List ℕ → Bool
ends_unkept name = ends_in dot name || ends_in space name

-- why some system does not take a name as it is written
abbrev pub name_fault : List ℕ → Option PortableError
name_fault name =
    if not (has_portable_bytes name) then Some Forbidden
    else (if name_may_be_device name then Some Device
    else (if ends_unkept name then Some Ending
    else (if nat_lt longest_name (length name) then Some TooLong
    else (if is_utf8 name then None else Some NotText))))

-- why some system does not take a component so
abbrev pub kind_fault : Kind → Option PortableError
kind_fault (prefix p) = Some Prefix
kind_fault (normal name) = name_fault name
kind_fault k = None

-- that of the first component that offends
abbrev pub kinds_fault : List Kind → Option PortableError
kinds_fault [] = None
kinds_fault (k ∷ ks) = option_or (kind_fault k) (kinds_fault ks)

-- a component with its fault, or that of the others
abbrev pub offender_or : Part → Option PortableError → Option (List ℕ × PortableError) → Option (List ℕ × PortableError)
offender_or p None rest = rest
offender_or p (Some fault) rest = Some (p.text, fault)

-- the first component that offends, as it is written, and why
abbrev pub offender : List Part → Option (List ℕ × PortableError)
offender [] = None
offender (p ∷ ps) = offender_or p (kind_fault p.kind) (offender ps)

-- why a path is not portable
abbrev pub portable_fault : Dialect → List ℕ → Option PortableError
portable_fault d path = kinds_fault (kinds (parts_of d path))

-- and for which component
abbrev pub unportable : Dialect → List ℕ → Option (List ℕ × PortableError)
unportable d path = offender (parts_of d path)

-- a path is portable
abbrev pub is_portable : Dialect → List ℕ → Bool
is_portable d path = is_none (portable_fault d path)

-- a name that every system takes as it is written
abbrev pub is_portable_name : List ℕ → Bool
is_portable_name name = nat_lt 0 (length name) && is_none (name_fault name)

-- what that means
pub record IsPortableName (name : List ℕ) : Type 0 where
  pub filled : 0 < length name
  pub valid : (d : Dialect) → is_valid_name d name ≡ true
  pub controls : list_any is_control name ≡ false
  pub device : name_may_be_device name ≡ false
  pub undotted : ends_in dot name ≡ false
  pub unspaced : ends_in space name ≡ false
  pub short : length name ≤ longest_name
  pub text : is_utf8 name ≡ true

-- a byte that no name of Windows may have, and that is no separator of a text
abbrev pub strays_on_windows : Separators → ℕ → Bool
strays_on_windows s b = is_disallowed windows b && not (is_separator s b)

-- a segment that offends whatever its bytes are: it is too long, ends in a dot or a space and is neither `.` nor `..`, or may be a device
abbrev pub may_offend : List ℕ → Bool
may_offend segment =
    nat_lt longest_name (length segment) || ((ends_unkept segment && not (is_empty segment || is_dot segment || is_dot_dot segment)) || name_may_be_device segment)
