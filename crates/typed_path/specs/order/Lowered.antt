-- Paths in lower case: by these, paths compare without regard to the case of ASCII letters.
use Rattle.std.specs.Prelude.{◌≡◌, ◌≤◌, ℕ, List, ◌++◌, length, map, take, drop, Bool, Option, Some, None}
use Rattle.std.specs.declared.cmp.Ordering.{Ordering}
use Rattle.std.specs.List.{starts_with}
use Rattle.std.specs.Str.{bytes_eq, str_to_ascii_lowercase}
use Rattle.typed_path.specs.components.Dialects.{Dialect}
use Rattle.typed_path.specs.components.Parts.{Prefix, verbatim, verbatim_unc, verbatim_disk, device_ns, unc, disk, Kind, prefix, root, current, parent, normal, Part, Placed, parts, texts}
use Rattle.typed_path.specs.components.Prefixes.{Found, prefix_of}
use Rattle.typed_path.specs.order.Same.{bytes_cmp, left_cmp}

-- a prefix with its names in lower case; the letter of a drive is read in upper case, however it is written
abbrev pub lowered_prefix : Prefix → Prefix
lowered_prefix (verbatim name) = verbatim (str_to_ascii_lowercase name)
lowered_prefix (verbatim_unc server share) = verbatim_unc (str_to_ascii_lowercase server) (str_to_ascii_lowercase share)
lowered_prefix (verbatim_disk letter) = verbatim_disk letter
lowered_prefix (device_ns name) = device_ns (str_to_ascii_lowercase name)
lowered_prefix (unc server share) = unc (str_to_ascii_lowercase server) (str_to_ascii_lowercase share)
lowered_prefix (disk letter) = disk letter

-- a component with its names in lower case
abbrev pub lowered_kind : Kind → Kind
lowered_kind (prefix p) = prefix (lowered_prefix p)
lowered_kind root = root
lowered_kind current = current
lowered_kind parent = parent
lowered_kind (normal name) = normal (str_to_ascii_lowercase name)

abbrev pub lowered_kinds : List Kind → List Kind
lowered_kinds ks = map lowered_kind ks

-- how many bytes of a prefix stay as they are written: `\\?\UNC\` is read as it is in capitals alone
abbrev pub mark_length : Prefix → ℕ
mark_length (verbatim_unc server share) = 8
mark_length p = 0

-- a text in lower case, but for its first bytes
abbrev pub lowered_behind : ℕ → List ℕ → List ℕ
lowered_behind n text = take n text ++ str_to_ascii_lowercase (drop n text)

abbrev pub mark_in : Kind → ℕ
mark_in (prefix p) = mark_length p
mark_in k = 0

-- a component in lower case, as it is written
abbrev pub lowered_part : Part → Part
lowered_part p = record { kind = lowered_kind p.kind; text = lowered_behind (mark_in p.kind) p.text }

abbrev pub lowered_placed : Placed → Placed
lowered_placed c = record { part = lowered_part c.part; start = c.start }

abbrev pub mark_before : Option Found → ℕ
mark_before None = 0
mark_before (Some f) = mark_length f.prefix

-- a path in lower case
abbrev pub lowered : Dialect → List ℕ → List ℕ
lowered d text = lowered_behind (mark_before (prefix_of d text)) text

-- so many bytes of a path stay as they are written, and no more than it has
pub record IsLoweredBehind (d : Dialect) (text : List ℕ) (n : ℕ) : Type 0 where
  pub lowered_is : lowered d text ≡ lowered_behind n text
  pub within : n ≤ length text

-- the order of what two readings have left, in lower case
abbrev pub lowered_cmp : List Placed → List Placed → Ordering
lowered_cmp cs ds = left_cmp (map lowered_placed cs) (map lowered_placed ds)

-- whether what one has left begins with what another has, in lower case and as it is written
abbrev pub lowered_begins : List Placed → List Placed → Bool
lowered_begins cs ds = starts_with bytes_eq (texts (parts (map lowered_placed cs))) (texts (parts (map lowered_placed ds)))

-- the order of two names in lower case
abbrev pub lowered_bytes_cmp : List ℕ → List ℕ → Ordering
lowered_bytes_cmp a b = bytes_cmp (str_to_ascii_lowercase a) (str_to_ascii_lowercase b)
