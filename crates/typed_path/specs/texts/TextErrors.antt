-- Which error tells that bytes are no text, in the words of std.
use Rattle.std.specs.Prelude.{◌≡◌, ℕ, List, [], drop, if◌then◌else◌}
use Rattle.std.specs.declared.str.Utf8Error.{Utf8Error}
use Rattle.std.specs.Str.{is_utf8, valid_up_to, error_len}
use Rattle.std.specs.Str.Lossy.{utf8_valid_len, utf8_error_len}
use Rattle.typed_path.specs.components.Parts.{Prefix, verbatim, verbatim_unc, verbatim_disk, device_ns, unc, disk, Kind, prefix, Part}

-- how many bytes are a text before the first that are not, and how many these are
abbrev pub IsTextError : List ℕ → Utf8Error → Type 0
IsTextError bytes e = (valid_up_to e ≡ utf8_valid_len bytes) × (error_len e ≡ utf8_error_len (drop (utf8_valid_len bytes) bytes))

-- of two lists of bytes, the first that is no text
abbrev pub first_no_text : List ℕ → List ℕ → List ℕ
first_no_text bytes others = if is_utf8 bytes then others else bytes

-- of the names of a prefix
abbrev pub prefix_no_text : Prefix → List ℕ
prefix_no_text (verbatim name) = name
prefix_no_text (verbatim_unc server share) = first_no_text server share
prefix_no_text (verbatim_disk letter) = []
prefix_no_text (device_ns name) = name
prefix_no_text (unc server share) = first_no_text server share
prefix_no_text (disk letter) = []

abbrev pub kind_no_text : Kind → List ℕ
kind_no_text (prefix p) = prefix_no_text p
kind_no_text k = []

-- of a component: its own text, and then the names of its prefix
abbrev pub part_no_text : Part → List ℕ
part_no_text p = first_no_text p.text (kind_no_text p.kind)
