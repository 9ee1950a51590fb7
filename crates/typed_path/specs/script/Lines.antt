-- What the program answers to its input.
use Rattle.std.specs.Prelude.{◌≡◌, ℕ, List, [], ◌∷◌, ◌++◌, ◌==◌, if◌then◌else◌, codes, length, map, bytes_eq, Option, Some, None, Result, Ok, Err}
use Rattle.std.specs.List.{slice_split, flat_map, join_with_byte}
use Rattle.typed_path.specs.components.Dialects.{Dialect, unix, windows}
use Rattle.typed_path.specs.components.Parts.{Prefix, verbatim, verbatim_unc, verbatim_disk, device_ns, unc, disk, Kind, prefix, root, current, parent, normal, Part}
use Rattle.typed_path.specs.components.Comps.{parts_of}
use Rattle.typed_path.specs.places.Places.{normal_text}
use Rattle.typed_path.specs.changes.Push.{push}
use Rattle.typed_path.specs.changes.Fault.{fault}
use Rattle.typed_path.specs.conversions.Convert.{converted, converted_checked}
use Rattle.typed_path.specs.typed.Kind.{derived_dialect}
use Rattle.typed_path.specs.declared.errors.CheckedPathError.{CheckedPathError}
use Rattle.typed_path.specs.declared.errors.CheckedPathError.TheVariants.{InvalidFilename, PathTraversalAttack, UnexpectedPrefix, UnexpectedRoot}

abbrev pub tab : ℕ
tab = 9

abbrev pub line_feed : ℕ
line_feed = 10

-- `=`
abbrev pub equals_sign : ℕ
equals_sign = 61

-- the lines of an input behind each of which a line feed stands
abbrev pub ended : List (List ℕ) → List (List ℕ)
ended [] = []
ended (line ∷ []) = []
ended (line ∷ next ∷ lines) = line ∷ ended (next ∷ lines)

-- all lines but an empty last one
abbrev pub all_lines : List (List ℕ) → List (List ℕ)
all_lines [] = []
all_lines (line ∷ []) = if length line == 0 then [] else line ∷ []
all_lines (line ∷ next ∷ lines) = line ∷ all_lines (next ∷ lines)

abbrev pub split_lines : List ℕ → List (List ℕ)
split_lines input = slice_split (λ b. b == line_feed) input

-- the lines of an input that was read to its end
abbrev pub lines_of : List ℕ → List (List ℕ)
lines_of input = all_lines (split_lines input)

-- the complete lines of an input of which more may come
abbrev pub complete_lines : List ℕ → List (List ℕ)
complete_lines input = ended (split_lines input)

-- what stands behind the last line feed
abbrev pub last_line : List (List ℕ) → List ℕ
last_line [] = []
last_line (line ∷ []) = line
last_line (line ∷ next ∷ lines) = last_line (next ∷ lines)

abbrev pub open_line : List ℕ → List ℕ
open_line input = last_line (split_lines input)

abbrev pub fields_of : List ℕ → List (List ℕ)
fields_of line = slice_split (λ b. b == tab) line

abbrev pub ok_reply : List (List ℕ) → List (List ℕ)
ok_reply fields = codes "ok" ∷ fields

abbrev pub bad_line : List (List ℕ)
bad_line = codes "err" ∷ codes "BadLine" ∷ []

-- fields with a tab between, and a line feed
abbrev pub reply_line : List (List ℕ) → List ℕ
reply_line fields = join_with_byte tab fields ++ line_feed ∷ []

abbrev pub text_reply : List ℕ → List ℕ
text_reply text = reply_line (ok_reply (text ∷ []))

-- what a field calls a prefix
abbrev pub prefix_name : Prefix → List ℕ
prefix_name (verbatim name) = codes "Verbatim"
prefix_name (verbatim_unc server share) = codes "VerbatimUNC"
prefix_name (verbatim_disk letter) = codes "VerbatimDisk"
prefix_name (device_ns name) = codes "DeviceNS"
prefix_name (unc server share) = codes "UNC"
prefix_name (disk letter) = codes "Disk"

-- what a field calls a kind of component
abbrev pub kind_name : Kind → List ℕ
kind_name (prefix p) = prefix_name p
kind_name root = codes "root"
kind_name current = codes "current"
kind_name parent = codes "parent"
kind_name (normal name) = codes "normal"

-- the field that shows a component: what it is, and how it is written
abbrev pub component_field : Part → List ℕ
component_field p = kind_name p.kind ++ equals_sign ∷ p.text

-- the same of each component of a list, each behind a tab
abbrev pub fields_behind : List Part → List ℕ
fields_behind ps = flat_map (λ p. tab ∷ component_field p) ps

-- the fields that show a list of components
abbrev pub components_reply : List Part → List (List ℕ)
components_reply ps = ok_reply (map component_field ps)

-- the fields of the reply to a command on a path
abbrev pub reply_in : Dialect → List ℕ → List ℕ → List (List ℕ)
reply_in d command path =
    if bytes_eq command (codes "normalize") then ok_reply (normal_text d path ∷ [])
    else (if bytes_eq command (codes "components") then components_reply (parts_of d path) else bad_line)

-- the name of a refusal
abbrev pub refusal_name : CheckedPathError → List ℕ
refusal_name InvalidFilename = codes "InvalidFilename"
refusal_name PathTraversalAttack = codes "PathTraversalAttack"
refusal_name UnexpectedPrefix = codes "UnexpectedPrefix"
refusal_name UnexpectedRoot = codes "UnexpectedRoot"

-- a joined path, unless the path to be joined has a fault
abbrev pub joined_reply : List ℕ → Option CheckedPathError → List (List ℕ)
joined_reply joined None = ok_reply (joined ∷ [])
joined_reply joined (Some refusal) = codes "err" ∷ refusal_name refusal ∷ []

-- a converted path, or the name of what it is refused for
abbrev pub converted_reply : Result (List ℕ) CheckedPathError → List (List ℕ)
converted_reply (Ok text) = ok_reply (text ∷ [])
converted_reply (Err refusal) = codes "err" ∷ refusal_name refusal ∷ []

-- the dialect that a field names
abbrev pub dialect_named : List ℕ → Option Dialect
dialect_named field = if bytes_eq field (codes "unix") then Some unix else (if bytes_eq field (codes "windows") then Some windows else None)

-- what a field calls a dialect
abbrev pub dialect_name : Dialect → List ℕ
dialect_name unix = codes "unix"
dialect_name windows = codes "windows"

-- what a dialect gives, or a bad line where none is named
abbrev pub in_named : (Dialect → List (List ℕ)) → Option Dialect → List (List ℕ)
in_named fields None = bad_line
in_named fields (Some d) = fields d

-- the fields of the reply to a command on a path and a dialect to convert it to
abbrev pub convert_reply_in : Dialect → List ℕ → List ℕ → Dialect → List (List ℕ)
convert_reply_in d command path target =
    if bytes_eq command (codes "convert") then converted_reply (Ok (converted d target path))
    else (if bytes_eq command (codes "convert_checked") then converted_reply (converted_checked d target path) else bad_line)

-- the fields of the reply to a command on two texts: a base and a path, or the name of a dialect and a path
abbrev pub pair_reply_in : Dialect → List ℕ → List ℕ → List ℕ → List (List ℕ)
pair_reply_in d command first path =
    if bytes_eq command (codes "join") then joined_reply (push d first path) None
    else (if bytes_eq command (codes "join_checked") then joined_reply (push d first path) (fault d path)
    else in_named (convert_reply_in d command path) (dialect_named first))

-- the fields of the reply that names the dialect that a path looks like
abbrev pub derived_reply : List ℕ → List (List ℕ)
derived_reply path = ok_reply (dialect_name (derived_dialect path) ∷ [])

-- the fields of the reply to the fields of a line that names no dialect
abbrev pub bare_reply : List (List ℕ) → List (List ℕ)
bare_reply (command ∷ path ∷ []) = if bytes_eq command (codes "derive") then derived_reply path else bad_line
bare_reply fields = bad_line

-- the fields of the reply to the fields of a line
abbrev pub reply_fields : List (List ℕ) → List (List ℕ)
reply_fields (command ∷ dialect ∷ first ∷ path ∷ []) = in_named (λ d. pair_reply_in d command first path) (dialect_named dialect)
reply_fields (command ∷ dialect ∷ path ∷ []) = in_named (λ d. reply_in d command path) (dialect_named dialect)
reply_fields fields = bare_reply fields

-- what is given for the first line of an input was put behind other bytes, and what stands behind its line feed is left; of an input with no line feed nothing was answered
abbrev pub AnswersFirst : (List ℕ → List ℕ) → List ℕ → Option (List ℕ) → List ℕ → List ℕ → Type 0
AnswersFirst given input None old new = (split_lines input ≡ input ∷ []) × (new ≡ old)
AnswersFirst given input (Some left) old new = (line : List ℕ) × (split_lines input ≡ line ∷ split_lines left) × (new ≡ old ++ given line)

-- the reply to a line
abbrev pub reply : List ℕ → List ℕ
reply line = reply_line (reply_fields (fields_of line))

abbrev pub replies_to : List (List ℕ) → List ℕ
replies_to lines = flat_map reply lines

-- the replies to a whole input
abbrev pub answers : List ℕ → List ℕ
answers input = replies_to (lines_of input)
