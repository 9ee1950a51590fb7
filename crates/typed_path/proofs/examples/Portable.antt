-- Names that may be devices, and paths that every system takes as they are written, by computation.
use Prim.Native.String.{String}
use Rattle.std.proofs.Common.{◌≡◌, codes, [], ◌∷◌, ◌++◌, Bool, true, false, Option, Some, None, replicate, refl}
use Rattle.std.specs.Str.{is_utf8, chars}
use Rattle.std.proofs.Math.Utf8.{encode}
use Rattle.typed_path.specs.declared.errors.CheckedPathError.TheVariants.{PathTraversalAttack, UnexpectedRoot}
use Rattle.typed_path.specs.declared.errors.PortableError.{PortableError}
use Rattle.typed_path.specs.declared.errors.PortableError.TheVariants.{Prefix, Forbidden, Device, Ending, TooLong, NotText}
use Rattle.typed_path.specs.declared.errors.JoinError.TheVariants.{Portable, Checked}
use Rattle.typed_path.specs.components.{Dialect, unix, windows}
use Rattle.typed_path.specs.queries.{is_portable_name, may_be_device, name_may_be_device, portable_fault, unportable}
use Rattle.typed_path.specs.changes.{join_fault}

abbrev told : String → Bool
told name = name_may_be_device (codes name)

abbrev refused : Dialect → String → Option PortableError
refused d path = portable_fault d (codes path)

-- which names may be devices
device : told "NUL" ≡ true
device = refl

device_in_small_letters : told "aux" ≡ true
device_in_small_letters = refl

device_with_an_extension : told "con.tar.gz" ≡ true
device_with_an_extension = refl

device_and_spaces : told "prn  " ≡ true
device_and_spaces = refl

device_with_spaces_before_its_dot : told "nul .txt" ≡ true
device_with_spaces_before_its_dot = refl

device_before_a_colon : told "con:a" ≡ true
device_before_a_colon = refl

device_with_an_extension_before_a_colon : told "nul.x:y" ≡ true
device_with_an_extension_before_a_colon = refl

digit_none : told "com0" ≡ true
digit_none = refl

raised_digit : name_may_be_device (codes "COM" ++ 194 ∷ 185 ∷ []) ≡ true
raised_digit = refl

raised_digit_with_an_extension : name_may_be_device (codes "lpt" ++ 194 ∷ 179 ∷ codes ".x") ≡ true
raised_digit_with_an_extension = refl

input_of_the_console : told "conin$" ≡ true
input_of_the_console = refl

output_of_the_console : told "CONOUT$.log" ≡ true
output_of_the_console = refl

space_in_front : told " nul" ≡ false
space_in_front = refl

dot_in_front : told ".con" ≡ false
dot_in_front = refl

colon_in_front : told ":con" ≡ false
colon_in_front = refl

longer_name : told "com10" ≡ false
longer_name = refl

shorter_name : told "co" ≡ false
shorter_name = refl

name_of_one_byte : told "c" ≡ false
name_of_one_byte = refl

device_behind_a_dot : told "a.con" ≡ false
device_behind_a_dot = refl

capital_of_another_script : name_may_be_device (codes "CON" ++ 196 ∷ 177 ∷ codes "N$") ≡ false
capital_of_another_script = refl

-- which paths have one
device_among_names : may_be_device unix (codes "a/nul/b") ≡ true
device_among_names = refl

device_behind_a_backslash_on_unix : may_be_device unix (codes "a\\nul") ≡ false
device_behind_a_backslash_on_unix = refl

device_behind_a_backslash_on_windows : may_be_device windows (codes "a\\nul") ≡ true
device_behind_a_backslash_on_windows = refl

device_that_is_a_prefix : may_be_device windows (codes "\\\\.\\COM1") ≡ false
device_that_is_a_prefix = refl

device_of_a_share : may_be_device windows (codes "\\\\con\\nul\\a") ≡ false
device_of_a_share = refl

empty_path_has_none : may_be_device unix [] ≡ false
empty_path_has_none = refl

-- which paths are portable
empty_path : refused unix "" ≡ None
empty_path = refl

one_byte : refused windows "a" ≡ None
unfolding is_utf8 chars encode
one_byte = refl

names_between_slashes : refused windows "a/b.txt/c d" ≡ None
unfolding is_utf8 chars encode
names_between_slashes = refl

names_between_backslashes : refused windows "a\\b.txt" ≡ None
unfolding is_utf8 chars encode
names_between_backslashes = refl

separators_side_by_side : refused unix "a//b/" ≡ None
unfolding is_utf8 chars encode
separators_side_by_side = refl

root : refused unix "/a" ≡ None
unfolding is_utf8 chars encode
root = refl

root_of_windows : refused windows "\\a" ≡ None
unfolding is_utf8 chars encode
root_of_windows = refl

current_and_parents : refused unix "./../a/../." ≡ None
unfolding is_utf8 chars encode
current_and_parents = refl

dot_in_front_of_a_name : refused windows ".a" ≡ None
unfolding is_utf8 chars encode
dot_in_front_of_a_name = refl

name_in_another_script : portable_fault windows (230 ∷ 151 ∷ 165 ∷ codes "/a") ≡ None
unfolding is_utf8 chars encode
name_in_another_script = refl

-- and why others are not
drive : refused windows "C:\\a" ≡ Some Prefix
drive = refl

drive_alone : refused windows "C:" ≡ Some Prefix
drive_alone = refl

drive_on_unix : refused unix "C:/a" ≡ Some Forbidden
drive_on_unix = refl

share : refused windows "\\\\s\\h\\a" ≡ Some Prefix
share = refl

share_on_unix : refused unix "//s/h/a" ≡ None
unfolding is_utf8 chars encode
share_on_unix = refl

device_prefix : refused windows "\\\\.\\NUL" ≡ Some Prefix
device_prefix = refl

verbatim_prefix : refused windows "\\\\?\\x\\a" ≡ Some Prefix
verbatim_prefix = refl

verbatim_drive : refused windows "\\\\?\\C:\\a" ≡ Some Prefix
verbatim_drive = refl

verbatim_share : refused windows "\\\\?\\UNC\\s\\h\\a" ≡ Some Prefix
verbatim_share = refl

backslash_on_unix : refused unix "a\\b" ≡ Some Forbidden
backslash_on_unix = refl

stream : refused windows "a:b" ≡ Some Prefix
stream = refl

stream_of_a_longer_name : refused windows "ab:c" ≡ Some Forbidden
stream_of_a_longer_name = refl

pattern : refused unix "*.txt" ≡ Some Forbidden
pattern = refl

control_byte : portable_fault windows (97 ∷ 1 ∷ []) ≡ Some Forbidden
control_byte = refl

line_feed : portable_fault unix (97 ∷ 10 ∷ 98 ∷ []) ≡ Some Forbidden
line_feed = refl

last_control_byte : portable_fault windows (97 ∷ 127 ∷ []) ≡ Some Forbidden
last_control_byte = refl

device_is_refused : refused windows "a/nul" ≡ Some Device
unfolding is_utf8 chars encode
device_is_refused = refl

device_with_a_space_is_refused : refused unix "a/nul .txt/b" ≡ Some Device
unfolding is_utf8 chars encode
device_with_a_space_is_refused = refl

device_and_a_colon_is_forbidden : refused windows "x\\nul:a" ≡ Some Forbidden
unfolding is_utf8 chars encode
device_and_a_colon_is_forbidden = refl

dot_at_the_end : refused unix "x." ≡ Some Ending
dot_at_the_end = refl

dots_alone : refused unix "a/..." ≡ Some Ending
unfolding is_utf8 chars encode
dots_alone = refl

space_at_the_end : refused unix "x /y" ≡ Some Ending
space_at_the_end = refl

space_alone : refused windows " " ≡ Some Ending
space_alone = refl

longest_name_is_portable : portable_fault unix (replicate 255 97) ≡ None
unfolding is_utf8 chars encode
longest_name_is_portable = refl

longer_name_is_refused : portable_fault windows (replicate 256 97) ≡ Some TooLong
longer_name_is_refused = refl

bytes_that_are_no_text : portable_fault unix (97 ∷ 47 ∷ 255 ∷ []) ≡ Some NotText
unfolding is_utf8 chars encode
bytes_that_are_no_text = refl

first_fault_is_told : refused windows "x./nul/y:" ≡ Some Ending
first_fault_is_told = refl

-- for which component
component_is_lent : unportable unix (codes "a/nul .txt/b.") ≡ Some (codes "nul .txt", Device)
unfolding is_utf8 chars encode
component_is_lent = refl

prefix_is_lent : unportable windows (codes "c:/a.") ≡ Some (codes "c:", Prefix)
prefix_is_lent = refl

none_is_lent : unportable windows (codes "a/b") ≡ None
unfolding is_utf8 chars encode
none_is_lent = refl

-- which names are portable
name : is_portable_name (codes "a.txt") ≡ true
unfolding is_utf8 chars encode
name = refl

no_name : is_portable_name [] ≡ false
no_name = refl

-- what a portable join refuses
portable_path_is_joined : join_fault unix (codes "a/../b") ≡ None
unfolding is_utf8 chars encode
portable_path_is_joined = refl

name_that_offends : join_fault unix (codes "/a:b") ≡ Some (Portable Forbidden)
name_that_offends = refl

path_that_leads_out : join_fault windows (codes "a\\..\\..") ≡ Some (Checked PathTraversalAttack)
unfolding is_utf8 chars encode
path_that_leads_out = refl

path_with_a_root : join_fault windows (codes "/a") ≡ Some (Checked UnexpectedRoot)
unfolding is_utf8 chars encode
path_with_a_root = refl
