-- Paths in the other dialect, told apart, and made absolute.
use Rattle.std.proofs.Common.{◌≡◌, codes, [], ◌∷◌, refl, Some, None, Ok, Err}
use Rattle.typed_path.specs.declared.errors.CheckedPathError.TheVariants.{InvalidFilename, UnexpectedPrefix, UnexpectedRoot}
use Rattle.typed_path.specs.components.{unix, windows, parts_of}
use Rattle.typed_path.specs.conversions.{converted, converted_checked, absolute_from, absolute_under}
use Rattle.typed_path.specs.typed.{derived_dialect}
use Rattle.typed_path.proofs.examples.Words.{named}

-- Windows to Unix
drive_with_a_root_becomes_the_root : converted windows unix (codes "C:\\x") ≡ codes "/x"
drive_with_a_root_becomes_the_root = refl

drive_without_a_root_becomes_a_name : converted windows unix (codes "C:tmp") ≡ codes "C:/tmp"
drive_without_a_root_becomes_a_name = refl

share_becomes_the_root : converted windows unix (codes "\\\\s\\h\\x") ≡ codes "/x"
share_becomes_the_root = refl

dot_read_verbatim_is_written : converted windows unix (codes "\\\\?\\C:\\a\\.\\b") ≡ codes "/a/./b"
dot_read_verbatim_is_written = refl

dot_behind_a_drive_is_written : converted windows unix (codes "C:.\\a") ≡ codes "C:/./a"
dot_behind_a_drive_is_written = refl

dot_behind_a_drive_is_no_component : parts_of unix (converted windows unix (codes "C:.\\a")) ≡ named "C:" ∷ named "a" ∷ []
dot_behind_a_drive_is_no_component = refl

slash_in_a_name_is_refused : converted_checked windows unix (codes "\\\\?\\c:/x") ≡ Err UnexpectedRoot
slash_in_a_name_is_refused = refl

-- Unix to Windows
drive_as_a_name_replaces : converted unix windows (codes "/tmp/a:b") ≡ codes "a:b"
drive_as_a_name_replaces = refl

drive_as_a_name_is_refused : converted_checked unix windows (codes "/tmp/a:b") ≡ Err UnexpectedPrefix
drive_as_a_name_is_refused = refl

colon_in_a_name_is_refused : converted_checked unix windows (codes "/tmp/ab:c") ≡ Err InvalidFilename
colon_in_a_name_is_refused = refl

drive_behind_the_root_replaces : converted unix windows (codes "/C:") ≡ codes "C:"
drive_behind_the_root_replaces = refl

drive_behind_the_root_is_refused : converted_checked unix windows (codes "/C:") ≡ Err UnexpectedPrefix
drive_behind_the_root_is_refused = refl

backslash_in_a_name_stays : converted unix windows (codes "a\\b") ≡ codes "a\\b"
backslash_in_a_name_stays = refl

backslash_in_a_name_is_accepted : converted_checked unix windows (codes "a\\b") ≡ Ok (codes "a\\b")
backslash_in_a_name_is_accepted = refl

vertical_bar_is_refused : converted_checked unix windows (codes "/tmp/|invalid|/foo.txt") ≡ Err InvalidFilename
vertical_bar_is_refused = refl

allowed_names_are_accepted : converted_checked unix windows (codes "/tmp/foo.txt") ≡ Ok (codes "\\tmp\\foo.txt")
allowed_names_are_accepted = refl

first_dot_alone_stays : converted unix windows (codes "./a/./b") ≡ codes ".\\a\\b"
first_dot_alone_stays = refl

-- to its own dialect: a copy, and checked pushes all the same
windows_stays : converted windows windows (codes "C:\\x") ≡ codes "C:\\x"
windows_stays = refl

drive_is_refused_in_windows : converted_checked windows windows (codes "C:\\x") ≡ Err UnexpectedPrefix
drive_is_refused_in_windows = refl

share_becomes_the_root_in_windows : converted_checked windows windows (codes "\\\\s\\h\\x") ≡ Ok (codes "\\x")
share_becomes_the_root_in_windows = refl

unix_stays : converted unix unix (codes "a//b") ≡ codes "a//b"
unix_stays = refl

unix_is_written_anew_when_checked : converted_checked unix unix (codes "a//b") ≡ Ok (codes "a/b")
unix_is_written_anew_when_checked = refl

-- which dialect a text looks like
empty_text_is_unix : derived_dialect [] ≡ unix
empty_text_is_unix = refl

backslash_is_windows : derived_dialect (codes "\\") ≡ windows
backslash_is_windows = refl

server_with_slashes_is_windows : derived_dialect (codes "//a/b") ≡ windows
server_with_slashes_is_windows = refl

three_slashes_are_unix : derived_dialect (codes "///a") ≡ unix
three_slashes_are_unix = refl

drive_is_windows : derived_dialect (codes "a:b") ≡ windows
drive_is_windows = refl

name_is_unix : derived_dialect (codes "a") ≡ unix
name_is_unix = refl

drive_and_names_are_windows : derived_dialect (codes "C:\\path\\to\\file.txt") ≡ windows
drive_and_names_are_windows = refl

names_behind_a_drive_in_unix : converted windows unix (codes "C:\\path\\to\\file.txt") ≡ codes "/path/to/file.txt"
names_behind_a_drive_in_unix = refl

-- absolute texts
relative_unix : absolute_from unix (codes "/home/u") (codes "a/../b") ≡ Some (codes "/home/u/b")
relative_unix = refl

absolute_unix : absolute_from unix (codes "/home/u") (codes "/a/b/../c/./d") ≡ Some (codes "/a/c/d")
absolute_unix = refl

relative_directory_is_ambiguous : absolute_from unix (codes "u") (codes "a") ≡ None
relative_directory_is_ambiguous = refl

absolute_windows : absolute_from windows (codes "/home/u") (codes "C:\\a\\..\\b") ≡ Some (codes "C:\\b")
absolute_windows = refl

root_without_a_drive_is_ambiguous : absolute_from windows (codes "/home/u") (codes "\\a") ≡ None
root_without_a_drive_is_ambiguous = refl

drive_without_a_root_is_ambiguous : absolute_from windows (codes "/home/u") (codes "C:something") ≡ None
drive_without_a_root_is_ambiguous = refl

server_without_a_share_is_ambiguous : absolute_from windows (codes "/home/u") (codes "\\\\server") ≡ None
server_without_a_share_is_ambiguous = refl

relative_to_a_drive : absolute_under windows windows (codes "C:\\work") (codes "a\\..\\b") ≡ Some (codes "C:\\work\\b")
relative_to_a_drive = refl

root_keeps_the_drive_of_the_directory : absolute_under windows windows (codes "C:\\work") (codes "\\a") ≡ Some (codes "C:\\a")
root_keeps_the_drive_of_the_directory = refl

other_drive_is_ambiguous : absolute_under windows windows (codes "C:\\work") (codes "D:a") ≡ None
other_drive_is_ambiguous = refl

relative_to_a_verbatim_drive : absolute_under windows windows (codes "\\\\?\\C:\\work") (codes "../a") ≡ Some (codes "\\\\?\\C:\\a")
relative_to_a_verbatim_drive = refl

relative_to_a_drive_on_unix : absolute_under unix windows (codes "C:\\work") (codes "a") ≡ Some (codes "/work/a")
relative_to_a_drive_on_unix = refl
