-- What lies within what, by computation.
use Rattle.std.proofs.Common.{◌≡◌, true, false, refl, codes}
use Rattle.typed_path.specs.components.{unix, windows}
use Rattle.typed_path.specs.changes.{push}
use Rattle.typed_path.specs.places.{is_within}
use Rattle.typed_path.proofs.examples.Words.{within}

-- on Unix
name_below_the_base : within unix "a/b" "a" ≡ true
name_below_the_base = refl

base_itself_spelled_otherwise : within unix "./a//b/.." "a/." ≡ true
base_itself_spelled_otherwise = refl

base_below_the_path : within unix "a" "a/b" ≡ false
base_below_the_path = refl

longer_name : within unix "ab/c" "a" ≡ false
longer_name = refl

parent_that_is_left_over : within unix "../a/b" "a" ≡ false
parent_that_is_left_over = refl

parent_that_is_left_over_of_both : within unix "../a/b" "../a" ≡ true
parent_that_is_left_over_of_both = refl

parent_past_the_first_name : within unix "a/../../b/c" "../b" ≡ true
parent_past_the_first_name = refl

name_that_is_taken_away : within unix "a/../b" "a" ≡ false
name_that_is_taken_away = refl

names_that_are_all_taken_away : within unix "a/b/../.." "" ≡ true
names_that_are_all_taken_away = refl

name_within_the_parent : within unix "a" ".." ≡ true
name_within_the_parent = refl

parents_within_fewer : within unix "../.." ".." ≡ false
parents_within_fewer = refl

parents_within_more : within unix "../a" "../.." ≡ true
parents_within_more = refl

parent_within_nothing : within unix "../a" "" ≡ false
parent_within_nothing = refl

empty_path_within_the_current_directory : within unix "" "." ≡ true
empty_path_within_the_current_directory = refl

parent_behind_the_root : within unix "/../a" "/" ≡ true
parent_behind_the_root = refl

name_within_the_root : within unix "a" "/" ≡ true
name_within_the_root = refl

parents_within_the_root : within unix "../.." "/" ≡ true
parents_within_the_root = refl

root_within_a_name : within unix "/a" "a" ≡ false
root_within_a_name = refl

root_within_the_parent : within unix "/" ".." ≡ false
root_within_the_parent = refl

-- on Windows
drive_of_either_case : within windows "c:\\a\\b" "C:\\a" ≡ true
drive_of_either_case = refl

name_of_another_case : within windows "c:\\a" "C:\\A" ≡ false
name_of_another_case = refl

separators_are_mixed : within windows "a\\b/c" "a/b" ≡ true
separators_are_mixed = refl

name_on_a_drive_without_a_root : within windows "C:a" "C:" ≡ true
name_on_a_drive_without_a_root = refl

parent_on_a_drive_without_a_root : within windows "C:..\\a" "C:" ≡ false
parent_on_a_drive_without_a_root = refl

name_within_the_parent_on_a_drive : within windows "C:a" "C:.." ≡ true
name_within_the_parent_on_a_drive = refl

parent_behind_the_root_of_a_drive : within windows "C:\\..\\a" "C:\\" ≡ true
parent_behind_the_root_of_a_drive = refl

root_of_a_drive_within_the_drive : within windows "C:\\a" "C:" ≡ false
root_of_a_drive_within_the_drive = refl

drive_within_its_root : within windows "C:a" "C:\\" ≡ false
drive_within_its_root = refl

parent_behind_a_share : within windows "\\\\s\\h\\..\\a" "\\\\s\\h" ≡ true
parent_behind_a_share = refl

share_without_and_with_its_root : within windows "\\\\s\\h" "\\\\s\\h\\" ≡ true
share_without_and_with_its_root = refl

verbatim_drive_within_the_drive : within windows "\\\\?\\C:\\a" "C:\\a" ≡ false
verbatim_drive_within_the_drive = refl

verbatim_name_that_is_taken_away : within windows "\\\\?\\C:\\a\\..\\b" "\\\\?\\C:\\" ≡ true
verbatim_name_that_is_taken_away = refl

slash_in_a_verbatim_name : within windows "\\\\?\\C:\\a/..\\b" "\\\\?\\C:\\b" ≡ false
slash_in_a_verbatim_name = refl

device_of_its_own : within windows "\\\\.\\COM1\\a" "\\\\.\\COM1" ≡ true
device_of_its_own = refl

root_without_a_drive_within_one : within windows "\\a" "C:\\" ≡ false
root_without_a_drive_within_one = refl

drive_within_the_root_without_one : within windows "C:\\a" "\\" ≡ false
drive_within_the_root_without_one = refl

names_within_the_root_without_a_drive : within windows "..\\a" "\\" ≡ true
names_within_the_root_without_a_drive = refl

-- what a checked join accepts, joined to a base of Windows that does not keep its prefix, and to some that do
joined_to_a_server : is_within windows (push windows (codes "\\\\s") (codes "a")) (codes "\\\\s") ≡ false
joined_to_a_server = refl

joined_to_a_slash : is_within windows (push windows (codes "/") (codes "a")) (codes "/") ≡ false
joined_to_a_slash = refl

joined_to_a_verbatim_unc_name : is_within windows (push windows (codes "\\\\?\\UNC") (codes "a")) (codes "\\\\?\\UNC") ≡ false
joined_to_a_verbatim_unc_name = refl

joined_to_a_drive_that_leads_up : is_within windows (push windows (codes "C:..") (codes "a/../b")) (codes "c:..") ≡ true
joined_to_a_drive_that_leads_up = refl

joined_to_a_root_without_a_drive : is_within windows (push windows (codes "\\") (codes "a")) (codes "\\") ≡ true
joined_to_a_root_without_a_drive = refl

joined_to_a_verbatim_name_that_is_a_parent : is_within windows (push windows (codes "\\\\?\\C:\\..\\b") (codes "a/..")) (codes "\\\\?\\C:\\..\\b") ≡ true
joined_to_a_verbatim_name_that_is_a_parent = refl

joined_to_a_drive_with_mixed_marks : is_within windows (push windows (codes "//?/C:/..") (codes "a")) (codes "//?/C:/..") ≡ true
joined_to_a_drive_with_mixed_marks = refl
