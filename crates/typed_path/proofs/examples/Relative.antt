-- The paths that lead from a base to another, by computation.
use Rattle.std.proofs.Common.{◌≡◌, codes, refl, Some, None}
use Rattle.typed_path.specs.components.{unix, windows}
use Rattle.typed_path.proofs.examples.Words.{led, pushed}

-- on Unix
name_below : led unix "a" "a/b" ≡ Some (codes "b")
name_below = refl

name_above : led unix "a/b" "a" ≡ Some (codes "..")
name_above = refl

names_beside : led unix "/a/c/d" "/a/b" ≡ Some (codes "../../b")
names_beside = refl

no_steps : led unix "a" "a/." ≡ Some (codes ".")
no_steps = refl

nothing_from_nothing : led unix "" "" ≡ Some (codes ".")
nothing_from_nothing = refl

name_from_nothing : led unix "" "a" ≡ Some (codes "a")
name_from_nothing = refl

names_that_are_taken_away : led unix "a" "a/../b" ≡ Some (codes "../b")
names_that_are_taken_away = refl

base_with_names_that_are_taken_away : led unix "/x/../a/" "/a/b" ≡ Some (codes "b")
base_with_names_that_are_taken_away = refl

parent_that_is_left_over : led unix "a" "../b" ≡ Some (codes "../../b")
parent_that_is_left_over = refl

parents_of_both : led unix ".." "../../x" ≡ Some (codes "../x")
parents_of_both = refl

name_behind_the_parents_of_both : led unix "../a" "../b" ≡ Some (codes "../b")
name_behind_the_parents_of_both = refl

path_up_to_the_parents_of_both : led unix "../a" ".." ≡ Some (codes "..")
path_up_to_the_parents_of_both = refl

base_above_the_path : led unix ".." "a" ≡ None
base_above_the_path = refl

base_below_its_parents : led unix "../b" "a" ≡ None
base_below_its_parents = refl

root_from_below : led unix "/a/b" "/" ≡ Some (codes "../..")
root_from_below = refl

parents_behind_the_root : led unix "/b" "/../a" ≡ Some (codes "../a")
parents_behind_the_root = refl

root_from_a_name : led unix "a" "/a" ≡ None
root_from_a_name = refl

name_from_a_root : led unix "/a" "a" ≡ None
name_from_a_root = refl

backslash_in_a_name : led unix "a" "a\\b" ≡ Some (codes "../a\\b")
backslash_in_a_name = refl

drive_is_a_name : led unix "" "C:" ≡ Some (codes "C:")
drive_is_a_name = refl

-- on Windows
windows_drive_below : led windows "C:\\a" "C:\\a\\b" ≡ Some (codes "b")
windows_drive_below = refl

windows_drive_in_either_case : led windows "C:\\y" "c:\\x" ≡ Some (codes "..\\x")
windows_drive_in_either_case = refl

windows_names_in_either_case : led windows "C:\\X" "C:\\x" ≡ Some (codes "..\\x")
windows_names_in_either_case = refl

windows_separators_of_either_kind : led windows "C:/a/x/.." "C:\\a\\b/c" ≡ Some (codes "b\\c")
windows_separators_of_either_kind = refl

windows_other_drive : led windows "C:\\x" "D:\\x" ≡ None
windows_other_drive = refl

windows_drive_without_a_root : led windows "C:\\" "C:a" ≡ None
windows_drive_without_a_root = refl

windows_parents_of_a_drive_without_a_root : led windows "C:" "C:..\\a" ≡ Some (codes "..\\a")
windows_parents_of_a_drive_without_a_root = refl

windows_parents_of_a_drive_with_a_root : led windows "C:\\" "C:\\..\\a" ≡ Some (codes "a")
windows_parents_of_a_drive_with_a_root = refl

windows_drive_whose_base_is_above : led windows "C:.." "C:a" ≡ None
windows_drive_whose_base_is_above = refl

windows_share_below : led windows "\\\\s\\h\\a" "\\\\s\\h\\b" ≡ Some (codes "..\\b")
windows_share_below = refl

windows_share_with_the_root_that_it_implies : led windows "\\\\s\\h\\" "\\\\s\\h" ≡ Some (codes ".")
windows_share_with_the_root_that_it_implies = refl

windows_verbatim_drive_from_a_drive : led windows "C:\\x" "\\\\?\\C:\\x" ≡ None
windows_verbatim_drive_from_a_drive = refl

windows_verbatim_names : led windows "\\\\?\\C:\\b/c" "\\\\?\\C:\\a" ≡ Some (codes "..\\a")
windows_verbatim_names = refl

windows_verbatim_name_with_a_slash : led windows "\\\\?\\C:\\b" "\\\\?\\C:\\a/c" ≡ None
windows_verbatim_name_with_a_slash = refl

windows_name_as_a_drive : led windows "a" "a\\C:" ≡ Some (codes ".\\C:")
windows_name_as_a_drive = refl

windows_name_as_a_drive_behind_a_parent : led windows "" "C:b" ≡ None
windows_name_as_a_drive_behind_a_parent = refl

windows_name_as_a_drive_behind_names : led windows "a" "b\\C:" ≡ Some (codes "..\\b\\C:")
windows_name_as_a_drive_behind_names = refl

windows_rooted_from_a_name : led windows "a" "\\a" ≡ None
windows_rooted_from_a_name = refl

windows_rooted_from_a_root : led windows "/b" "\\a" ≡ Some (codes "..\\a")
windows_rooted_from_a_root = refl

-- a `..` takes nothing from a verbatim base whose last component is `.`, so what is found there does not lead back
windows_step_from_a_verbatim_current : led windows "\\\\?\\C:\\b\\." "\\\\?\\C:\\x" ≡ Some (codes "..\\x")
windows_step_from_a_verbatim_current = refl

windows_verbatim_current_stays : pushed windows "\\\\?\\C:\\b\\." "..\\x" ≡ codes "\\\\?\\C:\\b\\.\\x"
windows_verbatim_current_stays = refl
