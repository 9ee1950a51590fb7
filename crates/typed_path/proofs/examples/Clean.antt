-- Clean texts and routes, by computation.
use Rattle.std.proofs.Common.{◌≡◌, [], ◌∷◌, codes, refl}
use Rattle.typed_path.specs.components.{unix, windows, verbatim_disk, prefix, root, parent, normal, disk}
use Rattle.typed_path.specs.places.{clean_text, route}

-- on Unix
nothing_is_the_current_directory : clean_text unix (codes "") ≡ codes "."
nothing_is_the_current_directory = refl

name_taken_away : clean_text unix (codes "a/..") ≡ codes "."
name_taken_away = refl

parent_stays : clean_text unix (codes "../a") ≡ codes "../a"
parent_stays = refl

parent_left_over : clean_text unix (codes "a/../../b") ≡ codes "../b"
parent_left_over = refl

parents_left_over : clean_text unix (codes "../../a/../..") ≡ codes "../../.."
parents_left_over = refl

no_parent_above_the_root : clean_text unix (codes "/../a") ≡ codes "/a"
no_parent_above_the_root = refl

doubled_separators : clean_text unix (codes "//a//b/./") ≡ codes "/a/b"
doubled_separators = refl

root_alone : clean_text unix (codes "/a/..") ≡ codes "/"
root_alone = refl

drive_is_a_name_of_unix : clean_text unix (codes "a/../C:") ≡ codes "C:"
drive_is_a_name_of_unix = refl

route_of_a_relative_path : route unix (codes "a/../../b/./c") ≡ parent ∷ normal (codes "b") ∷ normal (codes "c") ∷ []
route_of_a_relative_path = refl

route_of_an_absolute_path : route unix (codes "/a/../../b") ≡ root ∷ normal (codes "b") ∷ []
route_of_an_absolute_path = refl

route_to_nowhere_else : route unix (codes "a/..") ≡ route unix (codes "")
route_to_nowhere_else = refl

-- on Windows
no_drive_is_gained : clean_text windows (codes "a\\..\\C:\\b") ≡ codes ".\\C:\\b"
no_drive_is_gained = refl

current_before_a_drive : clean_text windows (codes ".\\C:") ≡ codes ".\\C:"
current_before_a_drive = refl

no_share_is_gained : clean_text windows (codes "a\\..\\\\\\s\\h") ≡ codes "s\\h"
no_share_is_gained = refl

parent_behind_a_drive : clean_text windows (codes "C:..\\a") ≡ codes "C:..\\a"
parent_behind_a_drive = refl

parent_behind_the_root_of_a_drive : clean_text windows (codes "c:/../a") ≡ codes "c:\\a"
parent_behind_the_root_of_a_drive = refl

drive_alone : clean_text windows (codes "C:a\\..") ≡ codes "C:"
drive_alone = refl

drive_read_from_a_name : clean_text windows (codes "C:.\\C:a") ≡ codes "C:C:a"
drive_read_from_a_name = refl

root_of_a_share : clean_text windows (codes "\\\\s\\h\\..\\a") ≡ codes "\\\\s\\h\\a"
root_of_a_share = refl

share_alone : clean_text windows (codes "//s/h") ≡ codes "//s/h"
share_alone = refl

share_with_its_root : clean_text windows (codes "//s/h/") ≡ codes "//s/h\\"
share_with_its_root = refl

root_put_in : clean_text windows (codes "\\\\?\\C:a") ≡ codes "\\\\?\\C:\\a"
root_put_in = refl

root_of_nothing_left : clean_text windows (codes "\\\\?\\C:a\\..") ≡ codes "\\\\?\\C:"
root_of_nothing_left = refl

slashes_of_a_verbatim_name : clean_text windows (codes "\\\\?\\C:\\a/..\\b\\.\\..") ≡ codes "\\\\?\\C:\\a/.."
slashes_of_a_verbatim_name = refl

verbatim_prefix_with_slashes : clean_text windows (codes "//?/C:/a/../b") ≡ codes "//?/C:\\b"
verbatim_prefix_with_slashes = refl

route_behind_a_drive : route windows (codes "c:a\\..\\..\\b") ≡ prefix (disk 67) ∷ parent ∷ normal (codes "b") ∷ []
route_behind_a_drive = refl

route_behind_an_implied_root : route windows (codes "\\\\?\\C:..\\b") ≡ prefix (verbatim_disk 67) ∷ root ∷ normal (codes "b") ∷ []
route_behind_an_implied_root = refl
