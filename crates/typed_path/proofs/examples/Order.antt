-- When two texts are the same path, and which is less.
use Rattle.std.proofs.Common.{codes, [], ◌≡◌, refl, true, false}
use Rattle.std.specs.declared.cmp.Ordering.TheVariants.{Less, Equal, Greater}
use Rattle.typed_path.specs.components.{unix, windows}
use Rattle.typed_path.specs.order.{IsSame, path_cmp}
use Rattle.typed_path.specs.queries.{path_starts_with, path_ends_with}

-- the same by components
marks_with_slashes : IsSame windows (codes "//?/x/a") (codes "\\\\?\\x\\a")
marks_with_slashes = refl

letters_of_drives : IsSame windows (codes "c:\\a") (codes "C:\\a")
letters_of_drives = refl

separators_and_dots : IsSame windows (codes "c:/a/.") (codes "C:\\a")
separators_and_dots = refl

trailing_separators : IsSame unix (codes "a/b//") (codes "a/./b")
trailing_separators = refl

same_are_equal : path_cmp windows (codes "c:\\a") (codes "C:/a") ≡ Equal
same_are_equal = refl

-- the same, and yet no start of each other as they are written
case_of_drives_counts_at_the_start : path_starts_with windows (codes "c:\\a") (codes "C:") ≡ false
case_of_drives_counts_at_the_start = refl

marks_count_at_the_start : path_starts_with windows (codes "\\\\?\\x") (codes "//?/x") ≡ false
marks_count_at_the_start = refl

-- starts and ends by how components are written
roots_are_written_alike : path_starts_with windows (codes "/a") (codes "\\") ≡ true
roots_are_written_alike = refl

name_at_the_end_counts_as_a_drive : path_ends_with windows (codes "a\\C:") (codes "C:") ≡ true
name_at_the_end_counts_as_a_drive = refl

-- Windows, least first
verbatim_before_verbatim_unc : path_cmp windows (codes "\\\\?\\x") (codes "\\\\?\\UNC\\s\\h") ≡ Less
verbatim_before_verbatim_unc = refl

verbatim_unc_before_verbatim_disk : path_cmp windows (codes "\\\\?\\UNC\\s\\h") (codes "\\\\?\\C:") ≡ Less
verbatim_unc_before_verbatim_disk = refl

verbatim_disk_before_device : path_cmp windows (codes "\\\\?\\C:") (codes "\\\\.\\d") ≡ Less
verbatim_disk_before_device = refl

device_before_unc : path_cmp windows (codes "\\\\.\\d") (codes "\\\\s\\h") ≡ Less
device_before_unc = refl

unc_before_disk : path_cmp windows (codes "\\\\s\\h") (codes "C:") ≡ Less
unc_before_disk = refl

disk_before_root : path_cmp windows (codes "C:") (codes "\\a") ≡ Less
disk_before_root = refl

root_before_current : path_cmp windows (codes "\\a") (codes ".\\a") ≡ Less
root_before_current = refl

current_before_parent : path_cmp windows (codes ".\\a") (codes "..") ≡ Less
current_before_parent = refl

parent_before_name : path_cmp windows (codes "..") (codes "a") ≡ Less
parent_before_name = refl

-- Unix, least first
unix_empty_before_root : path_cmp unix [] (codes "/") ≡ Less
unix_empty_before_root = refl

unix_root_before_what_is_in_it : path_cmp unix (codes "/") (codes "/a") ≡ Less
unix_root_before_what_is_in_it = refl

unix_root_before_current : path_cmp unix (codes "/a") (codes ".") ≡ Less
unix_root_before_current = refl

unix_current_before_parent : path_cmp unix (codes ".") (codes "..") ≡ Less
unix_current_before_parent = refl

unix_parent_before_name : path_cmp unix (codes "..") (codes "a") ≡ Less
unix_parent_before_name = refl

unix_name_before_what_is_in_it : path_cmp unix (codes "a") (codes "a/b") ≡ Less
unix_name_before_what_is_in_it = refl

unix_names_by_bytes : path_cmp unix (codes "a/b") (codes "b") ≡ Less
unix_names_by_bytes = refl

-- from the greater side
unix_greater : path_cmp unix (codes "b") (codes "a/b") ≡ Greater
unix_greater = refl
