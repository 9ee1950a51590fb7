-- Windows texts read from both ends, and what they answer.
use Rattle.std.proofs.Common.{◌≡◌, codes, [], ◌∷◌, refl, true, false, Some, None}
use Rattle.typed_path.specs.components.{windows, unc, disk, verbatim_disk, current_part, root, current, normal, parts_of, prefix_of, found}
use Rattle.typed_path.specs.order.{IsSame}
use Rattle.typed_path.specs.scan.{front, back}
use Rattle.typed_path.specs.queries.{has_prefix, has_any_verbatim_prefix, has_implicit_root, has_physical_root, parent_of, file_name_of, file_stem_of, extension, stripped}
use Rattle.typed_path.proofs.examples.Words.{windows_parts, windows_root, named, written, read, rest, kinds_left, kinds_in, absolute, rooted, valid}

-- `\\?\C:\a\.\b` from the back
verbatim_from_the_back :
    read windows "\\\\?\\C:\\a\\.\\b" (back ∷ back ∷ back ∷ back ∷ back ∷ back ∷ [])
    ≡ Some (named "b") ∷ Some current_part ∷ Some (named "a") ∷ Some windows_root ∷ Some (written (verbatim_disk 67) "\\\\?\\C:") ∷ None ∷ []
verbatim_from_the_back = refl

verbatim_left_after_one : rest windows "\\\\?\\C:\\a\\.\\b" 0 1 ≡ codes "\\\\?\\C:\\a\\."
verbatim_left_after_one = refl

verbatim_left_after_two : rest windows "\\\\?\\C:\\a\\.\\b" 0 2 ≡ codes "\\\\?\\C:\\a"
verbatim_left_after_two = refl

verbatim_left_after_three : rest windows "\\\\?\\C:\\a\\.\\b" 0 3 ≡ codes "\\\\?\\C:\\"
verbatim_left_after_three = refl

verbatim_left_after_four : rest windows "\\\\?\\C:\\a\\.\\b" 0 4 ≡ codes "\\\\?\\C:"
verbatim_left_after_four = refl

verbatim_left_after_five : rest windows "\\\\?\\C:\\a\\.\\b" 0 5 ≡ []
verbatim_left_after_five = refl

-- `C:.\a\.`, whose first dot alone is a component
dots_from_both_ends :
    read windows "C:.\\a\\." (front ∷ back ∷ back ∷ front ∷ [])
    ≡ Some (written (disk 67) "C:") ∷ Some (named "a") ∷ Some current_part ∷ None ∷ []
dots_from_both_ends = refl

dots_left_behind_the_drive : rest windows "C:.\\a\\." 1 0 ≡ codes ".\\a\\."
dots_left_behind_the_drive = refl

dot_left_between_both_ends : rest windows "C:.\\a\\." 1 1 ≡ codes "."
dot_left_between_both_ends = refl

-- `//s/h//x/` from the front
share_root_and_name :
    read windows "//s/h//x/" (front ∷ front ∷ front ∷ front ∷ [])
    ≡ Some (written (unc (codes "s") (codes "h")) "//s/h") ∷ Some windows_root ∷ Some (named "x") ∷ None ∷ []
share_root_and_name = refl

left_behind_the_share : rest windows "//s/h//x/" 1 0 ≡ codes "//x/"
left_behind_the_share = refl

left_behind_the_root : rest windows "//s/h//x/" 2 0 ≡ codes "x/"
left_behind_the_root = refl

left_behind_the_name : rest windows "//s/h//x/" 3 0 ≡ []
left_behind_the_name = refl

no_prefix_behind_the_share : has_prefix (kinds_left windows "//s/h//x/" 1 0) ≡ false
no_prefix_behind_the_share = refl

physical_root_behind_the_share : has_physical_root (kinds_left windows "//s/h//x/" 1 0) ≡ true
physical_root_behind_the_share = refl

-- equality of what is left reads the slice anew, and the queries do not
left_behind_a_name : rest windows "a\\C:" 1 0 ≡ codes "C:"
left_behind_a_name = refl

left_is_the_same_as_a_drive : IsSame windows (rest windows "a\\C:" 1 0) (codes "C:")
left_is_the_same_as_a_drive = refl

read_anew_as_a_drive : parts_of windows (rest windows "a\\C:" 1 0) ≡ written (disk 67) "C:" ∷ []
read_anew_as_a_drive = refl

name_left_is_no_prefix : has_prefix (kinds_left windows "a\\C:" 1 0) ≡ false
name_left_is_no_prefix = refl

left_behind_a_drive : rest windows "C://a" 1 0 ≡ codes "//a"
left_behind_a_drive = refl

read_anew_as_a_server : parts_of windows (rest windows "C://a" 1 0) ≡ written (unc (codes "a") []) "//a" ∷ []
read_anew_as_a_server = refl

root_left_is_no_prefix : has_prefix (kinds_left windows "C://a" 1 0) ≡ false
root_left_is_no_prefix = refl

dot_left_is_a_component : kinds_left windows "\\\\?\\C:\\a\\.\\b" 1 0 ≡ root ∷ normal (codes "a") ∷ current ∷ normal (codes "b") ∷ []
dot_left_is_a_component = refl

dot_vanishes_when_read_anew : parts_of windows (rest windows "\\\\?\\C:\\a\\.\\b" 1 0) ≡ windows_root ∷ named "a" ∷ named "b" ∷ []
dot_vanishes_when_read_anew = refl

-- the empty text
no_components : windows_parts "" ≡ []
no_components = refl

no_parent_of_the_empty_text : parent_of windows [] ≡ None
no_parent_of_the_empty_text = refl

-- absolute and rooted
root_alone_is_relative : absolute windows "\\a" ≡ false
root_alone_is_relative = refl

root_alone_is_rooted : rooted windows "\\a" ≡ true
root_alone_is_rooted = refl

server_alone_is_relative : absolute windows "\\\\server" ≡ false
server_alone_is_relative = refl

server_alone_is_rooted : rooted windows "\\\\server" ≡ true
server_alone_is_rooted = refl

verbatim_share_is_absolute : absolute windows "\\\\?\\UNC\\s\\h" ≡ true
verbatim_share_is_absolute = refl

verbatim_server_is_relative : absolute windows "\\\\?\\UNC\\s" ≡ false
verbatim_server_is_relative = refl

verbatim_name_alone_is_relative : absolute windows "\\\\?\\x" ≡ false
verbatim_name_alone_is_relative = refl

verbatim_name_with_a_root_is_absolute : absolute windows "\\\\?\\x\\" ≡ true
verbatim_name_with_a_root_is_absolute = refl

-- prefix queries
verbatim_drive_is_verbatim : has_any_verbatim_prefix (kinds_in windows "\\\\?\\C:\\a") ≡ true
verbatim_drive_is_verbatim = refl

verbatim_share_is_verbatim : has_any_verbatim_prefix (kinds_in windows "//?/UNC/s/h") ≡ true
verbatim_share_is_verbatim = refl

verbatim_name_is_verbatim : has_any_verbatim_prefix (kinds_in windows "\\\\?\\x") ≡ true
verbatim_name_is_verbatim = refl

drive_is_not_verbatim : has_any_verbatim_prefix (kinds_in windows "C:\\a") ≡ false
drive_is_not_verbatim = refl

share_is_not_verbatim : has_any_verbatim_prefix (kinds_in windows "\\\\s\\h") ≡ false
share_is_not_verbatim = refl

drive_has_no_implicit_root : has_implicit_root (kinds_in windows "C:\\a") ≡ false
drive_has_no_implicit_root = refl

share_has_an_implicit_root : has_implicit_root (kinds_in windows "\\\\s\\h") ≡ true
share_has_an_implicit_root = refl

-- how long the raw text of a prefix is
empty_share_takes_its_separator : prefix_of windows (codes "\\\\server\\") ≡ Some (found (unc (codes "server") []) 9)
empty_share_takes_its_separator = refl

empty_share_without_separator : prefix_of windows (codes "\\\\server") ≡ Some (found (unc (codes "server") []) 8)
empty_share_without_separator = refl

-- names
names_behind_a_drive : file_name_of windows (codes "C:a.tar.gz") ≡ Some (codes "a.tar.gz")
names_behind_a_drive = refl

stem_behind_a_drive : file_stem_of windows (codes "C:a.tar.gz") ≡ Some (codes "a.tar")
stem_behind_a_drive = refl

extension_behind_a_drive : extension windows (codes "C:a.tar.gz") ≡ Some (codes "gz")
extension_behind_a_drive = refl

drive_is_no_file_name : file_name_of windows (codes "C:") ≡ None
drive_is_no_file_name = refl

colon_in_a_name_is_not_valid : valid windows "b\\..\\C:" ≡ false
colon_in_a_name_is_not_valid = refl

drive_is_valid : valid windows "C:" ≡ true
drive_is_valid = refl

star_is_not_valid : valid windows "C:\\*.txt" ≡ false
star_is_not_valid = refl

left_behind_a_base : stripped windows (codes "C:\\a/b\\") (codes "C:/a") ≡ Some (codes "b\\")
left_behind_a_base = refl
