-- Windows paths pushed, checked, made normal and changed in place.
use Rattle.std.proofs.Common.{◌≡◌, codes, [], ◌∷◌, refl, true, false, Some}
use Rattle.typed_path.specs.declared.errors.CheckedPathError.TheVariants.{InvalidFilename, PathTraversalAttack, UnexpectedPrefix, UnexpectedRoot}
use Rattle.typed_path.specs.components.{windows, verbatim, verbatim_disk, unc, disk, prefix, root, normal}
use Rattle.typed_path.specs.changes.{fault, pop_op, set_file_name_op, set_extension_op, done, flag, refused, step}
use Rattle.typed_path.specs.places.{place}
use Rattle.typed_path.specs.promises.{keeps_prefix}
use Rattle.typed_path.proofs.examples.Words.{windows_parts, windows_root, named, written, valid, pushed, checked, normalized}

-- pushes
empty_path_changes_nothing : pushed windows "a" "" ≡ codes "a"
empty_path_changes_nothing = refl

empty_onto_empty : pushed windows "" "" ≡ []
empty_onto_empty = refl

prefix_replaces : pushed windows "C:\\a" "D:b" ≡ codes "D:b"
prefix_replaces = refl

root_keeps_the_drive : pushed windows "C:\\a\\b" "\\c" ≡ codes "C:\\c"
root_keeps_the_drive = refl

root_keeps_the_share : pushed windows "\\\\s\\h\\x" "/y" ≡ codes "\\\\s\\h/y"
root_keeps_the_share = refl

nothing_is_put_behind_a_drive : pushed windows "C:" "a" ≡ codes "C:a"
nothing_is_put_behind_a_drive = refl

slash_at_the_end_is_not_enough : pushed windows "a/" "b" ≡ codes "a/\\b"
slash_at_the_end_is_not_enough = refl

backslash_at_the_end_is_enough : pushed windows "a\\" "b" ≡ codes "a\\b"
backslash_at_the_end_is_enough = refl

parent_is_kept_under_a_drive : pushed windows "C:\\a" ".." ≡ codes "C:\\a\\.."
parent_is_kept_under_a_drive = refl

-- pushes under a verbatim prefix, which write the list anew
parent_takes_a_name_away : pushed windows "\\\\?\\C:\\a" ".." ≡ codes "\\\\?\\C:\\"
parent_takes_a_name_away = refl

parent_takes_nothing_from_the_root : pushed windows "\\\\?\\C:\\" ".." ≡ codes "\\\\?\\C:\\"
parent_takes_nothing_from_the_root = refl

dot_takes_trailing_separators_away : pushed windows "\\\\?\\C:\\x\\" "." ≡ codes "\\\\?\\C:\\x"
dot_takes_trailing_separators_away = refl

empty_path_keeps_trailing_separators : pushed windows "\\\\?\\C:\\x\\" "" ≡ codes "\\\\?\\C:\\x\\"
empty_path_keeps_trailing_separators = refl

root_cuts_to_the_prefix : pushed windows "\\\\?\\C:\\x" "\\y" ≡ codes "\\\\?\\C:\\y"
root_cuts_to_the_prefix = refl

parent_under_a_mark_with_slashes : pushed windows "//?/C:/x" ".." ≡ codes "//?/C:\\"
parent_under_a_mark_with_slashes = refl

empty_share_and_a_name : pushed windows "\\\\?\\UNC\\s\\" "a" ≡ codes "\\\\?\\UNC\\s\\\\a"
empty_share_and_a_name = refl

no_share_and_a_name : pushed windows "\\\\?\\UNC\\s" "a" ≡ codes "\\\\?\\UNC\\s\\a"
no_share_and_a_name = refl

-- checked pushes
climbs_within_the_argument : checked windows "\\\\?\\C:\\base" "a/b\\..\\.." ≡ (codes "\\\\?\\C:\\base", done)
climbs_within_the_argument = refl

climbs_out_of_the_argument : checked windows "\\\\?\\C:\\base" "a\\..\\.." ≡ (codes "\\\\?\\C:\\base", refused PathTraversalAttack)
climbs_out_of_the_argument = refl

prefix_is_refused : checked windows "some\\path" "C:abc" ≡ (codes "some\\path", refused UnexpectedPrefix)
prefix_is_refused = refl

root_is_refused : checked windows "C:\\a" "\\b" ≡ (codes "C:\\a", refused UnexpectedRoot)
root_is_refused = refl

colon_in_a_name_is_refused : checked windows "a" "b\\C:" ≡ (codes "a", refused InvalidFilename)
colon_in_a_name_is_refused = refl

base_with_a_parent : checked windows "\\\\?\\C:\\base\\.." "a" ≡ (codes "\\\\?\\C:\\base\\..\\a", done)
base_with_a_parent = refl

base_with_a_slash_in_a_name : checked windows "\\\\?\\C:\\x/y" "a" ≡ (codes "\\\\?\\C:\\x/y\\a", done)
base_with_a_slash_in_a_name = refl

mark_with_slashes_and_a_drive : checked windows "//?/C:/base" "a" ≡ (codes "//?/C:\\base\\a", done)
mark_with_slashes_and_a_drive = refl

mark_with_slashes_and_a_drive_reads :
    windows_parts "//?/C:\\base\\a"
    ≡ written (verbatim_disk 67) "//?/C:" ∷ windows_root ∷ named "base" ∷ named "a" ∷ []
mark_with_slashes_and_a_drive_reads = refl

prefix_comes_first : fault windows (codes "C:..\\a:b") ≡ Some UnexpectedPrefix
prefix_comes_first = refl

argument_is_read_on_its_own : fault windows (codes "a/../..\\b") ≡ Some PathTraversalAttack
argument_is_read_on_its_own = refl

-- accepted pushes that change the prefix
root_becomes_a_server : checked windows "/" "a" ≡ (codes "/\\a", done)
root_becomes_a_server = refl

root_becomes_a_server_reads : windows_parts "/\\a" ≡ written (unc (codes "a") []) "/\\a" ∷ []
root_becomes_a_server_reads = refl

root_becomes_a_server_and_share : checked windows "/" "a\\..\\b" ≡ (codes "/\\a\\..\\b", done)
root_becomes_a_server_and_share = refl

root_becomes_a_server_and_share_reads :
    windows_parts "/\\a\\..\\b"
    ≡ written (unc (codes "a") (codes "..")) "/\\a\\.." ∷ windows_root ∷ named "b" ∷ []
root_becomes_a_server_and_share_reads = refl

name_becomes_a_share : checked windows "\\\\server" "a" ≡ (codes "\\\\server\\a", done)
name_becomes_a_share = refl

name_becomes_a_share_reads : windows_parts "\\\\server\\a" ≡ written (unc (codes "server") (codes "a")) "\\\\server\\a" ∷ []
name_becomes_a_share_reads = refl

share_stays_empty : checked windows "\\\\server/" "a" ≡ (codes "\\\\server/\\a", done)
share_stays_empty = refl

share_stays_empty_reads : windows_parts "\\\\server/\\a" ≡ written (unc (codes "server") []) "\\\\server/" ∷ windows_root ∷ named "a" ∷ []
share_stays_empty_reads = refl

mark_becomes_a_verbatim_name : checked windows "\\\\?\\" "a" ≡ (codes "\\\\?\\a", done)
mark_becomes_a_verbatim_name = refl

mark_becomes_a_verbatim_name_reads : windows_parts "\\\\?\\a" ≡ written (verbatim (codes "a")) "\\\\?\\a" ∷ []
mark_becomes_a_verbatim_name_reads = refl

verbatim_name_stays_empty : checked windows "//?//" "a" ≡ (codes "//?/\\a", done)
verbatim_name_stays_empty = refl

verbatim_name_stays_empty_reads : windows_parts "//?/\\a" ≡ written (verbatim []) "//?/" ∷ windows_root ∷ named "a" ∷ []
verbatim_name_stays_empty_reads = refl

-- bases whose prefix every accepted path keeps, and others
drive_keeps_its_prefix : keeps_prefix windows (codes "C:") ≡ true
drive_keeps_its_prefix = refl

verbatim_drive_keeps_its_prefix : keeps_prefix windows (codes "\\\\?\\C:") ≡ true
verbatim_drive_keeps_its_prefix = refl

device_keeps_its_prefix : keeps_prefix windows (codes "\\\\.\\d") ≡ true
device_keeps_its_prefix = refl

share_keeps_its_prefix : keeps_prefix windows (codes "\\\\s\\h") ≡ true
share_keeps_its_prefix = refl

server_may_get_a_share : keeps_prefix windows (codes "\\\\server") ≡ false
server_may_get_a_share = refl

verbatim_name_keeps_its_prefix : keeps_prefix windows (codes "\\\\?\\x") ≡ true
verbatim_name_keeps_its_prefix = refl

unc_may_get_a_server : keeps_prefix windows (codes "\\\\?\\UNC") ≡ false
unc_may_get_a_server = refl

name_keeps_no_prefix : keeps_prefix windows (codes "a") ≡ true
name_keeps_no_prefix = refl

backslash_keeps_no_prefix : keeps_prefix windows (codes "\\") ≡ true
backslash_keeps_no_prefix = refl

slash_may_become_a_server : keeps_prefix windows (codes "/") ≡ false
slash_may_become_a_server = refl

backslashes_may_become_a_server : keeps_prefix windows (codes "\\\\") ≡ false
backslashes_may_become_a_server = refl

slash_before_a_backslash_may_become_a_server : keeps_prefix windows (codes "/\\") ≡ false
slash_before_a_backslash_may_become_a_server = refl

slashes_keep_no_prefix : keeps_prefix windows (codes "//") ≡ true
slashes_keep_no_prefix = refl

empty_base_keeps_no_prefix : keeps_prefix windows [] ≡ true
empty_base_keeps_no_prefix = refl

ended_server_may_get_a_share : keeps_prefix windows (codes "\\\\s\\") ≡ false
ended_server_may_get_a_share = refl

verbatim_share_keeps_its_prefix : keeps_prefix windows (codes "\\\\?\\UNC\\s\\h") ≡ true
verbatim_share_keeps_its_prefix = refl

verbatim_server_may_get_a_share : keeps_prefix windows (codes "\\\\?\\UNC\\s") ≡ false
verbatim_server_may_get_a_share = refl

small_unc_keeps_its_prefix : keeps_prefix windows (codes "\\\\?\\unc") ≡ true
small_unc_keeps_its_prefix = refl

-- normal texts
normal_of_the_empty_text : normalized windows "" ≡ []
normal_of_the_empty_text = refl

normal_behind_a_drive : normalized windows "C:\\a\\.\\..\\b" ≡ codes "C:\\b"
normal_behind_a_drive = refl

normal_stops_at_the_share : normalized windows "\\\\s\\h\\..\\x" ≡ codes "\\\\s\\h\\x"
normal_stops_at_the_share = refl

normal_of_a_mark_with_slashes : normalized windows "//?/x/a/../b" ≡ codes "//?/x\\b"
normal_of_a_mark_with_slashes = refl

normal_of_an_empty_share : normalized windows "\\\\s\\\\x" ≡ codes "\\\\s\\\\x"
normal_of_an_empty_share = refl

normal_of_an_empty_verbatim_name : normalized windows "\\\\?\\\\a" ≡ codes "\\\\?\\\\a"
normal_of_an_empty_verbatim_name = refl

normal_puts_a_root_behind_a_verbatim_drive : normalized windows "\\\\?\\C:a" ≡ codes "\\\\?\\C:\\a"
normal_puts_a_root_behind_a_verbatim_drive = refl

normal_puts_a_root_behind_a_dropped_parent : normalized windows "\\\\?\\C:..\\a" ≡ codes "\\\\?\\C:\\a"
normal_puts_a_root_behind_a_dropped_parent = refl

normal_of_a_drive_as_a_name : normalized windows "\\C:" ≡ codes "C:"
normal_of_a_drive_as_a_name = refl

normal_of_a_drive_behind_a_parent : normalized windows "b\\..\\C:" ≡ codes "C:"
normal_of_a_drive_behind_a_parent = refl

drive_behind_a_parent_is_not_valid : valid windows "b\\..\\C:" ≡ false
drive_behind_a_parent_is_not_valid = refl

drive_is_valid : valid windows "C:" ≡ true
drive_is_valid = refl

-- where paths lead
root_is_implied_behind_a_verbatim_drive : place windows (codes "\\\\?\\C:a") ≡ prefix (verbatim_disk 67) ∷ root ∷ normal (codes "a") ∷ []
root_is_implied_behind_a_verbatim_drive = refl

no_root_is_implied_behind_a_drive : place windows (codes "C:a\\..") ≡ prefix (disk 67) ∷ []
no_root_is_implied_behind_a_drive = refl

-- extensions, file names and pops
extension_cuts_trailing_separators : step windows (codes "C:/a.bc/") (set_extension_op (codes "z")) ≡ (codes "C:/a.z", flag true)
extension_cuts_trailing_separators = refl

extension_of_a_name_with_slashes :
    step windows (codes "\\\\?\\C:\\a\\x/y.z/") (set_extension_op (codes "q"))
    ≡ (codes "\\\\?\\C:\\a\\x/y.q", flag true)
extension_of_a_name_with_slashes = refl

extension_of_a_drive : step windows (codes "C:") (set_extension_op (codes "z")) ≡ (codes "C:", flag false)
extension_of_a_drive = refl

file_name_behind_a_share : step windows (codes "//s/h/x") (set_file_name_op (codes "y")) ≡ (codes "//s/h/\\y", done)
file_name_behind_a_share = refl

pop_of_a_drive : step windows (codes "C:") pop_op ≡ ([], flag true)
pop_of_a_drive = refl

pop_of_a_share : step windows (codes "\\\\s\\h\\") pop_op ≡ (codes "\\\\s\\h\\", flag false)
pop_of_a_share = refl
