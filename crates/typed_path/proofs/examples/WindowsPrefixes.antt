-- Windows texts, and what is read of the prefixes that they begin with.
use Rattle.std.proofs.Common.{◌≡◌, codes, [], ◌∷◌, refl, true, false, Some, None}
use Rattle.typed_path.specs.components.{windows, verbatim, verbatim_unc, verbatim_disk, device_ns, unc, disk, current_part, name_part, prefix_part, kinds, parts_of}
use Rattle.typed_path.specs.queries.{parent_of, is_valid, has_implicit_root, has_physical_root}
use Rattle.typed_path.proofs.examples.Words.{windows_parts, windows_root, named, written, kinds_in, absolute, rooted, valid}

-- texts without a prefix
one_separator : windows_parts "\\" ≡ windows_root ∷ []
one_separator = refl

two_separators : windows_parts "\\\\" ≡ windows_root ∷ []
two_separators = refl

three_separators : windows_parts "\\\\\\" ≡ windows_root ∷ []
three_separators = refl

three_separators_and_a_name : windows_parts "\\\\\\x" ≡ windows_root ∷ named "x" ∷ []
three_separators_and_a_name = refl

digit_is_no_drive : windows_parts "1:" ≡ named "1:" ∷ []
digit_is_no_drive = refl

digit_with_a_colon_is_not_valid : valid windows "1:" ≡ false
digit_with_a_colon_is_not_valid = refl

drive_behind_a_separator : windows_parts "\\C:" ≡ windows_root ∷ named "C:" ∷ []
drive_behind_a_separator = refl

-- drives
drive_and_names : windows_parts "C:\\path\\to\\file.txt" ≡ written (disk 67) "C:" ∷ windows_root ∷ named "path" ∷ named "to" ∷ named "file.txt" ∷ []
drive_and_names = refl

drive_in_lower_case : windows_parts "c:/x" ≡ written (disk 67) "c:" ∷ windows_root ∷ named "x" ∷ []
drive_in_lower_case = refl

dot_behind_a_drive_stays : windows_parts "C:.\\a" ≡ written (disk 67) "C:" ∷ current_part ∷ named "a" ∷ []
dot_behind_a_drive_stays = refl

dot_behind_a_name_vanishes : windows_parts "C:a\\.\\b" ≡ written (disk 67) "C:" ∷ named "a" ∷ named "b" ∷ []
dot_behind_a_name_vanishes = refl

drive_with_a_root_is_absolute : absolute windows "C:\\" ≡ true
drive_with_a_root_is_absolute = refl

drive_with_a_name_is_relative : absolute windows "C:a" ≡ false
drive_with_a_name_is_relative = refl

drive_alone_has_no_root : rooted windows "C:" ≡ false
drive_alone_has_no_root = refl

drive_alone_has_the_empty_parent : parent_of windows (codes "C:") ≡ Some []
drive_alone_has_the_empty_parent = refl

drive_behind_a_name_is_a_name : windows_parts "a\\C:" ≡ named "a" ∷ named "C:" ∷ []
drive_behind_a_name_is_a_name = refl

-- drive letters past ASCII
e_acute_is_a_drive : parts_of windows (0xE9 ∷ codes ":x") ≡ prefix_part (disk 0xE9) (0xE9 ∷ codes ":") ∷ named "x" ∷ []
e_acute_is_a_drive = refl

ordinal_indicator_is_a_drive : parts_of windows (0xAA ∷ codes ":") ≡ prefix_part (disk 0xAA) (0xAA ∷ codes ":") ∷ []
ordinal_indicator_is_a_drive = refl

times_sign_is_no_drive : parts_of windows (0xD7 ∷ codes ":x") ≡ name_part (0xD7 ∷ codes ":x") ∷ []
times_sign_is_no_drive = refl

division_sign_is_no_drive : parts_of windows (0xF7 ∷ codes ":x") ≡ name_part (0xF7 ∷ codes ":x") ∷ []
division_sign_is_no_drive = refl

letter_of_two_bytes_is_no_drive : parts_of windows (0xC3 ∷ 0xA9 ∷ codes ":x") ≡ name_part (0xC3 ∷ 0xA9 ∷ codes ":x") ∷ []
letter_of_two_bytes_is_no_drive = refl

letter_of_two_bytes_is_not_valid : is_valid windows (kinds (parts_of windows (0xC3 ∷ 0xA9 ∷ codes ":x"))) ≡ false
letter_of_two_bytes_is_not_valid = refl

-- a mark that is cut short, and a verbatim name
mark_without_its_end : windows_parts "\\\\?" ≡ written (unc (codes "?") []) "\\\\?" ∷ []
mark_without_its_end = refl

mark_alone : windows_parts "\\\\?\\" ≡ written (unc (codes "?") []) "\\\\?\\" ∷ []
mark_alone = refl

mark_alone_has_no_parent : parent_of windows (codes "\\\\?\\") ≡ None
mark_alone_has_no_parent = refl

mark_alone_has_a_root : rooted windows "\\\\?\\" ≡ true
mark_alone_has_a_root = refl

mark_alone_is_relative : absolute windows "\\\\?\\" ≡ false
mark_alone_is_relative = refl

empty_verbatim_name : windows_parts "\\\\?\\\\a" ≡ written (verbatim []) "\\\\?\\" ∷ windows_root ∷ named "a" ∷ []
empty_verbatim_name = refl

empty_verbatim_name_with_slashes : windows_parts "//?//" ≡ written (verbatim []) "//?/" ∷ windows_root ∷ []
empty_verbatim_name_with_slashes = refl

mark_alone_with_slashes : windows_parts "//?/" ≡ written (unc (codes "?") []) "//?/" ∷ []
mark_alone_with_slashes = refl

verbatim_name : windows_parts "\\\\?\\x\\a" ≡ written (verbatim (codes "x")) "\\\\?\\x" ∷ windows_root ∷ named "a" ∷ []
verbatim_name = refl

verbatim_name_with_slashes : windows_parts "//?/x/a" ≡ written (verbatim (codes "x")) "//?/x" ∷ windows_root ∷ named "a" ∷ []
verbatim_name_with_slashes = refl

mixed_mark_is_not_read_verbatim : windows_parts "\\\\?/x/./b" ≡ written (verbatim (codes "x")) "\\\\?/x" ∷ windows_root ∷ named "b" ∷ []
mixed_mark_is_not_read_verbatim = refl

-- verbatim shares
beginning_of_unc : windows_parts "\\\\?\\U" ≡ written (verbatim (codes "U")) "\\\\?\\U" ∷ []
beginning_of_unc = refl

unc_without_server : windows_parts "\\\\?\\UNC" ≡ written (verbatim (codes "UNC")) "\\\\?\\UNC" ∷ []
unc_without_server = refl

unc_with_a_separator : windows_parts "\\\\?\\UNC\\" ≡ written (verbatim (codes "UNC")) "\\\\?\\UNC" ∷ windows_root ∷ []
unc_with_a_separator = refl

unc_with_an_empty_server : windows_parts "//?/UNC//x" ≡ written (verbatim (codes "UNC")) "//?/UNC" ∷ windows_root ∷ named "x" ∷ []
unc_with_an_empty_server = refl

unc_with_a_slash_as_server : windows_parts "\\\\?\\UNC\\/" ≡ written (verbatim_unc (codes "/") []) "\\\\?\\UNC\\/" ∷ []
unc_with_a_slash_as_server = refl

unc_in_lower_case_is_a_name : windows_parts "\\\\?\\unc\\s" ≡ written (verbatim (codes "unc")) "\\\\?\\unc" ∷ windows_root ∷ named "s" ∷ []
unc_in_lower_case_is_a_name = refl

unc_without_share : windows_parts "\\\\?\\UNC\\s" ≡ written (verbatim_unc (codes "s") []) "\\\\?\\UNC\\s" ∷ []
unc_without_share = refl

unc_without_share_but_its_separator : windows_parts "\\\\?\\UNC\\srv\\" ≡ written (verbatim_unc (codes "srv") []) "\\\\?\\UNC\\srv\\" ∷ []
unc_without_share_but_its_separator = refl

unc_with_a_share : windows_parts "\\\\?\\UNC\\srv\\sh\\" ≡ written (verbatim_unc (codes "srv") (codes "sh")) "\\\\?\\UNC\\srv\\sh" ∷ windows_root ∷ []
unc_with_a_share = refl

slashes_are_part_of_a_verbatim_name : windows_parts "\\\\?\\UNC/s/h" ≡ written (verbatim (codes "UNC/s/h")) "\\\\?\\UNC/s/h" ∷ []
slashes_are_part_of_a_verbatim_name = refl

unc_with_slashes : windows_parts "//?/UNC/s/h/x" ≡ written (verbatim_unc (codes "s") (codes "h")) "//?/UNC/s/h" ∷ windows_root ∷ named "x" ∷ []
unc_with_slashes = refl

-- verbatim drives
slash_behind_a_verbatim_drive : windows_parts "\\\\?\\c:/x" ≡ written (verbatim_disk 67) "\\\\?\\c:" ∷ named "/x" ∷ []
slash_behind_a_verbatim_drive = refl

slash_in_a_name_is_not_valid : valid windows "\\\\?\\c:/x" ≡ false
slash_in_a_name_is_not_valid = refl

dot_stays_where_read_verbatim :
    windows_parts "\\\\?\\C:\\a\\.\\b"
    ≡ written (verbatim_disk 67) "\\\\?\\C:" ∷ windows_root ∷ named "a" ∷ current_part ∷ named "b" ∷ []
dot_stays_where_read_verbatim = refl

mixed_mark_before_a_drive : windows_parts "\\/?\\C:/x" ≡ written (verbatim_disk 67) "\\/?\\C:" ∷ windows_root ∷ named "x" ∷ []
mixed_mark_before_a_drive = refl

verbatim_drive_with_a_name_is_relative : absolute windows "\\\\?\\C:a" ≡ false
verbatim_drive_with_a_name_is_relative = refl

verbatim_drive_alone_has_no_root : rooted windows "\\\\?\\C:" ≡ false
verbatim_drive_alone_has_no_root = refl

verbatim_drive_alone_has_an_implicit_root : has_implicit_root (kinds_in windows "\\\\?\\C:") ≡ true
verbatim_drive_alone_has_an_implicit_root = refl

verbatim_drive_alone_has_no_physical_root : has_physical_root (kinds_in windows "\\\\?\\C:") ≡ false
verbatim_drive_alone_has_no_physical_root = refl

-- devices
device_mark_without_its_end : windows_parts "\\\\." ≡ written (unc (codes ".") []) "\\\\." ∷ []
device_mark_without_its_end = refl

device_mark_alone : windows_parts "\\\\.\\" ≡ written (unc (codes ".") []) "\\\\.\\" ∷ []
device_mark_alone = refl

device_with_slashes : windows_parts "//./COM1/x" ≡ written (device_ns (codes "COM1")) "//./COM1" ∷ windows_root ∷ named "x" ∷ []
device_with_slashes = refl

device_with_a_root_is_absolute : absolute windows "//./COM1/x" ≡ true
device_with_a_root_is_absolute = refl

device_with_a_root_has_a_root : rooted windows "//./COM1/x" ≡ true
device_with_a_root_has_a_root = refl

device_alone_is_relative : absolute windows "\\\\.\\COM1" ≡ false
device_alone_is_relative = refl

device_alone_has_a_root : rooted windows "\\\\.\\COM1" ≡ true
device_alone_has_a_root = refl

device_alone_has_no_parent : parent_of windows (codes "\\\\.\\COM1") ≡ None
device_alone_has_no_parent = refl

-- shares
server_and_share : windows_parts "\\\\s\\h" ≡ written (unc (codes "s") (codes "h")) "\\\\s\\h" ∷ []
server_and_share = refl

share_is_absolute : absolute windows "\\\\s\\h" ≡ true
share_is_absolute = refl

share_has_no_parent : parent_of windows (codes "\\\\s\\h") ≡ None
share_has_no_parent = refl

server_alone : windows_parts "\\\\server" ≡ written (unc (codes "server") []) "\\\\server" ∷ []
server_alone = refl

raw_text_takes_the_separator : windows_parts "\\\\server\\" ≡ written (unc (codes "server") []) "\\\\server\\" ∷ []
raw_text_takes_the_separator = refl

empty_share_before_a_root : windows_parts "\\\\s\\\\x" ≡ written (unc (codes "s") []) "\\\\s\\" ∷ windows_root ∷ named "x" ∷ []
empty_share_before_a_root = refl

empty_share_is_relative : absolute windows "\\\\s\\\\x" ≡ false
empty_share_is_relative = refl

empty_share_has_a_root : rooted windows "\\\\s\\\\x" ≡ true
empty_share_has_a_root = refl
