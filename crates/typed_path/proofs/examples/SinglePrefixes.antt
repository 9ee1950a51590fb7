-- Single prefixes of Windows: which texts are one, their kinds, their lengths, how they compare.
use Rattle.std.proofs.Common.{ℕ, codes, List, [], ◌∷◌, ◌≡◌, Bool, length, refl, true, false, Option, Some, None}
use Rattle.std.specs.Option.{option_map}
use Rattle.std.specs.declared.cmp.Ordering.TheVariants.{Less, Equal}
use Prim.Native.String.{String}
use Rattle.typed_path.specs.components.{windows, Kind, verbatim, verbatim_unc, verbatim_disk, device_ns, unc, disk, prefix, root, normal, prefix_of}
use Rattle.typed_path.specs.order.{path_cmp, kind_cmp}
use Rattle.typed_path.specs.queries.{prefix_length, first_prefix, has_verbatim_prefix, has_verbatim_unc_prefix, has_verbatim_disk_prefix, has_device_ns_prefix, has_unc_prefix, has_disk_prefix}
use Rattle.typed_path.proofs.examples.Words.{windows_parts, written, rest, kinds_in, kinds_left}

-- how many bytes the prefix of a text has, by its kind and in the text
abbrev prefix_len : String → Option ℕ
prefix_len text = option_map (λ f. prefix_length f.prefix) (prefix_of windows (codes text))

abbrev raw_len : String → Option ℕ
raw_len text = option_map (λ f. f.length) (prefix_of windows (codes text))

-- which of the queries of one kind hold: a verbatim name, share and drive, a device, a share, a drive
abbrev queries : List Kind → List Bool
queries ks =
    has_verbatim_prefix ks ∷ has_verbatim_unc_prefix ks ∷ has_verbatim_disk_prefix ks
    ∷ has_device_ns_prefix ks ∷ has_unc_prefix ks ∷ has_disk_prefix ks ∷ []

-- texts that are one prefix, or none, or more
drive_is_read_in_upper_case : windows_parts "c:" ≡ written (disk 67) "c:" ∷ []
drive_is_read_in_upper_case = refl

more_behind_the_drive : length (windows_parts "C:\\") ≡ 2
more_behind_the_drive = refl

name_has_no_prefix : prefix_of windows (codes "a") ≡ None
name_has_no_prefix = refl

empty_text_has_no_prefix : prefix_of windows [] ≡ None
empty_text_has_no_prefix = refl

colon_alone_has_no_prefix : prefix_of windows (codes ":") ≡ None
colon_alone_has_no_prefix = refl

-- lengths by kind
length_of_a_verbatim_name : prefix_len "\\\\?\\x" ≡ Some 5
length_of_a_verbatim_name = refl

length_of_an_empty_verbatim_name : prefix_len "\\\\?\\\\" ≡ Some 4
length_of_an_empty_verbatim_name = refl

length_of_a_verbatim_share : prefix_len "\\\\?\\UNC\\s\\h" ≡ Some 11
length_of_a_verbatim_share = refl

length_of_a_verbatim_drive : prefix_len "\\\\?\\C:" ≡ Some 6
length_of_a_verbatim_drive = refl

length_of_a_device : prefix_len "\\\\.\\d" ≡ Some 5
length_of_a_device = refl

length_of_a_share : prefix_len "\\\\s\\h" ≡ Some 5
length_of_a_share = refl

length_of_a_drive : prefix_len "C:" ≡ Some 2
length_of_a_drive = refl

-- the separator before an empty share counts in the text alone
length_without_a_share : prefix_len "\\\\server\\" ≡ Some 8
length_without_a_share = refl

text_without_a_share : raw_len "\\\\server\\" ≡ Some 9
text_without_a_share = refl

length_without_a_verbatim_share : prefix_len "\\\\?\\UNC\\s\\" ≡ Some 9
length_without_a_verbatim_share = refl

text_without_a_verbatim_share : raw_len "\\\\?\\UNC\\s\\" ≡ Some 10
text_without_a_verbatim_share = refl

-- queries of one kind
verbatim_name_alone : queries (kinds_in windows "\\\\?\\x\\a") ≡ true ∷ false ∷ false ∷ false ∷ false ∷ false ∷ []
verbatim_name_alone = refl

verbatim_share_alone : queries (kinds_in windows "//?/UNC/s/h") ≡ false ∷ true ∷ false ∷ false ∷ false ∷ false ∷ []
verbatim_share_alone = refl

verbatim_drive_alone : queries (kinds_in windows "\\\\?\\C:a") ≡ false ∷ false ∷ true ∷ false ∷ false ∷ false ∷ []
verbatim_drive_alone = refl

device_alone : queries (kinds_in windows "\\\\.\\COM1") ≡ false ∷ false ∷ false ∷ true ∷ false ∷ false ∷ []
device_alone = refl

share_alone : queries (kinds_in windows "\\\\s\\h\\x") ≡ false ∷ false ∷ false ∷ false ∷ true ∷ false ∷ []
share_alone = refl

drive_alone : queries (kinds_in windows "C:a") ≡ false ∷ false ∷ false ∷ false ∷ false ∷ true ∷ []
drive_alone = refl

none_without_a_prefix : queries (kinds_in windows "\\a") ≡ false ∷ false ∷ false ∷ false ∷ false ∷ false ∷ []
none_without_a_prefix = refl

none_on_the_empty_text : queries (kinds_in windows "") ≡ false ∷ false ∷ false ∷ false ∷ false ∷ false ∷ []
none_on_the_empty_text = refl

-- a prefix that was taken is there no more
prefix_stands_first : first_prefix (kinds_left windows "C:\\a" 0 1) ≡ Some (disk 67)
prefix_stands_first = refl

prefix_was_taken : first_prefix (kinds_left windows "C:\\a" 1 0) ≡ None
prefix_was_taken = refl

-- what is left of a half-read text is compared as a text of its own
left_is_equal_to_a_drive : path_cmp windows (rest windows "a\\C:" 1 0) (codes "C:") ≡ Equal
left_is_equal_to_a_drive = refl

left_is_equal_to_a_server : path_cmp windows (rest windows "C://a" 1 0) (codes "\\\\a") ≡ Equal
left_is_equal_to_a_server = refl

-- the order of single components
names_before_the_second_kind : kind_cmp (prefix (verbatim (codes "z"))) (prefix (verbatim_unc (codes "a") [])) ≡ Less
names_before_the_second_kind = refl

drives_by_letter : kind_cmp (prefix (disk 67)) (prefix (disk 68)) ≡ Less
drives_by_letter = refl

shares_by_server_first : kind_cmp (prefix (unc (codes "a") (codes "z"))) (prefix (unc (codes "b") (codes "a"))) ≡ Less
shares_by_server_first = refl

devices_before_shares : kind_cmp (prefix (device_ns (codes "z"))) (prefix (unc (codes "a") [])) ≡ Less
devices_before_shares = refl

prefixes_before_the_root : kind_cmp (prefix (verbatim_disk 90)) root ≡ Less
prefixes_before_the_root = refl

drives_before_names : kind_cmp (prefix (disk 90)) (normal (codes "a")) ≡ Less
drives_before_names = refl
