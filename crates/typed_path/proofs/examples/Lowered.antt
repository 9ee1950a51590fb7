-- Paths in lower case, and compared by these.
use Rattle.std.proofs.Common.{codes, [], ◌∷◌, ◌≡◌, refl, true, false}
use Rattle.std.specs.declared.cmp.Ordering.TheVariants.{Less, Equal, Greater}
use Rattle.typed_path.specs.components.{unix, windows}
use Rattle.typed_path.specs.order.{is_same, lowered, path_cmp}
use Rattle.typed_path.specs.queries.{path_starts_with}

-- texts
nothing_stays_nothing : lowered unix [] ≡ []
nothing_stays_nothing = refl

roots_stay : lowered windows (codes "/") ≡ codes "/"
roots_stay = refl

names_of_unix_are_lowered : lowered unix (codes "/Src/./A//B") ≡ codes "/src/./a//b"
names_of_unix_are_lowered = refl

separators_stay : lowered windows (codes "A/B\\C") ≡ codes "a/b\\c"
separators_stay = refl

one_byte_is_lowered : lowered unix (codes "Z") ≡ codes "z"
one_byte_is_lowered = refl

bytes_beside_letters_stay : lowered unix (codes "@[`{09") ≡ codes "@[`{09"
bytes_beside_letters_stay = refl

-- `É` in UTF-8, and a byte that is no text
other_letters_stay : lowered unix (195 ∷ 137 ∷ 192 ∷ 65 ∷ []) ≡ 195 ∷ 137 ∷ 192 ∷ 97 ∷ []
other_letters_stay = refl

-- the prefixes
drives_are_lowered : lowered windows (codes "C:A") ≡ codes "c:a"
drives_are_lowered = refl

shares_are_lowered : lowered windows (codes "\\\\Server\\Share\\A") ≡ codes "\\\\server\\share\\a"
shares_are_lowered = refl

devices_are_lowered : lowered windows (codes "\\\\.\\COM1") ≡ codes "\\\\.\\com1"
devices_are_lowered = refl

verbatim_drives_are_lowered : lowered windows (codes "\\\\?\\C:\\A/B") ≡ codes "\\\\?\\c:\\a/b"
verbatim_drives_are_lowered = refl

verbatim_names_are_lowered : lowered windows (codes "\\\\?\\Pipe\\A") ≡ codes "\\\\?\\pipe\\a"
verbatim_names_are_lowered = refl

the_mark_stays : lowered windows (codes "\\\\?\\UNC\\S\\H\\A") ≡ codes "\\\\?\\UNC\\s\\h\\a"
the_mark_stays = refl

the_mark_stays_with_slashes : lowered windows (codes "//?/UNC/S/H") ≡ codes "//?/UNC/s/h"
the_mark_stays_with_slashes = refl

a_name_like_the_mark_is_lowered : lowered windows (codes "\\\\?\\UNC") ≡ codes "\\\\?\\unc"
a_name_like_the_mark_is_lowered = refl

a_name_before_nothing_is_lowered : lowered windows (codes "\\\\?\\UNC\\") ≡ codes "\\\\?\\unc\\"
a_name_before_nothing_is_lowered = refl

no_mark_in_small_letters : lowered windows (codes "\\\\?\\Unc\\S") ≡ codes "\\\\?\\unc\\s"
no_mark_in_small_letters = refl

unix_knows_no_mark : lowered unix (codes "//?/UNC/S") ≡ codes "//?/unc/s"
unix_knows_no_mark = refl

-- equal but for case
spelled_otherwise : is_same unix (lowered unix (codes "A/./b//")) (lowered unix (codes "a/B")) ≡ true
spelled_otherwise = refl

separated_otherwise : is_same windows (lowered windows (codes "C:/Windows\\System32")) (lowered windows (codes "c:\\WINDOWS/SYSTEM32")) ≡ true
separated_otherwise = refl

shares_in_either_case : is_same windows (lowered windows (codes "\\\\?\\UNC\\S\\H")) (lowered windows (codes "\\\\?\\UNC\\s\\h")) ≡ true
shares_in_either_case = refl

the_mark_is_no_name : is_same windows (lowered windows (codes "\\\\?\\UNC\\S\\H")) (lowered windows (codes "\\\\?\\unc\\S\\H")) ≡ false
the_mark_is_no_name = refl

not_beside_letters : is_same unix (lowered unix (codes "@")) (lowered unix (codes "`")) ≡ false
not_beside_letters = refl

not_other_letters : is_same unix (lowered unix (195 ∷ 137 ∷ [])) (lowered unix (195 ∷ 169 ∷ [])) ≡ false
not_other_letters = refl

-- the order
small_letters_tell : path_cmp unix (lowered unix (codes "_")) (lowered unix (codes "A")) ≡ Less
small_letters_tell = refl

capitals_come_among_small : path_cmp unix (lowered unix (codes "B")) (lowered unix (codes "a")) ≡ Greater
capitals_come_among_small = refl

shorter_names_come_first : path_cmp unix (lowered unix (codes "A/c")) (lowered unix (codes "aB")) ≡ Less
shorter_names_come_first = refl

equal_ones_tie : path_cmp windows (lowered windows (codes "\\\\.\\NUL")) (lowered windows (codes "//./nul")) ≡ Equal
equal_ones_tie = refl

-- the beginning
drives_begin_in_either_case : path_starts_with windows (lowered windows (codes "c:\\A")) (lowered windows (codes "C:")) ≡ true
drives_begin_in_either_case = refl

whole_names_begin : path_starts_with unix (lowered unix (codes "Src/Lib")) (lowered unix (codes "sRC")) ≡ true
whole_names_begin = refl

no_front_of_a_name_begins : path_starts_with unix (lowered unix (codes "Source")) (lowered unix (codes "src")) ≡ false
no_front_of_a_name_begins = refl

prefixes_begin_as_written : path_starts_with windows (lowered windows (codes "\\\\?\\X\\a")) (lowered windows (codes "//?/x")) ≡ false
prefixes_begin_as_written = refl
