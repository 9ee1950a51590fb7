-- Unix texts read from both ends, and what they answer.
use Rattle.std.proofs.Common.{◌≡◌, codes, [], ◌∷◌, refl, true, false, Some, None}
use Rattle.typed_path.specs.components.{unix, current_part, parent_part}
use Rattle.typed_path.specs.scan.{front, back}
use Rattle.typed_path.specs.queries.{stem_of, extension_of, parent_of, file_name_of, file_stem_of, extension, path_starts_with, path_ends_with, stripped}
use Rattle.typed_path.proofs.examples.Words.{unix_parts, unix_root, named, read, rest, absolute, rooted, valid}

-- component lists
empty_text : unix_parts "" ≡ []
empty_text = refl

root_alone : unix_parts "/" ≡ unix_root ∷ []
root_alone = refl

repeated_separators_vanish : unix_parts "//a///b//" ≡ unix_root ∷ named "a" ∷ named "b" ∷ []
repeated_separators_vanish = refl

later_dots_vanish : unix_parts "/a/./b//" ≡ unix_root ∷ named "a" ∷ named "b" ∷ []
later_dots_vanish = refl

first_dot_stays : unix_parts "./a/.." ≡ current_part ∷ named "a" ∷ parent_part ∷ []
first_dot_stays = refl

dot_behind_the_root_vanishes : unix_parts "/././." ≡ unix_root ∷ []
dot_behind_the_root_vanishes = refl

dots_alone : unix_parts "././." ≡ current_part ∷ []
dots_alone = refl

parents_stay : unix_parts "../a/../.." ≡ parent_part ∷ named "a" ∷ parent_part ∷ parent_part ∷ []
parents_stay = refl

three_dots_are_a_name : unix_parts "..." ≡ named "..." ∷ []
three_dots_are_a_name = refl

backslash_is_no_separator : unix_parts "a\\b" ≡ named "a\\b" ∷ []
backslash_is_no_separator = refl

one_name_among_separators_and_dots : unix_parts "a//." ≡ named "a" ∷ []
one_name_among_separators_and_dots = refl

-- `/a/./b//` from both ends
back_front_back_front : read unix "/a/./b//" (back ∷ front ∷ back ∷ front ∷ []) ≡ Some (named "b") ∷ Some unix_root ∷ Some (named "a") ∷ None ∷ []
back_front_back_front = refl

none_at_both_ends :
    read unix "/a/./b//" (back ∷ front ∷ front ∷ back ∷ front ∷ back ∷ [])
    ≡ Some (named "b") ∷ Some unix_root ∷ Some (named "a") ∷ None ∷ None ∷ None ∷ []
none_at_both_ends = refl

all_is_left_at_first : rest unix "/a/./b//" 0 0 ≡ codes "/a/./b//"
all_is_left_at_first = refl

back_read_cuts_trailing_separators : rest unix "/a/./b//" 0 1 ≡ codes "/a"
back_read_cuts_trailing_separators = refl

left_after_one_from_each_end : rest unix "/a/./b//" 1 1 ≡ codes "a"
left_after_one_from_each_end = refl

empty_after_all_from_both_ends : rest unix "/a/./b//" 1 2 ≡ []
empty_after_all_from_both_ends = refl

front_reads_keep_trailing_separators : rest unix "/a/./b//" 2 0 ≡ codes "b//"
front_reads_keep_trailing_separators = refl

empty_after_all_from_the_front : rest unix "/a/./b//" 3 0 ≡ []
empty_after_all_from_the_front = refl

-- a first `.` from the back
names_then_current_from_the_back :
    read unix "./a/b/c" (back ∷ back ∷ back ∷ back ∷ back ∷ [])
    ≡ Some (named "c") ∷ Some (named "b") ∷ Some (named "a") ∷ Some current_part ∷ None ∷ []
names_then_current_from_the_back = refl

current_left_after_one : rest unix "./a/b/c" 0 1 ≡ codes "./a/b"
current_left_after_one = refl

current_left_after_two : rest unix "./a/b/c" 0 2 ≡ codes "./a"
current_left_after_two = refl

current_left_after_three : rest unix "./a/b/c" 0 3 ≡ codes "."
current_left_after_three = refl

current_left_after_four : rest unix "./a/b/c" 0 4 ≡ []
current_left_after_four = refl

-- a root with dots behind it
root_from_the_back : read unix "/././." (back ∷ back ∷ []) ≡ Some unix_root ∷ None ∷ []
root_from_the_back = refl

nothing_left_behind_root : rest unix "/././." 0 1 ≡ []
nothing_left_behind_root = refl

-- the empty text
nothing_to_read : read unix "" (front ∷ back ∷ []) ≡ None ∷ None ∷ []
nothing_to_read = refl

empty_text_left : rest unix "" 0 0 ≡ []
empty_text_left = refl

-- queries
absolute_by_root : absolute unix "/a" ≡ true
absolute_by_root = refl

relative_name : absolute unix "a" ≡ false
relative_name = refl

relative_current : absolute unix "./a" ≡ false
relative_current = refl

rooted_by_root : rooted unix "/a" ≡ true
rooted_by_root = refl

empty_has_no_root : rooted unix "" ≡ false
empty_has_no_root = refl

colons_are_allowed : valid unix "/a:b/*?" ≡ true
colons_are_allowed = refl

-- parents, up to the one that has none
parent_without_the_dot : parent_of unix (codes "/a/b/.") ≡ Some (codes "/a")
parent_without_the_dot = refl

parent_is_the_root : parent_of unix (codes "/a") ≡ Some (codes "/")
parent_is_the_root = refl

root_has_no_parent : parent_of unix (codes "/") ≡ None
root_has_no_parent = refl

name_has_the_empty_parent : parent_of unix (codes "a") ≡ Some []
name_has_the_empty_parent = refl

empty_has_no_parent : parent_of unix [] ≡ None
empty_has_no_parent = refl

-- file names, stems and extensions
leading_dot_is_no_extension : file_stem_of unix (codes "/a/.bashrc") ≡ Some (codes ".bashrc")
leading_dot_is_no_extension = refl

leading_dot_has_no_extension : extension unix (codes "/a/.bashrc") ≡ None
leading_dot_has_no_extension = refl

stem_before_a_trailing_dot : stem_of (codes "a.") ≡ codes "a"
stem_before_a_trailing_dot = refl

empty_extension_behind_a_trailing_dot : extension_of (codes "a.") ≡ Some []
empty_extension_behind_a_trailing_dot = refl

stem_of_two_dots_and_a_name : stem_of (codes "..x") ≡ codes "."
stem_of_two_dots_and_a_name = refl

extension_of_two_dots_and_a_name : extension_of (codes "..x") ≡ Some (codes "x")
extension_of_two_dots_and_a_name = refl

stem_of_three_dots : file_stem_of unix (codes "...") ≡ Some (codes "..")
stem_of_three_dots = refl

extension_of_three_dots : extension unix (codes "...") ≡ Some []
extension_of_three_dots = refl

last_dot_splits : extension unix (codes "/tmp/a.tar.gz/.") ≡ Some (codes "gz")
last_dot_splits = refl

stem_before_the_last_dot : file_stem_of unix (codes "/tmp/a.tar.gz/.") ≡ Some (codes "a.tar")
stem_before_the_last_dot = refl

parent_is_no_file_name : file_name_of unix (codes "a/..") ≡ None
parent_is_no_file_name = refl

root_is_no_file_name : file_name_of unix (codes "/") ≡ None
root_is_no_file_name = refl

-- what is left behind a base
stripped_of_a_parent : stripped unix (codes "/a/./b/c") (codes "/a") ≡ Some (codes "b/c")
stripped_of_a_parent = refl

stripped_of_itself : stripped unix (codes "a/b/") (codes "a/b") ≡ Some []
stripped_of_itself = refl

stripped_of_nothing : stripped unix (codes "a//b/") [] ≡ Some (codes "a//b/")
stripped_of_nothing = refl

stripped_of_another : stripped unix (codes "/a") (codes "/b") ≡ None
stripped_of_another = refl

starts_by_components : path_starts_with unix (codes "/a//b/c") (codes "/a/b/") ≡ true
starts_by_components = refl

does_not_start_within_a_name : path_starts_with unix (codes "/abc") (codes "/a") ≡ false
does_not_start_within_a_name = refl

ends_by_components : path_ends_with unix (codes "/a/b/./c") (codes "b/c/") ≡ true
ends_by_components = refl

does_not_end_with_a_root : path_ends_with unix (codes "/a/b") (codes "/b") ≡ false
does_not_end_with_a_root = refl
