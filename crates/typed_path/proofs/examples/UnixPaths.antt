-- Unix paths pushed, checked, made normal and changed in place.
use Rattle.std.proofs.Common.{◌≡◌, ℕ, codes, List, [], ◌∷◌, ◌++◌, refl, true, false, Some}
use Rattle.typed_path.specs.declared.errors.CheckedPathError.TheVariants.{InvalidFilename, PathTraversalAttack, UnexpectedRoot}
use Rattle.typed_path.specs.components.{unix, normal}
use Rattle.typed_path.specs.changes.{fault, Operation, push_op, push_checked_op, pop_op, set_file_name_op, set_extension_op, clear_op, extend_op, done, flag, refused, step, text_after, replies}
use Rattle.typed_path.specs.places.{place}
use Rattle.typed_path.specs.promises.{keeps_prefix}
use Rattle.typed_path.proofs.examples.Words.{pushed, checked, normalized}

-- pushes
empty_path_changes_nothing : pushed unix "a" "" ≡ codes "a"
empty_path_changes_nothing = refl

empty_onto_empty : pushed unix "" "" ≡ []
empty_onto_empty = refl

absolute_path_replaces : pushed unix "a/b" "/c" ≡ codes "/c"
absolute_path_replaces = refl

separator_is_put_between : pushed unix "a" "b" ≡ codes "a/b"
separator_is_put_between = refl

separator_at_the_end_is_enough : pushed unix "a/" "b" ≡ codes "a/b"
separator_at_the_end_is_enough = refl

onto_the_empty_path : pushed unix "" "a" ≡ codes "a"
onto_the_empty_path = refl

parents_are_kept : pushed unix "a" ".." ≡ codes "a/.."
parents_are_kept = refl

-- checked pushes
traversal_is_refused : checked unix "/etc" ".." ≡ (codes "/etc", refused PathTraversalAttack)
traversal_is_refused = refl

root_is_refused : checked unix "/etc" "/sneaky/replacement" ≡ (codes "/etc", refused UnexpectedRoot)
root_is_refused = refl

parent_behind_a_name_is_accepted : checked unix "/etc" "abc/../def" ≡ (codes "/etc/abc/../def", done)
parent_behind_a_name_is_accepted = refl

second_parent_is_refused : checked unix "/etc" "abc/../.." ≡ (codes "/etc", refused PathTraversalAttack)
second_parent_is_refused = refl

zero_byte_is_refused :
    step unix (codes "some/path") (push_checked_op (codes "some/inva" ++ 0 ∷ codes "lid/path"))
    ≡ (codes "some/path", refused InvalidFilename)
zero_byte_is_refused = refl

first_offence_counts : fault unix (codes ".." ++ codes "/a" ++ 0 ∷ []) ≡ Some PathTraversalAttack
first_offence_counts = refl

base_of_parents : checked unix ".." "a" ≡ (codes "../a", done)
base_of_parents = refl

place_of_a_base_of_parents : place unix (codes "..") ≡ []
place_of_a_base_of_parents = refl

place_of_its_join : place unix (codes "../a") ≡ normal (codes "a") ∷ []
place_of_its_join = refl

-- normal texts
normal_of_all_at_once : normalized unix "foo/bar//baz/./asdf/quux/.." ≡ codes "foo/bar/baz/asdf"
normal_of_all_at_once = refl

normal_of_a_trailing_dot : normalized unix "a//b/." ≡ codes "a/b"
normal_of_a_trailing_dot = refl

normal_of_a_first_dot : normalized unix "./a/b" ≡ codes "a/b"
normal_of_a_first_dot = refl

normal_of_a_normal_text : normalized unix "/a/b" ≡ codes "/a/b"
normal_of_a_normal_text = refl

parents_stop_at_the_root : normalized unix "/a/./b/../../..//c" ≡ codes "/c"
parents_stop_at_the_root = refl

first_parents_vanish : normalized unix "../a" ≡ codes "a"
first_parents_vanish = refl

normal_of_a_dot : normalized unix "." ≡ []
normal_of_a_dot = refl

normal_of_the_empty_text : normalized unix "" ≡ []
normal_of_the_empty_text = refl

-- three characters of three bytes each
abbrev japanese : List ℕ
japanese = 0xE6 ∷ 0x97 ∷ 0xA5 ∷ 0xE6 ∷ 0x9C ∷ 0xAC ∷ 0xE8 ∷ 0xAA ∷ 0x9E ∷ []

-- extensions
three_dots_lose_one : step unix (codes "...") (set_extension_op []) ≡ (codes "..", flag true)
three_dots_lose_one = refl

no_extension_of_a_parent : step unix (codes "foo/..") (set_extension_op (codes "z")) ≡ (codes "foo/..", flag false)
no_extension_of_a_parent = refl

trailing_separator_goes :
    step unix (codes "/tmp/" ++ japanese ++ codes ".txt/") (set_extension_op (codes "z"))
    ≡ (codes "/tmp/" ++ japanese ++ codes ".z", flag true)
trailing_separator_goes = refl

-- file names and pops
empty_file_name_leaves_the_parent : step unix (codes "a/b") (set_file_name_op []) ≡ (codes "a", done)
empty_file_name_leaves_the_parent = refl

file_name_behind_a_parent : step unix (codes "a/..") (set_file_name_op (codes "b")) ≡ (codes "a/../b", done)
file_name_behind_a_parent = refl

pop_of_the_root : step unix (codes "/") pop_op ≡ (codes "/", flag false)
pop_of_the_root = refl

clear_of_a_path : step unix (codes "/a") clear_op ≡ ([], done)
clear_of_a_path = refl

-- a list of operations on `/etc`
abbrev operations : List Operation
operations =
    push_checked_op (codes "..") ∷ push_op (codes "a.txt") ∷ set_extension_op (codes "z") ∷ set_file_name_op (codes "b")
    ∷ pop_op ∷ pop_op ∷ pop_op ∷ extend_op (codes "x" ∷ codes "/y" ∷ codes "z" ∷ []) ∷ []

text_after_operations : text_after unix (codes "/etc") operations ≡ codes "/y/z"
text_after_operations = refl

replies_to_operations :
    replies unix (codes "/etc") operations
    ≡ refused PathTraversalAttack ∷ done ∷ flag true ∷ done ∷ flag true ∷ flag true ∷ flag false ∷ done ∷ []
replies_to_operations = refl

-- bases whose prefix every accepted path keeps: they have none
root_keeps_no_prefix : keeps_prefix unix (codes "/") ≡ true
root_keeps_no_prefix = refl

backslashes_keep_no_prefix : keeps_prefix unix (codes "\\\\s") ≡ true
backslashes_keep_no_prefix = refl
