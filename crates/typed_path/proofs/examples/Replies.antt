-- What the program answers to a line, and to a whole input.
use Rattle.std.proofs.Common.{◌≡◌, codes, [], ◌∷◌, ◌++◌, refl}
use Rattle.typed_path.specs.script.{reply, answers, complete_lines, replies_to}

-- normal texts
normal_of_all_at_once : reply (codes "normalize\tunix\tfoo/bar//baz/./asdf/quux/..") ≡ codes "ok\tfoo/bar/baz/asdf\n"
normal_of_all_at_once = refl

parents_stop_at_the_root : reply (codes "normalize\tunix\t/a/./b/../../..//c") ≡ codes "ok\t/c\n"
parents_stop_at_the_root = refl

first_parents_vanish : reply (codes "normalize\tunix\t../a") ≡ codes "ok\ta\n"
first_parents_vanish = refl

normal_of_a_dot : reply (codes "normalize\tunix\t.") ≡ codes "ok\t\n"
normal_of_a_dot = refl

normal_of_the_empty_path : reply (codes "normalize\tunix\t") ≡ codes "ok\t\n"
normal_of_the_empty_path = refl

-- lists of components
components_of_a_relative_path : reply (codes "components\tunix\t./a/..") ≡ codes "ok\tcurrent=.\tnormal=a\tparent=..\n"
components_of_a_relative_path = refl

components_of_an_absolute_path : reply (codes "components\tunix\t/a/./b//") ≡ codes "ok\troot=/\tnormal=a\tnormal=b\n"
components_of_an_absolute_path = refl

components_of_the_empty_path : reply (codes "components\tunix\t") ≡ codes "ok\n"
components_of_the_empty_path = refl

components_show_equals_signs : reply (codes "components\tunix\troot=/=") ≡ codes "ok\tnormal=root=\tnormal==\n"
components_show_equals_signs = refl

components_keep_backslashes : reply (codes "components\tunix\t\\a") ≡ codes "ok\tnormal=\\a\n"
components_keep_backslashes = refl

-- joins
join_of_a_path_with_a_parent : reply (codes "join\tunix\t/etc\tabc/../def") ≡ codes "ok\t/etc/abc/../def\n"
join_of_a_path_with_a_parent = refl

join_of_an_absolute_path : reply (codes "join\tunix\ta\t/b") ≡ codes "ok\t/b\n"
join_of_an_absolute_path = refl

join_of_the_empty_path : reply (codes "join\tunix\ta/\t") ≡ codes "ok\ta/\n"
join_of_the_empty_path = refl

checked_join_above_its_base : reply (codes "join_checked\tunix\t/etc\t..") ≡ codes "err\tPathTraversalAttack\n"
checked_join_above_its_base = refl

checked_join_of_an_absolute_path : reply (codes "join_checked\tunix\t/etc\t/sneaky/replacement") ≡ codes "err\tUnexpectedRoot\n"
checked_join_of_an_absolute_path = refl

checked_join_of_a_disallowed_name : reply (codes "join_checked\tunix\tsome/path\tsome/inva" ++ 0 ∷ codes "lid/path") ≡ codes "err\tInvalidFilename\n"
checked_join_of_a_disallowed_name = refl

checked_join_onto_a_parent : reply (codes "join_checked\tunix\t..\ta") ≡ codes "ok\t../a\n"
checked_join_onto_a_parent = refl

-- lines of Windows
windows_components : reply (codes "components\twindows\tC:\\a") ≡ codes "ok\tDisk=C:\troot=\\\tnormal=a\n"
windows_components = refl

windows_normal_text : reply (codes "normalize\twindows\tC:\\a\\.\\..\\b") ≡ codes "ok\tC:\\b\n"
windows_normal_text = refl

windows_join : reply (codes "join\twindows\tC:\ta") ≡ codes "ok\tC:a\n"
windows_join = refl

windows_checked_join : reply (codes "join_checked\twindows\t\\\\?\\C:\\base\ta/b\\..\\..") ≡ codes "ok\t\\\\?\\C:\\base\n"
windows_checked_join = refl

windows_checked_join_of_a_prefix : reply (codes "join_checked\twindows\tC:\\base\tD:a") ≡ codes "err\tUnexpectedPrefix\n"
windows_checked_join_of_a_prefix = refl

-- the dialect that a path looks like
derived_of_a_drive : reply (codes "derive\ta:b") ≡ codes "ok\twindows\n"
derived_of_a_drive = refl

derived_of_the_empty_path : reply (codes "derive\t") ≡ codes "ok\tunix\n"
derived_of_the_empty_path = refl

derived_of_a_backslash : reply (codes "derive\t\\") ≡ codes "ok\twindows\n"
derived_of_a_backslash = refl

derived_of_a_share : reply (codes "derive\t//a/b") ≡ codes "ok\twindows\n"
derived_of_a_share = refl

derived_of_three_slashes : reply (codes "derive\t///a") ≡ codes "ok\tunix\n"
derived_of_three_slashes = refl

derived_of_a_letter_past_ascii : reply (codes "derive\t" ++ 233 ∷ codes ":x") ≡ codes "ok\twindows\n"
derived_of_a_letter_past_ascii = refl

derived_of_no_letter : reply (codes "derive\t" ++ 215 ∷ codes ":x") ≡ codes "ok\tunix\n"
derived_of_no_letter = refl

-- bad lines
derive_without_a_path : reply (codes "derive") ≡ codes "err\tBadLine\n"
derive_without_a_path = refl

derive_of_two_paths : reply (codes "derive\ta\tb") ≡ codes "err\tBadLine\n"
derive_of_two_paths = refl

join_without_a_path : reply (codes "join\tunix\ta") ≡ codes "err\tBadLine\n"
join_without_a_path = refl

join_of_an_unknown_encoding : reply (codes "join\tmac\ta\tb") ≡ codes "err\tBadLine\n"
join_of_an_unknown_encoding = refl

components_of_an_unknown_encoding : reply (codes "components\tmac\ta") ≡ codes "err\tBadLine\n"
components_of_an_unknown_encoding = refl

unknown_command : reply (codes "component\tunix\ta") ≡ codes "err\tBadLine\n"
unknown_command = refl

unknown_dialect : reply (codes "normalize\tmac\ta") ≡ codes "err\tBadLine\n"
unknown_dialect = refl

empty_line : reply [] ≡ codes "err\tBadLine\n"
empty_line = refl

no_path : reply (codes "normalize\tunix") ≡ codes "err\tBadLine\n"
no_path = refl

one_field_too_many : reply (codes "normalize\tunix\ta\tb") ≡ codes "err\tBadLine\n"
one_field_too_many = refl

carriage_return_is_part_of_a_path : reply (codes "normalize\tunix\ta\r") ≡ codes "ok\ta\r\n"
carriage_return_is_part_of_a_path = refl

-- inputs
empty_input : answers [] ≡ []
empty_input = refl

line_feed_alone : answers (codes "\n") ≡ codes "err\tBadLine\n"
line_feed_alone = refl

components_behind_another_line : answers (codes "normalize\tunix\ta\ncomponents\tunix\t..") ≡ codes "ok\ta\nok\tparent=..\n"
components_behind_another_line = refl

last_line_without_line_feed : answers (codes "normalize\tunix\ta//b\nx") ≡ codes "ok\ta/b\nerr\tBadLine\n"
last_line_without_line_feed = refl

last_line_with_line_feed : answers (codes "normalize\tunix\ta//b\nx\n") ≡ codes "ok\ta/b\nerr\tBadLine\n"
last_line_with_line_feed = refl

-- beginnings of an input of which more may come
line_before_its_line_feed : replies_to (complete_lines (codes "normalize\tunix\ta//b")) ≡ []
line_before_its_line_feed = refl

line_behind_its_line_feed : replies_to (complete_lines (codes "normalize\tunix\ta//b\n")) ≡ codes "ok\ta/b\n"
line_behind_its_line_feed = refl

beginning_of_the_next_line : replies_to (complete_lines (codes "normalize\tunix\ta//b\nx")) ≡ codes "ok\ta/b\n"
beginning_of_the_next_line = refl
