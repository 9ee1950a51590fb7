-- Readings as numbers, and paths that are put in place.
use Prim.Native.String.{String}
use Rattle.std.proofs.Common.{◌≡◌, ℕ, codes, List, [], ◌∷◌, Bool, true, false, refl}
use Rattle.typed_path.specs.declared.scan.unread.Unread.{Unread}
use Rattle.typed_path.specs.components.{Dialect, unix, windows, backslash, Part, disk, current_part, parts}
use Rattle.typed_path.specs.scan.{is_unread, unread_items, unread_slice}
use Rattle.typed_path.specs.changes.{merges, put_in_place}
use Rattle.typed_path.proofs.examples.Words.{windows_root, named, written, unix_parts, windows_parts, pushed}

abbrev numbers : ℕ → ℕ → ℕ → Unread
numbers from to stage = record { from = from; to = to; stage = stage }

abbrev stands : Dialect → String → Unread → Bool
stands d text u = is_unread d (codes text) u

abbrev left_at : Dialect → String → Unread → List Part
left_at d text u = parts (unread_items d (codes text) u)

-- at first all is left, whether there is a prefix or not
whole_of_unix : left_at unix "/a//b/" (numbers 0 6 0) ≡ unix_parts "/a//b/"
whole_of_unix = refl

whole_with_a_drive : left_at windows "C:\\a\\.\\b" (numbers 0 8 0) ≡ windows_parts "C:\\a\\.\\b"
whole_with_a_drive = refl

whole_without_one : left_at windows "a\\b" (numbers 0 3 0) ≡ windows_parts "a\\b"
whole_without_one = refl

-- behind the prefix the root is left
behind_the_drive : left_at windows "C:\\a\\.\\b" (numbers 2 8 1) ≡ windows_root ∷ named "a" ∷ named "b" ∷ []
behind_the_drive = refl

-- and behind that the names
behind_the_root : left_at windows "C:\\a\\.\\b" (numbers 3 8 2) ≡ named "a" ∷ named "b" ∷ []
behind_the_root = refl

before_the_last : left_at windows "C:\\a\\.\\b" (numbers 3 4 2) ≡ named "a" ∷ []
before_the_last = refl

slice_before_the_last : unread_slice (codes "C:\\a\\.\\b") (numbers 3 4 2) ≡ codes "a"
slice_before_the_last = refl

-- a drive alone is left where the body was taken from the back
drive_alone : left_at windows "C:\\a" (numbers 0 2 0) ≡ written (disk 67) "C:" ∷ []
drive_alone = refl

-- a dot is a component behind a verbatim drive
verbatim_dot : left_at windows "\\\\?\\C:\\.\\b" (numbers 7 10 2) ≡ current_part ∷ named "b" ∷ []
verbatim_dot = refl

verbatim_dot_stands : stands windows "\\\\?\\C:\\.\\b" (numbers 7 10 2) ≡ true
verbatim_dot_stands = refl

-- numbers at which none may stand
end_behind_the_path : stands unix "a" (numbers 0 2 1) ≡ false
end_behind_the_path = refl

end_before_the_start : stands unix "ab" (numbers 2 1 1) ≡ false
end_before_the_start = refl

end_within_the_prefix : stands windows "C:a" (numbers 0 1 0) ≡ false
end_within_the_prefix = refl

start_of_a_whole : stands unix "ab" (numbers 1 2 0) ≡ false
start_of_a_whole = refl

start_at_a_separator : stands unix "a/b" (numbers 1 3 2) ≡ false
start_at_a_separator = refl

start_at_a_dot : stands unix "a/./b" (numbers 2 5 2) ≡ false
start_at_a_dot = refl

no_such_stage : stands unix "a" (numbers 0 1 3) ≡ false
no_such_stage = refl

-- a reading may stand within a name, though none that began at the front does
start_within_a_name : stands unix "abc" (numbers 1 3 2) ≡ true
start_within_a_name = refl

-- pushes by their places
behind_a_separator : pushed windows "C:\\a" "b/c" ≡ put_in_place (codes "C:\\a") 4 (backslash ∷ []) (codes "b/c")
behind_a_separator = refl

behind_the_share : pushed windows "\\\\s\\h\\x" "/y" ≡ put_in_place (codes "\\\\s\\h\\x") 5 [] (codes "/y")
behind_the_share = refl

in_its_place : pushed unix "a" "/b" ≡ put_in_place (codes "a") 0 [] (codes "/b")
in_its_place = refl

-- one that is merged has none, and one of nothing, or with a prefix, is not merged
merged_into_a_verbatim_drive : merges windows (codes "\\\\?\\C:\\a") (codes "b") ≡ true
merged_into_a_verbatim_drive = refl

nothing_is_not_merged : merges windows (codes "\\\\?\\C:\\a") [] ≡ false
nothing_is_not_merged = refl

prefix_is_not_merged : merges windows (codes "\\\\?\\C:\\a") (codes "D:b") ≡ false
prefix_is_not_merged = refl
