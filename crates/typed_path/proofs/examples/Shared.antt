-- What two paths begin with, by computation.
use Prim.Native.String.{String}
use Rattle.std.proofs.Common.{◌≡◌, codes, List, ℕ, Option, Some, None, refl}
use Rattle.typed_path.specs.components.{Dialect, unix, windows}
use Rattle.typed_path.specs.queries.{common_ancestor_of}

abbrev common : Dialect → String → String → Option (List ℕ)
common d path other = common_ancestor_of d (codes path) (codes other)

folder : common unix "/a//b/c" "/a/b/d" ≡ Some (codes "/a//b")
folder = refl

root_alone : common unix "/a" "/b" ≡ Some (codes "/")
root_alone = refl

nothing_behind_no_root : common unix "/a" "a" ≡ None
nothing_behind_no_root = refl

other_names : common unix "a" "b" ≡ None
other_names = refl

longer_name : common unix "ab/c" "a/c" ≡ None
longer_name = refl

all_but_its_end : common unix "a/b/." "a/b/c" ≡ Some (codes "a/b")
all_but_its_end = refl

parents_are_compared_as_written : common unix "a/../b" "a/../c" ≡ Some (codes "a/..")
parents_are_compared_as_written = refl

empty_path : common unix "" "a" ≡ None
empty_path = refl

separators_of_windows : common windows "C:/a\\b" "C:\\a\\c" ≡ Some (codes "C:/a")
separators_of_windows = refl

drives_are_compared_as_written : common windows "c:\\a" "C:\\a" ≡ None
drives_are_compared_as_written = refl

drive_without_a_root : common windows "C:a" "C:\\a" ≡ Some (codes "C:")
drive_without_a_root = refl

folder_of_a_share : common windows "\\\\s\\h\\a\\b" "\\\\s\\h\\a/c" ≡ Some (codes "\\\\s\\h\\a")
folder_of_a_share = refl

verbatim_as_written : common windows "\\\\?\\C:\\a\\b" "\\\\?\\C:\\a\\c" ≡ Some (codes "\\\\?\\C:\\a")
verbatim_as_written = refl
