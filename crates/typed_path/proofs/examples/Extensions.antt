-- The first stem of a file name, an extension more behind it, and a separator at the end.
use Rattle.std.proofs.Common.{◌≡◌, codes, List, ℕ, refl, true, false, Bool, Some, None, Option}
use Prim.Native.String.{String}
use Rattle.typed_path.specs.components.{Dialect, unix, windows}
use Rattle.typed_path.specs.queries.{file_prefix_of, has_trailing_separator}
use Rattle.typed_path.specs.changes.{with_added_extension}

abbrev first_stem : Dialect → String → Option (List ℕ)
first_stem d text = file_prefix_of d (codes text)

abbrev added : Dialect → String → String → List ℕ
added d text ext = with_added_extension d (codes text) (codes ext)

abbrev trailing : Dialect → String → Bool
trailing d text = has_trailing_separator d (codes text)

-- the first stem
before_the_first_dot : first_stem unix "foo.tar.gz" ≡ Some (codes "foo")
before_the_first_dot = refl

behind_a_dot_at_the_front : first_stem unix "a/.config.toml" ≡ Some (codes ".config")
behind_a_dot_at_the_front = refl

hidden_name_is_its_own : first_stem windows "C:.bashrc" ≡ Some (codes ".bashrc")
hidden_name_is_its_own = refl

second_dot_ends_the_first_stem : first_stem windows "a\\..b" ≡ Some (codes ".")
second_dot_ends_the_first_stem = refl

parent_has_no_first_stem : first_stem unix "a/.." ≡ None
parent_has_no_first_stem = refl

share_has_no_first_stem : first_stem windows "\\\\s\\h.x" ≡ None
share_has_no_first_stem = refl

-- an extension more
behind_other_extensions : added unix "/feel/the.formatted" "dark.side" ≡ codes "/feel/the.formatted.dark.side"
behind_other_extensions = refl

separators_behind_the_name_go : added unix "a.tar/./" "gz" ≡ codes "a.tar.gz"
separators_behind_the_name_go = refl

empty_extension_keeps_all : added unix "a.tar/./" "" ≡ codes "a.tar/./"
empty_extension_keeps_all = refl

hidden_name_takes_one : added windows "C:\\.bashrc" "bak" ≡ codes "C:\\.bashrc.bak"
hidden_name_takes_one = refl

root_takes_none : added unix "/" "gz" ≡ codes "/"
root_takes_none = refl

drive_takes_none : added windows "C:" "gz" ≡ codes "C:"
drive_takes_none = refl

slash_of_a_verbatim_name : added windows "\\\\?\\C:\\a/" "b" ≡ codes "\\\\?\\C:\\a/.b"
slash_of_a_verbatim_name = refl

-- a separator at the end
slash_at_the_end : trailing unix "a/" ≡ true
slash_at_the_end = refl

backslash_of_unix : trailing unix "a\\" ≡ false
backslash_of_unix = refl

root_alone : trailing unix "/" ≡ true
root_alone = refl

empty_path : trailing unix "" ≡ false
empty_path = refl

dot_at_the_end : trailing unix "a/." ≡ false
dot_at_the_end = refl

either_of_windows : trailing windows "C:\\a/" ≡ true
either_of_windows = refl

slash_behind_a_verbatim_prefix : trailing windows "\\\\?\\C:\\a/" ≡ false
slash_behind_a_verbatim_prefix = refl

backslash_behind_a_verbatim_prefix : trailing windows "\\\\?\\C:\\a\\" ≡ true
backslash_behind_a_verbatim_prefix = refl
