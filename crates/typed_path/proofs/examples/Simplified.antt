-- Paths of verbatim drives without their `\\?\`, by computation.
use Prim.Native.String.{String}
use Rattle.std.proofs.Common.{◌≡◌, codes, List, ℕ, [], ◌∷◌, ◌++◌, refl}
use Rattle.typed_path.specs.components.{unix, windows}
use Rattle.typed_path.specs.queries.{simplified_text}

abbrev simplified : String → List ℕ
simplified text = simplified_text windows (codes text)

plain_names : simplified "\\\\?\\C:\\a\\b" ≡ codes "C:\\a\\b"
plain_names = refl

small_letter : simplified "\\\\?\\c:\\x" ≡ codes "c:\\x"
small_letter = refl

root_alone : simplified "\\\\?\\C:\\" ≡ codes "C:\\"
root_alone = refl

mark_with_slashes : simplified "//?/C:/a/b" ≡ codes "C:/a/b"
mark_with_slashes = refl

separators_side_by_side : simplified "\\\\?\\C:\\a\\\\b\\" ≡ codes "C:\\a\\\\b\\"
separators_side_by_side = refl

space_before_the_dot : simplified "\\\\?\\C:\\a .txt" ≡ codes "C:\\a .txt"
space_before_the_dot = refl

dot_at_the_end : simplified "\\\\?\\C:\\a." ≡ codes "\\\\?\\C:\\a."
dot_at_the_end = refl

space_at_the_end : simplified "\\\\?\\C:\\a " ≡ codes "\\\\?\\C:\\a "
space_at_the_end = refl

device : simplified "\\\\?\\C:\\con" ≡ codes "\\\\?\\C:\\con"
device = refl

device_with_an_extension : simplified "\\\\?\\C:\\Aux.txt\\a" ≡ codes "\\\\?\\C:\\Aux.txt\\a"
device_with_an_extension = refl

device_with_spaces_and_an_extension : simplified "\\\\?\\C:\\con  .txt" ≡ codes "\\\\?\\C:\\con  .txt"
device_with_spaces_and_an_extension = refl

input_of_the_console : simplified "\\\\?\\C:\\conin$.x" ≡ codes "\\\\?\\C:\\conin$.x"
input_of_the_console = refl

raised_digit : simplified_text windows (codes "\\\\?\\C:\\com" ++ 194 ∷ 178 ∷ []) ≡ codes "\\\\?\\C:\\com" ++ 194 ∷ 178 ∷ []
raised_digit = refl

slash_in_a_name : simplified "\\\\?\\C:\\a/b" ≡ codes "\\\\?\\C:\\a/b"
slash_in_a_name = refl

parent : simplified "\\\\?\\C:\\a\\..\\b" ≡ codes "\\\\?\\C:\\a\\..\\b"
parent = refl

current : simplified "\\\\?\\C:\\.\\a" ≡ codes "\\\\?\\C:\\.\\a"
current = refl

drive_alone : simplified "\\\\?\\C:" ≡ codes "\\\\?\\C:"
drive_alone = refl

name_right_behind_the_drive : simplified "\\\\?\\C:a" ≡ codes "\\\\?\\C:a"
name_right_behind_the_drive = refl

share : simplified "\\\\?\\UNC\\s\\h\\a" ≡ codes "\\\\?\\UNC\\s\\h\\a"
share = refl

drive_as_it_is : simplified "C:\\a" ≡ codes "C:\\a"
drive_as_it_is = refl

path_of_unix : simplified_text unix (codes "\\\\?\\C:\\a") ≡ codes "\\\\?\\C:\\a"
path_of_unix = refl
