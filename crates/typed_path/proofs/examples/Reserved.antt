-- Names that stand for devices on Windows.
use Rattle.std.proofs.Common.{◌≡◌, codes, refl, true, false, Ok, Err}
use Rattle.typed_path.specs.declared.errors.CheckedPathError.TheVariants.{InvalidFilename, PathTraversalAttack}
use Rattle.typed_path.specs.components.{unix, windows}
use Rattle.typed_path.specs.conversions.{converted, converted_checked}
use Rattle.typed_path.specs.script.{reply}
use Rattle.typed_path.specs.changes.{refused}
use Rattle.typed_path.proofs.examples.Words.{valid, pushed, checked, normalized}

-- which names are valid
device_with_an_extension_is_not_valid : valid windows "con.txt" ≡ false
device_with_an_extension_is_not_valid = refl

device_in_any_case_is_not_valid : valid windows "Nul" ≡ false
device_in_any_case_is_not_valid = refl

device_before_two_dots_is_not_valid : valid windows "a\\COM0.x.y" ≡ false
device_before_two_dots_is_not_valid = refl

device_behind_a_dot_is_valid : valid windows ".con" ≡ true
device_behind_a_dot_is_valid = refl

longer_name_is_valid : valid windows "com10" ≡ true
longer_name_is_valid = refl

device_and_a_space_is_valid : valid windows "con " ≡ true
device_and_a_space_is_valid = refl

device_prefix_is_valid : valid windows "\\\\.\\COM1" ≡ true
device_prefix_is_valid = refl

device_is_valid_on_unix : valid unix "con" ≡ true
device_is_valid_on_unix = refl

-- what is pushed
device_is_refused : checked windows "dir" "sub\\nul.tar.gz" ≡ (codes "dir", refused InvalidFilename)
device_is_refused = refl

device_is_refused_before_its_parent : checked windows "dir" "con\\.." ≡ (codes "dir", refused InvalidFilename)
device_is_refused_before_its_parent = refl

parent_is_refused_before_a_device : checked windows "dir" "..\\con" ≡ (codes "dir", refused PathTraversalAttack)
parent_is_refused_before_a_device = refl

device_is_pushed : pushed windows "dir" "con" ≡ codes "dir\\con"
device_is_pushed = refl

device_is_normal : normalized windows "a\\..\\con" ≡ codes "con"
device_is_normal = refl

-- what is converted
device_is_refused_in_windows : converted_checked unix windows (codes "/tmp/aux.h") ≡ Err InvalidFilename
device_is_refused_in_windows = refl

device_is_converted : converted unix windows (codes "/tmp/aux.h") ≡ codes "\\tmp\\aux.h"
device_is_converted = refl

share_of_a_device_becomes_the_root : converted_checked windows windows (codes "\\\\s\\con\\x") ≡ Ok (codes "\\x")
share_of_a_device_becomes_the_root = refl

-- what the program answers
checked_join_of_a_device : reply (codes "join_checked\twindows\tC:\\x\taux.h") ≡ codes "err\tInvalidFilename\n"
checked_join_of_a_device = refl
