-- The status with which the program ends.
use Rattle.std.specs.Prelude.{ℕ, Ok, Err, Result}
use Rattle.typed_path.specs.declared.errors.LineError.{LineError}
use Rattle.typed_path.specs.declared.errors.LineError.TheVariants.{Read, Write, OutOfMemory}

abbrev pub status_of : {T : Type 0} → Result T LineError → ℕ
status_of (Ok answered) = 0
status_of (Err Read) = 1
status_of (Err Write) = 1
status_of (Err OutOfMemory) = 2
