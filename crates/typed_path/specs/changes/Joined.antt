-- What a portable join was refused for.
use Rattle.std.specs.Prelude.{ℕ, List, Result, Ok, Err, Option, Some, None, option_map}
use Rattle.typed_path.specs.declared.errors.CheckedPathError.{CheckedPathError}
use Rattle.typed_path.specs.declared.errors.PathError.{PathError}
use Rattle.typed_path.specs.declared.errors.PathError.TheVariants as path_error
use Rattle.typed_path.specs.declared.errors.PortableError.{PortableError}
use Rattle.typed_path.specs.declared.errors.JoinError.{JoinError}
use Rattle.typed_path.specs.declared.errors.JoinError.TheVariants.{Portable, Checked, OutOfMemory}
use Rattle.typed_path.specs.components.Dialects.{Dialect}
use Rattle.typed_path.specs.queries.Portable.{portable_fault}
use Rattle.typed_path.specs.changes.Fault.{fault}

-- the error of a checked join, as one of a portable join
abbrev pub join_error : PathError → JoinError
join_error (path_error.Checked e) = Checked e
join_error path_error.OutOfMemory = OutOfMemory

-- the refusal of a path; none where the join succeeds, and where memory is refused
abbrev pub join_refusal : {A : Type 0} → Result A JoinError → Option JoinError
join_refusal (Ok x) = None
join_refusal (Err OutOfMemory) = None
join_refusal (Err e) = Some e

-- why a path is not portable, or else why a checked join refuses it
abbrev pub either_fault : Option PortableError → Option CheckedPathError → Option JoinError
either_fault None checked = option_map Checked checked
either_fault (Some e) checked = Some (Portable e)

-- what a portable join refuses a path for
abbrev pub join_fault : Dialect → List ℕ → Option JoinError
join_fault d path = either_fault (portable_fault d path) (fault d path)
