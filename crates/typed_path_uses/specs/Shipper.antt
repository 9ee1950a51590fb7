-- Where the logs of events go.
use Rattle.std.specs.Prelude.{ℕ, List, Option, Some, None, Result, Ok, Err}
use Rattle.typed_path.specs.components.Dialects.{unix, windows}
use Rattle.typed_path.specs.declared.errors.CheckedPathError.{CheckedPathError}
use Rattle.typed_path.specs.changes.Push.{push}
use Rattle.typed_path.specs.changes.Fault.{fault}
use Rattle.typed_path.specs.conversions.Convert.{converted_checked}
use Rattle.typed_path_uses.specs.Server.{behind_slash}

-- a path, or the fault for which there is none
abbrev pub unless : Option CheckedPathError → List ℕ → Result (List ℕ) CheckedPathError
unless None path = Ok path
unless (Some e) path = Err e

-- a path of Unix, put below a folder without its root
abbrev pub logged : List ℕ → List ℕ → Result (List ℕ) CheckedPathError
logged folder path = unless (fault unix (behind_slash path)) (push unix folder (behind_slash path))

-- the same of a path that came from elsewhere, or could not come
abbrev pub logged_from : List ℕ → Result (List ℕ) CheckedPathError → Result (List ℕ) CheckedPathError
logged_from folder (Ok path) = logged folder path
logged_from folder (Err e) = Err e

-- where the log of an event goes, by its path on Windows, below a folder on Unix
abbrev pub shipped : List ℕ → List ℕ → Result (List ℕ) CheckedPathError
shipped folder event = logged_from folder (converted_checked windows unix event)
