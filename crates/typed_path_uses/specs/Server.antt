-- What a server of files promises.
use Rattle.std.specs.Prelude.{◌≡◌, ◌⊎◌, ◌==◌, ◌&&◌, not, ℕ, Bool, List, [], ◌∷◌, if◌then◌else◌, Option, Some}
use Rattle.std.specs.List.{list_any}
use Rattle.std.specs.Option.{option_map}
use Rattle.percent_encoding.specs.Percent.{percent_decode}
use Rattle.typed_path.specs.declared.errors.CheckedPathError.{CheckedPathError}
use Rattle.typed_path.specs.declared.errors.CheckedPathError.TheVariants.{InvalidFilename, PathTraversalAttack, UnexpectedPrefix, UnexpectedRoot}
use Rattle.typed_path.specs.declared.scan.separators.Separators.TheVariants.{Either}
use Rattle.typed_path.specs.components.Dialects.{windows, slash, is_separator}
use Rattle.typed_path.specs.queries.Queries.{is_disallowed}
use Rattle.typed_path_uses.specs.declared.server.Unserved.{Unserved}
use Rattle.typed_path_uses.specs.declared.server.Unserved.TheVariants.{Traversal, Absolute, ZeroByte, BadName, Device, OutOfMemory}

-- a text without a `/` at its front
abbrev pub behind_slash : List ℕ → List ℕ
behind_slash [] = []
behind_slash (b ∷ bs) = if b == slash then bs else b ∷ bs

-- the path that a URL names
abbrev pub decoded : List ℕ → List ℕ
decoded url = percent_decode (behind_slash url)

-- a byte that no name of Windows may have, and that separates none
abbrev pub is_stray : ℕ → Bool
is_stray b = is_disallowed windows b && not (is_separator Either b)

-- what the fault of a path is called: of a name that may not be, by the bytes of the path
abbrev pub reason_of : List ℕ → CheckedPathError → Unserved
reason_of path PathTraversalAttack = Traversal
reason_of path UnexpectedRoot = Absolute
reason_of path UnexpectedPrefix = Absolute
reason_of path InvalidFilename = if list_any (λ b. b == 0) path then ZeroByte else if list_any is_stray path then BadName else Device

-- memory was refused, or a path has a fault that is called so
abbrev pub IsReason : List ℕ → Option CheckedPathError → Unserved → Type 0
IsReason path fault reason = (reason ≡ OutOfMemory) ⊎ (option_map (reason_of path) fault ≡ Some reason)
