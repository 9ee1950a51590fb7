-- Which dialect a text looks like, and which one a value is of.
use Rattle.std.specs.Prelude.{◌≡◌, ℕ, List, [], ◌∷◌, Bool, false, ◌||◌, ◌==◌, is_some, if◌then◌else◌, Option, Some, None}
use Rattle.typed_path.specs.declared.typed.variant.PathType.{PathType}
use Rattle.typed_path.specs.declared.typed.variant.PathType.TheVariants as kind
use Rattle.typed_path.specs.declared.typed.variant.Typed.{Typed}
use Rattle.typed_path.specs.declared.typed.variant.Typed.TheVariants.{Unix, Windows}
use Rattle.typed_path.specs.components.Dialects.{Dialect, unix, windows, backslash}
use Rattle.typed_path.specs.components.Prefixes.{prefix_of}

-- the dialect that a kind of path names
abbrev pub kind_dialect : PathType → Dialect
kind_dialect kind.Unix = unix
kind_dialect kind.Windows = windows

abbrev pub begins_with_backslash : List ℕ → Bool
begins_with_backslash [] = false
begins_with_backslash (b ∷ bs) = b == backslash

-- a text begins as paths of Windows alone do
abbrev pub looks_like_windows : List ℕ → Bool
looks_like_windows t = begins_with_backslash t || is_some (prefix_of windows t)

abbrev pub derived_dialect : List ℕ → Dialect
derived_dialect t = if looks_like_windows t then windows else unix

-- the dialect that a value is of
abbrev pub typed_dialect : {U W : Type 0} → Typed U W → Dialect
typed_dialect (Unix u) = unix
typed_dialect (Windows w) = windows

-- a change leaves a value of the dialect that it was of
abbrev pub KeepsDialect : {U W : Type 0} → Typed U W → Typed U W → Type 0
KeepsDialect old new = typed_dialect new ≡ typed_dialect old

-- what the value that is held gives
abbrev pub of_held : {U W A : Type 0} → (U → A) → (W → A) → Typed U W → A
of_held u w (Unix x) = u x
of_held u w (Windows x) = w x

-- the value that is held, where it is of Unix, and where it is of Windows
abbrev pub held_unix : {U W : Type 0} → Typed U W → Option U
held_unix (Unix x) = Some x
held_unix (Windows x) = None

abbrev pub held_windows : {U W : Type 0} → Typed U W → Option W
held_windows (Unix x) = None
held_windows (Windows x) = Some x
