-- A path in another dialect, and made absolute.
use Rattle.std.specs.Prelude.{◌≡◌, ℕ, List, [], ◌∷◌, Bool, true, false, ◌≤◌, map, length, if◌then◌else◌, Option, Some, None, Ok, Err}
use Rattle.std.specs.List.{AllByRecursion}
use Rattle.std.specs.declared.result.Result.{Result}
use Rattle.typed_path.specs.declared.scan.separators.Separators.TheVariants.{Either}
use Rattle.typed_path.specs.declared.errors.CheckedPathError.{CheckedPathError}
use Rattle.typed_path.specs.components.Dialects.{Dialect, unix, windows, root_of, slash, backslash}
use Rattle.typed_path.specs.components.Parts.{Kind, current, parent, Part, kinds}
use Rattle.typed_path.specs.components.Comps.{parts_of}
use Rattle.typed_path.specs.queries.Queries.{is_root, is_absolute, kind_has_allowed_bytes}
use Rattle.typed_path.specs.changes.Push.{push, push_all}
use Rattle.typed_path.specs.changes.Run.{FitsEach}
use Rattle.typed_path.specs.changes.Fault.{fault}
use Rattle.typed_path.specs.places.Places.{normal_text}
use Rattle.typed_path.specs.scan.Blanks.{turned}

abbrev pub same_dialect : Dialect → Dialect → Bool
same_dialect unix unix = true
same_dialect windows windows = true
same_dialect d e = false

-- how a component is written in a dialect: the root, and every prefix but a drive, is its root
abbrev pub crossed : Dialect → Part → List ℕ
crossed e p = if is_root p.kind then root_of e else p.text

-- components pushed one by one, as they are written in a dialect
abbrev pub crossed_all : Dialect → List Part → List ℕ
crossed_all e ps = push_all e [] (map (crossed e) ps)

-- a path in another dialect; in its own it stays as it is
abbrev pub converted : Dialect → Dialect → List ℕ → List ℕ
converted d e t = if same_dialect d e then t else crossed_all e (parts_of d t)

-- there is room for a path in another dialect: for its bytes where they are copied, and else for each push
abbrev pub FitsConvertedBy : Dialect → Dialect → ℕ → List ℕ → Bool → Type 0
FitsConvertedBy d e room t true = length t ≤ room
FitsConvertedBy d e room t false = FitsEach e room [] (map (crossed e) (parts_of d t))

abbrev pub FitsConverted : Dialect → Dialect → ℕ → List ℕ → Type 0
FitsConverted d e room t = FitsConvertedBy d e room t (same_dialect d e)

-- what separates where a path is put together
abbrev pub separator_of : Dialect → ℕ
separator_of unix = slash
separator_of windows = backslash

-- a path is written in another dialect as a text with its separators turned, and there is room for that where there is for each push
pub record CrossesTurned (d e : Dialect) (path text : List ℕ) : Type 0 where
  pub is : crossed_all e (parts_of d path) ≡ turned Either (separator_of e) text
  pub fits : (room : ℕ) → FitsEach e room [] (map (crossed e) (parts_of d path)) → length text ≤ room

-- roots, `.` and `..` are never refused
abbrev pub is_never_refused : Kind → Bool
is_never_refused current = true
is_never_refused parent = true
is_never_refused k = is_root k

abbrev pub crossing_fault : Dialect → Part → Option CheckedPathError
crossing_fault e p = if is_never_refused p.kind then None else fault e p.text

abbrev pub push_unless : Dialect → List ℕ → Option CheckedPathError → List ℕ → Result (List ℕ) CheckedPathError
push_unless e base None path = Ok (push e base path)
push_unless e base (Some f) path = Err f

abbrev pub push_checked_each : Dialect → Result (List ℕ) CheckedPathError → List Part → Result (List ℕ) CheckedPathError
push_checked_each e path [] = path
push_checked_each e (Err f) (p ∷ ps) = Err f
push_checked_each e (Ok base) (p ∷ ps) = push_checked_each e (push_unless e base (crossing_fault e p) (crossed e p)) ps

-- the same by checked pushes, which has no shortcut for its own dialect and ends at the first fault
abbrev pub converted_checked : Dialect → Dialect → List ℕ → Result (List ℕ) CheckedPathError
converted_checked d e t = push_checked_each e (Ok []) (parts_of d t)

-- each component of a path is pushed as it is written in a dialect, and none is refused
abbrev pub IsUnrefused : Dialect → Dialect → List ℕ → Type 0
IsUnrefused d e path = converted_checked d e path ≡ Ok (crossed_all e (parts_of d path))

-- each component that crosses to a dialect has bytes that a name may have there
abbrev pub AllowsCrossing : Dialect → List Kind → Type 0
AllowsCrossing e ks = AllByRecursion (λ k. kind_has_allowed_bytes e k ≡ true) ks

-- the dialect of the machine
abbrev pub platform : Dialect
platform = unix

-- the absolute text of a path of one dialect from a directory of another; none where the two joined are not absolute
abbrev pub absolute_under : Dialect → Dialect → List ℕ → List ℕ → Option (List ℕ)
absolute_under d e directory t =
    let joined = push d (converted e d directory) t in
    if is_absolute d (kinds (parts_of d t)) then Some (normal_text d t)
    else (if is_absolute d (kinds (parts_of d joined)) then Some (normal_text d joined) else None)

-- the same from a directory on this machine
abbrev pub absolute_from : Dialect → List ℕ → List ℕ → Option (List ℕ)
absolute_from d directory t = absolute_under d platform directory t
