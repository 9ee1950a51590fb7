-- Why a path that is to be pushed is refused: by what stands before a component, and counted from its front.
use Rattle.std.specs.Prelude.{ℕ, zero, suc, List, [], ◌∷◌, ◌++◌, nat_le, if◌then◌else◌, Option, Some, None, Result, Ok, Err}
use Rattle.std.specs.List.{count_by}
use Rattle.std.specs.Option.{option_or}
use Rattle.typed_path.specs.declared.errors.CheckedPathError.{CheckedPathError}
use Rattle.typed_path.specs.declared.errors.CheckedPathError.TheVariants.{InvalidFilename, PathTraversalAttack, UnexpectedPrefix, UnexpectedRoot}
use Rattle.typed_path.specs.components.Dialects.{Dialect}
use Rattle.typed_path.specs.components.Parts.{Kind, prefix, root, current, parent, normal, kinds, is_name, is_parent}
use Rattle.typed_path.specs.components.Comps.{parts_of}
use Rattle.typed_path.specs.queries.Queries.{is_valid_name}

-- why a component is refused, by what stands before it
abbrev pub offence : Dialect → List Kind → Kind → Option CheckedPathError
offence d before (prefix p) = Some UnexpectedPrefix
offence d before root = Some UnexpectedRoot
offence d before current = None
offence d before parent = if nat_le (count_by is_name before) (count_by is_parent before) then Some PathTraversalAttack else None
offence d before (normal name) = if is_valid_name d name then None else Some InvalidFilename

abbrev pub fault_behind : Dialect → List Kind → List Kind → Option CheckedPathError
fault_behind d before [] = None
fault_behind d before (k ∷ ks) = option_or (offence d before k) (fault_behind d (before ++ k ∷ []) ks)

-- the error of the first component that offends
abbrev pub fault : Dialect → List ℕ → Option CheckedPathError
fault d path = fault_behind d [] (kinds (parts_of d path))

-- the fault of a list before which so many names stand that no parent took
abbrev pub fault_at : Dialect → ℕ → List Kind → Option CheckedPathError
fault_at d depth [] = None
fault_at d depth (prefix p ∷ ks) = Some UnexpectedPrefix
fault_at d depth (root ∷ ks) = Some UnexpectedRoot
fault_at d depth (current ∷ ks) = fault_at d depth ks
fault_at d zero (parent ∷ ks) = Some PathTraversalAttack
fault_at d (suc depth) (parent ∷ ks) = fault_at d depth ks
fault_at d depth (normal name ∷ ks) = if is_valid_name d name then fault_at d (suc depth) ks else Some InvalidFilename

-- the fault of a component, or that of what follows it
abbrev pub judged : (ℕ → Option CheckedPathError) → Result ℕ CheckedPathError → Option CheckedPathError
judged rest (Ok depth) = rest depth
judged rest (Err e) = Some e
