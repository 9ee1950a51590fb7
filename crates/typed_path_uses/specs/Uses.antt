-- What the callers promise.
use Rattle.std.specs.Prelude.{◌≡◌, ℕ, List, [], ◌∷◌, ◌++◌, map, Bool, ◌&&◌, Option, Some, None, Result, Ok, Err, if◌then◌else◌}
use Rattle.std.specs.Borrow.{Bor}
use Rattle.std.specs.List.{flat_map, filter}
use Rattle.std.specs.Option.{is_none, is_some, option_map, option_or}
use Rattle.typed_path.specs.components.Dialects.{Dialect, unix}
use Rattle.typed_path.specs.components.Parts.{Kind, Part, kinds}
use Rattle.typed_path.specs.components.Comps.{parts_of}
use Rattle.typed_path.specs.declared.errors.CheckedPathError.{CheckedPathError}
use Rattle.typed_path.specs.declared.errors.PathError.{PathError}
use Rattle.typed_path.specs.declared.errors.PathError.TheVariants as path
use Rattle.typed_path.specs.changes.Push.{push}
use Rattle.typed_path.specs.changes.Fault.{fault}
use Rattle.typed_path.specs.conversions.Convert.{converted_checked}
use Rattle.typed_path.specs.places.Places.{place, resolve}
use Rattle.typed_path.specs.promises.Promises.{keeps_prefix}
use Rattle.typed_path.specs.queries.Queries.{is_absolute}
use Rattle.typed_path_uses.specs.declared.extractor.Untargeted.{Untargeted}
use Rattle.typed_path_uses.specs.declared.extractor.Untargeted.TheVariants.{Base, Checked, OutOfMemory}

-- the place of a base, and then the names that a path leads to
abbrev pub place_within : Dialect → List ℕ → List ℕ → List Kind
place_within d base name = place d base ++ kinds (resolve (parts_of d name))

abbrev pub places_within : Dialect → List ℕ → List (Bor (List ℕ)) → List (List Kind)
places_within d base names = map (λ name. place_within d base name.now) names

-- the entries that may be unpacked, and those that may not
abbrev pub fine : Dialect → List (Bor (List ℕ)) → List (Bor (List ℕ))
fine d = filter (λ name. is_none (fault d name.now))

abbrev pub faulty : Dialect → List (Bor (List ℕ)) → List (Bor (List ℕ))
faulty d = filter (λ name. is_some (fault d name.now))

-- the paths to which the entries that may be unpacked go
abbrev pub joined_entries : Dialect → List ℕ → List (Bor (List ℕ)) → List (List ℕ)
joined_entries d base names = map (λ name. push d base name.now) (fine d names)

-- the fault of the first entry that has one
abbrev pub first_fault : Dialect → List (Bor (List ℕ)) → Option CheckedPathError
first_fault d [] = None
first_fault d (name ∷ names) = option_or (fault d name.now) (first_fault d names)

-- a refusal of a checked join, as one of a target
abbrev pub untargeted : PathError → Untargeted
untargeted (path.Checked fault) = Checked fault
untargeted path.OutOfMemory = OutOfMemory

-- why there is no target; none where there is one, and where memory is refused
abbrev pub reason : {A : Type 0} → Result A Untargeted → Option Untargeted
reason (Ok x) = None
reason (Err OutOfMemory) = None
reason (Err e) = Some e

-- why there is none below a base: that, where it does not keep its prefix, and else the fault of a name
abbrev pub reason_below : Dialect → List ℕ → Option CheckedPathError → Option Untargeted
reason_below d base fault = if keeps_prefix d base then option_map Checked fault else Some Base

-- a directory that is absolute and keeps its prefix
abbrev pub is_firm : Dialect → List ℕ → Bool
is_firm d directory = is_absolute d (kinds (parts_of d directory)) && keeps_prefix d directory

-- components, each behind the other with a line feed
abbrev pub lines_of : List Part → List ℕ
lines_of ps = flat_map (λ p. p.text ++ 10 ∷ []) ps

-- two paths lead to the same root and names
abbrev pub LeadAlike : List ℕ → List ℕ → Type 0
LeadAlike path other = kinds (resolve (parts_of unix path)) ≡ kinds (resolve (parts_of unix other))

-- where paths lie
abbrev pub places : Dialect → List (List ℕ) → List (List Kind)
places d paths = map (place d) paths

-- how each path crosses to another dialect
abbrev pub crossings : Dialect → Dialect → List (Bor (List ℕ)) → List (Result (List ℕ) CheckedPathError)
crossings d e entries = map (λ entry. converted_checked d e entry.now) entries

-- the first refusal among answers
abbrev pub first_refusal : List (Result (List ℕ) CheckedPathError) → Option CheckedPathError
first_refusal [] = None
first_refusal (Ok path ∷ rs) = first_refusal rs
first_refusal (Err e ∷ rs) = Some e
