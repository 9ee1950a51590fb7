-- Parts of a path by their places: the first byte, and how many.
use Rattle.std.specs.Prelude.{◌≡◌, ◌-◌, ℕ, List, [], ◌∷◌, ◌++◌, ◌≤◌, ◌<◌, length, map, drop, Option, Some, None, option_map, option_and_then, MatchOption, if◌then◌else◌}
use Rattle.std.specs.Option.{unwrap_or}
use Rattle.typed_path.specs.components.Dialects.{Dialect}
use Rattle.typed_path.specs.components.Parts.{Prefix, verbatim, verbatim_unc, verbatim_disk, device_ns, unc, disk, Kind, prefix, root, current, parent, normal, Placed, end_of, is_name}
use Rattle.typed_path.specs.components.Comps.{comps}
use Rattle.typed_path.specs.queries.Queries.{parent_of, extension, stripped}
use Rattle.typed_path.specs.queries.Names.{first_stem_of, stem_of}
use Rattle.typed_path.specs.queries.{common_ancestor_of, simplified_text}
use Rattle.typed_path.specs.scan.Left.{first_of, last_of}
use Rattle.typed_path_c.specs.declared.parts.Span.{Span}
use Rattle.typed_path_c.specs.declared.parts.Component.{Component}
use Rattle.typed_path_c.specs.Answers.{dialect_named, done, too_small, bad_dialect, none_there}

-- the last component of a path, if it is a name
abbrev pub last_name : Dialect → List ℕ → Option Placed
last_name d t = option_and_then (λ last. if is_name last.part.kind then Some last else None) (last_of (comps d t))

-- the place of a front, by its text
abbrev pub front_place : List ℕ → ℕ × ℕ
front_place front = (0, length front)

-- that of a part of the file name, at its front
abbrev pub name_place : (List ℕ → List ℕ) → Dialect → List ℕ → Option (ℕ × ℕ)
name_place part d t = option_map (λ last. (last.start, length (part last.part.text))) (last_name d t)

-- the places of the parts
abbrev pub parent_place : Dialect → List ℕ → Option (ℕ × ℕ)
parent_place d t = option_map front_place (parent_of d t)

abbrev pub file_name_place : Dialect → List ℕ → Option (ℕ × ℕ)
file_name_place d t = option_map (λ last. (last.start, length last.part.text)) (last_name d t)

abbrev pub file_stem_place : Dialect → List ℕ → Option (ℕ × ℕ)
file_stem_place = name_place stem_of

abbrev pub file_prefix_place : Dialect → List ℕ → Option (ℕ × ℕ)
file_prefix_place = name_place first_stem_of

-- where the last component ends
abbrev pub last_end : Dialect → List ℕ → ℕ
last_end d t = unwrap_or (option_map end_of (last_of (comps d t))) 0

abbrev pub extension_place : Dialect → List ℕ → Option (ℕ × ℕ)
extension_place d t = option_map (λ e. (last_end d t - length e, length e)) (extension d t)

abbrev pub common_place : Dialect → List ℕ → List ℕ → Option (ℕ × ℕ)
common_place d t other = option_map front_place (common_ancestor_of d t other)

abbrev pub simplified_place : Dialect → List ℕ → Option (ℕ × ℕ)
simplified_place d t = Some (length t - length (simplified_text d t), length (simplified_text d t))

abbrev pub stripped_place : Dialect → List ℕ → List ℕ → Option (ℕ × ℕ)
stripped_place d t base = option_map (λ rest. (length t - length rest, length rest)) (stripped d t base)

-- a place is told, or that there is none
abbrev pub IsLent : Option (ℕ × ℕ) → Span → Span → ℕ → Type 0
IsLent place old new status =
    MatchOption place ((status ≡ none_there) × (new ≡ old))
    (λ p. (status ≡ done) × (new.start ≡ p.0) × (new.length ≡ p.1))

-- or that a number names no dialect
abbrev pub Lends : ℕ → (Dialect → Option (ℕ × ℕ)) → Span → Span → ℕ → Type 0
Lends number place old new status = MatchOption (dialect_named number) ((status ≡ bad_dialect) × (new ≡ old)) (λ d. IsLent (place d) old new status)

-- the number of a kind of component
abbrev pub prefix_number : Prefix → ℕ
prefix_number (verbatim name) = 4
prefix_number (verbatim_unc server share) = 5
prefix_number (verbatim_disk letter) = 6
prefix_number (device_ns name) = 7
prefix_number (unc server share) = 8
prefix_number (disk letter) = 9

abbrev pub kind_number : Kind → ℕ
kind_number root = 0
kind_number current = 1
kind_number parent = 2
kind_number (normal name) = 3
kind_number (prefix p) = prefix_number p

-- a component as it is told
abbrev pub told : Placed → Component
told c = record { start = c.start; length = length c.part.text; kind = kind_number c.part.kind }

-- the items of a list in the place of those of another, as many as it has
abbrev pub over : {A : Type 0} → List A → List A → List A
over [] old = old
over (item ∷ items) [] = []
over (item ∷ items) (o ∷ old) = item ∷ over items old

abbrev pub ListsIn : List Placed → List Component → List Component → ℕ → ℕ → Type 0
ListsIn cs old new count status =
    (new ≡ over (map told cs) old)
    × (count ≡ length cs)
    × (length cs ≤ length old → status ≡ done)
    × (length old < length cs → status ≡ too_small)

-- the components of a path stand in an array, as many as fit, and their number is told
abbrev pub Lists : ℕ → List ℕ → List Component → ℕ → List Component → ℕ → ℕ → Type 0
Lists number path old held new count status =
    MatchOption (dialect_named number) ((status ≡ bad_dialect) × (new ≡ old) × (count ≡ held))
    (λ d. ListsIn (comps d path) old new count status)

-- one component is told, or that there is none
abbrev pub LendsAt : ℕ → List ℕ → ℕ → Component → Component → ℕ → Type 0
LendsAt number path index old new status =
    MatchOption (dialect_named number) ((status ≡ bad_dialect) × (new ≡ old))
    (λ d. MatchOption (first_of (drop index (comps d path))) ((status ≡ none_there) × (new ≡ old))
    (λ c. (status ≡ done) × (new ≡ told c)))

-- so many components were seen of a path, and the slice left begins with the next one
abbrev pub IsBehind : Dialect → List ℕ → List Placed → List Placed → List ℕ → Type 0
IsBehind d path seen items left = (comps d path ≡ seen ++ items) × ((c : Placed) → first_of items ≡ Some c → left ≡ drop c.start path)
