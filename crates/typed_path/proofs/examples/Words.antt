-- Short words for the examples; a quoted text stands for its ASCII bytes.
use Prim.Native.String.{String}
use Rattle.std.proofs.Common.{ℕ, codes, List, [], ◌∷◌, map, Bool, Option}
use Rattle.std.specs.Option.{option_map}
use Rattle.typed_path.specs.components.{Dialect, unix, windows, slash, backslash, Prefix, Kind, Part, kinds, parts, prefix_part, root_part, name_part, comps, parts_of}
use Rattle.typed_path.specs.scan.{left, items_between, Side, reads}
use Rattle.typed_path.specs.queries.{is_absolute, has_root, is_valid}
use Rattle.typed_path.specs.changes.{push, Response, step, push_checked_op}
use Rattle.typed_path.specs.places.{normal_text, is_within, relative_text}

-- components, as they are written
abbrev pub named : String → Part
named name = name_part (codes name)

abbrev pub written : Prefix → String → Part
written p raw = prefix_part p (codes raw)

abbrev pub unix_root : Part
unix_root = root_part (slash ∷ [])

abbrev pub windows_root : Part
windows_root = root_part (backslash ∷ [])

-- the components of a text
abbrev pub unix_parts : String → List Part
unix_parts text = parts_of unix (codes text)

abbrev pub windows_parts : String → List Part
windows_parts text = parts_of windows (codes text)

-- what a list of requests gets
abbrev pub read : Dialect → String → List Side → List (Option Part)
read d text sides = map (λ o. option_map (λ c. c.part) o) (reads (comps d (codes text)) sides)

-- the slice left after `i` requests from the front and `j` from the back, and the kinds of the components left
abbrev pub rest : Dialect → String → ℕ → ℕ → List ℕ
rest d text i j = left (comps d (codes text)) (codes text) i j

abbrev pub kinds_left : Dialect → String → ℕ → ℕ → List Kind
kinds_left d text i j = kinds (parts (items_between (comps d (codes text)) i j))

-- what a text answers
abbrev pub kinds_in : Dialect → String → List Kind
kinds_in d text = kinds (parts_of d (codes text))

abbrev pub absolute : Dialect → String → Bool
absolute d text = is_absolute d (kinds_in d text)

abbrev pub rooted : Dialect → String → Bool
rooted d text = has_root d (kinds_in d text)

abbrev pub valid : Dialect → String → Bool
valid d text = is_valid d (kinds_in d text)

-- a text onto another, by a plain and by a checked push
abbrev pub pushed : Dialect → String → String → List ℕ
pushed d base path = push d (codes base) (codes path)

abbrev pub checked : Dialect → String → String → List ℕ × Response
checked d base path = step d (codes base) (push_checked_op (codes path))

abbrev pub normalized : Dialect → String → List ℕ
normalized d text = normal_text d (codes text)

-- whether a path lies within a base
abbrev pub within : Dialect → String → String → Bool
within d path base = is_within d (codes path) (codes base)

-- the path that leads from a base to a path
abbrev pub led : Dialect → String → String → Option (List ℕ)
led d base path = relative_text d (codes path) (codes base)
