-- What a path joined to another is read as.
use Rattle.std.specs.Prelude.{◌≡◌, ℕ, ◌<◌, List, [], ◌∷◌, ◌++◌, false, length, if◌then◌else◌, Some}
use Rattle.typed_path.specs.components.Dialects.{unix}
use Rattle.typed_path.specs.components.Parts.{Part, kinds, is_current}
use Rattle.typed_path.specs.components.Comps.{parts_of}
use Rattle.typed_path.specs.queries.Queries.{is_absolute, stripped}
use Rattle.typed_path.specs.changes.Push.{push}
use Rattle.typed_path.specs.order.Same.{IsSame}

-- a list without a current directory at its beginning
abbrev pub without_leading_current : List Part → List Part
without_leading_current [] = []
without_leading_current (p ∷ ps) = if is_current p.kind then ps else p ∷ ps

-- Unix: a relative path joined to a base that is not empty stands behind the base's list
abbrev pub JoinAppends : List ℕ → List ℕ → Type 0
JoinAppends base path =
    0 < length base → is_absolute unix (kinds (parts_of unix path)) ≡ false
    → parts_of unix (push unix base path) ≡ parts_of unix base ++ without_leading_current (parts_of unix path)

-- Unix: what is left behind a base, joined to that base, equals the path
abbrev pub StripJoins : List ℕ → List ℕ → Type 0
StripJoins path base = (rest : List ℕ) → stripped unix path base ≡ Some rest → IsSame unix (push unix base rest) path
