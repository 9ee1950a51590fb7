-- What two paths begin with.
use Rattle.std.specs.Prelude.{◌≡◌, ℕ, zero, suc, List, [], ◌∷◌, ◌++◌, take, if◌then◌else◌, Option, Some, None}
use Rattle.std.specs.Str.{bytes_eq}
use Rattle.typed_path.specs.components.Dialects.{Dialect}
use Rattle.typed_path.specs.declared.scan.separators.Separators.{Separators}
use Rattle.typed_path.specs.components.Parts.{Placed, parts, texts}
use Rattle.typed_path.specs.components.Comps.{body, comps, parts_of}
use Rattle.typed_path.specs.scan.Left.{end_at}

-- how many texts two lists begin with alike
abbrev pub shared_count : List (List ℕ) → List (List ℕ) → ℕ
shared_count [] us = 0
shared_count (t ∷ ts) [] = 0
shared_count (t ∷ ts) (u ∷ us) = if bytes_eq t u then suc (shared_count ts us) else 0

-- where the first so many components of a list end
abbrev pub end_of_first : List Placed → ℕ → ℕ
end_of_first cs zero = 0
end_of_first cs (suc k) = end_at cs k

-- where the components end with which both paths begin, as they are written
abbrev pub shared_end : Dialect → List ℕ → List ℕ → ℕ
shared_end d t u = end_of_first (comps d t) (shared_count (texts (parts_of d t)) (texts (parts_of d u)))

abbrev pub unless_empty : List ℕ → Option (List ℕ)
unless_empty [] = None
unless_empty (b ∷ bs) = Some (b ∷ bs)

-- a path cut there, unless nothing is left
abbrev pub common_ancestor_of : Dialect → List ℕ → List ℕ → Option (List ℕ)
common_ancestor_of d t u = unless_empty (take (shared_end d t u) t)

-- two texts begin with the components of a front, and with no more alike
pub record ShareFront (s : Separators) (text other front : List ℕ) : Type 0 where
  pub more : List Placed
  pub others : List Placed
  pub own : body s 0 text ≡ body s 0 front ++ more
  pub other_is : body s 0 other ≡ body s 0 front ++ others
  pub apart : shared_count (texts (parts more)) (texts (parts others)) ≡ 0

-- a place of a list where the components end that it shares with another
abbrev pub IsSharedEnd : List Placed → List Placed → ℕ → Type 0
IsSharedEnd cs ds end = end ≡ end_of_first cs (shared_count (texts (parts cs)) (texts (parts ds)))
