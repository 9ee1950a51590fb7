-- The longest path that two paths begin with.
use Rattle.std.specs.Prelude.{◌≡◌, ℕ, List, [], true, length, take}
use Rattle.typed_path.specs.components.Dialects.{Dialect}
use Rattle.typed_path.specs.components.Comps.{parts_of}
use Rattle.typed_path.specs.queries.Queries.{path_starts_with}

-- what begins both paths begins a third
abbrev pub BeginsWithAll : Dialect → List ℕ → List ℕ → List ℕ → Type 0
BeginsWithAll d t u c = (b : List ℕ) → path_starts_with d t b ≡ true → path_starts_with d u b ≡ true → path_starts_with d c b ≡ true

-- the longest beginning of two paths: a front of the first
pub record IsLongest (d : Dialect) (t u c : List ℕ) : Type 0 where
  pub front : take (length c) t ≡ c
  pub begins : path_starts_with d t c ≡ true
  pub begins_other : path_starts_with d u c ≡ true
  pub holds_all : BeginsWithAll d t u c

-- two paths begin with nothing that has a component
abbrev pub ShareNothing : Dialect → List ℕ → List ℕ → Type 0
ShareNothing d t u = (b : List ℕ) → path_starts_with d t b ≡ true → path_starts_with d u b ≡ true → parts_of d b ≡ []
