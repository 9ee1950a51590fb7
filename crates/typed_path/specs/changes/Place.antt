-- A path put behind the first bytes of another.
use Rattle.std.specs.Prelude.{◌≡◌, ℕ, List, [], ◌∷◌, ◌++◌, take, ⊤}
use Rattle.typed_path.specs.components.Dialects.{Dialect, root_of}

-- so many bytes of a base, what is put between, and a path
abbrev pub put_in_place : List ℕ → ℕ → List ℕ → List ℕ → List ℕ
put_in_place base kept separator path = take kept base ++ separator ++ path

-- what is put between is nothing, or the separator that is written as a root
abbrev pub IsNoneOrSeparator : Dialect → List ℕ → Type 0
IsNoneOrSeparator d [] = ⊤
IsNoneOrSeparator d (b ∷ bs) = b ∷ bs ≡ root_of d
