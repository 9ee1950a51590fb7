-- What a path is with one extension more.
use Rattle.std.specs.Prelude.{◌≡◌, ℕ, List, ◌++◌, false, Some}
use Rattle.std.specs.List.{list_any}
use Rattle.typed_path.specs.components.Dialects.{Dialect, is_separator, separators}
use Rattle.typed_path.specs.queries.Queries.{file_name_of, parent_of}
use Rattle.typed_path.specs.changes.Changes.{dotted, with_added_extension}
use Rattle.typed_path.specs.promises.Promises.{prefix_kind, is_verbatim_unc_name}

-- a path ends in a name, below the parent of another
pub record IsNamedBeside (d : Dialect) (t u name : List ℕ) : Type 0 where
  pub named : file_name_of d u ≡ Some name
  pub parent : parent_of d u ≡ parent_of d t

-- with one extension more, which separates nothing, a path has its parent and a longer name
abbrev pub ExtendsName : Dialect → List ℕ → List ℕ → Type 0
ExtendsName d t ext =
    is_verbatim_unc_name (prefix_kind d t) ≡ false → list_any (is_separator (separators d t)) ext ≡ false
    → (name : List ℕ) → file_name_of d t ≡ Some name → IsNamedBeside d t (with_added_extension d t ext) (name ++ dotted ext)
