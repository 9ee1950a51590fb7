-- A file name, and its split at the last dot and at the first one.
use Rattle.std.specs.Prelude.{ℕ, List, [], ◌∷◌, Bool, ◌==◌, drop, if◌then◌else◌, Option, Some, None}
use Rattle.std.specs.List.{list_any, before_first, before_last, after_last}
use Rattle.typed_path.specs.components.Dialects.{dot}

abbrev pub is_a_dot : ℕ → Bool
is_a_dot b = b == dot

-- a dot that is not the first byte begins an extension
abbrev pub has_extension : List ℕ → Bool
has_extension name = list_any is_a_dot (drop 1 name)

abbrev pub stem_of : List ℕ → List ℕ
stem_of name = if has_extension name then before_last is_a_dot name else name

abbrev pub extension_of : List ℕ → Option (List ℕ)
extension_of name = if has_extension name then Some (after_last is_a_dot name) else None

-- a name up to its first dot that is not its first byte
abbrev pub first_stem_of : List ℕ → List ℕ
first_stem_of [] = []
first_stem_of (b ∷ bs) = b ∷ before_first is_a_dot bs
