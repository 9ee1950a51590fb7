-- A path cut to its parent, renamed, or given another extension.
use Rattle.std.specs.Prelude.{ℕ, ◌+◌, List, [], ◌∷◌, ◌++◌, length, take, is_some, unwrap_or, if◌then◌else◌, Option, Some, None, option_map}
use Rattle.typed_path.specs.components.Dialects.{Dialect, dot}
use Rattle.typed_path.specs.components.Parts.{Placed}
use Rattle.typed_path.specs.components.Comps.{comps}
use Rattle.typed_path.specs.scan.Left.{last_of}
use Rattle.typed_path.specs.queries.Names.{stem_of}
use Rattle.typed_path.specs.queries.Queries.{parent_of, file_name_of}
use Rattle.typed_path.specs.changes.Push.{push}

-- cut to the parent, where there is one
abbrev pub popped : Dialect → List ℕ → List ℕ
popped d t = unwrap_or (parent_of d t) t

-- a path without its file name, where it has one
abbrev pub without_file_name : Dialect → List ℕ → List ℕ
without_file_name d t = if is_some (file_name_of d t) then popped d t else t

-- the last component renamed, or a name pushed where none is last
abbrev pub with_file_name : Dialect → List ℕ → List ℕ → List ℕ
with_file_name d t name = push d (without_file_name d t) name

-- an extension and the dot before it; none where it is empty
abbrev pub dotted : List ℕ → List ℕ
dotted [] = []
dotted (b ∷ bs) = dot ∷ b ∷ bs

abbrev pub start_of_last : Option Placed → ℕ
start_of_last None = 0
start_of_last (Some c) = c.start

-- where the stem of the file name ends
abbrev pub stem_end : Dialect → List ℕ → Option ℕ
stem_end d t = option_map (λ name. start_of_last (last_of (comps d t)) + length (stem_of name)) (file_name_of d t)

abbrev pub cut_at : List ℕ → List ℕ → Option ℕ → List ℕ
cut_at t ext None = t
cut_at t ext (Some end) = take end t ++ dotted ext

-- cut behind the stem, then the new extension; without a file name nothing changes
abbrev pub with_extension : Dialect → List ℕ → List ℕ → List ℕ
with_extension d t ext = cut_at t ext (stem_end d t)

-- where the file name ends
abbrev pub name_end : Dialect → List ℕ → Option ℕ
name_end d t = option_map (λ name. start_of_last (last_of (comps d t)) + length name) (file_name_of d t)

-- one extension more behind the file name; without a file name, or with an empty extension, nothing changes
abbrev pub with_added_extension : Dialect → List ℕ → List ℕ → List ℕ
with_added_extension d t [] = t
with_added_extension d t (b ∷ bs) = cut_at t (b ∷ bs) (name_end d t)
