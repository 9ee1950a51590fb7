-- What a list of operations makes of a path.
use Rattle.std.specs.Prelude.{◌≡◌, ◌≤◌, ℕ, List, [], ◌∷◌, Bool, length, is_some, Option, Some, None, ⊤}
use Rattle.typed_path.specs.declared.errors.CheckedPathError.{CheckedPathError}
use Rattle.typed_path.specs.components.Dialects.{Dialect}
use Rattle.typed_path.specs.queries.Queries.{parent_of, file_name_of}
use Rattle.typed_path.specs.changes.Push.{push, push_all, FitsPush}
use Rattle.typed_path.specs.changes.Fault.{fault}
use Rattle.typed_path.specs.changes.Changes.{popped, without_file_name, with_file_name, with_extension}

pub data Operation : Type 0 where
  push_op : List ℕ → Operation
  push_checked_op : List ℕ → Operation
  pop_op : Operation
  set_file_name_op : List ℕ → Operation
  set_extension_op : List ℕ → Operation
  clear_op : Operation
  extend_op : List (List ℕ) → Operation

pub data Response : Type 0 where
  done : Response
  flag : Bool → Response
  refused : CheckedPathError → Response

abbrev pub unless_refused : List ℕ → Option CheckedPathError → List ℕ → List ℕ × Response
unless_refused t None u = (u, done)
unless_refused t (Some f) u = (t, refused f)

-- the text after an operation, and the reply to it
abbrev pub step : Dialect → List ℕ → Operation → List ℕ × Response
step d t (push_op p) = (push d t p, done)
step d t (push_checked_op p) = unless_refused t (fault d p) (push d t p)
step d t pop_op = (popped d t, flag (is_some (parent_of d t)))
step d t (set_file_name_op name) = (with_file_name d t name, done)
step d t (set_extension_op ext) = (with_extension d t ext, flag (is_some (file_name_of d t)))
step d t clear_op = ([], done)
step d t (extend_op paths) = (push_all d t paths, done)

-- the text after a list of operations, and the replies
abbrev pub text_after : Dialect → List ℕ → List Operation → List ℕ
text_after d t [] = t
text_after d t (op ∷ ops) = text_after d (step d t op).0 ops

abbrev pub replies : Dialect → List ℕ → List Operation → List Response
replies d t [] = []
replies d t (op ∷ ops) = (step d t op).1 ∷ replies d (step d t op).0 ops

-- there is room for paths that are pushed one by one
abbrev pub FitsEach : Dialect → ℕ → List ℕ → List (List ℕ) → Type 0
FitsEach d room t [] = ⊤
FitsEach d room t (path ∷ paths) = FitsPush d room t path × FitsEach d room (push d t path) paths

-- there is room for what an operation makes of a path
abbrev pub FitsStep : Dialect → ℕ → List ℕ → Operation → Type 0
FitsStep d room t (push_op path) = FitsPush d room t path
FitsStep d room t (push_checked_op path) = fault d path ≡ None → FitsPush d room t path
FitsStep d room t pop_op = ⊤
FitsStep d room t (set_file_name_op name) = FitsPush d room (without_file_name d t) name
FitsStep d room t (set_extension_op ext) = length (with_extension d t ext) ≤ room
FitsStep d room t clear_op = ⊤
FitsStep d room t (extend_op paths) = FitsEach d room t paths

-- there is room for what each of a list of operations makes
abbrev pub FitsAll : Dialect → ℕ → List ℕ → List Operation → Type 0
FitsAll d room t [] = ⊤
FitsAll d room t (op ∷ ops) = FitsStep d room t op × FitsAll d room (step d t op).0 ops
