-- The operations and replies of the crate as pure data, and how a run stops for want of memory.
use Rattle.std.specs.Prelude.{◌≡◌, ℕ, ◌<◌, List, [], ◌∷◌, ◌++◌, map, length, take, drop}
use Rattle.typed_path.specs.declared.script.run.PathOp.{PathOp}
use Rattle.typed_path.specs.declared.script.run.PathOp.TheVariants.{Push, PushChecked, Pop, SetFileName, SetExtension, Clear, Extend}
use Rattle.typed_path.specs.declared.script.run.Reply.{Reply}
use Rattle.typed_path.specs.declared.script.run.Reply.TheVariants.{Done, Flag, Refused}
use Rattle.typed_path.specs.components.Dialects.{Dialect}
use Rattle.typed_path.specs.changes.Push.{push_all}
use Rattle.typed_path.specs.changes.Run.{Operation, push_op, push_checked_op, pop_op, set_file_name_op, set_extension_op, clear_op, extend_op, Response, done, flag, refused, text_after, replies}

abbrev pub operation_of : PathOp → Operation
operation_of (Push path) = push_op path.now
operation_of (PushChecked path) = push_checked_op path.now
operation_of Pop = pop_op
operation_of (SetFileName name) = set_file_name_op name.now
operation_of (SetExtension extension) = set_extension_op extension.now
operation_of Clear = clear_op
operation_of (Extend paths) = extend_op (map (λ path. path.now) paths.now)

abbrev pub operations_of : List PathOp → List Operation
operations_of ops = map operation_of ops

abbrev pub response_of : Reply → Response
response_of Done = done
response_of (Flag answer) = flag answer
response_of (Refused refusal) = refused refusal

abbrev pub responses_of : List Reply → List Response
responses_of rs = map response_of rs

-- the paths that an operation pushes one by one
abbrev pub pushes_of : Operation → List (List ℕ)
pushes_of (extend_op paths) = paths
pushes_of op = []

abbrev pub first_pushes : List Operation → List (List ℕ)
first_pushes [] = []
first_pushes (op ∷ ops) = pushes_of op

-- some of the paths, from the first on, were pushed
pub record AreTaken (d : Dialect) (t : List ℕ) (paths : List (List ℕ)) (u : List ℕ) : Type 0 where
  pub pushed : ℕ
  pub text : u ≡ push_all d t (take pushed paths)

-- an operation that found no memory: nothing was done, but for some pushes of a list of them
abbrev pub IsPartDone : Dialect → List ℕ → Operation → List ℕ → Type 0
IsPartDone d t op u = AreTaken d t (pushes_of op) u

-- so many operations were done and answered, and another found no memory
pub record StopsAt (d : Dialect) (t : List ℕ) (ops : List Operation) (u : List ℕ) (before after : List Response) : Type 0 where
  pub done_ops : ℕ
  pub more : done_ops < length ops
  pub answered : after ≡ before ++ replies d t (take done_ops ops)
  pub text : AreTaken d (text_after d t (take done_ops ops)) (first_pushes (drop done_ops ops)) u
