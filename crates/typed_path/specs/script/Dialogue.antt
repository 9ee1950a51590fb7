-- What a dialogue of lines read and wrote, and how it ended.
use Rattle.std.specs.Prelude.{◌≡◌, ◌⊎◌, ℕ, List, ◌++◌, Bool, true, Option, Some, None, ⊤, take, Result, OnOk, IsErrOf}
use Rattle.typed_path.specs.declared.errors.LineError.{LineError}
use Rattle.typed_path.specs.declared.errors.LineError.TheVariants.{Read, Write, OutOfMemory}
use Rattle.std.specs.Io.KnownBytes.{Appends, Consumes, IsAtEnd}
use Rattle.typed_path.specs.script.Lines.{answers, replies_to, complete_lines}

-- what a reader and a writer tell: the bytes left, the bytes written, and whether they have failed
pub record Streams : Type 0 where
  pub input : Option (List ℕ)
  pub input_failed : Bool
  pub output : Option (List ℕ)
  pub output_failed : Bool

abbrev pub streams : Option (List ℕ) → Bool → Option (List ℕ) → Bool → Streams
streams input input_failed output output_failed =
    record { input = input; input_failed = input_failed; output = output; output_failed = output_failed }

-- bytes stay as they were, where they are still told
abbrev pub KeepsIfTold : Option (List ℕ) → Option (List ℕ) → Type 0
KeepsIfTold None new = ⊤
KeepsIfTold (Some xs) None = ⊤
KeepsIfTold (Some xs) (Some ys) = ys ≡ xs

-- one text is a beginning of another
abbrev pub IsBeginning : List ℕ → List ℕ → Type 0
IsBeginning part whole = (rest : List ℕ) × (whole ≡ part ++ rest)

-- bytes were taken from the front, as far as a reader that failed still tells
abbrev pub ConsumesIfTold : Option (List ℕ) → Option (List ℕ) → List ℕ → Type 0
ConsumesIfTold None new bs = ⊤
ConsumesIfTold (Some xs) None bs = IsBeginning bs xs
ConsumesIfTold (Some xs) (Some ys) bs = xs ≡ bs ++ ys

-- bytes were put behind, as far as a writer that failed still tells
abbrev pub AppendsIfTold : Option (List ℕ) → Option (List ℕ) → List ℕ → Type 0
AppendsIfTold None new bs = ⊤
AppendsIfTold (Some xs) None bs = ⊤
AppendsIfTold (Some xs) (Some ys) bs = ys ≡ xs ++ bs

-- the whole input was read, and what was written are the answers to it
pub record AnswersAll (before after : Streams) : Type 0 where
  pub read : List ℕ
  pub input : Consumes before.input after.input read
  pub at_end : IsAtEnd after.input
  pub output : Appends before.output after.output (answers read)
  pub input_unfailed : after.input_failed ≡ before.input_failed
  pub output_unfailed : after.output_failed ≡ before.output_failed

-- the reader failed: what was written are the replies to the complete lines read
pub record StopsReading (before after : Streams) : Type 0 where
  pub read : List ℕ
  pub input : ConsumesIfTold before.input after.input read
  pub output : Appends before.output after.output (replies_to (complete_lines read))
  pub input_failed : after.input_failed ≡ true
  pub output_unfailed : after.output_failed ≡ before.output_failed

-- a beginning of the replies to the complete lines read; at the end of the input every line is complete
abbrev pub IsBegunReply : Option (List ℕ) → List ℕ → List ℕ → Type 0
IsBegunReply input read written =
    IsBeginning written (replies_to (complete_lines read)) ⊎ (IsAtEnd input × IsBeginning written (answers read))

-- the writer failed: what was written is a beginning of the replies to the complete lines read
pub record StopsWriting (before after : Streams) : Type 0 where
  pub read : List ℕ
  pub written : List ℕ
  pub input : Consumes before.input after.input read
  pub output : AppendsIfTold before.output after.output written
  pub begun : IsBegunReply after.input read written
  pub input_unfailed : after.input_failed ≡ before.input_failed
  pub output_failed : after.output_failed ≡ true

-- memory was refused: what was written are the whole replies to the first of the complete lines read
pub record RunsOut (before after : Streams) : Type 0 where
  pub read : List ℕ
  pub answered : ℕ
  pub input : Consumes before.input after.input read
  pub output : Appends before.output after.output (replies_to (take answered (complete_lines read)))
  pub input_unfailed : after.input_failed ≡ before.input_failed
  pub output_unfailed : after.output_failed ≡ before.output_failed

-- a beginning of the bytes was put behind, as far as a writer that failed still tells
abbrev pub WritesPart : Option (List ℕ) → Option (List ℕ) → List ℕ → Type 0
WritesPart before after bytes = (written : List ℕ) × IsBeginning written bytes × AppendsIfTold before after written

-- how a run of lines ends, by its result
pub record Ends (result : Result (Unit {0}) LineError) (before after : Streams) : Type 0 where
  pub ok : OnOk result (AnswersAll before after)
  pub read : IsErrOf result Read → StopsReading before after
  pub write : IsErrOf result Write → StopsWriting before after
  pub memory : IsErrOf result OutOfMemory → RunsOut before after
