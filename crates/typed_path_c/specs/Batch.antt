-- Joins of many names onto one base, by the rule of a checked join or of a portable one.
use Rattle.std.specs.Prelude.{◌≡◌, ◌≤◌, ◌<◌, ◌+◌, ◌*◌, ◌⊎◌, ℕ, true, List, [], ◌∷◌, ◌++◌, length, map, take, drop, slice_range, slice_index, Option, Some, None, option_map, ⊤, MatchOption}
use Rattle.std.specs.List.{flat_map, AllByRecursion}
use Rattle.std.specs.Str.{is_utf8}
use Rattle.typed_path.specs.components.Dialects.{Dialect}
use Rattle.typed_path.specs.declared.errors.JoinError.{JoinError}
use Rattle.typed_path.specs.declared.errors.JoinError.TheVariants as join
use Rattle.typed_path.specs.changes.{push, fault, join_fault}
use Rattle.typed_path.specs.texts.{are_texts}
use Rattle.typed_path_c.specs.declared.batch.Rule.{Rule}
use Rattle.typed_path_c.specs.declared.batch.Rule.TheVariants.{Checked, Portable}
use Rattle.typed_path_c.specs.Answers.{dialect_named, join_status, status_by, IsHeld, done, out_of_memory, too_small, bad_dialect, bad_ends, Suffices}
use Rattle.typed_path_c.specs.Parts.{over}

-- the names that stand behind each other, each from where the one before it ends
abbrev pub names_from : List ℕ → ℕ → List ℕ → List (List ℕ)
names_from names start [] = []
names_from names start (end ∷ ends) = slice_range names start end ∷ names_from names end ends

-- where the last of them ends
abbrev pub last_from : ℕ → List ℕ → ℕ
last_from start [] = start
last_from start (end ∷ ends) = last_from end ends

-- no end lies before the one before it, or behind the names
abbrev pub AreEnds : List ℕ → ℕ → List ℕ → Type 0
AreEnds names start [] = ⊤
AreEnds names start (end ∷ ends) = (start ≤ end) × (end ≤ length names) × AreEnds names end ends

-- what a name is refused for
abbrev pub refused_by : Rule → Dialect → List ℕ → Option JoinError
refused_by Checked d name = option_map join.Checked (fault d name)
refused_by Portable d name = join_fault d name

-- the answer to a name is nothing where it is refused, and else the base with the name pushed onto it
abbrev pub answer_unless : Dialect → List ℕ → List ℕ → Option JoinError → List ℕ
answer_unless d base name None = push d base name
answer_unless d base name (Some e) = []

abbrev pub name_answer : Rule → Dialect → List ℕ → List ℕ → List ℕ
name_answer rule d base name = answer_unless d base name (refused_by rule d name)

abbrev pub name_status : Rule → Dialect → List ℕ → ℕ
name_status rule d name = status_by join_status (refused_by rule d name)

abbrev pub answers : Rule → Dialect → List ℕ → List (List ℕ) → List ℕ
answers rule d base names = flat_map (name_answer rule d base) names

-- where the answers end that are put behind each other
abbrev pub answer_ends : Rule → Dialect → List ℕ → ℕ → List (List ℕ) → List ℕ
answer_ends rule d base at [] = []
answer_ends rule d base at (name ∷ names) = (at + length (name_answer rule d base name)) ∷ answer_ends rule d base (at + length (name_answer rule d base name)) names

-- what a batch leaves where it was done for some names: their answers behind each other, and where these end, and their statuses
pub record ArePut (rule : Rule) (d : Dialect) (base : List ℕ) (names : List (List ℕ)) (old new ends_old ends_new statuses_old statuses_new : List ℕ) : Type 0 where
  pub bytes : new ≡ answers rule d base names ++ drop (length (answers rule d base names)) old
  pub fits : length (answers rule d base names) ≤ length old
  pub ends : ends_new ≡ over (answer_ends rule d base 0 names) ends_old
  pub statuses : statuses_new ≡ over (map (name_status rule d) names) statuses_old
  pub has_ends : length names ≤ length ends_old
  pub has_statuses : length names ≤ length statuses_old

-- the next name, and that its end is in order
abbrev pub next_name : List ℕ → List ℕ → ℕ → List ℕ
next_name names ends n = slice_range names (last_from 0 (take n ends)) (slice_index ends n)

abbrev pub IsNextEnd : List ℕ → List ℕ → ℕ → Type 0
IsNextEnd names ends n = (n < length ends) × (last_from 0 (take n ends) ≤ slice_index ends n) × (slice_index ends n ≤ length names)

-- the next name is not answered since there is no room for its end, its status or its answer
abbrev pub IsFull : Rule → Dialect → List ℕ → List (List ℕ) → List ℕ → List ℕ → List ℕ → List ℕ → Type 0
IsFull rule d base names old ends statuses next =
    (length ends ≤ length names) ⊎ (length statuses ≤ length names)
    ⊎ (length old < length (answers rule d base names) + length (name_answer rule d base next))

-- what is put for a name that is not refused has the prefix of the base and lies within it
abbrev pub IsContained : Rule → Dialect → List ℕ → List ℕ → Type 0
IsContained rule d base name = refused_by rule d name ≡ None → IsHeld d base name (push d base name)

-- a batch was done for so many names, and its status says why for no more; where ends and statuses have room, a buffer of the bound is never too small
pub record IsBatch (rule : Rule) (d : Dialect) (base names ends old new ends_old ends_new statuses_old statuses_new : List ℕ) (n status : ℕ) : Type 0 where
  pub some : n ≤ length ends
  pub in_order : AreEnds names 0 (take n ends)
  pub put : ArePut rule d base (names_from names 0 (take n ends)) old new ends_old ends_new statuses_old statuses_new
  pub contained : AllByRecursion (IsContained rule d base) (names_from names 0 (take n ends))
  pub text : is_utf8 base ≡ true → are_texts (names_from names 0 (take n ends)) ≡ true → is_utf8 (answers rule d base (names_from names 0 (take n ends))) ≡ true
  pub all : status ≡ done → n ≡ length ends
  pub ill : status ≡ bad_ends → (n < length ends) × ((slice_index ends n < last_from 0 (take n ends)) ⊎ (length names < slice_index ends n))
  pub full : status ≡ too_small → IsNextEnd names ends n × IsFull rule d base (names_from names 0 (take n ends)) old ends_old statuses_old (next_name names ends n)
  pub memory : status ≡ out_of_memory → IsNextEnd names ends n × (n < length ends_old) × (n < length statuses_old) × (refused_by rule d (next_name names ends n) ≡ None)
  pub fits : length ends ≤ length ends_old → length ends ≤ length statuses_old → Suffices (length names + length ends * (length base + 3)) old status
  pub known : (status ≡ done) ⊎ (status ≡ bad_ends) ⊎ (status ≡ too_small) ⊎ (status ≡ out_of_memory)

-- the same for the dialect that a number names, and for one that names none
abbrev pub Batches : Rule → ℕ → List ℕ → List ℕ → List ℕ → List ℕ → List ℕ → List ℕ → List ℕ → List ℕ → List ℕ → ℕ → ℕ → Type 0
Batches rule number base names ends old new ends_old ends_new statuses_old statuses_new n status =
    MatchOption (dialect_named number)
    ((status ≡ bad_dialect) × (n ≡ 0) × (new ≡ old) × (ends_new ≡ ends_old) × (statuses_new ≡ statuses_old))
    (λ d. IsBatch rule d base names ends old new ends_old ends_new statuses_old statuses_new n status)
