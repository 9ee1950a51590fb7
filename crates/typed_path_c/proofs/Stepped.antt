-- A step of a reading that is kept as numbers, and what it tells.
use Rattle.std.proofs.Common.{◌≡◌, ℕ, ◌+◌, ◌-◌, ◌≤◌, List, length, drop, Option, Some, None, option_map, MatchOption, Result, Ok, Err, IfSome, IfOk, OnOk, OnErr, is_ok, MatchResult, sym, ◌∙◌, subst, arith, take_all}
use Rattle.std.specs.Prelude.{MatchBool}
use Rattle.typed_path.specs.components.{Dialect, Placed, comps, end_of}
use Rattle.typed_path.specs.declared.errors.ReadingError.{ReadingError}
use Rattle.typed_path.specs.declared.scan.unread.PlacedPiece.{PlacedPiece}
use Rattle.typed_path.specs.declared.scan.unread.Unread.{Unread}
use Rattle.typed_path.specs.scan.{first_of, last_of, but_last, items_between, IsReading, is_unread, unread_items}
use Rattle.typed_path.specs.views.UnreadViews.{placed_of}
use Rattle.typed_path.proofs.lemmas.scan.Readings.{between-front, between-back}
use Rattle.typed_path.proofs.lemmas.scan.Unread.{whole_unread}
use Rattle.typed_path_c.specs.declared.parts.Component.{Component}
use Rattle.typed_path_c.specs.Answers.{dialect_named, done, bad_dialect}
use Rattle.typed_path_c.specs.Steps.{Begins, Told, StepsIn, Steps, StepsFront, StepsBack, bad_reading}

-- at first nothing was taken
pub begins : (path : List ℕ) → Begins path
begins path d =
    let whole = whole_unread d path in
    let all : items_between (comps d path) 0 0 ≡ comps d path = take_all (length (comps d path) - 0 - 0) (comps d path) (omega arith) in
    (whole.0, whole.1 ∙ sym all)

-- what a step of the library does is told
module _ (path : List ℕ) (held component : Component) (status : ℕ) where
  abbrev AreTold : Result (Option PlacedPiece) ReadingError → Type 0
  AreTold answer = MatchResult answer (λ taken. Told (option_map placed_of taken) held component status) (λ _. (status ≡ bad_reading) × (component ≡ held))

  module _ (taken : List Placed → Option Placed) (left : List Placed → List Placed) (d : Dialect) (old new : Unread) where
    pub stepped : (answer : Result (Option PlacedPiece) ReadingError) → is_ok answer ≡ is_unread d path old
        → IfOk answer (λ c. option_map placed_of c ≡ taken (unread_items d path old)) → OnOk answer (IsReading d path new (left (unread_items d path old)))
        → OnErr answer (new ≡ old) → AreTold answer → StepsIn taken left d path old new held component status
    stepped (Ok c) right is reading kept told =
        subst (λ b. MatchBool b (IsReading d path new (left (unread_items d path old)) × Told (taken (unread_items d path old)) held component status)
        ((status ≡ bad_reading) × (new ≡ old) × (component ≡ held))) right (reading, subst (λ o. Told o held component status) is told)
    stepped (Err e) right is reading kept told =
        subst (λ b. MatchBool b (IsReading d path new (left (unread_items d path old)) × Told (taken (unread_items d path old)) held component status)
        ((status ≡ bad_reading) × (new ≡ old) × (component ≡ held))) right (told.0, kept, told.1)

  -- it lies within the path
  pub told_within : (answer : Result (Option PlacedPiece) ReadingError) → IfOk answer (λ taken. IfSome taken (λ c. end_of (placed_of c) ≤ length path)) → AreTold answer
      → status ≡ done → component.start + component.length ≤ length path
  told_within (Ok None) within told is = absurd (omega (arith, is, told.0))
  told_within (Ok (Some c)) within told is = subst (λ x. x.start + x.length ≤ length path) (sym told.1) within
  told_within (Err e) within told is = absurd (omega (arith, is, told.0))

-- a step of numbers that are right
module _ (taken : List Placed → Option Placed) (left : List Placed → List Placed) (number : ℕ) (path : List ℕ) (old new : Unread) (held component : Component) (status : ℕ)
    (steps : Steps taken left number path old new held component status) (d : Dialect) (named : dialect_named number ≡ Some d) (items : List Placed) (reading : IsReading d path old items) where
  in-dialect : StepsIn taken left d path old new held component status
  in-dialect = subst (λ o. MatchOption o ((status ≡ bad_dialect) × (new ≡ old) × (component ≡ held)) (λ e. StepsIn taken left e path old new held component status)) named steps

  by-list : IsReading d path new (left items) × Told (taken items) held component status
  by-list =
      subst (λ cs. IsReading d path new (left cs) × Told (taken cs) held component status) reading.1
      (subst (λ b. MatchBool b (IsReading d path new (left (unread_items d path old)) × Told (taken (unread_items d path old)) held component status)
      ((status ≡ bad_reading) × (new ≡ old) × (component ≡ held))) reading.0 in-dialect)

-- by how many were taken before
pub steps_front : (number : ℕ) (path : List ℕ) (old new : Unread) (held component : Component) (status : ℕ)
    → Steps first_of (drop 1) number path old new held component status → StepsFront number path old new held component status
steps_front number path old new held component status steps d i j named after =
    let (reading, told) = by-list first_of (drop 1) number path old new held component status steps d named (items_between (comps d path) i j) after in
    ((reading.0, reading.1 ∙ between-front (comps d path) i j), told)

pub steps_back : (number : ℕ) (path : List ℕ) (old new : Unread) (held component : Component) (status : ℕ)
    → Steps last_of but_last number path old new held component status → StepsBack number path old new held component status
steps_back number path old new held component status steps d i j named after =
    let (reading, told) = by-list last_of but_last number path old new held component status steps d named (items_between (comps d path) i j) after in
    ((reading.0, reading.1 ∙ between-back (comps d path) i j), told)
