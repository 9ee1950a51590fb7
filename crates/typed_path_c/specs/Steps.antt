-- A reading that is kept as numbers, and what a step of it tells.
use Rattle.std.specs.Prelude.{◌≡◌, ◌+◌, ℕ, List, length, Option, Some, MatchOption, MatchBool}
use Rattle.typed_path.specs.components.Dialects.{Dialect}
use Rattle.typed_path.specs.components.Parts.{Placed}
use Rattle.typed_path.specs.components.Comps.{comps}
use Rattle.typed_path.specs.scan.Left.{front, back, items_between}
use Rattle.typed_path.specs.scan.Reading.{answer_of}
use Rattle.typed_path.specs.scan.Unread.{IsReading, is_unread, unread_items}
use Rattle.typed_path.specs.declared.scan.unread.Unread.{Unread}
use Rattle.typed_path_c.specs.declared.parts.Component.{Component}
use Rattle.typed_path_c.specs.Answers.{dialect_named, done, bad_dialect, none_there}
use Rattle.typed_path_c.specs.Parts.{told}

abbrev pub bad_reading : ℕ
bad_reading = 11

-- a component is told, or that none is left
abbrev pub Told : Option Placed → Component → Component → ℕ → Type 0
Told taken old new status = MatchOption taken ((status ≡ none_there) × (new ≡ old)) (λ c. (status ≡ done) × (new ≡ told c))

-- of numbers at which a reading may stand, a step tells one of the components that are left there, and leaves the others; of others it tells nothing, and they stay
abbrev pub StepsIn : (List Placed → Option Placed) → (List Placed → List Placed) → Dialect → List ℕ → Unread → Unread → Component → Component → ℕ → Type 0
StepsIn taken left d path old new held component status =
    MatchBool (is_unread d path old)
    (IsReading d path new (left (unread_items d path old)) × Told (taken (unread_items d path old)) held component status)
    ((status ≡ bad_reading) × (new ≡ old) × (component ≡ held))

-- the same for the dialect that a number names, and for one that names none
abbrev pub Steps : (List Placed → Option Placed) → (List Placed → List Placed) → ℕ → List ℕ → Unread → Unread → Component → Component → ℕ → Type 0
Steps taken left number path old new held component status =
    MatchOption (dialect_named number) ((status ≡ bad_dialect) × (new ≡ old) × (component ≡ held))
    (λ d. StepsIn taken left d path old new held component status)

-- so many steps were taken from the front of a path, and so many from the back
abbrev pub IsAfter : Dialect → List ℕ → Unread → ℕ → ℕ → Type 0
IsAfter d path reading i j = IsReading d path reading (items_between (comps d path) i j)

-- at these numbers none was
abbrev pub Begins : List ℕ → Type 0
Begins path = (d : Dialect) → IsAfter d path (record { from = 0; to = length path; stage = 0 }) 0 0

-- one step more from the front
abbrev pub StepsFront : ℕ → List ℕ → Unread → Unread → Component → Component → ℕ → Type 0
StepsFront number path old new held component status = (d : Dialect) (i j : ℕ) → dialect_named number ≡ Some d → IsAfter d path old i j
    → IsAfter d path new (i + 1) j × Told (answer_of (items_between (comps d path) i j) front) held component status

-- and from the back
abbrev pub StepsBack : ℕ → List ℕ → Unread → Unread → Component → Component → ℕ → Type 0
StepsBack number path old new held component status = (d : Dialect) (i j : ℕ) → dialect_named number ≡ Some d → IsAfter d path old i j
    → IsAfter d path new i (j + 1) × Told (answer_of (items_between (comps d path) i j) back) held component status
