-- What the JSON value of a path is, and which values are paths.
use Rattle.std.specs.Prelude.{ℕ, List, ◌≡◌, Bool, is_some, Result, Ok, Err}
use Rattle.serde_json.specs.Data.{Data, string}
use Rattle.serde_json.specs.Find.{as_str}

-- a value is the JSON text of these bytes
abbrev pub IsValueOf : List ℕ → Data → Type 0
IsValueOf bytes value = value ≡ string bytes

-- a value is a JSON text
abbrev pub is_json_text : Data → Bool
is_json_text value = is_some (as_str value)

-- a result is this refusal
abbrev pub FailsBy : {A E : Type 0} → E → Result A E → Type 0
FailsBy refusal (Ok value) = ⊥
FailsBy refusal (Err e) = e ≡ refusal
