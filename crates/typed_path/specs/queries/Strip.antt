-- What a path answers where a base is taken off it.
use Rattle.std.specs.Prelude.{ℕ, List, Option, Some, None, Result, Ok, Err}

-- the text that is left, or none where the base was refused
abbrev pub stripped_to : {P E : Type 0} → (P → List ℕ) → Result P E → Option (List ℕ)
stripped_to text (Ok rest) = Some (text rest)
stripped_to text (Err refused) = None
