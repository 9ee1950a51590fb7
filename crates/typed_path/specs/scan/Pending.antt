-- How much of a text the prefix takes that is still to be taken.
use Rattle.std.specs.Prelude.{ℕ, Option, Some, None}
use Rattle.typed_path.specs.declared.scan.prefix.Found.{Found}

abbrev pub pending : Option Found → ℕ
pending None = 0
pending (Some f) = f.length
