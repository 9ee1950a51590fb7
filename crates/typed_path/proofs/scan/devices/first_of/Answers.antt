use Rattle.std.proofs.Common.{◌≡◌, ◌||◌, ◌==◌, Bool, true, false, refl}
use Rattle.typed_path.proofs.lemmas.scan.Searches.{first-of}
use Rattle.typed_path.proofs.scan.devices.first_of.Goals as goal

-- one of a byte and itself is that byte
twice : (b : Bool) → b ≡ (b || b)
twice true = refl
twice false = refl

pub returns-clause-first : goal.returns-clause-first
returns-clause-first c =
    let byte = c.args.byte in
    first-of (byte, byte) (λ b. b == byte) (λ b. twice (b == byte)) c.args.text.now _ c.first_between.ensures
