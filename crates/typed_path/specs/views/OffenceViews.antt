-- The view of a component that offends.
use Rattle.std.specs.Prelude.{ℕ, List}
use Rattle.std.specs.Borrow.{Bor}
use Rattle.typed_path.specs.declared.errors.PortableError.{PortableError}

-- how it is written, and why it offends
abbrev pub offence_of : Bor (List ℕ) × PortableError → List ℕ × PortableError
offence_of found = (found.0.now, found.1)
