-- The first bytes of a text.
use Rattle.std.specs.Prelude.{ℕ, List, take}
use Rattle.typed_path.specs.declared.scan.span.Span.{Span}

abbrev pub span_bytes : Span → List ℕ
span_bytes f = take f.len f.text.now
