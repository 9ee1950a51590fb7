use Rattle.std.proofs.Common.{append-nil, arith}
use Rattle.std.proofs.lemmas.List.{drop_all}
use Rattle.typed_path.proofs.lemmas.components.Segments.{pieces}
use Rattle.typed_path.proofs.lemmas.places.CleanRows.{told-before, told-whole}
use Rattle.typed_path.proofs.common.relative.ends_alone.Goals as goal

pub returns-in-Whole : goal.returns-in-Whole
returns-in-Whole c = grind (arith, pieces, told-whole, append-nil)

pub returns-in-First : goal.returns-in-First
returns-in-First c = grind (arith, told-before, pieces, drop_all)
