use Rattle.std.proofs.Common.{arith}
use Rattle.typed_path.specs.changes.{is_forbidden_or}
use Rattle.typed_path.proofs.lemmas.scan.Searches.{any-told}
use Rattle.typed_path.proofs.scan.lanes.has_forbidden_in_two.Goals as goal

pub returns-else-is_forbidden_in_block : goal.returns-else-is_forbidden_in_block
returns-else-is_forbidden_in_block g c =
    any-told (is_forbidden_or c.args.pair) c.args.text.now _ _ _ c.is_forbidden_in_block-else-is_forbidden_in_block.ensures (λ k below. c.if-is_forbidden_in_block.ensures k (omega arith) (omega (arith, c.requires.size))) (omega (arith, c.requires.size))
