use Rattle.std.proofs.Common.{arith}
use Rattle.typed_path.specs.queries.{is_control}
use Rattle.typed_path.proofs.lemmas.scan.Searches.{any-told}
use Rattle.typed_path.proofs.scan.lanes.has_control_in_two.Goals as goal

pub returns-else-has_control_in_block : goal.returns-else-has_control_in_block
returns-else-has_control_in_block g c =
    any-told is_control c.args.text.now _ _ _ c.has_control_in_block-else-has_control_in_block.ensures (λ k below. c.if-has_control_in_block.ensures k (omega arith) (omega (arith, c.requires.size))) (omega (arith, c.requires.size))
