use Rattle.typed_path.specs.scan.{stands_at}
use Rattle.typed_path.proofs.lemmas.scan.Searches.{block-none, block-last}
use Rattle.std.proofs.Common.{arith}
use Rattle.typed_path.proofs.scan.lanes.last_in_block.Goals as goal

pub returns-then-marks-eq0 : goal.returns-then-marks-eq0
returns-then-marks-eq0 g c = record {
  low = omega arith;
  high = omega arith;
  after = block-none (stands_at c.args.pair c.args.text.now) c.args.at g.row.N _ c.marks_at-marks.ensures c.if-marks-eq0.true;
  hit = λ l. absurd (omega arith);
}

pub returns : goal.returns
returns g c = (block-last (stands_at c.args.pair c.args.text.now) c.args.at g.row.N _ c.marks_at-marks.ensures _ c.highest.ensures.set c.highest.ensures.above).1
