use Rattle.std.proofs.Common.{arith}
use Rattle.typed_path.proofs.lemmas.scan.Searches.{block-none, block-first}
use Rattle.typed_path.proofs.scan.lanes.first_marked.Goals as goal

pub returns-then-marks-eq0 : goal.returns-then-marks-eq0
returns-then-marks-eq0 g c = λ holds marks. record {
  low = omega arith;
  high = omega arith;
  before = block-none holds c.args.at g.row.N _ marks c.if-marks-eq0.true;
  hit = λ l. absurd (omega arith);
}

pub returns : goal.returns
returns g c = λ holds marks. (block-first holds c.args.at g.row.N _ marks _ c.lowest.ensures.set c.lowest.ensures.below).1
