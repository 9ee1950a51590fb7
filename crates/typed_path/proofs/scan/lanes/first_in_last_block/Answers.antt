use Rattle.std.proofs.Common.{◌+◌, ◌-◌, subst, arith}
use Rattle.std.specs.Slice.Scan.{IsFirstPlace}
use Rattle.typed_path.specs.scan.{stands_at}
use Rattle.typed_path.proofs.lemmas.scan.Searches.{mask-last, block-none, block-first}
use Rattle.typed_path.proofs.scan.lanes.first_in_last_block.Goals as goal

pub returns-then-marks-eq0 : goal.returns-then-marks-eq0
returns-then-marks-eq0 g c =
    let q = stands_at c.args.pair c.args.text.now in
    let marks = mask-last q g.row.N c.args.from c.args.to _ c.requires.ordered c.requires.near c.requires.room c.marks_at-block.ensures in
    let none = block-none q c.args.from (c.args.to - c.args.from) _ marks c.if-marks-eq0.true in
    record { low = c.requires.ordered; high = omega arith; before = λ k l h. none k l (omega (arith, c.requires.ordered)); hit = λ l. absurd (omega arith) }

pub returns : goal.returns
returns g c =
    let q = stands_at c.args.pair c.args.text.now in
    let marks = mask-last q g.row.N c.args.from c.args.to _ c.requires.ordered c.requires.near c.requires.room c.marks_at-block.ensures in
    subst (λ to. IsFirstPlace q c.args.from to (c.args.from + c.lowest.result)) (omega (arith, c.requires.ordered))
    (block-first q c.args.from (c.args.to - c.args.from) _ marks _ c.lowest.ensures.set c.lowest.ensures.below).1
