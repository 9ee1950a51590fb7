use Rattle.std.proofs.Common.{true, false}
use Rattle.typed_path.proofs.lemmas.places.NearSteps.{alone-count}
use Rattle.typed_path.proofs.common.relative.names_alone.Goals as goal

pub returns-then-ended : goal.returns-then-ended
returns-then-ended c =
    let told = c.in_ok-ended.ensures in
    (_, told.0, told.1, alone-count c.args.separators c.args.text.now _ true told.0 c.count_ends-ends.result c.if-ended.true told.1 c.count_ends-ends.ensures.count)

pub returns-else-ended : goal.returns-else-ended
returns-else-ended c =
    let told = c.in_ok-ended.ensures in
    (_, told.0, told.1, alone-count c.args.separators c.args.text.now _ false told.0 c.count_ends-ends.result c.if-ended.false told.1 c.count_ends-ends.ensures.count)
