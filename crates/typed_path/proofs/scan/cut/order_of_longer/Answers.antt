use Rattle.std.proofs.Common.{arith}
use Rattle.std.proofs.lemmas.Grind.{common_steps}
use Rattle.typed_path.proofs.lemmas.order.Comparisons.{longer-same, longer-more}
use Rattle.typed_path.proofs.scan.cut.order_of_longer.Goals as goal

pub returns-then-end-text-clause-longer : goal.returns-then-end-text-clause-longer
returns-then-end-text-clause-longer c = grind (arith, longer-same)

pub returns-then-end-text-clause-shorter : goal.returns-then-end-text-clause-shorter
returns-then-end-text-clause-shorter c = grind (arith, common_steps, longer-same)

pub returns-clause-longer : goal.returns-clause-longer
returns-clause-longer c = grind (arith, longer-more)

pub returns-clause-shorter : goal.returns-clause-shorter
returns-clause-shorter c =
    (longer-more c.args.separators c.args.text.now c.args.beginning.now c.in_ok-end.end (c.in_ok-end.ensures.items 0) (omega (arith, c.in_ok-end.ensures.within, c.if-end-text.false)) c.in_ok-end.ensures.clean).1
