use Rattle.std.proofs.Common.{sym, arith, eq-eqb}
use Rattle.typed_path.proofs.lemmas.changes.Faults.{no_pair-last, no_pair-before}
use Rattle.typed_path.proofs.scan.lanes.has_no_nul_or_dot_pair.Goals as goal

pub returns-then-last-ne0 : goal.returns-then-last-ne0
returns-then-last-ne0 c = sym (no_pair-before c.args.text.now (omega (arith, c.in-len1-up.len_at_least)) _ c.if-last-ne0.true c.has_nul_or_dot_pair_before.ensures)

pub returns-else-last-ne0 : goal.returns-else-last-ne0
returns-else-last-ne0 c = grind (arith, eq-eqb, no_pair-last)
