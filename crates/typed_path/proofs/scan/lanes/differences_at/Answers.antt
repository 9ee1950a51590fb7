use Rattle.std.proofs.Common.{◌==◌, ◌≡◌, true, not, ap, ne_eqb}
use Rattle.typed_path.proofs.lemmas.scan.LowerCase.{as-lowered, as-written, marks-of}
use Rattle.typed_path.proofs.scan.lanes.differences_at.Goals as goal

pub returns-then-this-ne0-clause-mask : goal.returns-then-this-ne0-clause-mask
returns-then-this-ne0-clause-mask g c =
    let low : (not (g.row.LOWER == 0)) ≡ true = ap not (ne_eqb g.row.LOWER 0 c.if-this-ne0.true) in
    as-lowered c.args.text.now c.args.other.now c.args.at g.row.N _ (not (g.row.LOWER == 0)) low c.lowered_differences_at.ensures.mask

pub returns-clause-mask : goal.returns-clause-mask
returns-clause-mask g c =
    as-written c.args.text.now c.args.other.now c.args.at g.row.N _ (not (g.row.LOWER == 0)) (ap (λ n. not (n == 0)) c.if-this-ne0.false)
    (marks-of c.args.at g.row.N c.args.text.now c.args.other.now c.requires.lanes.1 c.requires.in_text c.requires.in_other)
