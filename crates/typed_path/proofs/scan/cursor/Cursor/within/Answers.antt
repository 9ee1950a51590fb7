use Rattle.std.proofs.Common.{ap, ◌∙◌, slice_range, arith}
use Rattle.typed_path.specs.scan.{is_clean}
use Rattle.typed_path.proofs.lemmas.scan.Steps.{within-fits, within-body, within-parts}
use Rattle.typed_path.proofs.scan.cursor.Cursor.within.Goals as goal

pub invariant_of-result-clause-ordered : goal.invariant_of-result-clause-ordered
invariant_of-result-clause-ordered c = grind (arith, within-fits)

pub invariant_of-result-clause-starts_clean : goal.invariant_of-result-clause-starts_clean
invariant_of-result-clause-starts_clean c =
    let v = c.args.self in
    let s = c.args.span in
    ap (is_clean v.begin v.separators) (ap (λ n. slice_range s.text.now n s.len) c.pending.ensures ∙ within-body v s.text.now s.len s.within c.requires) ∙ v.starts_clean

pub returns : goal.returns
returns c = grind (arith, within-parts)
