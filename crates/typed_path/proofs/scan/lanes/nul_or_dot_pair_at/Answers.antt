use Rattle.std.proofs.Common.{◌≡◌, ◌+◌, ◌&&◌, ◌||◌, ◌==◌, ℕ, arith, slice_index}
use Rattle.typed_path.specs.components.{dot}
use Rattle.typed_path.proofs.lemmas.scan.Searches.{mask-and, mask-or, mask-alike}
use Rattle.typed_path.proofs.scan.lanes.nul_or_dot_pair_at.Goals as goal

pub returns : goal.returns
returns g c =
    let text = c.args.text.now in
    let at = c.args.at in
    let n = g.row.N in
    let one : (k : ℕ) → at + k + 1 ≡ at + 1 + k = λ k. omega arith in
    mask-alike (λ k. slice_index text (at + k) == 0 || slice_index text (at + k) == dot && slice_index text (at + 1 + k) == dot) _ n _
    (λ k i. slice_index text (at + k) == 0 || slice_index text (at + k) == dot && slice_index text (one k i) == dot)
    (mask-or _ _ n _ _ c.marks_of.ensures (mask-and _ _ n _ _ c.marks_of-2.ensures c.marks_of-3.ensures))
