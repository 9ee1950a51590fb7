use Rattle.std.proofs.Common.{◌≡◌, ◌+◌, ◌&&◌, ℕ, arith, slice_index}
use Rattle.typed_path.specs.scan.{stands_at}
use Rattle.typed_path.specs.changes.{begins_no_name}
use Rattle.typed_path.proofs.lemmas.scan.Searches.{mask-and, mask-or, mask-alike}
use Rattle.typed_path.proofs.scan.names.no_names_at.Goals as goal

pub returns : goal.returns
returns g c =
    let text = c.args.text.now in
    let pair = c.args.pair in
    let at = c.args.at in
    let n = g.row.N in
    let one : (k : ℕ) → at + k + 1 ≡ at + 1 + k = λ k. omega arith in
    let two : (k : ℕ) → at + k + 2 ≡ at + 2 + k = λ k. omega arith in
    mask-alike (λ k. stands_at pair text (at + k) && begins_no_name pair (slice_index text (at + 1 + k)) (slice_index text (at + 2 + k))) _ n _
    (λ k i. stands_at pair text (at + k) && begins_no_name pair (slice_index text (one k i)) (slice_index text (two k i)))
    (mask-and _ _ n _ _ c.marks_at-2.ensures
    (mask-or _ _ n _ _ c.marks_at-3.ensures (mask-and _ _ n _ _ c.marks_of-2.ensures (mask-or _ _ n _ _ c.marks_at.ensures c.marks_of.ensures))))
