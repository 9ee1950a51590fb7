use Rattle.std.proofs.Common.{◌≡◌, ◌+◌, ◌-◌, subst, arith}
use Rattle.std.specs.Slice.Scan.{IsFirstPlace}
use Rattle.typed_path.specs.changes.{begins_no_name_at}
use Rattle.typed_path.proofs.lemmas.scan.Searches.{both-none, place-none, place-front, place-back}
use Rattle.typed_path.proofs.scan.names.first_no_name_in_two.Goals as goal

pub returns-then-first-last : goal.returns-then-first-last
returns-then-first-last g c =
    let q = begins_no_name_at c.args.pair c.args.text.now in
    place-none q c.args.to (both-none q g.row.N c.args.to _ _ c.requires.size.0 c.requires.size.1 c.no_names_at-first.ensures c.no_names_at-last.ensures c.if-first-last.true)

pub returns-then-place : goal.returns-then-place
returns-then-place g c =
    let q = begins_no_name_at c.args.pair c.args.text.now in
    place-front q (0 + g.row.N) c.args.to _ (omega (arith, c.requires.size)) (c.first_marked-place.ensures q c.no_names_at-first.ensures) (omega arith)

pub returns : goal.returns
returns g c =
    let q = begins_no_name_at c.args.pair c.args.text.now in
    let last = c.args.to - g.row.N in
    let whole : last + g.row.N ≡ c.args.to = omega (arith, c.requires.size) in
    let first = c.first_marked-place.ensures q c.no_names_at-first.ensures in
    place-back q last (0 + g.row.N) c.args.to _ (omega (arith, c.requires.size)) (λ k low high. first.before k low (omega arith))
    (subst (λ n. IsFirstPlace q last n c.first_marked.result) whole (c.first_marked.ensures q c.no_names_at-last.ensures))
