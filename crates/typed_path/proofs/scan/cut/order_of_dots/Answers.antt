use Rattle.std.proofs.Common.{rules, ◌≡◌, ◌∷◌, Greater, sym, ◌∙◌}
use Rattle.std.specs.List.{before_first}
use Rattle.std.specs.Ordering.{nat_cmp}
use Rattle.typed_path.specs.components.{dot, is_separator, body}
use Rattle.typed_path.specs.scan.{dots_rank}
use Rattle.typed_path.specs.order.{left_cmp}
use Rattle.typed_path.proofs.lemmas.order.Fronts.{dot-greater, ranks-order}
use Rattle.typed_path.proofs.scan.cut.order_of_dots.Goals as goal

pub returns-in-Greater : goal.returns-in-Greater
returns-in-Greater c =
    let s = c.args.separators in
    let a = c.in_ok-own.own.now in
    let b = c.in_ok-wanted.wanted.now in
    let own : c.args.text.now ≡ a ∷ c.in_ok-own.field-0-1.now = search rules in
    let other : c.args.other.now ≡ b ∷ c.in_ok-wanted.field-0-1.now = search rules in
    let dotted : b ≡ dot = search rules in
    let greater : nat_cmp a b ≡ Greater = search rules in
    (λ i. left_cmp (body s 0 (own i)) (body s 0 (other i)))
    ∙ dot-greater s a b c.in_ok-own.field-0-1.now c.in_ok-wanted.field-0-1.now (sym c.contains.ensures ∙ c.if-contains.false) (sym c.contains-2.ensures ∙ c.if-contains-2.false) dotted greater

pub returns-then-is_ne : goal.returns-then-is_ne
returns-then-is_ne c =
    let s = c.args.separators in
    let a = c.in_ok-own.own.now in
    let b = c.in_ok-wanted.wanted.now in
    let xs = c.in_ok-own.field-0-1.now in
    let ys = c.in_ok-wanted.field-0-1.now in
    let own : c.args.text.now ≡ a ∷ xs = search rules in
    let other : c.args.other.now ≡ b ∷ ys = search rules in
    let order = c.cmp-order.result in
    let told : nat_cmp (dots_rank (before_first (is_separator s) c.args.text.now)) (dots_rank (before_first (is_separator s) c.args.other.now)) ≡ order = search rules in
    (λ i. left_cmp (body s 0 (own i)) (body s 0 (other i)))
    ∙ ranks-order s a b xs ys order (sym c.contains.ensures ∙ c.if-contains.false) (sym c.contains-2.ensures ∙ c.if-contains-2.false)
    ((λ i. nat_cmp (dots_rank (before_first (is_separator s) (sym own i))) (dots_rank (before_first (is_separator s) (sym other i)))) ∙ told)
    (sym c.is_ne.ensures ∙ c.if-is_ne.true)
