use Rattle.std.proofs.Common.{sym, ap, ◌∙◌, subst, drop}
use Rattle.typed_path.specs.scan.{first_of, IsReading, unread_items}
use Rattle.typed_path.specs.typed.{typed_dialect}
use Rattle.typed_path.specs.views.TypedViews.{typed_bytes}
use Rattle.typed_path.proofs.lemmas.scan.Unread.{numbers_right, first_unread-ends}
use Rattle.typed_path.proofs.typed.numbers.TypedPath.step_front.Goals as goal

pub returns-clause-items : goal.returns-clause-items
returns-clause-items c =
    let d = typed_dialect c.args.self in
    let path = typed_bytes c.args.self in
    let right = (numbers_right d path c.front_placed-taken.new.self (c.front_placed-taken.ensures.same d path c.in-Some.ensures.same)).0 in
    subst (λ u. IsReading d path u (drop 1 (unread_items d path c.args.unread.now))) (sym c.numbers.ensures)
    (right.0, right.1 ∙ c.front_placed-taken.ensures.items ∙ ap (drop 1) c.in-Some.ensures.items)

pub returns-clause-within : goal.returns-clause-within
returns-clause-within c =
    first_unread-ends (typed_dialect c.args.self) (typed_bytes c.args.self) c.args.unread.now (sym c.in-Some.ensures.told) c.front_placed-taken.result
    (c.front_placed-taken.ensures.taken ∙ ap first_of c.in-Some.ensures.items)
