use Rattle.std.proofs.Common.{sym, ap, ◌∙◌, subst}
use Rattle.typed_path.specs.scan.{but_last, last_of, IsReading, unread_items}
use Rattle.typed_path.specs.typed.{typed_dialect}
use Rattle.typed_path.specs.views.TypedViews.{typed_bytes}
use Rattle.typed_path.proofs.lemmas.scan.Unread.{numbers_right, last_unread-ends}
use Rattle.typed_path.proofs.typed.numbers.TypedPath.step_back.Goals as goal

pub returns-clause-items : goal.returns-clause-items
returns-clause-items c =
    let d = typed_dialect c.args.self in
    let path = typed_bytes c.args.self in
    let right = (numbers_right d path c.back_placed-taken.new.self (c.back_placed-taken.ensures.same d path c.in-Some.ensures.same)).0 in
    subst (λ u. IsReading d path u (but_last (unread_items d path c.args.unread.now))) (sym c.numbers.ensures)
    (right.0, right.1 ∙ c.back_placed-taken.ensures.items ∙ ap (but_last) c.in-Some.ensures.items)

pub returns-clause-within : goal.returns-clause-within
returns-clause-within c =
    last_unread-ends (typed_dialect c.args.self) (typed_bytes c.args.self) c.args.unread.now (sym c.in-Some.ensures.told) c.back_placed-taken.result
    (c.back_placed-taken.ensures.taken ∙ ap last_of c.in-Some.ensures.items)
