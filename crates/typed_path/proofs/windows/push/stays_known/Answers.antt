use Rattle.std.proofs.Common.{◌≡◌, Bool, Option, None, sym, ap, subst, ◌∙◌, arith, not, is_some, option_map, IsTrue}
use Rattle.typed_path.specs.components.{windows}
use Rattle.typed_path.specs.changes.{push_windows, IsKnown}
use Rattle.typed_path.specs.views.PieceViews.{found_of}
use Rattle.typed_path.proofs.lemmas.changes.MergedInPlace.{keeps-known}
use Rattle.typed_path.proofs.windows.push.stays_known.Goals as goal

none_is : {A : Type 0} (o : Option A) (b : Bool) → is_some o ≡ not b → IsTrue b → o ≡ None
none_is o b e h = grind arith

pub returns-in-Some : goal.returns-in-Some
returns-in-Some c = λ is path size known.
    let none = none_is c.find_prefix.result c.is_none.result c.is_none.ensures is in
    subst (λ k. IsKnown windows k (push_windows path c.args.other.now)) (sym c.in-Some.is)
    (keeps-known path c.args.other.now c.in-Some.head (subst (λ k. IsKnown windows k path) c.in-Some.is known) (sym c.find_prefix.ensures ∙ ap (option_map found_of) none)
    (omega (arith, size, c.if-head-len.true, c.if-len-gt1.true)))
