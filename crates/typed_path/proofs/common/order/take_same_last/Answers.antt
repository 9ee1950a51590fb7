use Rattle.typed_path.specs.views.BodyViews.{body_items}
use Rattle.typed_path.specs.views.PieceViews.{step_part}
use Rattle.typed_path.proofs.lemmas.order.Comparisons.{same-step}
use Rattle.typed_path.proofs.common.order.take_same_last.Goals as goal

pub returns-in-Some-Some : goal.returns-in-Some-Some
returns-in-Some-Some c =
    same-step (body_items c.args.rest.now) (body_items c.args.wanted.now) (body_items c.back.new.self) (body_items c.back-2.new.self) (step_part c.in-Some-Some.step) (step_part c.in-Some-Some.own) c.is_same_step.result
    c.in-Some-Some.ensures'.taken c.in-Some-Some.ensures.taken c.is_same_step.ensures c.in-Some-Some.ensures.items c.in-Some-Some.ensures'.items
