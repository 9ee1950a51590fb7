use Rattle.std.proofs.Common.{length, map, sym, ap, ◌∙◌, arith}
use Rattle.typed_path.specs.order.{lowered_part, lowered_placed}
use Rattle.typed_path.specs.views.BodyViews.{body_items}
use Rattle.typed_path.specs.views.PieceViews.{step_part}
use Rattle.typed_path.proofs.lemmas.scan.Steps.{taken-first}
use Rattle.typed_path.proofs.lemmas.order.Comparisons.{cmp-none, cmp-more, cmp-fewer, cmp-differ, cmp-alike}
use Rattle.typed_path.proofs.lemmas.order.LoweredLists.{first-some, first-none, behind-first}
use Rattle.typed_path.proofs.common.ascii_case.compare_each_lowered.Goals as goal

pub returns-in_default-front : goal.returns-in_default-front
returns-in_default-front g c =
    let rest = body_items c.steps.rest in
    let wanted = body_items c.steps.wanted in
    sym (c.steps.invariant
    ∙ cmp-fewer (map lowered_placed rest) (map lowered_placed wanted) (lowered_part (step_part c.in-Some.step)) (first-some wanted _ c.in-Some.ensures.taken) (first-none rest c.in_default-front.ensures.taken))

pub returns-then-is_ne : goal.returns-then-is_ne
returns-then-is_ne g c =
    let rest = body_items c.steps.rest in
    let wanted = body_items c.steps.wanted in
    sym (c.steps.invariant
    ∙ cmp-differ (map lowered_placed rest) (map lowered_placed wanted) (lowered_part (step_part c.in-Some.step)) (lowered_part (step_part c.in-Some-front.own)) c.compare_lowered_steps-order.result
    (first-some wanted _ c.in-Some.ensures.taken) (first-some rest _ c.in-Some-front.ensures.taken) c.compare_lowered_steps-order.ensures (sym c.is_ne.ensures ∙ c.if-is_ne.true))

pub steps-smaller : goal.steps-smaller
steps-smaller g c = omega (arith, (taken-first (body_items c.steps.wanted) _ c.in-Some.ensures.taken).1, ap length c.in-Some.ensures.items)

pub steps-preserved : goal.steps-preserved
steps-preserved g c =
    let rest = body_items c.steps.rest in
    let wanted = body_items c.steps.wanted in
    c.steps.invariant
    ∙ cmp-alike (map lowered_placed rest) (map lowered_placed wanted) (map lowered_placed (body_items c.front-in-Some.new.self)) (map lowered_placed (body_items c.front.new.self))
    (lowered_part (step_part c.in-Some.step)) (lowered_part (step_part c.in-Some-front.own)) c.compare_lowered_steps-order.result
    (first-some wanted _ c.in-Some.ensures.taken) (first-some rest _ c.in-Some-front.ensures.taken) c.compare_lowered_steps-order.ensures (sym c.is_ne.ensures ∙ c.if-is_ne.false)
    (behind-first rest _ c.in-Some-front.ensures.items) (behind-first wanted _ c.in-Some.ensures.items)

pub returns-in-Some-front-2 : goal.returns-in-Some-front-2
returns-in-Some-front-2 g c =
    let rest = body_items c.steps.rest in
    let wanted = body_items c.steps.wanted in
    sym (c.steps.invariant
    ∙ cmp-more (map lowered_placed rest) (map lowered_placed wanted) (lowered_part (step_part c.in-Some-front-2.field-0)) (first-none wanted c.in_default.ensures.taken) (first-some rest _ c.in-Some-front-2.ensures.taken))

pub returns-in-None : goal.returns-in-None
returns-in-None g c =
    let rest = body_items c.steps.rest in
    let wanted = body_items c.steps.wanted in
    sym (c.steps.invariant ∙ cmp-none (map lowered_placed rest) (map lowered_placed wanted) (first-none wanted c.in_default.ensures.taken) (first-none rest c.in-None.ensures.taken))
