use Rattle.std.proofs.Common.{◌&&◌, sym, ap, ap₂, ◌∙◌, option_map}
use Rattle.std.specs.Ordering.{is_eq}
use Rattle.typed_path.specs.queries.{behind_prefix}
use Rattle.typed_path.specs.order.{left_cmp, left_same}
use Rattle.typed_path.specs.views.BodyViews.{body_items}
use Rattle.typed_path.specs.views.CursorViews.{items_left}
use Rattle.typed_path.specs.views.PieceViews.{prefix_view, step_part}
use Rattle.typed_path.proofs.lemmas.order.Comparisons.{alike-differ, alike-step, alike-end, same-prefixes, same-behind}
use Rattle.typed_path.proofs.common.order.have_same_components.Goals as goal

pub returns-then-not-have_same_prefixes : goal.returns-then-not-have_same_prefixes
returns-then-not-have_same_prefixes g c =
    let cs = items_left c.cursor-own.result in
    let ds = items_left c.cursor-others.result in
    sym (same-prefixes cs ds (option_map prefix_view c.prefix.result) (option_map prefix_view c.prefix-2.result) c.prefix.ensures c.prefix-2.ensures
    ∙ ap (λ b. b && left_same (behind_prefix cs) (behind_prefix ds)) (sym c.have_same_prefixes.ensures ∙ c.if-not-have_same_prefixes.true))
    ∙ ap is_eq (ap₂ left_cmp c.cursor-own.ensures.items c.cursor-others.ensures.items)

pub returns-then-not-take_same_last : goal.returns-then-not-take_same_last
returns-then-not-take_same_last g c =
    let cs = items_left c.cursor-own.result in
    let ds = items_left c.cursor-others.result in
    sym (ap is_eq (sym (ap₂ left_cmp c.cursor-own.ensures.items c.cursor-others.ensures.items))
    ∙ same-behind cs ds (body_items c.body-rest.result) (body_items c.body-wanted.result) (option_map prefix_view c.prefix.result) (option_map prefix_view c.prefix-2.result) c.have_same_prefixes.result
    c.prefix.ensures c.prefix-2.ensures c.have_same_prefixes.ensures c.if-not-have_same_prefixes.false c.body-rest.ensures c.body-wanted.ensures
    ∙ c.take_same_last.ensures
    ∙ ap (λ b. b && left_same (body_items c.take_same_last.new.rest) (body_items c.take_same_last.new.wanted)) c.if-not-take_same_last.true)

pub steps-init : goal.steps-init
steps-init g c =
    let cs = items_left c.cursor-own.result in
    let ds = items_left c.cursor-others.result in
    ap is_eq (sym (ap₂ left_cmp c.cursor-own.ensures.items c.cursor-others.ensures.items))
    ∙ same-behind cs ds (body_items c.body-rest.result) (body_items c.body-wanted.result) (option_map prefix_view c.prefix.result) (option_map prefix_view c.prefix-2.result) c.have_same_prefixes.result
    c.prefix.ensures c.prefix-2.ensures c.have_same_prefixes.ensures c.if-not-have_same_prefixes.false c.body-rest.ensures c.body-wanted.ensures
    ∙ c.take_same_last.ensures
    ∙ ap (λ b. b && left_same (body_items c.take_same_last.new.rest) (body_items c.take_same_last.new.wanted)) c.if-not-take_same_last.false
    ∙ ap is_eq (sym c.bodies_behind_shared.ensures)

pub returns-then-not-is_same_step : goal.returns-then-not-is_same_step
returns-then-not-is_same_step g c =
    sym (c.steps.invariant
    ∙ alike-differ (body_items c.steps.rest) (body_items c.steps.wanted) (step_part c.in-Some.step) (step_part c.in-Some-front.own) c.in-Some.ensures.taken c.in-Some-front.ensures.taken (sym c.is_same_step.ensures ∙ c.if-not-is_same_step.true))

pub steps-preserved : goal.steps-preserved
steps-preserved g c =
    c.steps.invariant
    ∙ alike-step (body_items c.steps.rest) (body_items c.steps.wanted) (body_items c.front-in-Some.new.self) (body_items c.front.new.self) (step_part c.in-Some.step) (step_part c.in-Some-front.own)
    c.in-Some.ensures.taken c.in-Some-front.ensures.taken (sym c.is_same_step.ensures ∙ c.if-not-is_same_step.false) c.in-Some-front.ensures.items c.in-Some.ensures.items

pub returns : goal.returns
returns g c =
    alike-end step_part (body_items c.steps.rest) (body_items c.steps.wanted) c.front-2.result c.is_none.result c.in_default.ensures.taken c.front-2.ensures.taken c.is_none.ensures
    ∙ sym c.steps.invariant
