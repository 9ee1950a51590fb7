use Rattle.std.proofs.Common.{◌≡◌, sym, ap₂, ◌∙◌}
use Rattle.typed_path.specs.queries.{behind_prefix}
use Rattle.typed_path.specs.order.{left_cmp}
use Rattle.typed_path.specs.views.BodyViews.{body_items}
use Rattle.typed_path.specs.views.CursorViews.{items_left}
use Rattle.typed_path.specs.views.PieceViews.{prefix_view}
use Rattle.typed_path.proofs.lemmas.order.Comparisons.{prefixes-differ, prefixes-alike, prefixes-none, prefixed-bare, bare-prefixed}
use Rattle.typed_path.proofs.common.order.compare_components.Goals as goal
use Rattle.typed_path.proofs.common.order.compare_components.Goals.{in-Some-Some+else-is_ne, in-None-None}

pub returns-then-is_ne : goal.returns-then-is_ne
returns-then-is_ne g c =
    let cs = items_left c.cursor-own.result in
    let ds = items_left c.cursor-others.result in
    prefixes-differ cs ds (prefix_view c.in-Some-Some.prefix) (prefix_view c.in-Some-Some.other) c.compare_prefixes-order.result c.in-Some-Some.ensures c.in-Some-Some.ensures' c.compare_prefixes-order.ensures (sym c.is_ne.ensures ∙ c.if-is_ne.true)
    ∙ ap₂ left_cmp c.cursor-own.ensures.items c.cursor-others.ensures.items

pub returns-in-Some-None : goal.returns-in-Some-None
returns-in-Some-None g c =
    prefixed-bare (items_left c.cursor-own.result) (items_left c.cursor-others.result) (body_items c.body.result) (prefix_view c.in-Some-None.field-0-0) c.order_of_prefixed.result
    c.in-Some-None.ensures c.in-Some-None.ensures' c.body.ensures c.order_of_prefixed.ensures
    ∙ ap₂ left_cmp c.cursor-own.ensures.items c.cursor-others.ensures.items

pub returns-in-None-Some : goal.returns-in-None-Some
returns-in-None-Some g c =
    c.reverse.ensures
    ∙ bare-prefixed (items_left c.cursor-others.result) (items_left c.cursor-own.result) (body_items c.body-in-None-Some.result) (prefix_view c.in-None-Some.field-0-1) c.order_of_prefixed-in-None-Some.result
    c.in-None-Some.ensures' c.in-None-Some.ensures c.body-in-None-Some.ensures c.order_of_prefixed-in-None-Some.ensures
    ∙ ap₂ left_cmp c.cursor-own.ensures.items c.cursor-others.ensures.items

pub returns : goal.returns
returns g c =
    let cs = items_left c.cursor-own.result in
    let ds = items_left c.cursor-others.result in
    let behind : left_cmp (behind_prefix cs) (behind_prefix ds) ≡ left_cmp cs ds = elim c.match-prefix.branch [
      | in-Some-Some+else-is_ne w ↦ prefixes-alike cs ds (prefix_view w.in-Some-Some.prefix) (prefix_view w.in-Some-Some.other) w.compare_prefixes-order.result w.in-Some-Some.ensures w.in-Some-Some.ensures' w.compare_prefixes-order.ensures (sym w.is_ne.ensures ∙ w.if-is_ne.false)
      | in-None-None w ↦ prefixes-none cs ds w.in-None-None.ensures w.in-None-None.ensures'
    ] in
    c.compare_each.ensures
    ∙ c.bodies_behind_shared.ensures
    ∙ ap₂ left_cmp c.body-2.ensures c.body-3.ensures
    ∙ behind
    ∙ ap₂ left_cmp c.cursor-own.ensures.items c.cursor-others.ensures.items
