use Rattle.std.proofs.Common.{fold, ap, arith, ◌∙◌, length, option_map}
use Rattle.typed_path.specs.views.BodyViews.{body_items}
use Rattle.typed_path.specs.views.CursorViews.{items_left}
use Rattle.typed_path.specs.views.PieceViews.{prefix_view, step_part}
use Rattle.typed_path.proofs.lemmas.scan.Steps.{taken-first}
use Rattle.typed_path.proofs.lemmas.order.Comparisons.{counted-bare, counted-step, path_words-fed, fed-prefix, fed-step, fed-end}
use Rattle.typed_path.proofs.common.encoding.Encoding.hash.Goals as goal

pub steps-init : goal.steps-init
steps-init g c =
    let d = g.Self.Encoding.dialect in
    let cs = items_left c.cursor-cursor.result in
    let ds = body_items c.body-body.result in (
      ap (fold g.H.Hasher.write c.args.state.now) (path_words-fed d c.args.path.now cs c.cursor-cursor.ensures.items)
          ∙ fed-prefix g.H.Hasher.write c.args.state.now c.feed_prefix.new.state cs ds (option_map prefix_view c.prefix.result) c.prefix.ensures c.body-body.ensures c.feed_prefix.ensures,
      counted-bare d c.args.path.now cs ds c.cursor-cursor.ensures.items c.body-body.ensures,
    )

pub steps-smaller : goal.steps-smaller
steps-smaller g c = omega (arith, (taken-first (body_items c.steps.body) _ c.in-Some.ensures.taken).1, ap length c.in-Some.ensures.items)

pub steps-preserved : goal.steps-preserved
steps-preserved g c =
    let p = step_part c.in-Some.step in
    let old = body_items c.steps.body in
    let new = body_items c.front.new.self in (
      c.steps.invariant.0
          ∙ fed-step g.H.Hasher.write c.steps.len c.feed-len.result c.steps.state c.feed-len.new.state p old new c.in-Some.ensures.taken c.in-Some.ensures.items c.feed-len.ensures.words c.feed-len.ensures.counted,
      counted-step c.steps.len c.feed-len.result (length c.args.path.now) p old new c.in-Some.ensures.taken c.in-Some.ensures.items c.feed-len.ensures.counted c.steps.invariant.1,
    )

pub returns : goal.returns
returns g c = grind (arith, fed-end)
