use Rattle.std.proofs.Common.{◌≡◌, map, sym, ap, ap₂, ◌∙◌}
use Rattle.std.proofs.lemmas.Cmp.{tied_itself}
use Rattle.std.specs.Cmp.Lexicographic.{bytes_decides}
use Rattle.typed_path.specs.queries.{behind_prefix}
use Rattle.typed_path.specs.order.{left_cmp, lowered, lowered_cmp, path_cmp, path_cmp_total, lowered_placed, lowered_prefix}
use Rattle.typed_path.specs.views.BodyViews.{body_items}
use Rattle.typed_path.specs.views.CursorViews.{items_left}
use Rattle.typed_path.specs.views.PieceViews.{prefix_view}
use Rattle.typed_path.proofs.lemmas.order.Comparisons.{prefixes-differ, prefixes-alike, prefixes-none, prefixed-bare, bare-prefixed}
use Rattle.typed_path.proofs.lemmas.order.LoweredLists.{path-lowered, prefix-some, prefix-none, behind-lowered, ordered-bare}
use Rattle.typed_path.proofs.common.ascii_case.compare_lowered.Goals as goal
use Rattle.typed_path.proofs.common.ascii_case.compare_lowered.Goals.{in-Some-Some+else-is_ne, in-None-None}

pub returns-then-eq : goal.returns-then-eq
returns-then-eq g c =
    let d = g.T.Encoding.dialect in
    let same : c.args.path.now ≡ c.args.other.now = (bytes_decides c.args.path.now c.args.other.now).0 (sym c.eq.ensures ∙ c.if-eq.true) in
    sym (ap (λ t. path_cmp d (lowered d c.args.path.now) (lowered d t)) (sym same) ∙ tied_itself (path_cmp_total d) (lowered d c.args.path.now))

pub returns-then-is_ne : goal.returns-then-is_ne
returns-then-is_ne g c =
    let cs = items_left c.cursor-own.result in
    let ds = items_left c.cursor-others.result in
    prefixes-differ (map lowered_placed cs) (map lowered_placed ds) (lowered_prefix (prefix_view c.in-Some-Some.prefix)) (lowered_prefix (prefix_view c.in-Some-Some.other)) c.compare_lowered_prefixes-order.result
    (prefix-some cs _ c.in-Some-Some.ensures) (prefix-some ds _ c.in-Some-Some.ensures') c.compare_lowered_prefixes-order.ensures (sym c.is_ne.ensures ∙ c.if-is_ne.true)
    ∙ path-lowered g.T.Encoding.dialect c.args.path.now c.args.other.now cs ds c.cursor-own.ensures.items c.cursor-others.ensures.items

pub returns-in-Some-None : goal.returns-in-Some-None
returns-in-Some-None g c =
    let cs = items_left c.cursor-own.result in
    let ds = items_left c.cursor-others.result in
    prefixed-bare (map lowered_placed cs) (map lowered_placed ds) (map lowered_placed (body_items c.body.result)) (lowered_prefix (prefix_view c.in-Some-None.field-0-0)) c.order_of_prefixed.result
    (prefix-some cs _ c.in-Some-None.ensures) (prefix-none ds c.in-Some-None.ensures') (behind-lowered ds _ c.body.ensures) (ordered-bare (body_items c.body.result) c.order_of_prefixed.result c.order_of_prefixed.ensures)
    ∙ path-lowered g.T.Encoding.dialect c.args.path.now c.args.other.now cs ds c.cursor-own.ensures.items c.cursor-others.ensures.items

pub returns-in-None-Some : goal.returns-in-None-Some
returns-in-None-Some g c =
    let cs = items_left c.cursor-own.result in
    let ds = items_left c.cursor-others.result in
    c.reverse.ensures
    ∙ bare-prefixed (map lowered_placed ds) (map lowered_placed cs) (map lowered_placed (body_items c.body-in-None-Some.result)) (lowered_prefix (prefix_view c.in-None-Some.field-0-1)) c.order_of_prefixed-in-None-Some.result
    (prefix-some ds _ c.in-None-Some.ensures') (prefix-none cs c.in-None-Some.ensures) (behind-lowered cs _ c.body-in-None-Some.ensures) (ordered-bare (body_items c.body-in-None-Some.result) c.order_of_prefixed-in-None-Some.result c.order_of_prefixed-in-None-Some.ensures)
    ∙ path-lowered g.T.Encoding.dialect c.args.path.now c.args.other.now cs ds c.cursor-own.ensures.items c.cursor-others.ensures.items

pub returns : goal.returns
returns g c =
    let cs = items_left c.cursor-own.result in
    let ds = items_left c.cursor-others.result in
    let behind : left_cmp (behind_prefix (map lowered_placed cs)) (behind_prefix (map lowered_placed ds)) ≡ lowered_cmp cs ds = elim c.match-prefix.branch [
      | in-Some-Some+else-is_ne w ↦ prefixes-alike (map lowered_placed cs) (map lowered_placed ds) (lowered_prefix (prefix_view w.in-Some-Some.prefix)) (lowered_prefix (prefix_view w.in-Some-Some.other)) w.compare_lowered_prefixes-order.result
          (prefix-some cs _ w.in-Some-Some.ensures) (prefix-some ds _ w.in-Some-Some.ensures') w.compare_lowered_prefixes-order.ensures (sym w.is_ne.ensures ∙ w.if-is_ne.false)
      | in-None-None w ↦ prefixes-none (map lowered_placed cs) (map lowered_placed ds) (prefix-none cs w.in-None-None.ensures) (prefix-none ds w.in-None-None.ensures')
    ] in
    c.compare_each_lowered.ensures
    ∙ ap₂ left_cmp (behind-lowered cs _ c.body-2.ensures) (behind-lowered ds _ c.body-3.ensures)
    ∙ behind
    ∙ path-lowered g.T.Encoding.dialect c.args.path.now c.args.other.now cs ds c.cursor-own.ensures.items c.cursor-others.ensures.items
