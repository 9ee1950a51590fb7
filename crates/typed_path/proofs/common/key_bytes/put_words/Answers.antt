use Rattle.std.proofs.Common.{option_map, sym, ap, arith, subst, take}
use Rattle.typed_path.specs.order.{key_bytes, left_key_bytes}
use Rattle.typed_path.specs.views.BodyViews.{body_items}
use Rattle.typed_path.specs.views.CursorViews.{items_left}
use Rattle.typed_path.specs.views.PieceViews.{prefix_view, step_part}
use Rattle.typed_path.proofs.lemmas.order.KeyBytes.{IsPutSoFar, key_bytes_size, fewer_bytes, first_fits, put_first, more_fits, put_more, run_fits, put_run, put_no_run, last_fits, put_last, moved}
use Rattle.typed_path.proofs.common.key_bytes.put_words.Goals as goal
use Rattle.typed_path.proofs.common.key_bytes.put_words.Goals.{in-Some, in-None}

pub put_prefix-start-requires : goal.put_prefix-start-requires
put_prefix-start-requires g c =
    let d = g.T.Encoding.dialect in
    let path = c.args.path.now in
    let fits = first_fits (key_bytes d path) c.args.out.now (items_left c.cursor-cursor.result) (option_map prefix_view c.prefix.result) (ap (λ xs. left_key_bytes xs) (sym c.cursor-cursor.ensures.items)) c.prefix.ensures in
    omega (arith, fits, key_bytes_size d path, c.well_formed.0.1)

pub put_step-at-requires : goal.put_step-at-requires
put_step-at-requires g c =
    let all = key_bytes g.T.Encoding.dialect c.args.path.now in
    let old = c.args.out.now in
    let before = body_items c.body-body.result in
    let begun = put_first all old (items_left c.cursor-cursor.result) before (option_map prefix_view c.prefix.result) c.put_prefix-start.new.out c.put_prefix-start.result
    (ap (λ xs. left_key_bytes xs) (sym c.cursor-cursor.ensures.items)) c.prefix.ensures c.body-body.ensures c.put_prefix-start.ensures in
    let fits = more_fits all old before (step_part c.in-Some.root) c.put_prefix-start.new.out c.put_prefix-start.result c.in-Some.ensures.taken begun in
    omega (arith, fits, key_bytes_size g.T.Encoding.dialect c.args.path.now, c.well_formed.0.1)

pub steps-init : goal.steps-init
steps-init g c =
    let all = key_bytes g.T.Encoding.dialect c.args.path.now in
    let old = c.args.out.now in
    let before = body_items c.body-body.result in
    let begun = put_first all old (items_left c.cursor-cursor.result) before (option_map prefix_view c.prefix.result) c.put_prefix-start.new.out c.put_prefix-start.result
    (ap (λ xs. left_key_bytes xs) (sym c.cursor-cursor.ensures.items)) c.prefix.ensures c.body-body.ensures c.put_prefix-start.ensures in
    let behind = body_items c.root.new.self in
    elim c.match-root.branch [
      | in-Some w ↦
          let put = put_more all old before behind (step_part w.in-Some.root) c.put_prefix-start.new.out w.put_step-at.new.out c.put_prefix-start.result w.put_step-at.result
          w.in-Some.ensures.taken w.in-Some.ensures.items begun w.put_step-at.ensures in
          moved all old behind w.put_step-at.new.out c.match-root.out w.put_step-at.result c.match-root.at w.out-is w.at-is put
      | in-None w ↦
          let none = subst (λ b. IsPutSoFar all old (body_items b) c.put_prefix-start.new.out c.put_prefix-start.result) (sym w.in-None.ensures.kept) begun in
          moved all old behind c.put_prefix-start.new.out c.match-root.out c.put_prefix-start.result c.match-root.at w.out-is w.at-is none
    ]

-- where the names that stand side by side are taken, the same bytes are left
pub put_bytes-at-requires : goal.put_bytes-at-requires
put_bytes-at-requires g c =
    let d = g.T.Encoding.dialect in
    let path = c.args.path.now in
    let fits = run_fits (key_bytes d path) c.args.out.now (body_items c.steps.body) (body_items c.lay_names-count.new.body) (take c.lay_names-count.result c.lay_names-count.new.block) c.steps.out c.steps.at c.lay_names-count.ensures.laid c.steps.invariant in
    omega (arith, fits, key_bytes_size d path, c.well_formed.0.1)

pub steps-preserved-then-count-ne0 : goal.steps-preserved-then-count-ne0
steps-preserved-then-count-ne0 g c =
    put_run (key_bytes g.T.Encoding.dialect c.args.path.now) c.args.out.now (body_items c.steps.body) (body_items c.lay_names-count.new.body) (take c.lay_names-count.result c.lay_names-count.new.block) c.steps.out c.put_bytes-at.new.out c.steps.at c.put_bytes-at.result
    c.lay_names-count.ensures.laid c.steps.invariant c.put_bytes-at.ensures

pub put_step-at-requires-in-steps : goal.put_step-at-requires-in-steps
put_step-at-requires-in-steps g c =
    let d = g.T.Encoding.dialect in
    let path = c.args.path.now in
    let same = put_no_run (key_bytes d path) c.args.out.now (body_items c.steps.body) (body_items c.lay_names-count.new.body) c.lay_names-count.new.block c.steps.out c.steps.at c.lay_names-count.result c.if-count-ne0.false c.lay_names-count.ensures.laid c.steps.invariant in
    let fits = more_fits (key_bytes d path) c.args.out.now (body_items c.lay_names-count.new.body) (step_part c.in-Some-front.step) c.steps.out c.steps.at c.in-Some-front.ensures.taken same.0 in
    omega (arith, fits, key_bytes_size d path, c.well_formed.0.1)

pub steps-smaller : goal.steps-smaller
steps-smaller g c =
    let all = key_bytes g.T.Encoding.dialect c.args.path.now in
    let same = put_no_run all c.args.out.now (body_items c.steps.body) (body_items c.lay_names-count.new.body) c.lay_names-count.new.block c.steps.out c.steps.at c.lay_names-count.result c.if-count-ne0.false c.lay_names-count.ensures.laid c.steps.invariant in
    omega (arith, same.1, fewer_bytes (body_items c.lay_names-count.new.body) (body_items c.front.new.self) (step_part c.in-Some-front.step) c.in-Some-front.ensures.taken c.in-Some-front.ensures.items)

pub steps-preserved : goal.steps-preserved
steps-preserved g c =
    let all = key_bytes g.T.Encoding.dialect c.args.path.now in
    let same = put_no_run all c.args.out.now (body_items c.steps.body) (body_items c.lay_names-count.new.body) c.lay_names-count.new.block c.steps.out c.steps.at c.lay_names-count.result c.if-count-ne0.false c.lay_names-count.ensures.laid c.steps.invariant in
    put_more all c.args.out.now (body_items c.lay_names-count.new.body) (body_items c.front.new.self) (step_part c.in-Some-front.step)
    c.steps.out c.put_step-at-in-steps.new.out c.steps.at c.put_step-at-in-steps.result c.in-Some-front.ensures.taken c.in-Some-front.ensures.items same.0 c.put_step-at-in-steps.ensures

pub put_bytes-requires : goal.put_bytes-requires
put_bytes-requires g c =
    let d = g.T.Encoding.dialect in
    let path = c.args.path.now in
    let same = put_no_run (key_bytes d path) c.args.out.now (body_items c.steps.body) (body_items c.lay_names-count.new.body) c.lay_names-count.new.block c.steps.out c.steps.at c.lay_names-count.result c.if-count-ne0.false c.lay_names-count.ensures.laid c.steps.invariant in
    let fits = last_fits (key_bytes d path) c.args.out.now (body_items c.lay_names-count.new.body) c.steps.out c.steps.at c.in_default.ensures.taken same.0 in
    omega (arith, fits, key_bytes_size d path, c.well_formed.0.1)

pub returns : goal.returns
returns g c =
    let all = key_bytes g.T.Encoding.dialect c.args.path.now in
    let same = put_no_run all c.args.out.now (body_items c.steps.body) (body_items c.lay_names-count.new.body) c.lay_names-count.new.block c.steps.out c.steps.at c.lay_names-count.result c.if-count-ne0.false c.lay_names-count.ensures.laid c.steps.invariant in
    put_last all c.args.out.now (body_items c.lay_names-count.new.body) c.steps.out c.put_bytes.new.out c.steps.at c.put_bytes.result
    c.in_default.ensures.taken same.0 c.put_bytes.ensures
