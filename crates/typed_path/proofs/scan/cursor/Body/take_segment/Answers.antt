use Rattle.std.proofs.Common.{◌≡◌, ◌+◌, slice_range, drop, ap, sym, ◌∙◌, ◌++◌}
use Rattle.typed_path.specs.declared.scan.cursor.Begin.TheVariants.{Inside}
use Rattle.typed_path.specs.components.{later_body, component}
use Rattle.typed_path.specs.scan.{slice_after_front, body_from}
use Rattle.typed_path.specs.views.PieceViews.{step_part}
use Rattle.typed_path.proofs.lemmas.components.Segments.{slice_after_front-first}
use Rattle.typed_path.proofs.scan.cursor.Body.take_segment.Goals as goal
use Rattle.typed_path.proofs.scan.cursor.Body.take_segment.Goals.{After-front_step-taken}
use Rattle.typed_path.proofs.lemmas.lists.Lists.{slice_range-later}

-- the slice behind the step
slice_behind : (c : After-front_step-taken) → slice_range c.args.self.now.text.now (c.args.self.now.from + c.front_step-taken.result.1) c.args.self.now.to
    ≡ drop c.front_step-taken.result.1 c.as_bytes-left.result.now
slice_behind c =
    let v = c.args.self.now in
    slice_range-later v.text.now c.as_bytes-left.result.now v.from c.front_step-taken.result.1 v.to v.ordered v.in_range c.as_bytes-left.ensures c.front_step-taken.ensures.within

-- the components before it
items_before : (c : After-front_step-taken) → body_from c.args.self.now.begin c.args.self.now.separators c.args.self.now.from c.as_bytes-left.result.now
    ≡ component (step_part c.front_step-taken.result.0) c.args.self.now.from
    ++ later_body c.args.self.now.separators (c.args.self.now.from + c.front_step-taken.result.1) (drop c.front_step-taken.result.1 c.as_bytes-left.result.now)
items_before c =
    let v = c.args.self.now in
    c.front_step-taken.ensures.first v.begin v.from (rw c.as_bytes-left.ensures v.starts_clean)

pub invariant_of-self-clause-starts_clean : goal.invariant_of-self-clause-starts_clean
invariant_of-self-clause-starts_clean c = rw (slice_behind (goal.at.invariant_of-self-clause-starts_clean c).After-front_step-taken) c.front_step-taken.ensures.clean

pub returns-clause-items : goal.returns-clause-items
returns-clause-items c =
    let v = c.args.self.now in
    let step = (goal.at.returns-clause-items c).After-front_step-taken in
    ap (later_body v.separators (v.from + c.front_step-taken.result.1)) (slice_behind step)
    ∙ ap (drop 1) (sym (items_before step))
    ∙ ap (λ t. drop 1 (body_from v.begin v.separators v.from t)) c.as_bytes-left.ensures

pub returns-clause-slice : goal.returns-clause-slice
returns-clause-slice c =
    let v = c.args.self.now in
    let k = c.front_step-taken.result.1 in
    let step = (goal.at.returns-clause-slice c).After-front_step-taken in
    slice_behind step
    ∙ sym (slice_after_front-first Inside v.separators (step_part c.front_step-taken.result.0) v.from k c.as_bytes-left.result.now c.front_step-taken.ensures.clean)
    ∙ ap (λ cs. slice_after_front cs c.as_bytes-left.result.now) (sym (items_before step))
    ∙ ap (λ t. slice_after_front (body_from v.begin v.separators v.from t) t) c.as_bytes-left.ensures
