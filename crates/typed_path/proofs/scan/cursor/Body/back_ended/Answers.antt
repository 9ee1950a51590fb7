use Rattle.std.proofs.Common.{◌≡◌, ℕ, ◌+◌, true, slice_range, take, ap, sym, ◌∙◌, ◌++◌}
use Rattle.typed_path.specs.components.{component}
use Rattle.typed_path.specs.scan.{but_last, slice_after_back, body_from, is_clean, last_part, end_from}
use Rattle.typed_path.specs.views.BodyViews.{body_items}
use Rattle.typed_path.specs.views.PieceViews.{step_part}
use Rattle.typed_path.proofs.lemmas.scan.Steps.{last_part-push, but_last-push, starts-body_from, slice_after_back-push}
use Rattle.typed_path.proofs.scan.cursor.Body.back_ended.Goals as goal
use Rattle.typed_path.proofs.scan.cursor.Body.back_ended.Goals.{After-back_step-kept}
use Rattle.typed_path.proofs.lemmas.lists.Lists.{slice_range-earlier}

-- the slice before the step
slice_before : (c : After-back_step-kept) → slice_range c.args.self.now.text.now c.args.self.now.from (c.args.self.now.from + c.back_step-kept.result.1)
    ≡ take c.back_step-kept.result.1 c.as_bytes-left.result.now
slice_before c =
    let v = c.args.self.now in
    slice_range-earlier v.text.now c.as_bytes-left.result.now v.from c.back_step-kept.result.1 v.to c.as_bytes-left.ensures c.back_step-kept.ensures.within

-- the slice left begins with a component
clean_left : (c : After-back_step-kept) → is_clean c.args.self.now.begin c.args.self.now.separators c.as_bytes-left.result.now ≡ true
clean_left c = rw c.as_bytes-left.ensures c.args.self.now.starts_clean

-- the components left before it, as those that are left behind it and the one taken
items_split : (c : After-back_step-kept) → (place : ℕ) × (body_items c.args.self.now
    ≡ body_from c.args.self.now.begin c.args.self.now.separators c.args.self.now.from (take c.back_step-kept.result.1 c.as_bytes-left.result.now) ++ component (step_part c.back_step-kept.result.0) place)
items_split c =
    let v = c.args.self.now in
    let last = c.back_step-kept.ensures.last v.begin v.from (clean_left c) in
    (last.0, ap (body_from v.begin v.separators v.from) (sym c.as_bytes-left.ensures) ∙ last.1)

pub returns-clause-taken : goal.returns-clause-taken
returns-clause-taken c =
    let split = items_split (goal.at.returns-clause-taken c).After-back_step-kept in
    let v = c.args.self.now in
    let cs = body_from v.begin v.separators v.from (take c.back_step-kept.result.1 c.as_bytes-left.result.now) in
    sym (ap last_part split.1 ∙ last_part-push cs (record { part = step_part c.back_step-kept.result.0; start = split.0 }))

pub returns-clause-items : goal.returns-clause-items
returns-clause-items c =
    let step = (goal.at.returns-clause-items c).After-back_step-kept in
    let split = items_split step in
    let v = c.args.self.now in
    let cs = body_from v.begin v.separators v.from (take c.back_step-kept.result.1 c.as_bytes-left.result.now) in
    ap (body_from v.begin v.separators v.from) (slice_before step)
    ∙ sym (ap but_last split.1 ∙ but_last-push cs (record { part = step_part c.back_step-kept.result.0; start = split.0 }))

pub returns-clause-slice : goal.returns-clause-slice
returns-clause-slice c =
    let step = (goal.at.returns-clause-slice c).After-back_step-kept in
    let split = items_split step in
    let v = c.args.self.now in
    let k = c.back_step-kept.result.1 in
    let left = c.as_bytes-left.result.now in
    let cs = body_from v.begin v.separators v.from (take k left) in
    slice_before step
    ∙ sym (slice_after_back-push v.from k left cs (record { part = step_part c.back_step-kept.result.0; start = split.0 })
    (starts-body_from v.begin v.separators v.from (take k left) (c.back_step-kept.ensures.clean v.begin (clean_left step))) (c.back_step-kept.ensures.ends v.begin v.from (clean_left step)))
    ∙ ap (λ ds. slice_after_back ds left) (sym split.1)
    ∙ ap (slice_after_back (body_items v)) c.as_bytes-left.ensures

pub returns-clause-left : goal.returns-clause-left
returns-clause-left c =
    let step = (goal.at.returns-clause-left c).After-back_step-kept in
    let split = items_split step in
    let v = c.args.self.now in
    let cs = body_from v.begin v.separators v.from (take c.back_step-kept.result.1 c.as_bytes-left.result.now) in
    sym (ap (λ ds. end_from v.from (but_last ds)) split.1 ∙ ap (end_from v.from) (but_last-push cs (record { part = step_part c.back_step-kept.result.0; start = split.0 }))
    ∙ c.back_step-kept.ensures.ends v.begin v.from (clean_left step))

pub returns-clause-end : goal.returns-clause-end
returns-clause-end c =
    let step = (goal.at.returns-clause-end c).After-back_step-kept in
    let v = c.args.self.now in
    sym (ap (λ t. end_from v.from (body_from v.begin v.separators v.from t)) (sym c.as_bytes-left.ensures) ∙ c.back_step-kept.ensures.end v.begin v.from (clean_left step))
