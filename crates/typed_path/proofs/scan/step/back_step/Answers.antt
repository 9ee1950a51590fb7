use Rattle.std.proofs.Common.{◌≡◌, ℕ, ◌+◌, ◌≤◌, ◌<◌, ◌++◌, List, [], length, take, drop, true, ap, sym, ◌∙◌, arith, take-take, length-take, length-take-le}
use Rattle.std.proofs.lemmas.List.{take_rest}
use Rattle.typed_path.specs.components.{is_separator, component}
use Rattle.typed_path.specs.views.PieceViews.{step_part}
use Rattle.typed_path.specs.declared.scan.cursor.Begin.{Begin}
use Rattle.typed_path.specs.scan.{body_from, is_clean, end_from}
use Rattle.typed_path.proofs.lemmas.lists.Lists.{IsLastPlace}
use Rattle.typed_path.proofs.lemmas.scan.LastComponent.{IsLast, last-at_end, last-before_end, is_clean-kept, end_from-trimmed}
use Rattle.typed_path.proofs.scan.step.back_step.Goals as goal
use Rattle.typed_path.proofs.scan.step.back_step.Goals.{After-step_of-step}

-- the text up to the end of its last component
abbrev trimmed : After-step_of-step → List ℕ
trimmed c = take c.trim_blanks-end.result c.args.text.now

-- where its last segment begins
place_of : (c : After-step_of-step) → IsLastPlace (is_separator c.args.separators) (trimmed c) c.last_in-start.result
place_of c = record { within = c.last_in-start.ensures.within; last = c.last_in-start.ensures.last }

-- it is not empty
some_of : (c : After-step_of-step) → 0 < length (trimmed c)
some_of c = omega (arith, c.trim_blanks-end.ensures.some c.requires, length-take-le c.trim_blanks-end.result c.args.text.now c.trim_blanks-end.ensures.within)

-- and begins as the whole text does
clean_of : (c : After-step_of-step) (begin : Begin) → is_clean begin c.args.separators c.args.text.now ≡ true → is_clean begin c.args.separators (trimmed c) ≡ true
clean_of c begin clean = c.trim_blanks-end.ensures.clean begin ∙ clean

-- its last segment is the component
items_of : (c : After-step_of-step) (begin : Begin) (at : ℕ) (kept : List ℕ) → (h : IsLast begin c.args.separators at (trimmed c) kept (drop c.last_in-start.result (trimmed c)))
    → body_from begin c.args.separators at c.args.text.now ≡ body_from begin c.args.separators at kept ++ component (step_part c.step_of-step.result) h.place
items_of c begin at kept h = grind (arith, take_rest)

pub returns-then-start-last-clause-last : goal.returns-then-start-last-clause-last
returns-then-start-last-clause-last c = λ begin at clean.
    let step = (goal.at.returns-then-start-last-clause-last c).After-step_of-step in
    let h = last-at_end begin c.args.separators at (trimmed step) c.last_in-start.result (some_of step) (place_of step) c.trim_blanks-end.ensures.trimmed (clean_of step begin clean) c.if-start-last.true in
    (h.place, items_of step begin at [] h)

-- the text before the component, with the separator between the two
abbrev front : After-step_of-step → List ℕ
front c = take c.last_in-start.result (trimmed c)

-- a part of it is one of the whole text
front_part : (c : After-step_of-step) (n : ℕ) → n ≤ length (front c) → take n (front c) ≡ take n c.args.text.now
front_part c n within = grind (arith, length-take, take-take)

pub returns-clause-last : goal.returns-clause-last
returns-clause-last c = λ begin at clean.
    let step = (goal.at.returns-clause-last c).After-step_of-step in
    let within = c.last_in-start.ensures.within in
    let h = last-before_end begin c.args.separators at (trimmed step) c.last_in-start.result (some_of step) (place_of step) c.trim_blanks-end.ensures.trimmed (clean_of step begin clean) (omega arith) in
    let kept = front_part step c.trim_blanks.result c.trim_blanks.ensures.within in (
      h.place,
      items_of step begin at (front step) h
          ∙ ap (λ cs. cs ++ component (step_part c.step_of-step.result) h.place) (sym (c.trim_blanks.ensures.same begin at) ∙ ap (body_from begin c.args.separators at) kept),
    )

pub returns-clause-clean : goal.returns-clause-clean
returns-clause-clean c = λ begin clean.
    let step = (goal.at.returns-clause-clean c).After-step_of-step in
    ap (is_clean begin c.args.separators) (sym (front_part step c.trim_blanks.result c.trim_blanks.ensures.within))
    ∙ c.trim_blanks.ensures.clean begin
    ∙ is_clean-kept begin c.args.separators (trimmed step) c.last_in-start.result (place_of step) (clean_of step begin clean)

pub returns-clause-ends : goal.returns-clause-ends
returns-clause-ends c = λ begin at clean.
    let step = (goal.at.returns-clause-ends c).After-step_of-step in
    let n = c.trim_blanks.result in
    let within = c.trim_blanks.ensures.within in
    let kept = take n (front step) in
    ap (λ t. end_from at (body_from begin c.args.separators at t)) (sym (front_part step n within))
    ∙ end_from-trimmed begin c.args.separators at kept c.trim_blanks.ensures.trimmed
    (c.trim_blanks.ensures.clean begin ∙ is_clean-kept begin c.args.separators (trimmed step) c.last_in-start.result (place_of step) (clean_of step begin clean))
    ∙ ap (λ m. at + m) (length-take-le n (front step) within)

-- where its last component ends
ends_of : (c : After-step_of-step) (begin : Begin) (at : ℕ) → is_clean begin c.args.separators c.args.text.now ≡ true
    → end_from at (body_from begin c.args.separators at c.args.text.now) ≡ at + c.trim_blanks-end.result
ends_of c begin at clean =
    ap (end_from at) (sym (c.trim_blanks-end.ensures.same begin at))
    ∙ end_from-trimmed begin c.args.separators at (trimmed c) c.trim_blanks-end.ensures.trimmed (clean_of c begin clean)
    ∙ ap (λ n. at + n) (length-take-le c.trim_blanks-end.result c.args.text.now c.trim_blanks-end.ensures.within)

pub returns-then-start-last-clause-end : goal.returns-then-start-last-clause-end
returns-then-start-last-clause-end c = ends_of (goal.at.returns-then-start-last-clause-end c).After-step_of-step

pub returns-clause-end : goal.returns-clause-end
returns-clause-end c = ends_of (goal.at.returns-clause-end c).After-step_of-step
