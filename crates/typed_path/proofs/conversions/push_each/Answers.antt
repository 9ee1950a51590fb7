use Rattle.std.proofs.Common.{◌≡◌, ◌≤◌, ℕ, List, Option, true≢false, false, [], ◌∷◌, length, map, take, drop, refl, sym, ap, ap₂, subst, ◌∙◌, arith, Some, None, option_map}
use Rattle.std.specs.Option.{option_to_list}
use Rattle.std.specs.Vec.{vec_capacity}
use Rattle.std.proofs.lemmas.List.{drop_all}
use Rattle.typed_path.specs.components.{Dialect, Part, comps, parts_of, parts}
use Rattle.typed_path.specs.changes.{push, FitsPush, FitsEach, IsKnown}
use Rattle.typed_path.specs.conversions.{crossed, crossed_all}
use Rattle.typed_path.specs.queries.{behind_prefix}
use Rattle.typed_path.specs.views.BodyViews.{body_items}
use Rattle.typed_path.specs.views.CursorViews.{items_left}
use Rattle.typed_path.specs.views.SpanViews.{span_bytes}
use Rattle.typed_path.specs.views.PieceViews.{part_of, step_part}
use Rattle.typed_path.proofs.lemmas.scan.Steps.{parts-prefixed, yields_first, fewer}
use Rattle.typed_path.proofs.lemmas.conversions.Crossings.{put-whole, crossed-next, crossed-end, crossed-fits}
use Rattle.typed_path.proofs.conversions.push_each.Goals as goal
use Rattle.typed_path.proofs.conversions.push_each.Goals.{in-Some+in_ok-known-in-Some, in-None}

-- what is put of the prefix, and what is known of it then
abbrev Begun : Dialect → ℕ → List ℕ → List ℕ → List Part → Option ℕ → ℕ → ℕ → Type 0
Begun e start old new first known room room' = record {
  whole : (drop start new ≡ crossed_all e first) × (take start new ≡ take start old) × (start ≤ length new);
  known : IsKnown e known (drop start new);
  capacity : room ≤ room';
}

pub returns-in_err-known-in-Some-clause-succeeds : goal.returns-in_err-known-in-Some-clause-succeeds
returns-in_err-known-in-Some-clause-succeeds g c = λ room within fits.
    let e = g.U.Encoding.dialect in
    let d = g.T.Encoding.dialect in
    let cs = items_left c.within-cursor.result in
    let prefix = option_map part_of c.prefix_piece.result in
    let split = parts-prefixed (comps d (span_bytes c.args.path)) cs (behind_prefix cs) prefix (c.within-cursor.ensures ∙ ap parts (c.cursor.ensures.items ∙ ap (comps d) c.as_bytes.ensures)) c.prefix_piece.ensures refl in
    let first = subst (λ o. FitsEach e room [] (map (crossed e) (option_to_list (option_map part_of o)))) c.in-Some.is
    (crossed-fits e (option_to_list prefix) (parts (behind_prefix cs)) (parts_of d (span_bytes c.args.path)) split room [] fits).0 in
    absurd (true≢false (sym {a = false} (c.in_err-known-in-Some.ensures.succeeds room (omega (arith, within)) tt
    (subst (λ t. FitsPush e room t c.crossed.result.now) (sym (drop_all c.args.start c.args.text.now.items (omega (arith, c.requires))))
    (subst (FitsPush e room []) (sym (c.crossed.ensures e c.root_text.ensures)) first.0)))))

pub steps-init : goal.steps-init
steps-init g c =
    let e = g.U.Encoding.dialect in
    let d = g.T.Encoding.dialect in
    let start = c.args.start in
    let old = c.args.text.now.items in
    let room = vec_capacity c.args.text.now in
    let prefix = option_map part_of c.prefix_piece.result in
    let first = option_to_list prefix in
    let left = parts (body_items c.body-body.result) in
    let ps = parts_of d (span_bytes c.args.path) in
    let split = parts-prefixed (comps d (span_bytes c.args.path)) (items_left c.within-cursor.result) (body_items c.body-body.result) prefix (c.within-cursor.ensures ∙ ap parts (c.cursor.ensures.items ∙ ap (comps d) c.as_bytes.ensures)) c.prefix_piece.ensures c.body-body.ensures in
    let empty = drop_all start old (omega (arith, c.requires)) in
    let met = c.match-prefix_piece in
    let begun : Begun e start old met.text.items first met.known room (vec_capacity met.text) = elim met.branch [
      | in-Some+in_ok-known-in-Some w ↦
          let put = put-whole start old w.push_next.new.text.items (push e (drop start old) w.crossed.result.now) (omega (arith, c.requires)) (w.in_ok-known-in-Some.ensures.ok tt) in
          subst (λ v. Begun e start old v.items first met.known room (vec_capacity v)) (sym w.text-is)
          (subst (λ k. Begun e start old w.push_next.new.text.items first k room (vec_capacity w.push_next.new.text)) (sym w.known-is)
          (record {
            whole = (
              put.0 ∙ ap₂ (push e) empty (w.crossed.ensures e w.root_text.ensures) ∙ sym (ap (λ o. crossed_all e (option_to_list (option_map part_of o))) w.in-Some.is),
              put.1,
              put.2,
            );
            known = w.in_ok-known-in-Some.ensures.known (omega (arith, c.requires)) tt;
            capacity = w.in_ok-known-in-Some.ensures.capacity;
          }))
      | in-None w ↦
          subst (λ v. Begun e start old v.items first met.known room (vec_capacity v)) (sym w.text-is)
          (subst (λ k. Begun e start old old first k room room) (sym w.known-is)
          (record {
            whole = (empty ∙ sym (ap (λ o. crossed_all e (option_to_list (option_map part_of o))) w.in-None.is), refl, omega (arith, c.requires));
            known = tt;
            capacity = omega arith;
          }))
    ] in
    record {
      pushed = crossed-next e first left ps split (crossed_all e ps) [] (drop start met.text.items) begun.whole.0 refl;
      kept = begun.whole.1;
      long = begun.whole.2;
      capacity = begun.capacity;
      known = begun.known;
      fits = λ room fits. subst (λ t. FitsEach e room t (map (crossed e) left)) (sym begun.whole.0) (crossed-fits e first left ps split room [] fits).1;
    }

pub steps-smaller : goal.steps-smaller
steps-smaller g c = fewer (step_part c.in-Some-front.step) (body_items c.steps.body) (body_items c.front.new.self) c.in-Some-front.ensures.taken c.in-Some-front.ensures.items

pub returns-in_err-known-clause-succeeds : goal.returns-in_err-known-clause-succeeds
returns-in_err-known-clause-succeeds g c = λ room within fits.
    let e = g.U.Encoding.dialect in
    let old = body_items c.steps.body in
    let new = body_items c.front.new.self in
    let text = drop c.args.start c.steps.text.items in
    let taken = yields_first step_part (Some c.in-Some-front.step) old new c.in-Some-front.ensures.taken c.in-Some-front.ensures.items in
    let written = c.crossed-in-Some-front.ensures e c.root_text-in-Some-front.ensures ∙ ap (crossed e) c.piece.ensures in
    absurd (true≢false (sym {a = false} (c.in_err-known.ensures.succeeds room (omega (arith, within, c.steps.invariant.capacity)) c.steps.invariant.known
    (subst (FitsPush e room text) (sym written)
    (crossed-fits e (step_part c.in-Some-front.step ∷ []) (parts new) (parts old) taken room text (c.steps.invariant.fits room fits)).0.0))))

pub steps-preserved : goal.steps-preserved
steps-preserved g c =
    let e = g.U.Encoding.dialect in
    let start = c.args.start in
    let old = body_items c.steps.body in
    let new = body_items c.front.new.self in
    let text = drop start c.steps.text.items in
    let first = step_part c.in-Some-front.step ∷ [] in
    let taken = yields_first step_part (Some c.in-Some-front.step) old new c.in-Some-front.ensures.taken c.in-Some-front.ensures.items in
    let written = c.crossed-in-Some-front.ensures e c.root_text-in-Some-front.ensures ∙ ap (crossed e) c.piece.ensures in
    let whole = put-whole start c.steps.text.items c.push_next-in-Some-front.new.text.items (push e text c.crossed-in-Some-front.result.now) c.steps.invariant.long (c.in_ok-known.ensures.ok c.steps.invariant.known) in
    let next = whole.0 ∙ ap (push e text) written in
    record {
      pushed = crossed-next e first (parts new) (parts old) taken _ text (drop start c.push_next-in-Some-front.new.text.items) next c.steps.invariant.pushed;
      kept = whole.1 ∙ c.steps.invariant.kept;
      long = whole.2;
      capacity = omega (arith, c.in_ok-known.ensures.capacity, c.steps.invariant.capacity);
      known = c.in_ok-known.ensures.known c.steps.invariant.long c.steps.invariant.known;
      fits = λ room fits. subst (λ t. FitsEach e room t (map (crossed e) (parts new))) (sym next) (crossed-fits e first (parts new) (parts old) taken room text (c.steps.invariant.fits room fits)).1;
    }

pub returns-clause-ok : goal.returns-clause-ok
returns-clause-ok g c =
    let none = (yields_first step_part None (body_items c.steps.body) (body_items c.front.new.self) c.in_default.ensures.taken c.in_default.ensures.items).0 in
    crossed-end g.U.Encoding.dialect _ _ _ none c.steps.invariant.pushed
