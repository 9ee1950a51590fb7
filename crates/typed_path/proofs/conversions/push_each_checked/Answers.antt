use Rattle.std.proofs.Common.{◌≡◌, ◌≤◌, List, ℕ, Option, ap, sym, refl, subst, ◌∙◌, Some, None, ◌∷◌, [], length, take, drop, arith, option_map, Ok}
use Rattle.std.proofs.lemmas.List.{drop_all}
use Rattle.std.specs.Option.{option_to_list}
use Rattle.typed_path.specs.components.{Dialect, Part, comps, parts_of, parts}
use Rattle.typed_path.specs.changes.{IsKnown}
use Rattle.typed_path.specs.conversions.{push_checked_each}
use Rattle.typed_path.specs.queries.{behind_prefix}
use Rattle.typed_path.specs.views.BodyViews.{body_items}
use Rattle.typed_path.specs.views.CursorViews.{items_left}
use Rattle.typed_path.specs.views.SpanViews.{span_bytes}
use Rattle.typed_path.specs.views.PieceViews.{part_of, step_part}
use Rattle.typed_path.proofs.lemmas.conversions.Crossings.{pushed-first, refused-whole, pushed-all, refusal-passed}
use Rattle.typed_path.proofs.lemmas.scan.Steps.{parts-prefixed, yields_first, fewer}
use Rattle.typed_path.proofs.conversions.push_each_checked.Goals as goal
use Rattle.typed_path.proofs.conversions.push_each_checked.Goals.{in-Some+in_ok-known-in-Some, in-None}

-- at the end of a text stands the empty path
empty : (start : ℕ) (text : List ℕ) → length text ≡ start → drop start text ≡ []
empty start text e = drop_all start text (omega (arith, e))

-- what was pushed of the prefix, and what is known of it then
abbrev Begun : Dialect → ℕ → List ℕ → List ℕ → List Part → Option ℕ → Type 0
Begun e start old new first known = record {
  pushed : push_checked_each e (Ok []) first ≡ Ok (drop start new);
  kept : take start new ≡ take start old;
  long : start ≤ length new;
  known : IsKnown e known (drop start new);
}

pub returns-in_err-known-in-Some-clause-refused : goal.returns-in_err-known-in-Some-clause-refused
returns-in_err-known-in-Some-clause-refused g c =
    let e = g.U.Encoding.dialect in
    let split = parts-prefixed (comps g.T.Encoding.dialect (span_bytes c.args.path)) (items_left c.within-cursor.result) (behind_prefix (items_left c.within-cursor.result)) (option_map part_of c.prefix_piece.result) (c.within-cursor.ensures ∙ ap parts (c.cursor.ensures.items ∙ ap (comps g.T.Encoding.dialect) c.as_bytes.ensures)) c.prefix_piece.ensures refl in
    λ f told.
    refused-whole e [] (option_to_list (option_map part_of c.prefix_piece.result)) _ (parts_of g.T.Encoding.dialect (span_bytes c.args.path)) split f
    (ap (λ o. push_checked_each e (Ok []) (option_to_list (option_map part_of o))) c.in-Some.is
    ∙ ap (λ t. push_checked_each e (Ok t) (part_of c.in-Some.piece ∷ [])) (sym (empty c.args.start c.args.text.now.items c.requires))
    ∙ c.in_err-known-in-Some.ensures.refused f (refusal-passed c.push_piece_checked.result c.from_residual.result _ c.from_residual.ensures.1 f told))

pub steps-init : goal.steps-init
steps-init g c =
    let e = g.U.Encoding.dialect in
    let start = c.args.start in
    let old = c.args.text.now.items in
    let first = option_to_list (option_map part_of c.prefix_piece.result) in
    let split = parts-prefixed (comps g.T.Encoding.dialect (span_bytes c.args.path)) (items_left c.within-cursor.result) (body_items c.body-body.result) (option_map part_of c.prefix_piece.result) (c.within-cursor.ensures ∙ ap parts (c.cursor.ensures.items ∙ ap (comps g.T.Encoding.dialect) c.as_bytes.ensures)) c.prefix_piece.ensures c.body-body.ensures in
    let none = empty start old c.requires in
    let met = c.match-prefix_piece in
    let begun : Begun e start old met.text.items first met.known = elim met.branch [
      | in-Some+in_ok-known-in-Some w ↦
          subst (λ v. Begun e start old v.items first met.known) (sym w.text-is)
          (subst (λ k. Begun e start old w.push_piece_checked.new.text.items first k) (sym w.known-is)
          (record {
            pushed = ap (λ o. push_checked_each e (Ok []) (option_to_list (option_map part_of o))) w.in-Some.is
                ∙ ap (λ t. push_checked_each e (Ok t) (part_of w.in-Some.piece ∷ [])) (sym none)
                ∙ w.in_ok-known-in-Some.ensures.ok tt;
            kept = w.in_ok-known-in-Some.ensures.kept tt;
            long = w.in_ok-known-in-Some.ensures.long tt;
            known = w.in_ok-known-in-Some.ensures.known tt;
          }))
      | in-None w ↦
          subst (λ v. Begun e start old v.items first met.known) (sym w.text-is)
          (subst (λ k. Begun e start old old first k) (sym w.known-is)
          (record {
            pushed = ap (λ o. push_checked_each e (Ok []) (option_to_list (option_map part_of o))) w.in-None.is ∙ ap Ok (sym none);
            kept = refl;
            long = omega (arith, c.requires);
            known = tt;
          }))
    ] in
    record {
      pushed = pushed-first e [] first (parts (body_items c.body-body.result)) (parts_of g.T.Encoding.dialect (span_bytes c.args.path)) split (drop start met.text.items) begun.pushed;
      kept = begun.kept;
      long = begun.long;
      known = begun.known;
    }

pub returns-in_err-known-clause-kept : goal.returns-in_err-known-clause-kept
returns-in_err-known-clause-kept g c = c.in_err-known.ensures.kept c.steps.invariant.known ∙ c.steps.invariant.kept

pub returns-in_err-known-clause-long : goal.returns-in_err-known-clause-long
returns-in_err-known-clause-long g c = c.in_err-known.ensures.long c.steps.invariant.known

pub returns-in_err-known-clause-refused : goal.returns-in_err-known-clause-refused
returns-in_err-known-clause-refused g c =
    let e = g.U.Encoding.dialect in
    let old = parts (body_items c.steps.body) in
    let taken = yields_first step_part (Some c.in-Some-front.step) (body_items c.steps.body) (body_items c.front.new.self) c.in-Some-front.ensures.taken c.in-Some-front.ensures.items in
    λ f told.
    sym c.steps.invariant.pushed
    ∙ refused-whole e (drop c.args.start c.steps.text.items) (step_part c.in-Some-front.step ∷ []) _ old taken f
    (ap (λ p. push_checked_each e (Ok (drop c.args.start c.steps.text.items)) (p ∷ [])) (sym c.piece.ensures)
    ∙ c.in_err-known.ensures.refused f (refusal-passed c.push_piece_checked-in-Some-front.result c.from_residual-in_err-known.result _ c.from_residual-in_err-known.ensures.1 f told))

pub steps-smaller : goal.steps-smaller
steps-smaller g c = fewer (step_part c.in-Some-front.step) (body_items c.steps.body) (body_items c.front.new.self) c.in-Some-front.ensures.taken c.in-Some-front.ensures.items

pub steps-preserved : goal.steps-preserved
steps-preserved g c =
    let e = g.U.Encoding.dialect in
    let old = parts (body_items c.steps.body) in
    let taken = yields_first step_part (Some c.in-Some-front.step) (body_items c.steps.body) (body_items c.front.new.self) c.in-Some-front.ensures.taken c.in-Some-front.ensures.items in
    record {
      pushed = pushed-first e (drop c.args.start c.steps.text.items) (step_part c.in-Some-front.step ∷ []) (parts (body_items c.front.new.self)) old taken (drop c.args.start c.push_piece_checked-in-Some-front.new.text.items)
          (ap (λ p. push_checked_each e (Ok (drop c.args.start c.steps.text.items)) (p ∷ [])) (sym c.piece.ensures) ∙ c.in_ok-known.ensures.ok c.steps.invariant.known)
          ∙ c.steps.invariant.pushed;
      kept = c.in_ok-known.ensures.kept c.steps.invariant.known ∙ c.steps.invariant.kept;
      long = c.in_ok-known.ensures.long c.steps.invariant.known;
      known = c.in_ok-known.ensures.known c.steps.invariant.known;
    }

pub returns-clause-ok : goal.returns-clause-ok
returns-clause-ok g c =
    let none = (yields_first step_part None (body_items c.steps.body) (body_items c.front.new.self) c.in_default.ensures.taken c.in_default.ensures.items).0 in
    sym c.steps.invariant.pushed ∙ pushed-all g.U.Encoding.dialect (drop c.args.start c.steps.text.items) (parts (body_items c.steps.body)) none
