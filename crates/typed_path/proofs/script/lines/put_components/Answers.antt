use Rattle.std.proofs.Common.{◌≡◌, ℕ, List, Option, option_to_list, [], ◌∷◌, ◌++◌, append-nil, append_assoc, refl, sym, ap, ◌∙◌, codes, Some, None, option_map}
use Rattle.std.proofs.lemmas.Grind.{flat_map-append}
use Rattle.typed_path.specs.declared.scan.step.Piece.{Piece}
use Rattle.typed_path.specs.components.{comps, parts_of, Part, parts}
use Rattle.typed_path.specs.script.{tab, line_feed, reply_line, components_reply, component_field, fields_behind}
use Rattle.typed_path.specs.views.BodyViews.{body_items}
use Rattle.typed_path.specs.views.CursorViews.{items_left}
use Rattle.typed_path.specs.views.SpanViews.{span_bytes}
use Rattle.typed_path.specs.views.PieceViews.{part_of, step_part}
use Rattle.typed_path.proofs.lemmas.scan.Steps.{parts-prefixed, yields_first, fewer}
use Rattle.typed_path.proofs.script.lines.put_components.Goals as goal
use Rattle.typed_path.proofs.script.lines.put_components.Goals.{in-Some+in_ok-put_component-in-Some, in-None}
use Rattle.typed_path.proofs.lemmas.lists.Lists.{join_with_byte-map}

-- the fields of the first components stand, and those of the others are left
some_shown : (replies new : List ℕ) (first left ps : List Part) → ps ≡ first ++ left → new ≡ replies ++ fields_behind first → new ++ fields_behind left ≡ replies ++ fields_behind ps
some_shown replies new first left ps split shown =
    ap (λ bs. bs ++ fields_behind left) shown
    ∙ append_assoc replies (fields_behind first) (fields_behind left)
    ∙ ap (λ bs. replies ++ bs) (sym (flat_map-append (λ p. tab ∷ component_field p) first left) ∙ ap fields_behind (sym split))

-- that of the prefix stands behind the reply's first one
first_shown : (old begun new : List ℕ) (first left ps : List Part) → ps ≡ first ++ left → begun ≡ old ++ codes "ok" → new ≡ begun ++ fields_behind first
    → new ++ fields_behind left ≡ old ++ (codes "ok" ++ fields_behind ps)
first_shown old begun new first left ps split ok shown =
    some_shown begun new first left ps split shown ∙ ap (λ bs. bs ++ fields_behind ps) ok ∙ append_assoc old (codes "ok") (fields_behind ps)

-- that of one component more stands
next_shown : (replies new : List ℕ) (p q : Part) (old rest : List Part) → old ≡ q ∷ rest → p ≡ q → new ≡ replies ++ tab ∷ component_field p → new ++ fields_behind rest ≡ replies ++ fields_behind old
next_shown replies new p q old rest step same shown =
    some_shown replies new (p ∷ []) rest old (step ∙ ap (λ x. x ∷ rest) (sym same)) (shown ∙ ap (λ bs. replies ++ bs) (sym (append-nil (tab ∷ component_field p))))

-- the reply is complete once no component is left and the line feed stands
all_shown : (old new replies : List ℕ) (left ps : List Part) → left ≡ [] → new ≡ replies ++ line_feed ∷ []
    → replies ++ fields_behind left ≡ old ++ (codes "ok" ++ fields_behind ps) → new ≡ old ++ reply_line (components_reply ps)
all_shown old new replies left ps none ended h =
    ended
    ∙ ap (λ bs. bs ++ line_feed ∷ []) (sym (append-nil replies) ∙ ap (λ qs. replies ++ fields_behind qs) (sym none) ∙ h)
    ∙ append_assoc old (codes "ok" ++ fields_behind ps) (line_feed ∷ [])
    ∙ ap (λ bs. old ++ (bs ++ line_feed ∷ [])) (sym (join_with_byte-map tab component_field (codes "ok") ps))

pub steps-init : goal.steps-init
steps-init g c =
    let d = g.T.Encoding.dialect in
    let path = span_bytes c.args.path in
    let split = parts-prefixed (comps d path) (items_left c.within-cursor.result) (body_items c.body-body.result) (option_map part_of c.prefix_piece.result)
    (c.within-cursor.ensures ∙ ap parts (c.cursor.ensures.items ∙ ap (comps d) c.as_bytes.ensures)) c.prefix_piece.ensures c.body-body.ensures in
    let begun = c.extend_from_slice.new.self.items in
    let put : Option Piece → List ℕ = λ o. begun ++ fields_behind (option_to_list (option_map part_of o)) in
    let shown : c.match-prefix_piece.replies.items ≡ put c.prefix_piece.result = elim c.match-prefix_piece.branch [
      | in-Some+in_ok-put_component-in-Some w ↦
          ap (λ v. v.items) w.replies-is
          ∙ w.in_ok-put_component-in-Some.ensures
          ∙ ap (λ bs. begun ++ bs) (sym (append-nil (tab ∷ component_field (part_of w.in-Some.piece))))
          ∙ ap put (sym w.in-Some.is)
      | in-None w ↦ ap (λ v. v.items) w.replies-is ∙ sym (append-nil begun) ∙ ap put (sym w.in-None.is)
    ] in
    record {
      left = c.onward-left.ensures;
      shown = first_shown c.args.replies.now.items _ _ _ _ (parts_of d path) split c.in_ok-extend_from_slice.ensures.items shown;
    }

pub steps-smaller : goal.steps-smaller
steps-smaller g c = fewer (step_part c.in-Some-front.step) (body_items c.steps.body) (body_items c.front.new.self) c.in-Some-front.ensures.taken c.in-Some-front.ensures.items

pub steps-preserved : goal.steps-preserved
steps-preserved g c =
    let taken = yields_first step_part (Some c.in-Some-front.step) (body_items c.steps.body) (body_items c.front.new.self) c.in-Some-front.ensures.taken c.in-Some-front.ensures.items in
    record {
      left = c.onward-left-in-Some-front.ensures;
      shown = next_shown c.steps.replies.items _ (step_part c.in-Some-front.step) (step_part c.in-Some-front.step) _ _ taken refl c.in_ok-put_step.ensures ∙ c.steps.invariant.shown;
    }

pub returns : goal.returns
returns g c =
    let none = (yields_first step_part None (body_items c.steps.body) (body_items c.front.new.self) c.in_default.ensures.taken c.in_default.ensures.items).0 in
    all_shown c.args.replies.now.items c.push.new.self.items c.steps.replies.items _ (parts_of g.T.Encoding.dialect (span_bytes c.args.path)) none c.in_ok-push.ensures.items c.steps.invariant.shown
