use Rattle.std.proofs.Common.{◌≡◌, arith, ℕ, List, [], ◌∷◌, ◌++◌, Bool, cond, append_assoc, sym, ap, subst, refl, ◌∙◌, Some, option_map, eqb-true}
use Rattle.std.proofs.lemmas.List.{nil_from_length}
use Rattle.typed_path.specs.script.{split_lines, reply, replies_to, complete_lines, open_line, AnswersFirst}
use Rattle.typed_path.proofs.lemmas.script.Lines.{joined-open, complete_lines-joined, open_line-joined}
use Rattle.typed_path.proofs.script.answer.Dialogue.take_in.Goals as goal
use Rattle.typed_path.proofs.script.answer.Dialogue.take_in.Goals.{then-not-is_empty+in-Some+in_ok-complete, else-not-is_empty}

-- the replies once one more line is complete
next_replies : (line rest piece behind replies whole : List ℕ) → split_lines line ≡ line ∷ [] → split_lines rest ≡ piece ∷ split_lines behind
    → replies ++ replies_to (complete_lines (line ++ rest)) ≡ whole
    → (replies ++ reply (line ++ piece)) ++ replies_to (complete_lines behind) ≡ whole
next_replies line rest piece behind replies whole is_open cut h = grind (arith, append_assoc, complete_lines-joined)

-- the line is open where the rest has no line feed, whether memory was found for it or not
still_open : (line rest new : List ℕ) (found : Bool) → split_lines line ≡ line ∷ [] → split_lines rest ≡ rest ∷ [] → new ≡ cond found (line ++ rest) line
    → split_lines new ≡ new ∷ []
still_open line rest new found is_open h e = grind (arith, joined-open)

pub invariant_of-self : goal.invariant_of-self
invariant_of-self c = record {
  is_open = still_open c.args.self.now.line.items c.args.input.now _ _ c.args.self.now.is_open c.in_default.ensures.pieces c.extend_from_slice.ensures.items;
}

pub lines-init : goal.lines-init
lines-init c =
    let line = c.args.self.now.line.items in
    let input = c.args.input.now in
    let old = c.args.self.now.replies.items in
    elim c.if-not-is_empty.branch [
      | then-not-is_empty+in-Some+in_ok-complete w ↦
          let piece = w.in-Some.piece.now in
          let behind = w.in-Some.behind.now in
          let rest : c.if-not-is_empty.rest.now ≡ behind = ap (λ r. r.now) w.rest-is in
          record {
            none_open = ap (λ s. s.line.items) w.self-is ∙ w.in_ok-complete.ensures.line;
            replies =
                ap (λ bs. bs ++ replies_to (complete_lines c.if-not-is_empty.rest.now)) (ap (λ s. s.replies.items) w.self-is ∙ w.in_ok-complete.ensures.replies)
                ∙ ap (λ t. (old ++ reply (line ++ piece)) ++ replies_to (complete_lines t)) rest
                ∙ next_replies line input piece behind old _ c.args.self.now.is_open w.in-Some.ensures.pieces refl;
            line = ap open_line rest ∙ sym (open_line-joined line c.args.self.now.is_open input piece behind w.in-Some.ensures.pieces);
          }
      | else-not-is_empty w ↦
          let none : line ≡ [] = nil_from_length line (omega (arith, c.args.self.now.line.ok, eqb-true _ _ (sym c.is_empty.ensures ∙ w.if-not-is_empty.false))) in
          let rest : c.if-not-is_empty.rest.now ≡ line ++ input = ap (λ r. r.now) w.rest-is ∙ ap (λ t. t ++ input) (sym none) in
          record {
            none_open = ap (λ s. s.line.items) w.self-is ∙ none;
            replies = ap (λ bs. bs ++ replies_to (complete_lines c.if-not-is_empty.rest.now)) (ap (λ s. s.replies.items) w.self-is) ∙ ap (λ t. old ++ replies_to (complete_lines t)) rest;
            line = ap open_line rest;
          }
    ]

-- what a loop over lines keeps, once one more line is answered
one_more : (rest left old new whole line_left : List ℕ) → AnswersFirst reply rest (Some left) old new
    → old ++ replies_to (complete_lines rest) ≡ whole → open_line rest ≡ line_left
    → (new ++ replies_to (complete_lines left) ≡ whole) × (open_line left ≡ line_left)
one_more rest left old new whole line_left answered replies same =
    let cut = answered.1 in (
      ap (λ bs. bs ++ replies_to (complete_lines left)) answered.2 ∙ next_replies [] rest answered.0 left old whole refl cut replies,
      sym (open_line-joined [] refl rest answered.0 left cut) ∙ same,
    )

pub lines-preserved : goal.lines-preserved
lines-preserved c =
    let answered : AnswersFirst reply c.lines.rest.now (Some c.in-Some-2.left.now) c.lines.self.replies.items c.answer_line.new.replies.items =
    subst (λ left. AnswersFirst reply c.lines.rest.now (option_map (λ t. t.now) left) c.lines.self.replies.items c.answer_line.new.replies.items) c.in-Some-2.is c.in_ok-left.ensures in
    let kept = one_more c.lines.rest.now c.in-Some-2.left.now _ _ _ _ answered c.lines.invariant.replies c.lines.invariant.line in
    record { none_open = c.lines.invariant.none_open; replies = kept.0; line = kept.1 }
