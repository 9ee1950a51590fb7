use Rattle.std.proofs.Common.{◌≡◌, [], ◌∷◌, ◌++◌, sym, subst, ap, ◌∙◌}
use Rattle.typed_path.specs.script.{line_feed, split_lines, reply}
use Rattle.typed_path.proofs.lemmas.script.Lines.{completes, joined-open}
use Rattle.typed_path.proofs.script.answer.Dialogue.complete.Goals as goal

pub invariant_of-self-in-Break-branch-2 : goal.invariant_of-self-in-Break-branch-2
invariant_of-self-in-Break-branch-2 c = record {
  is_open = subst (λ line. split_lines line ≡ line ∷ []) (sym (c.in_err-push.ensures.items ∙ c.in_ok-extend_from_slice.ensures.items)) (joined-open c.args.self.now.line.items c.args.self.now.is_open c.args.piece.now c.requires);
}

pub returns-then-answered-clause-replies : goal.returns-then-answered-clause-replies
returns-then-answered-clause-replies c =
    let line = c.args.self.now.line.items ++ c.args.piece.now in
    completes c.answer_line.result _ reply c.as_slice.result.now line _ _ (c.as_slice.ensures.value ∙ c.in_ok-push.ensures.items ∙ ap (λ t. t ++ line_feed ∷ []) c.in_ok-extend_from_slice.ensures.items)
    (joined-open c.args.self.now.line.items c.args.self.now.is_open c.args.piece.now c.requires)
    (sym c.is_ok-answered.ensures.value ∙ c.if-answered.true)
    c.answer_line.ensures
