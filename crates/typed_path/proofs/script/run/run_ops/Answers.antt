use Rattle.std.proofs.Common.{◌≡◌, List, [], ◌∷◌, ◌++◌, ap, ◌∙◌, append_assoc, arith}
use Rattle.std.proofs.lemmas.List.{map-append}
use Rattle.typed_path.specs.declared.script.run.PathOp.TheVariants.{Pop}
use Rattle.typed_path.specs.declared.script.run.Reply.{Reply}
use Rattle.typed_path.specs.changes.{Response}
use Rattle.typed_path.specs.views.RunViews.{responses_of, response_of}
use Rattle.typed_path.proofs.lemmas.changes.Runs.{text_after-more, replies-more, stops, none_taken, on_err, fits_all-first, fits_all-stepped}
use Rattle.typed_path.proofs.script.run.run_ops.Goals as goal

pub returns-in_err-reserve-clause-memory : goal.returns-in_err-reserve-clause-memory
returns-in_err-reserve-clause-memory g c =
    let d = g.T.Encoding.dialect in
    on_err c.from_residual.result
    (stops d _ c.args.operations.now c.operations.operation-index Pop c.operations-test.true _ _ _ _ c.operations.invariant.text
    (ap responses_of c.reserve.ensures.items ∙ c.operations.invariant.answered) (none_taken d _ _))

pub returns-in_err-reply-clause-memory : goal.returns-in_err-reply-clause-memory
returns-in_err-reply-clause-memory g c = grind (arith, on_err, stops)

-- the replies with one more
longer : (old before more : List Response) (items replies : List Reply) (reply : Reply) → replies ≡ items ++ reply ∷ [] → responses_of items ≡ before ++ old → old ++ response_of reply ∷ [] ≡ more
    → responses_of replies ≡ before ++ more
longer old before more items replies reply pushed h next = grind (arith, map-append, append_assoc)

pub returns-in_err-reserve-clause-succeeds : goal.returns-in_err-reserve-clause-succeeds
returns-in_err-reserve-clause-succeeds g c = grind arith

pub returns-in_err-reply-clause-succeeds : goal.returns-in_err-reply-clause-succeeds
returns-in_err-reply-clause-succeeds g c = λ room whole.
    let d = g.T.Encoding.dialect in
    let fits = fits_all-first d _ _ c.args.operations.now c.operations.operation-index _ c.operations-test.true (c.operations.invariant.fits whole) _ c.operations.invariant.room in
    let ok = rw c.in_err-reply.was at (c.apply.ensures.succeeds fits) in cc

pub operations-preserved : goal.operations-preserved
operations-preserved g c =
    let d = g.T.Encoding.dialect in
    record {
      text = text_after-more d _ c.args.operations.now c.operations.operation-index _ c.operations-test.true _ _ c.operations.invariant.text c.in_ok-reply.ensures.path;
      answered = longer _ _ _ _ _ c.in_ok-reply.reply c.in_ok-push.ensures.items (ap responses_of c.reserve.ensures.items ∙ c.operations.invariant.answered)
          (replies-more d _ c.args.operations.now c.operations.operation-index _ c.operations-test.true _ _ c.operations.invariant.text c.in_ok-reply.ensures.reply);
      room = omega (arith, c.operations.invariant.room, c.in_ok-reply.ensures.capacity);
      fits = λ whole. fits_all-stepped d _ _ c.args.operations.now c.operations.operation-index _ c.operations-test.true (c.operations.invariant.fits whole) _ c.in_ok-reply.ensures.path;
      replies_fit = λ room. omega (arith, c.operations.invariant.replies_fit room, c.in_ok-push.ensures.len, c.push.ensures.capacity, c.reserve.ensures.len, c.reserve.ensures.capacity);
    }
