use Rattle.std.proofs.Common.{ap, ◌∙◌, arith}
use Rattle.typed_path.specs.changes.{push}
use Rattle.typed_path.proofs.lemmas.changes.Runs.{push_all-more, fits_each-pushed, fits_each-first}
use Rattle.typed_path.proofs.script.run.push_each.Goals as goal

pub returns-in_err-known-clause-succeeds : goal.returns-in_err-known-clause-succeeds
returns-in_err-known-clause-succeeds g c = λ whole.
    let d = g.T.Encoding.dialect in
    let fits = fits_each-first d _ _ c.args.others.now c.others.other-index _ c.others-test.true (c.others.invariant.fits whole) _ _ c.others.invariant.room c.new.ensures in
    let ok = rw c.in_err-known.was at (c.push_next.ensures.succeeds c.others.invariant.known fits) in cc

pub others-preserved : goal.others-preserved
others-preserved g c =
    let d = g.T.Encoding.dialect in
    let pushed = c.in_ok-known.ensures.ok c.others.invariant.known ∙ ap (push d c.others.path.bytes) c.new.ensures in
    record {
      known = c.in_ok-known.ensures.known c.others.invariant.known;
      text = push_all-more d _ _ _ c.args.others.now c.others.other-index _ c.others-test.true pushed c.others.invariant.text;
      room = omega (arith, c.push_next.ensures.capacity);
      fits = λ whole. fits_each-pushed d _ _ c.args.others.now c.others.other-index _ c.others-test.true (c.others.invariant.fits whole) _ pushed;
    }
