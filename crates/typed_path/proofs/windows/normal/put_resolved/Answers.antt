use Rattle.std.proofs.Common.{true≢false, sym, arith}
use Rattle.typed_path.proofs.lemmas.components.PartedPrefixes.{head-size}
use Rattle.typed_path.proofs.windows.normal.put_resolved.Goals as goal

pub returns-in_err-put_rows-clause-succeeds : goal.returns-in_err-put_rows-clause-succeeds
returns-in_err-put_rows-clause-succeeds c = λ plain fits.
    let head = c.in-Some.head in
    absurd (true≢false (sym (c.in_err-put_rows.ensures.succeeds (omega (arith, fits, head-size c.args.path.now head.prefix.now head.root.now head.rest.now c.in-Some.ensures.head)))))
