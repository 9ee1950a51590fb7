use Rattle.std.proofs.Common.{◌≡◌, ◌++◌, ap, arith, length, subst, sym, ◌∙◌, true≢false, false}
use Rattle.std.proofs.lemmas.Result.{on_ok_weaker}
use Rattle.typed_path.specs.places.{AreAlone, dots, rows_of}
use Rattle.typed_path.proofs.lemmas.places.TakenNames.{rows-steps, unended-size}
use Rattle.typed_path.proofs.common.relative.put_near.Goals as goal

pub returns-in_err-put_ups-clause-succeeds : goal.returns-in_err-put_ups-clause-succeeds
returns-in_err-put_ups-clause-succeeds g c = λ fits. absurd (true≢false (sym {a = false} (c.in_err-put_ups.ensures.succeeds (omega (arith, fits, ap length c.requires.empty)))))

pub returns-in_err-put_alone-clause-succeeds : goal.returns-in_err-put_alone-clause-succeeds
returns-in_err-put_alone-clause-succeeds g c = grind arith

pub returns-clause-succeeds : goal.returns-clause-succeeds
returns-clause-succeeds g c = grind (arith, unended-size)

pub returns-clause-ok : goal.returns-clause-ok
returns-clause-ok g c = λ names alone.
    let d = g.T.Encoding.dialect in
    let s = c.bare_separators-separators.result in
    let up = c.args.near.up in
    let is = c.bare_separators-separators.ensures in
    let rowed : c.put_alone.new.text.items ≡ rows_of s (dots up) ++ rows_of s names =
    c.in_ok-put_alone.ensures.ok names (subst (λ r. AreAlone r c.args.near.rest.now c.args.near.ended names) (sym is) alone)
    ∙ ap (λ t. t ++ rows_of s names) (c.in_ok-put_ups.ensures.ok ∙ ap (λ t. t ++ rows_of s (dots up)) c.requires.empty) in
    on_ok_weaker c.put_apart.result
    (λ e. rows-steps d up names s c.put_alone.new.text.items c.drop_separator.new.text.items c.put_apart.new.text.items is rowed c.drop_separator.ensures.named c.drop_separator.ensures.alone e)
    c.put_apart.ensures.ok
