use Rattle.std.proofs.Common.{sym, ap, ◌∙◌}
use Rattle.std.proofs.lemmas.List.{take_rest}
use Rattle.typed_path.specs.declared.scan.cursor.Begin.TheVariants.{Inside}
use Rattle.typed_path.specs.components.{body, parts}
use Rattle.typed_path.proofs.lemmas.order.SharedNames.{clean-parts}
use Rattle.typed_path.proofs.scan.cut.behind_blanks.Goals as goal

pub returns-clause-same : goal.returns-clause-same
returns-clause-same c at =
    let s = c.args.separators in
    ap (λ t. parts (body s 0 t)) (take_rest c.args.text.now c.skip_blanks.result)
    ∙ sym (ap parts (c.skip_blanks.ensures.same at) ∙ clean-parts Inside s _ _ c.skip_blanks.ensures.clean)
