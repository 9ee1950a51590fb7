use Rattle.std.proofs.Common.{◌∷◌, ◌++◌, map, drop, suc, sym, ap, ◌∙◌, Ok}
use Rattle.typed_path.specs.conversions.{converted_checked}
use Rattle.typed_path_uses.specs.Uses.{crossings, first_refusal}
use Rattle.typed_path.proofs.lemmas.conversions.Crossings.{refusal-passed}
use Rattle.typed_path_uses.proofs.Crossings.{refused-behind, crossings-next}
use Rattle.typed_path_uses.proofs.manifest.rewritten_texts.Goals as goal

pub returns-in_err-with_encoding_checked-clause-refused : goal.returns-in_err-with_encoding_checked-clause-refused
returns-in_err-with_encoding_checked-clause-refused g c =
    let d = g.T.Bytes.Encoding.dialect in
    let e = g.U.Bytes.Encoding.dialect in
    λ f told.
    let fault = c.in_err-with_encoding_checked.ensures.1 f (refusal-passed c.with_encoding_checked.result c.from_residual-in_err-with_encoding_checked.result _ c.from_residual-in_err-with_encoding_checked.ensures.1 f told) in
    ap first_refusal
    (sym c.entries.invariant
    ∙ ap (λ rs. map (λ p. Ok p.bytes) c.entries.paths.items ++ rs) (crossings-next d e c.args.entries.now c.entries.entry-index _ c.entries-test.true
    ∙ ap (λ t. converted_checked d e t ∷ crossings d e (drop (suc c.entries.entry-index) c.args.entries.now)) (sym c.new.ensures)
    ∙ ap (λ r. r ∷ crossings d e (drop (suc c.entries.entry-index) c.args.entries.now)) fault))
    ∙ refused-behind (λ p. p.bytes) c.entries.paths.items f _
