use Rattle.std.proofs.Common.{sym, ◌∙◌}
use Rattle.std.proofs.lemmas.List.{take_rest}
use Rattle.typed_path.specs.declared.scan.separators.Separators.TheVariants.{Either}
use Rattle.typed_path.specs.components.{body}
use Rattle.typed_path.specs.order.{left_cmp}
use Rattle.typed_path.proofs.lemmas.order.SharedNames.{one-order}
use Rattle.typed_path.proofs.windows.encoding.WindowsEncodingEncoding.order_behind_prefix.Goals as goal

pub returns-in-Some : goal.returns-in-Some
returns-in-Some c =
    let t = c.args.path.now in
    let u = c.args.other.now in
    let n = c.in-Some.end in
    let s = Either in
    one-order t u n s c.in-Some.ensures.one c.compare_texts.result
    (sym (λ i. left_cmp (body s 0 (take_rest t n i)) (body s 0 (take_rest u n i))) ∙ sym c.compare_texts.ensures)
