use Rattle.std.proofs.Common.{sym, ap, ap₂, ◌∙◌}
use Rattle.std.proofs.lemmas.List.{take_rest}
use Rattle.typed_path.specs.components.{body, kinds}
use Rattle.typed_path.specs.order.{left_cmp, kinds_cmp}
use Rattle.typed_path.specs.views.PieceViews.{found_of}
use Rattle.typed_path.proofs.lemmas.components.Segments.{parts-body}
use Rattle.typed_path.proofs.lemmas.order.DifferentPrefixes.{prefixed-order, alike-order}
use Rattle.typed_path.proofs.windows.encoding.order_by_both_prefixes.Goals as goal

pub returns-then-is_ne : goal.returns-then-is_ne
returns-then-is_ne c =
    prefixed-order c.args.path.now c.args.other.now (found_of c.args.found) (found_of c.args.others) c.compare_prefixes-order.result c.requires.own c.requires.others (sym c.compare_prefixes-order.ensures) (sym c.is_ne.ensures ∙ c.if-is_ne.true)

pub returns-then-is_same : goal.returns-then-is_same
returns-then-is_same c =
    let t = c.args.path.now in
    let u = c.args.other.now in
    let f = found_of c.args.found in
    let g = found_of c.args.others in
    let s = c.of_windows-own.result in
    alike-order t u f g s s c.compare_prefixes-order.result c.compare_texts.result c.requires.own c.requires.others (sym c.of_windows-own.ensures) (sym c.of_windows-wanted.ensures ∙ sym (c.is_same.ensures c.if-is_same.true)) (sym c.compare_prefixes-order.ensures) (sym c.is_ne.ensures ∙ c.if-is_ne.false)
    (sym (λ i. left_cmp (body s 0 (take_rest t f.length i)) (body s 0 (take_rest u g.length i))) ∙ sym c.compare_texts.ensures)

pub returns : goal.returns
returns c =
    let t = c.args.path.now in
    let u = c.args.other.now in
    let f = found_of c.args.found in
    let g = found_of c.args.others in
    let s = c.of_windows-own.result in
    let v = c.of_windows-wanted.result in
    alike-order t u f g s v c.compare_prefixes-order.result c.compare_each.result c.requires.own c.requires.others (sym c.of_windows-own.ensures) (sym c.of_windows-wanted.ensures) (sym c.compare_prefixes-order.ensures) (sym c.is_ne.ensures ∙ c.if-is_ne.false)
    (ap₂ kinds_cmp (ap kinds (parts-body s 0 _ ∙ sym (parts-body s f.length _))) (ap kinds (parts-body v 0 _ ∙ sym (parts-body v g.length _)))
    ∙ sym (c.compare_each.ensures ∙ ap₂ left_cmp c.new.ensures.items c.new-2.ensures.items))
