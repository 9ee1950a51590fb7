use Rattle.std.proofs.Common.{◌≡◌, ◌<◌, ◌+◌, ◌-◌, ◌++◌, [], ◌∷◌, if◌then◌else◌, length, take, drop, get_or, arith, sym, ap, ◌∙◌, append_assoc, get_or-drop, length-drop}
use Rattle.std.proofs.lemmas.List.{take_more_set, get_or-set_other, length-set}
use Rattle.std.proofs.lemmas.List.{map_more}
use Rattle.typed_path.specs.components.{is_separator}
use Rattle.typed_path.specs.scan.{turned}
use Rattle.typed_path.proofs.common.writing.turn.Goals as goal
use Rattle.typed_path.proofs.common.writing.turn.Goals.{then-contains, else-contains}

pub bytes-preserved : goal.bytes-preserved
bytes-preserved c =
    let s = c.args.separators in
    let old = c.args.text.now in
    let text = c.bytes.text in
    let at = c.bytes.at in
    let from = c.args.from in
    let low = c.bytes.invariant.low in
    let within : at < length text = omega (arith, c.bytes-test.true, c.bytes.invariant.size) in
    let own : get_or text at 0 ≡ get_or old at 0 = c.bytes.invariant.rest at (omega arith) in
    let written : c.if-contains.text ≡ (if is_separator s (get_or text at 0) then c.args.byte else get_or text at 0) = elim c.if-contains.branch [
      | then-contains w ↦ w.text-is ∙ ap (λ b. if b then c.args.byte else get_or text at 0) (sym w.if-contains.true ∙ c.contains.ensures)
      | else-contains w ↦ w.text-is ∙ ap (λ b. if b then c.args.byte else get_or text at 0) (sym w.if-contains.false ∙ c.contains.ensures)
    ] in
    let there : from + (at - from) ≡ at = omega (arith, low) in
    let next : at + 1 - from ≡ at - from + 1 = omega (arith, low) in
    record {
      low = omega (arith, low);
      end = c.bytes.invariant.end;
      size = length-set text at c.if-contains.text ∙ c.bytes.invariant.size;
      done =
          take_more_set text at c.if-contains.text within
          ∙ ap (λ t. t ++ c.if-contains.text ∷ []) c.bytes.invariant.done
          ∙ append_assoc (take from old) (turned s c.args.byte (take (at - from) (drop from old))) (c.if-contains.text ∷ [])
          ∙ ap (λ b. take from old ++ (turned s c.args.byte (take (at - from) (drop from old)) ++ b ∷ []))
          (written ∙ ap (λ b. if is_separator s b then c.args.byte else b) (own ∙ ap (λ k. get_or old k 0) (sym there) ∙ sym (get_or-drop from old (at - from) 0)))
          ∙ ap (λ t. take from old ++ t) (sym (map_more (λ b. if is_separator s b then c.args.byte else b) (drop from old) (at - from) 0 (omega (arith, length-drop from old, within, c.bytes.invariant.size, low))))
          ∙ ap (λ n. take from old ++ turned s c.args.byte (take n (drop from old))) (sym next);
      rest = λ k high. get_or-set_other text at k c.if-contains.text 0 (omega arith) ∙ c.bytes.invariant.rest k (omega arith);
    }
