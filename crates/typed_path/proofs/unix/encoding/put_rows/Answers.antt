use Rattle.std.proofs.Common.{◌≡◌, ◌++◌, ◌∙◌, [], length, take, take_at, refl, ap, ap₂, sym, arith}
use Rattle.typed_path.specs.declared.scan.separators.Separators.TheVariants.{Slash}
use Rattle.typed_path.specs.places.{rows}
use Rattle.typed_path.proofs.lemmas.components.Segments.{pieces}
use Rattle.typed_path.proofs.lemmas.places.UnixRows.{parted-end}
use Rattle.typed_path.proofs.lemmas.places.CleanRows.{settled-kept}
use Rattle.typed_path.proofs.unix.encoding.put_rows.Goals as goal

pub returns : goal.returns
returns c =
    let before = c.args.text.now.items in
    let root = c.split_root.result.0.now in
    let rest = c.split_root.result.1.now in
    let left = c.behind_parents-left.result.now in
    let head = before ++ root in
    let begun = c.in_ok-extend_from_slice.ensures.items in
    let size : length head ≡ c.len-len.result = omega (arith, c.len-len.ensures, c.extend_from_slice.new.self.ok, ap length begun) in
    let names = sym (settled-kept (pieces Slash left) []) ∙ sym c.behind_parents-left.ensures.same in
    let text = c.in_ok-put_left.ensures.puts.ok ∙ ap₂ (λ t names. t ++ rows names) begun names in
    let put =
    parted-end c.args.path.now before root rest _ _ c.split_root.ensures text
    (λ more. c.drop_separator.ensures.named (omega (arith, size, more)))
    (λ fits. c.drop_separator.ensures.alone (omega (arith, size, fits))) in
    record { ok = put; kept = ap (take (length before)) put ∙ take_at before _ (length before) refl; capacity = omega arith; succeeds = λ _. refl }
