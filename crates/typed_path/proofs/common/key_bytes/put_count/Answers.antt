use Rattle.std.proofs.Common.{◌≤◌, [], ◌∷◌, length, sym, ap, ◌∙◌, arith}
use Rattle.std.specs.List.{concat}
use Rattle.typed_path.specs.order.{length_words}
use Rattle.typed_path.proofs.lemmas.order.KeyBytes.{long_count, put_both, put_same}
use Rattle.typed_path.proofs.common.key_bytes.put_count.Goals as goal

pub put_bytes-requires-2 : goal.put_bytes-requires-2
put_bytes-requires-2 c =
    let many : 245 ≤ c.args.count = omega (arith, c.if-count-lt245.false) in
    omega (arith, c.put_bytes-behind.ensures.ends, ap length (long_count c.args.count many), ap length c.to_le_bytes.ensures, c.requires)

pub returns : goal.returns
returns c =
    let many : 245 ≤ c.args.count = omega (arith, c.if-count-lt245.false) in
    put_same c.args.at c.put_bytes-2.result (255 ∷ c.to_le_bytes.result) (concat (length_words c.args.count)) c.args.out.now c.put_bytes-2.new.out
    (ap (λ bs. 255 ∷ bs) c.to_le_bytes.ensures ∙ sym (long_count c.args.count many))
    (put_both c.args.at c.put_bytes-behind.result c.put_bytes-2.result (255 ∷ []) c.to_le_bytes.result c.args.out.now c.put_bytes-behind.new.out c.put_bytes-2.new.out c.put_bytes-behind.ensures c.put_bytes-2.ensures)
