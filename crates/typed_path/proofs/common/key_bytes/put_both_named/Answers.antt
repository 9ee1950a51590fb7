use Rattle.std.proofs.Common.{◌∷◌, ◌++◌, ap, length, arith, length-append}
use Rattle.std.specs.List.{concat}
use Rattle.typed_path.specs.order.{length_prefixed}
use Rattle.typed_path.proofs.lemmas.order.KeyBytes.{twice_prefixed-bytes, put_both, put_same}
use Rattle.typed_path.proofs.common.key_bytes.put_both_named.Goals as goal

pub put_named-behind-requires : goal.put_named-behind-requires
put_named-behind-requires c =
    let server = concat (length_prefixed c.args.server.now) in
    let share = concat (length_prefixed c.args.share.now) in
    omega (arith, c.requires, ap length (twice_prefixed-bytes c.args.server.now c.args.share.now), length-append server share)

pub put_name-requires : goal.put_name-requires
put_name-requires c =
    let server = concat (length_prefixed c.args.server.now) in
    let share = concat (length_prefixed c.args.share.now) in
    omega (arith, c.requires, c.put_named-behind.ensures.ends, ap length (twice_prefixed-bytes c.args.server.now c.args.share.now), length-append server share)

pub returns : goal.returns
returns c =
    let kind = c.args.kind in
    let server = c.args.server.now in
    let share = c.args.share.now in
    put_same c.args.at c.put_name.result (kind ∷ concat (length_prefixed server) ++ concat (length_prefixed share)) (kind ∷ concat (length_prefixed server ++ length_prefixed share))
    c.args.out.now c.put_name.new.out (ap (λ bs. kind ∷ bs) (twice_prefixed-bytes server share))
    (put_both c.args.at c.put_named-behind.result c.put_name.result (kind ∷ concat (length_prefixed server)) (concat (length_prefixed share))
    c.args.out.now c.put_named-behind.new.out c.put_name.new.out c.put_named-behind.ensures c.put_name.ensures)
