use Rattle.std.proofs.Common.{length, ◌++◌}
use Rattle.std.specs.List.{concat}
use Rattle.typed_path.specs.order.{length_words, length_prefixed}
use Rattle.typed_path.proofs.lemmas.order.KeyBytes.{prefixed-bytes, put_both, put_same}
use Rattle.typed_path.proofs.common.key_bytes.put_name.Goals as goal

pub returns : goal.returns
returns c =
    let name = c.args.name.now in
    let count = concat (length_words (length name)) in
    put_same c.args.at c.put_bytes.result (count ++ name) (concat (length_prefixed name)) c.args.out.now c.put_bytes.new.out (prefixed-bytes name)
    (put_both c.args.at c.put_count-behind.result c.put_bytes.result count name c.args.out.now c.put_count-behind.new.out c.put_bytes.new.out c.put_count-behind.ensures c.put_bytes.ensures)
