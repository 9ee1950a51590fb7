use Rattle.std.proofs.Common.{option_map, ap}
use Rattle.std.specs.BTreeMap.{is_at}
use Rattle.std.specs.Map.{lookup}
use Rattle.typed_path.specs.order.Keyed.{to_key}
use Rattle.typed_path_uses.specs.Tree.{filed}
use Rattle.typed_path_uses.proofs.tree.Tree.new.Goals as goal

pub returns : goal.returns
returns g c = λ path.
    let d = g.T.Encoding.dialect in
    ap (λ es. option_map (λ v. v.items) (lookup (is_at (to_key d (filed d path))) es)) c.new-files.ensures.empty
