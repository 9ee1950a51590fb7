use Rattle.std.proofs.lemmas.Map.Keys.{IsDistinct-from_sorted}
use Rattle.typed_path.specs.order.{path_cmp}
use Rattle.typed_path_uses.proofs.tree.Tree.len.Goals as goal

pub returns-clause-alone : goal.returns-clause-alone
returns-clause-alone g c = IsDistinct-from_sorted (λ k l. path_cmp g.T.Encoding.dialect k.bytes l.bytes) _ c.len.ensures.ordered
