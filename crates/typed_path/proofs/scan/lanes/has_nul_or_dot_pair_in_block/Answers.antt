use Rattle.typed_path.specs.changes.{nul_or_dot_pair_at}
use Rattle.typed_path.proofs.lemmas.scan.Searches.{block-tells}
use Rattle.typed_path.proofs.scan.lanes.has_nul_or_dot_pair_in_block.Goals as goal

pub returns : goal.returns
returns g c = block-tells (nul_or_dot_pair_at c.args.text.now) c.args.at g.row.N c.nul_or_dot_pair_at.result c.nul_or_dot_pair_at.ensures c.nul_or_dot_pair_at.type_inv
