use Rattle.typed_path.specs.queries.{control_at}
use Rattle.typed_path.proofs.lemmas.scan.Searches.{block-tells}
use Rattle.typed_path.proofs.scan.lanes.has_control_in_block.Goals as goal

pub returns : goal.returns
returns g c = block-tells (control_at c.args.text.now) c.args.at g.row.N c.controls_at.result c.controls_at.ensures c.controls_at.type_inv
