use Rattle.typed_path.specs.changes.{forbidden_at}
use Rattle.typed_path.proofs.lemmas.scan.Searches.{block-tells}
use Rattle.typed_path.proofs.scan.lanes.is_forbidden_in_32.Goals as goal

pub returns : goal.returns
returns c = block-tells (forbidden_at c.args.pair c.args.text.now) c.args.at 32 c.forbidden_in_32_at.result c.forbidden_in_32_at.ensures c.forbidden_in_32_at.type_inv
