use Rattle.typed_path.specs.changes.{forbidden_at}
use Rattle.typed_path.proofs.lemmas.scan.Searches.{first-tells}
use Rattle.typed_path.proofs.scan.lanes.is_forbidden_in_block.Goals as goal

pub first_marked-requires-clause-beyond : goal.first_marked-requires-clause-beyond
first_marked-requires-clause-beyond g c = c.forbidden_at.ensures.beyond

pub returns : goal.returns
returns g c = first-tells (forbidden_at c.args.pair c.args.text.now) c.args.at _ _ (c.first_marked.ensures (forbidden_at c.args.pair c.args.text.now) c.forbidden_at.ensures)
