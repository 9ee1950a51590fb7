use Rattle.typed_path.specs.changes.{begins_no_name_at}
use Rattle.typed_path.proofs.scan.names.first_no_name_in_block.Goals as goal

pub first_marked-requires-clause-beyond : goal.first_marked-requires-clause-beyond
first_marked-requires-clause-beyond g c = c.no_names_at.ensures.beyond

pub returns : goal.returns
returns g c = c.first_marked.ensures (begins_no_name_at c.args.pair c.args.text.now) c.no_names_at.ensures
