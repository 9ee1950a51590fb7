use Rattle.typed_path.specs.scan.{stands_at}
use Rattle.typed_path.proofs.scan.lanes.first_in_block.Goals as goal

pub first_marked-requires-clause-beyond : goal.first_marked-requires-clause-beyond
first_marked-requires-clause-beyond g c = c.marks_at.ensures.beyond

pub returns : goal.returns
returns g c = c.first_marked.ensures (stands_at c.args.pair c.args.text.now) c.marks_at.ensures
