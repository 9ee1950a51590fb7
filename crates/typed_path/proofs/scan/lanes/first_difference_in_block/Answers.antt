use Rattle.std.proofs.Common.{not, ◌==◌}
use Rattle.typed_path.specs.scan.{differs_in}
use Rattle.typed_path.proofs.scan.lanes.first_difference_in_block.Goals as goal

pub first_marked-requires-clause-beyond : goal.first_marked-requires-clause-beyond
first_marked-requires-clause-beyond g c = c.differences_at.ensures.mask.beyond

pub returns : goal.returns
returns g c = c.first_marked.ensures (differs_in (not (g.row.LOWER == 0)) c.args.text.now c.args.other.now) c.differences_at.ensures.mask
