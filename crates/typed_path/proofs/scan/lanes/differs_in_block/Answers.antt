use Rattle.std.proofs.Common.{not, ◌==◌}
use Rattle.typed_path.specs.scan.{differs_in}
use Rattle.typed_path.proofs.lemmas.scan.Searches.{block-tells}
use Rattle.typed_path.proofs.scan.lanes.differs_in_block.Goals as goal

pub returns : goal.returns
returns g c = block-tells (differs_in (not (g.row.LOWER == 0)) c.args.text.now c.args.other.now) c.args.at g.row.N c.differences_at.result c.differences_at.ensures.mask c.differences_at.ensures.fits
