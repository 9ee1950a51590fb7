use Rattle.typed_path.proofs.lemmas.scan.Searches.{mask-or}
use Rattle.typed_path.proofs.scan.lanes.controls_at.Goals as goal

pub returns : goal.returns
returns g c = mask-or _ _ g.row.N _ _ c.marks_below.ensures c.marks_of.ensures
