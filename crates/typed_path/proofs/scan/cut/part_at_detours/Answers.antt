use Rattle.std.proofs.Common.{sym, ◌∙◌}
use Rattle.typed_path.proofs.scan.cut.part_at_detours.Goals as goal

pub returns-in-Some : goal.returns-in-Some
returns-in-Some c = λ told. sym c.in-Some.ensures.begins ∙ c.have_other_fronts.ensures told
