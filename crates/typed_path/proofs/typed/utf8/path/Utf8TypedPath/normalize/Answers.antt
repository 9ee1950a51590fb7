use Rattle.typed_path.proofs.typed.utf8.path.Utf8TypedPath.normalize.Goals as goal

pub returns-in-Ok-normalize-clause-normal : goal.returns-in-Ok-normalize-clause-normal
returns-in-Ok-normalize-clause-normal c = rw c.in-Windows.is c.in-Ok-normalize.ensures
