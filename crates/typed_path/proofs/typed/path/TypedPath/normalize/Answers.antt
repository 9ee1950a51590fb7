use Rattle.typed_path.proofs.typed.path.TypedPath.normalize.Goals as goal

pub returns-in-Ok-normalize-clause-normal : goal.returns-in-Ok-normalize-clause-normal
returns-in-Ok-normalize-clause-normal c = rw c.in-Windows.is (c.in-Ok-normalize.ensures.text, c.in-Ok-normalize.ensures.form)
