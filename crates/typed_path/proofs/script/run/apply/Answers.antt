use Rattle.std.proofs.Common.{◌≡◌, None, Err, is_ok, ap, subst, sym, ◌∙◌}
use Rattle.typed_path.specs.changes.{fault, refusal, FitsPush}
use Rattle.typed_path.specs.views.PathViews.{path_bytes}
use Rattle.typed_path.proofs.script.run.apply.Goals as goal

pub returns-in-Err-OutOfMemory-clause-succeeds : goal.returns-in-Err-OutOfMemory-clause-succeeds
returns-in-Err-OutOfMemory-clause-succeeds g c = λ fits.
    let d = g.T.Encoding.dialect in
    let faultless : fault d (path_bytes c.new-in-PushChecked.result) ≡ None = sym c.push_checked.ensures.refused ∙ ap refusal (c.in-Err-OutOfMemory.is ∙ ap Err c.in-Err-OutOfMemory.field-0-is) in
    let room = subst (λ p. fault d p ≡ None → FitsPush d c.args.path.now.capacity c.args.path.now.bytes p) (sym c.new-in-PushChecked.ensures) (rw c.in-PushChecked.is at fits) in
    sym (ap is_ok c.in-Err-OutOfMemory.is) ∙ c.push_checked.ensures.succeeds faultless (room faultless)
