use Rattle.std.proofs.Common.{refl, ap, sym, ◌∙◌, option_map}
use Rattle.typed_path.specs.views.OwnedViews.{Owned}
use Rattle.typed_path.proofs.typed.path.TypedPath.relative_to.Goals as goal

pub returns-in-Ok-Some-relative_to-clause-leads : goal.returns-in-Ok-Some-relative_to-clause-leads
returns-in-Ok-Some-relative_to-clause-leads c =
    rw c.in-Windows.is (rw (sym c.new-in-Windows.ensures)
    (sym (ap (option_map (λ (p : Owned). p.bytes)) c.in-Ok-Some-relative_to.field-0-is) ∙ c.in-Ok-Some-relative_to.ensures.bytes, λ none. refl))

pub returns-in-Ok-None-relative_to-clause-leads : goal.returns-in-Ok-None-relative_to-clause-leads
returns-in-Ok-None-relative_to-clause-leads c =
    rw c.in-Windows.is (rw (sym c.new-in-Windows.ensures)
    (sym (ap (option_map (λ (p : Owned). p.bytes)) c.in-Ok-None-relative_to.field-0-is) ∙ c.in-Ok-None-relative_to.ensures.bytes, λ none. refl))

pub returns-in-Err-relative_to-clause-leads : goal.returns-in-Err-relative_to-clause-leads
returns-in-Err-relative_to-clause-leads c =
    rw c.in-Windows.is (rw (sym c.new-in-Windows.ensures) (c.in-Err-relative_to.ensures.bytes, c.in-Err-relative_to.ensures.free))
