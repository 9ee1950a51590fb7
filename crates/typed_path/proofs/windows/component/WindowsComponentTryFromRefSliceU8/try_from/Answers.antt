use Rattle.std.proofs.Common.{◌<◌, inl, inr, length, refl, sym, ap, subst, ◌∙◌}
use Rattle.typed_path.specs.components.{windows, parts, comps}
use Rattle.typed_path.specs.scan.{first_part}
use Rattle.typed_path.specs.views.WindowsViews.{windows_part}
use Rattle.typed_path.specs.views.PathViews.{components_items}
use Rattle.typed_path.proofs.lemmas.scan.Steps.{no_component, one_component, more_components}
use Rattle.typed_path.proofs.windows.component.WindowsComponentTryFromRefSliceU8.try_from.Goals as goal

pub returns-in-None : goal.returns-in-None
returns-in-None c =
    ap parts (sym (c.new-components.ensures.items ∙ ap (comps windows) c.new.ensures))
    ∙ one_component (components_items c.new-components.result) (windows_part c.in-Some.component) c.in-Some.ensures.taken (c.in-None.ensures.taken ∙ ap first_part c.in-Some.ensures.items)

pub returns-in-Some-next : goal.returns-in-Some-next
returns-in-Some-next c =
    let read = ap parts (sym (c.new-components.ensures.items ∙ ap (comps windows) c.new.ensures)) in
    let two = more_components (components_items c.new-components.result) (windows_part c.in-Some.component) (windows_part c.in-Some-next.field-0) c.in-Some.ensures.taken
    (c.in-Some-next.ensures.taken ∙ ap first_part c.in-Some.ensures.items) in
    inr (subst (λ ps. 1 < length ps) (sym read) two, refl)

pub returns-in_default : goal.returns-in_default
returns-in_default c =
    let read = ap parts (sym (c.new-components.ensures.items ∙ ap (comps windows) c.new.ensures)) in
    inl (read ∙ no_component (components_items c.new-components.result) c.in_default.ensures.taken, refl)
