use Rattle.std.proofs.Common.{◌∙◌, ◌-◌, ◌++◌, ◌∷◌, [], ap, length, sym}
use Rattle.typed_path.specs.scan.{first_of}
use Rattle.typed_path.specs.views.PathViews.{components_items, components_slice}
use Rattle.typed_path_c.proofs.Spans.{behind_front, next-told}
use Rattle.typed_path_c.proofs.parts.next.Goals as goal

pub returns-in-Some-clause-told : goal.returns-in-Some-clause-told
returns-in-Some-clause-told g c seen behind =
    next-told g.T.Encoding.dialect c.args.path.now seen (components_items c.args.rest.now) (components_slice c.args.rest.now) _ _ _
    behind c.in-Some.ensures.taken
    (c.saturating_sub-start.ensures ∙ ap (λ s. length c.args.path.now - length s) c.as_bytes.ensures)
    c.kind_number.ensures

pub returns-in-Some-clause-behind : goal.returns-in-Some-clause-behind
returns-in-Some-clause-behind g c seen first is behind =
    let gone = behind_front g.T.Encoding.dialect c.args.path.now seen (components_items c.args.rest.now) (components_slice c.args.rest.now) first is behind in
    (gone.0 ∙ ap (λ cs. (seen ++ first ∷ []) ++ cs) (sym c.in-Some.ensures.items), λ d next. c.in-Some.ensures.slice ∙ gone.1 d (ap first_of (sym c.in-Some.ensures.items) ∙ next))
