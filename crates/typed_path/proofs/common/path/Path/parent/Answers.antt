use Rattle.std.proofs.Common.{sym, ap, ◌∙◌, Some}
use Rattle.typed_path.specs.components.{comps}
use Rattle.typed_path.specs.scan.{slice_after_back, last_part}
use Rattle.typed_path.specs.views.PieceViews.{part_of}
use Rattle.typed_path.specs.views.PathViews.{path_bytes, components_slice}
use Rattle.typed_path.proofs.lemmas.queries.Parents.{parent_left}
use Rattle.typed_path.proofs.common.path.Path.parent.Goals as goal

pub returns : goal.returns
returns g c =
    let d = g.T.Encoding.dialect in
    let t = path_bytes c.args.self in
    ap Some (c.new.ensures ∙ c.as_bytes.ensures ∙ c.in_ok-last.ensures.slice
    ∙ ap (λ cs. slice_after_back cs (components_slice c.components-components.result)) c.components-components.ensures.items
    ∙ ap (slice_after_back (comps d t)) c.components-components.ensures.slice)
    ∙ sym (parent_left d t (part_of c.in_ok-last.last) (c.in_ok-last.ensures.taken ∙ ap last_part c.components-components.ensures.items) (sym c.if-is_root.ensures))
