use Rattle.std.proofs.Common.{sym, ap, ◌∙◌}
use Rattle.typed_path.specs.components.{comps}
use Rattle.typed_path.specs.scan.{slice_after_back, last_part}
use Rattle.typed_path.specs.views.PieceViews.{part_of}
use Rattle.typed_path.specs.views.PathViews.{path_bytes, components_slice}
use Rattle.typed_path.proofs.lemmas.queries.Parents.{without_file_name-step}
use Rattle.typed_path.proofs.common.path.Path.without_file_name.Goals as goal

pub returns-in-Some : goal.returns-in-Some
returns-in-Some g c =
    let d = g.T.Encoding.dialect in
    let t = path_bytes c.args.self in
    c.new.ensures ∙ c.as_bytes.ensures ∙ c.in-Some.ensures.slice
    ∙ ap (λ cs. slice_after_back cs (components_slice c.components-components.result)) c.components-components.ensures.items
    ∙ ap (slice_after_back (comps d t)) c.components-components.ensures.slice
    ∙ sym (without_file_name-step d t (part_of c.in-Some.last) (c.in-Some.ensures.taken ∙ ap last_part c.components-components.ensures.items) (sym c.is_normal.ensures ∙ c.if-is_normal.true))
