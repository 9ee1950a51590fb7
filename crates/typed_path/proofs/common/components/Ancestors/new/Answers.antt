use Rattle.std.proofs.Common.{ap, ◌∙◌}
use Rattle.typed_path.specs.components.{comps}
use Rattle.typed_path.specs.queries.{readings_above}
use Rattle.typed_path.specs.views.PathViews.{components_slice, path_bytes}
use Rattle.typed_path.proofs.lemmas.queries.Parents.{ancestors-reading}
use Rattle.typed_path.proofs.common.components.Ancestors.new.Goals as goal

pub returns : goal.returns
returns g c =
    let d = g.T.Encoding.dialect in
    let t = path_bytes c.args.path in
    ap (λ cs. readings_above cs (components_slice c.components.result)) c.components.ensures.items
    ∙ ap (readings_above (comps d t)) c.components.ensures.slice
    ∙ ancestors-reading d t
