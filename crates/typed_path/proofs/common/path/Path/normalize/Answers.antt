use Rattle.std.proofs.Common.{◌≡◌, ◌++◌, ap₂, sym, subst, ◌∙◌}
use Rattle.typed_path.specs.places.{normal_text}
use Rattle.typed_path.specs.views.PathViews.{path_bytes}
use Rattle.typed_path.specs.promises.{HasNormalForm}
use Rattle.typed_path.proofs.lemmas.promises.WindowsStable.{normal_form}
use Rattle.typed_path.proofs.common.path.Path.normalize.Goals as goal

pub returns-clause-form : goal.returns-clause-form
returns-clause-form g c =
    let d = g.T.Encoding.dialect in
    let t = path_bytes c.args.self in
    let text : c.from_vec.result.bytes ≡ normal_text d t = c.from_vec.ensures.bytes ∙ c.in_ok-put_normal.ensures.ok ∙ ap₂ (λ begun path. begun ++ normal_text d path) c.in_ok-text.ensures.items c.as_bytes-path.ensures in
    subst (λ u. HasNormalForm d t u) (sym text) (normal_form d t)
