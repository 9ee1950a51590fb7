use Rattle.std.proofs.Common.{◌≡◌, length, take, sym, ap, ◌∙◌, Some, unwrap_or}
use Rattle.typed_path.specs.queries.{parent_of}
use Rattle.typed_path.specs.views.PathViews.{path_bytes}
use Rattle.typed_path.proofs.lemmas.queries.Parents.{parent-front}
use Rattle.typed_path.proofs.common.path_buf.PathBuf.pop.Goals as goal

pub returns-clause-bytes : goal.returns-clause-bytes
returns-clause-bytes g c =
    let d = g.T.Encoding.dialect in
    let t = c.args.self.now.bytes in
    let some : parent_of d t ≡ Some (path_bytes c.in-Some.parent) = ap (parent_of d) (sym c.as_path.ensures) ∙ sym c.in-Some.ensures in
    c.truncate.ensures.items
    ∙ ap (λ p. take (length p) c.self.inside.inner.items) c.as_bytes-kept.ensures
    ∙ ap (λ o. take (length (path_bytes c.in-Some.parent)) o.bytes) c.self.view_is
    ∙ parent-front d t (path_bytes c.in-Some.parent) some
    ∙ ap (λ o. unwrap_or o t) (sym some)
