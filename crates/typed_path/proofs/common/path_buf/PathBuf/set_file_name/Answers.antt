use Rattle.std.proofs.Common.{◌≡◌, List, ℕ, length, take, sym, ap, subst, ◌∙◌}
use Rattle.typed_path.specs.changes.{FitsPush, without_file_name}
use Rattle.typed_path.specs.components.{Dialect}
use Rattle.typed_path.proofs.lemmas.queries.Parents.{without_file_name-front}
use Rattle.typed_path.proofs.common.path_buf.PathBuf.set_file_name.Goals as goal

-- the bytes that are kept are those of the path without its file name
kept_is : (d : Dialect) (kept bytes t : List ℕ) → kept ≡ without_file_name d t → bytes ≡ t
    → take (length kept) bytes ≡ without_file_name d t
kept_is d kept bytes t h e = rw h (rw e (without_file_name-front d t))

pub returns-clause-ok : goal.returns-clause-ok
returns-clause-ok g c =
    let d = g.T.Encoding.dialect in
    let kept : c.as_bytes-kept.result.now ≡ without_file_name d c.args.self.now.bytes =
    c.as_bytes-kept.ensures ∙ c.without_file_name.ensures ∙ ap (without_file_name d) c.as_path.ensures in
    rw (kept_is d _ _ _ kept (ap (λ o. o.bytes) c.self.view_is)) at c.push_over.ensures.ok

pub returns-clause-succeeds : goal.returns-clause-succeeds
returns-clause-succeeds g c =
    let d = g.T.Encoding.dialect in
    let kept : c.as_bytes-kept.result.now ≡ without_file_name d c.args.self.now.bytes =
    c.as_bytes-kept.ensures ∙ c.without_file_name.ensures ∙ ap (without_file_name d) c.as_path.ensures in
    let room = ap (λ o. o.capacity) c.self.view_is in
    let succeeds = rw (kept_is d _ _ _ kept (ap (λ o. o.bytes) c.self.view_is)) at c.push_over.ensures.succeeds in
    λ fits. succeeds (subst (λ n. FitsPush d n (without_file_name d c.args.self.now.bytes) c.args.name.now) (sym room) fits)
