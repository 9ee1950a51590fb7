use Rattle.std.proofs.Common.{sym, ap, subst, arith}
use Rattle.std.specs.Vec.{vec_capacity}
use Rattle.typed_path.specs.changes.{FitsPush, IsKnown}
use Rattle.typed_path.specs.views.PathViews.{path_bytes}
use Rattle.typed_path.proofs.common.path_buf.PathBuf.push_next.Goals as goal

pub returns-clause-succeeds : goal.returns-clause-succeeds
returns-clause-succeeds g c = λ known fits.
    let d = g.T.Encoding.dialect in
    let room = vec_capacity c.self.inside.inner in
    let path = path_bytes c.args.path in
    let bytes = ap (λ o. o.bytes) c.self.view_is in
    let here = subst (λ n. FitsPush d n c.self.inside.inner.items path) (sym (ap (λ o. o.capacity) c.self.view_is)) (subst (λ t. FitsPush d c.args.self.now.capacity t path) (sym bytes) fits) in
    c.push_next.ensures.succeeds room (omega arith) (subst (IsKnown d c.args.known) (sym bytes) known) (subst (FitsPush d room c.self.inside.inner.items) (sym c.as_bytes.ensures) here)
