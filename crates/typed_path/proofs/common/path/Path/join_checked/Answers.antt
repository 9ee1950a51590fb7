use Rattle.std.proofs.Common.{sym}
use Rattle.typed_path.specs.views.PathViews.{path_bytes}
use Rattle.typed_path.specs.changes.{push}
use Rattle.typed_path.proofs.common.path.Path.join_checked.Goals as goal
use Rattle.typed_path.proofs.lemmas.promises.Within.{lies_below}
use Rattle.typed_path.proofs.lemmas.promises.JoinedWithin.{stays_within}

pub returns-clause-below : goal.returns-clause-below
returns-clause-below g c =
    let d = g.T.Encoding.dialect in
    let base = path_bytes c.args.self in
    let path = c.as_bytes.result.now in
    rw c.in_ok-join.ensures
    (rw (sym c.as_bytes.ensures)
    (lies_below d base path (push d base path) (sym c.in_ok-check.ensures.refused) (c.in_ok-check.ensures.prefix base) (c.in_ok-check.ensures.contained base)))

pub returns-clause-within : goal.returns-clause-within
returns-clause-within g c = rw c.in_ok-join.ensures (rw (sym c.as_bytes.ensures) (stays_within g.T.Encoding.dialect (path_bytes c.args.self) c.as_bytes.result.now (sym c.in_ok-check.ensures.refused)))
