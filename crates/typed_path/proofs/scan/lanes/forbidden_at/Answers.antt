use Rattle.typed_path.specs.changes.{is_forbidden_or}
use Rattle.typed_path.proofs.lemmas.scan.Searches.{lanes-or, lanes-of, mask-lanes}
use Rattle.typed_path.proofs.scan.lanes.forbidden_at.Goals as goal
use lib.Lanes.{chunk}

pub returns : goal.returns
returns g c =
    let text = c.args.text.now in
    let at = c.args.at in
    let n = g.row.N in
    let fits = c.requires.in_range in
    let xs = chunk at n text in
    mask-lanes (is_forbidden_or c.args.pair) at n text fits c.requires.lanes.1
    (lanes-or _ _ xs (lanes-or _ _ xs (lanes-or _ _ xs (lanes-or _ _ xs (lanes-or _ _ xs (lanes-or _ _ xs (lanes-or _ _ xs (lanes-or _ _ xs (lanes-of 58 at n text fits) (lanes-of 63 at n text fits)) (lanes-of 42 at n text fits)) (lanes-of 34 at n text fits)) (lanes-of 62 at n text fits)) (lanes-of 60 at n text fits)) (lanes-of 124 at n text fits)) (lanes-of 0 at n text fits)) (lanes-or _ _ xs (lanes-of c.args.pair.0 at n text fits) (lanes-of c.args.pair.1 at n text fits)))
