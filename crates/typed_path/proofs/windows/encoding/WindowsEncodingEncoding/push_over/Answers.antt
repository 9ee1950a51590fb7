use Rattle.std.proofs.Common.{◌≡◌, take, slice_range, subst, arith}
use Rattle.std.proofs.lemmas.List.{take_min}
use Rattle.std.specs.Vec.{vec_capacity}
use Rattle.typed_path.specs.components.{windows}
use Rattle.typed_path.specs.changes.{FitsPush}
use Rattle.typed_path.proofs.windows.encoding.WindowsEncodingEncoding.push_over.Goals as goal

-- the bytes that are kept
kept : (c : goal.After-push_at) → take c.args.kept c.args.path.now.items ≡ slice_range c.args.path.now.items 0 c.min-kept.result
kept c = grind (arith, take_min)

pub returns-clause-succeeds : goal.returns-clause-succeeds
returns-clause-succeeds c = λ fits.
    c.push_at.ensures.succeeds (vec_capacity c.args.path.now) (omega arith) tt (subst (λ t. FitsPush windows (vec_capacity c.args.path.now) t c.args.other.now) (kept c) fits)
