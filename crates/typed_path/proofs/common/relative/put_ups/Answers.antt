use Rattle.std.proofs.Common.{append-nil, arith}
use Rattle.typed_path.proofs.lemmas.places.NearSteps.{ups-more}
use Rattle.typed_path.proofs.common.relative.put_ups.Goals as goal

pub ups-init : goal.ups-init
ups-init c = grind (arith, append-nil)

pub ups-preserved : goal.ups-preserved
ups-preserved c = grind (arith, ups-more, c.in_ok-put_row.ensures.ok, c.ups.invariant.put, c.put_row.ensures.room, c.ups.invariant.room, c.put_row.ensures.capacity, c.ups.invariant.capacity)

pub returns-in_err-put_row-clause-succeeds : goal.returns-in_err-put_row-clause-succeeds
returns-in_err-put_row-clause-succeeds c = grind arith
