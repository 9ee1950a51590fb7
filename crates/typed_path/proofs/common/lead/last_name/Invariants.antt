use Rattle.std.proofs.Common.{◌≡◌, ◌+◌, ◌≤◌, length}
use Rattle.typed_path.specs.views.BodyViews.{body_items}
use Rattle.typed_path.specs.places.{names_under, unmet_under}
use Rattle.typed_path.proofs.common.lead.last_name.Given as goal

abbrev pub decreases-steps : goal.decreases-steps
decreases-steps l = length (body_items l.rest)

abbrev pub invariant-steps : goal.invariant-steps
invariant-steps l = record {
  names : names_under l.owed (body_items l.rest) ≡ names_under l.fn.owed (body_items l.fn.rest);
  unmet : unmet_under l.owed (body_items l.rest) ≡ unmet_under l.fn.owed (body_items l.fn.rest);
  within : l.owed + length (body_items l.rest) ≤ l.fn.owed + length (body_items l.fn.rest);
}
