use Rattle.std.proofs.Common.{◌≡◌, ◌+◌, ◌≤◌, length}
use Rattle.typed_path.specs.places.{names_under, unmet_under}
use Rattle.typed_path.specs.views.BodyViews.{body_items}
use Rattle.typed_path.proofs.common.lead.depth_of.Given as goal

abbrev pub invariant-names : goal.invariant-names
invariant-names l = record {
  counted : l.names + length (names_under l.owed (body_items l.rest)) ≡ length (names_under 0 (body_items l.fn.rest));
  unmet : unmet_under l.owed (body_items l.rest) ≡ unmet_under 0 (body_items l.fn.rest);
  within : l.names + l.owed + length (body_items l.rest) ≤ length (body_items l.fn.rest);
}

abbrev pub decreases-names : goal.decreases-names
decreases-names l = l.owed + length (body_items l.rest)
