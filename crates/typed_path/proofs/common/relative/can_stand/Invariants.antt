use Rattle.std.proofs.Common.{◌≡◌, ◌+◌, ◌-◌, ◌≤◌, length, take, drop, true}
use Rattle.typed_path.specs.views.BodyViews.{body_items}
use Rattle.typed_path.specs.places.{can_stand, names_under}
use Rattle.typed_path.proofs.common.relative.can_stand.Given as goal

abbrev pub invariant-names : goal.invariant-names
invariant-names l = record {
  left : names_under l.owed (body_items l.rest) ≡ take (length (names_under 0 (body_items l.fn.rest)) - l.counter) (names_under 0 (body_items l.fn.rest));
  fits : l.owed + length (body_items l.rest) ≤ length (body_items l.fn.rest);
  stand : can_stand (drop (length (names_under 0 (body_items l.fn.rest)) - l.counter) (names_under 0 (body_items l.fn.rest))) ≡ true;
}
