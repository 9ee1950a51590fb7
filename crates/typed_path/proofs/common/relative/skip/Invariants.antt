use Rattle.std.proofs.Common.{◌≡◌, ◌+◌, ◌-◌, ◌≤◌, length, take}
use Rattle.typed_path.specs.views.BodyViews.{body_items}
use Rattle.typed_path.specs.places.{names_under}
use Rattle.typed_path.proofs.common.relative.skip.Given as goal

abbrev pub invariant-names : goal.invariant-names
invariant-names l = record {
  left : names_under l.owed (body_items l.rest) ≡ take (length (names_under l.fn.owed (body_items l.fn.rest)) - l.counter) (names_under l.fn.owed (body_items l.fn.rest));
  fits : l.owed + length (body_items l.rest) ≤ l.fn.owed + length (body_items l.fn.rest);
}
