use Rattle.std.proofs.Common.{◌≡◌, ◌+◌, ◌≤◌, length}
use Rattle.std.specs.List.{starts_with}
use Rattle.std.specs.Str.{bytes_eq}
use Rattle.typed_path.specs.views.BodyViews.{body_items}
use Rattle.typed_path.specs.places.{names_under}
use Rattle.typed_path.proofs.common.within.begin_alike.Given as goal

abbrev pub invariant-deeper : goal.invariant-deeper
invariant-deeper l = record {
  fits : l.owed + length (body_items l.rest) ≤ length (body_items l.fn.rest);
  size : length (names_under l.owed (body_items l.rest)) + l.counter ≡ length (names_under 0 (body_items l.fn.rest));
  answer : starts_with bytes_eq (names_under l.owed (body_items l.rest)) (names_under 0 (body_items l.fn.base))
      ≡ starts_with bytes_eq (names_under 0 (body_items l.fn.rest)) (names_under 0 (body_items l.fn.base));
}

abbrev pub invariant-names : goal.invariant-names
invariant-names l = record {
  fits : l.owed + length (body_items l.rest) ≤ length (body_items l.fn.rest);
  base_fits : l.base_owed + length (body_items l.base) ≤ length (body_items l.fn.base);
  size : length (names_under l.owed (body_items l.rest)) ≡ length (names_under l.base_owed (body_items l.base));
  answer : starts_with bytes_eq (names_under l.owed (body_items l.rest)) (names_under l.base_owed (body_items l.base))
      ≡ starts_with bytes_eq (names_under 0 (body_items l.fn.rest)) (names_under 0 (body_items l.fn.base));
}

abbrev pub decreases-names : goal.decreases-names
decreases-names l = l.base_owed + length (body_items l.base)
