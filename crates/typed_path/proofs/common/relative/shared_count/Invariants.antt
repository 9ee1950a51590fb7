use Rattle.std.proofs.Common.{◌+◌, ◌≤◌, length}
use Rattle.typed_path.specs.views.BodyViews.{body_items}
use Rattle.typed_path.specs.places.{names_under, shared_count}
use Rattle.typed_path.proofs.lemmas.places.SharedFromBack.{Tells}
use Rattle.typed_path.proofs.common.relative.shared_count.Given as goal

abbrev pub invariant-names : goal.invariant-names
invariant-names l = record {
  fits : l.owed + length (body_items l.rest) ≤ length (body_items l.fn.rest);
  base_fits : l.base_owed + length (body_items l.base) ≤ length (body_items l.fn.base);
  tells : Tells (shared_count (names_under 0 (body_items l.fn.rest)) (names_under 0 (body_items l.fn.base))) (names_under l.owed (body_items l.rest)) (names_under l.base_owed (body_items l.base)) l.below l.met;
}

abbrev pub decreases-names : goal.decreases-names
decreases-names l = l.base_owed + length (body_items l.base)
