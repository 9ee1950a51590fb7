use Rattle.std.proofs.Common.{◌≡◌, ◌≤◌, ℕ, List, fold, length}
use Rattle.std.specs.List.{slice_split}
use Rattle.typed_path.specs.components.{is_separator}
use Rattle.typed_path.specs.places.{settled, HaveNoDisks}
use Rattle.typed_path.proofs.common.writing.behind_segment.Given as goal

abbrev pub invariant-blanks : goal.invariant-blanks
invariant-blanks l = record {
  same : (names : List (List ℕ)) → fold settled names (slice_split (is_separator l.separators) l.rest) ≡ fold settled names (slice_split (is_separator l.separators) l.left);
  drives : HaveNoDisks (slice_split (is_separator l.separators) l.rest) → HaveNoDisks (slice_split (is_separator l.separators) l.left);
  shorter : length l.left ≤ length l.rest;
}

abbrev pub decreases-blanks : goal.decreases-blanks
decreases-blanks l = length l.left
