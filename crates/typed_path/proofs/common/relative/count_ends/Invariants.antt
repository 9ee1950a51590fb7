use Rattle.std.proofs.Common.{◌≡◌, ◌≤◌, ◌+◌, length}
use Rattle.std.specs.List.{slice_split}
use Rattle.typed_path.specs.components.{is_separator}
use Rattle.typed_path.proofs.common.relative.count_ends.Given as goal

abbrev pub invariant-ends : goal.invariant-ends
invariant-ends l = record {
  sum : l.count + length (slice_split (is_separator l.separators) l.rest) ≡ length (slice_split (is_separator l.separators) l.text);
  within : l.count + length l.rest ≤ length l.text;
}

abbrev pub decreases-ends : goal.decreases-ends
decreases-ends l = length l.rest
