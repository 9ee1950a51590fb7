use Rattle.std.proofs.Common.{◌≡◌, ◌≤◌, length}
use Rattle.typed_path.specs.places.{names_left}
use Rattle.typed_path.proofs.unix.encoding.behind_parents.Given as goal

abbrev pub invariant-parents : goal.invariant-parents
invariant-parents l = record {
  same : names_left l.text ≡ names_left l.left;
  shorter : length l.left ≤ length l.text;
}

abbrev pub decreases-parents : goal.decreases-parents
decreases-parents l = length l.left
