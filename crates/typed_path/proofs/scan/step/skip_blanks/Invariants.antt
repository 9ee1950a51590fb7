use Rattle.std.proofs.Common.{◌≡◌, ◌≤◌, ◌+◌, ◌-◌, ℕ, drop, length}
use Rattle.typed_path.specs.components.{later_body}
use Rattle.typed_path.proofs.scan.step.skip_blanks.Given as goal

abbrev pub invariant-loop-skipped : goal.invariant-loop-skipped
invariant-loop-skipped l = record {
  within : l.start ≤ length l.text;
  same : (at : ℕ) → later_body l.separators at l.text ≡ later_body l.separators (at + l.start) (drop l.start l.text);
}

abbrev pub decreases-loop-skipped : goal.decreases-loop-skipped
decreases-loop-skipped l = length l.text - l.start
