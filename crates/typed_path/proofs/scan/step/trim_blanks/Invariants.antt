use Rattle.std.proofs.Common.{◌≡◌, ◌≤◌, ◌<◌, ℕ, take, length}
use Rattle.typed_path.specs.declared.scan.cursor.Begin.{Begin}
use Rattle.typed_path.specs.scan.{body_from, is_clean}
use Rattle.typed_path.proofs.scan.step.trim_blanks.Given as goal

abbrev pub invariant-blanks : goal.invariant-blanks
invariant-blanks l = record {
  within : l.end ≤ length l.text;
  some : 0 < length l.text → 0 < l.end;
  same : (begin : Begin) (at : ℕ) → body_from begin l.separators at (take l.end l.text) ≡ body_from begin l.separators at l.text;
  clean : (begin : Begin) → is_clean begin l.separators (take l.end l.text) ≡ is_clean begin l.separators l.text;
}

abbrev pub decreases-blanks : goal.decreases-blanks
decreases-blanks l = l.end
