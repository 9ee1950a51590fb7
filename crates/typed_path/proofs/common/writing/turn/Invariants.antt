use Rattle.std.proofs.Common.{◌≡◌, ◌≤◌, ◌-◌, ◌++◌, ℕ, length, take, drop, get_or}
use Rattle.typed_path.specs.scan.{turned}
use Rattle.typed_path.proofs.common.writing.turn.Given as goal

abbrev pub invariant-bytes : goal.invariant-bytes
invariant-bytes l = record {
  low : l.fn.from ≤ l.at;
  end : l.at-end ≡ length l.fn.text;
  size : length l.text ≡ length l.fn.text;
  done : take l.at l.text ≡ take l.fn.from l.fn.text ++ turned l.fn.separators l.fn.byte (take (l.at - l.fn.from) (drop l.fn.from l.fn.text));
  rest : (k : ℕ) → l.at ≤ k → get_or l.text k 0 ≡ get_or l.fn.text k 0;
}

abbrev pub decreases-bytes : goal.decreases-bytes
decreases-bytes l = l.at-end - l.at
