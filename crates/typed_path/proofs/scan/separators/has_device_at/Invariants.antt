use Rattle.std.proofs.Common.{◌≡◌, ◌≤◌, ◌-◌, drop}
use Rattle.typed_path.specs.changes.{TellsBegins, has_device_behind}
use Rattle.typed_path.proofs.scan.separators.has_device_at.Given as goal

abbrev pub invariant-marks : goal.invariant-marks
invariant-marks l = record {
  low : l.from ≤ l.at;
  high : l.at ≤ l.to;
  marked : TellsBegins l.text l.at (l.to - l.at) l.left;
  same : has_device_behind (drop l.from l.text) ≡ has_device_behind (drop l.at l.text);
}

abbrev pub decreases-marks : goal.decreases-marks
decreases-marks l = l.to - l.at
