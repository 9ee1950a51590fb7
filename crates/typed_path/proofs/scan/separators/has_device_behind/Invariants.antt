use Rattle.std.proofs.Common.{◌≡◌, ◌≤◌, ◌-◌, length, drop}
use Rattle.typed_path.specs.changes.{has_device_behind}
use Rattle.typed_path.proofs.scan.separators.has_device_behind.Given as goal

abbrev pub invariant-segments : goal.invariant-segments
invariant-segments l = record {
  within : l.at ≤ length l.text;
  same : has_device_behind l.text ≡ has_device_behind (drop l.at l.text);
}

abbrev pub decreases-segments : goal.decreases-segments
decreases-segments l = l.len - l.at
