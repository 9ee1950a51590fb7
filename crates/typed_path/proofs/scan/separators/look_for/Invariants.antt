use Rattle.std.proofs.Common.{◌≡◌, ◌≤◌, ◌-◌, true, drop}
use Rattle.std.specs.Slice.Scan.{HoldsNowhere}
use Rattle.typed_path.specs.changes.{has_device, has_device_behind, stray_of_at, dot_pair_at}
use Rattle.typed_path.proofs.scan.separators.look_for.Given as goal

abbrev pub invariant-wholes : goal.invariant-wholes
invariant-wholes l = record {
  within : l.at ≤ l.len;
  passed : HoldsNowhere (stray_of_at l.strays l.text) 0 l.at;
  unpaired : l.dots ≡ true → HoldsNowhere (dot_pair_at l.text) 0 l.at;
  same : has_device l.text ≡ has_device_behind (drop l.at l.text);
}

abbrev pub decreases-wholes : goal.decreases-wholes
decreases-wholes l = l.len - l.at
