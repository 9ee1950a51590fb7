use Rattle.std.proofs.Common.{◌-◌, ◌≤◌}
use Rattle.std.specs.Slice.Scan.{HoldsNowhere}
use Rattle.typed_path.specs.changes.{nul_or_dot_pair_at}
use Rattle.typed_path.proofs.scan.lanes.has_nul_or_dot_pair_before.Given as goal

abbrev pub invariant-loop-at : goal.invariant-loop-at
invariant-loop-at l = record {
  within : l.at ≤ l.to;
  passed : HoldsNowhere (nul_or_dot_pair_at l.text) 0 l.at;
}

abbrev pub decreases-loop-at : goal.decreases-loop-at
decreases-loop-at l = l.to - l.at
