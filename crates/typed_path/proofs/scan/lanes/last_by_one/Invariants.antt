use Rattle.std.proofs.Common.{◌-◌, ◌≤◌}
use Rattle.std.specs.Slice.Scan.{HoldsNowhere}
use Rattle.typed_path.specs.scan.{stands_at}
use Rattle.typed_path.proofs.scan.lanes.last_by_one.Given as goal

abbrev pub invariant-loop-at : goal.invariant-loop-at
invariant-loop-at l = record {
  low : l.from ≤ l.at;
  high : l.at ≤ l.to;
  passed : HoldsNowhere (stands_at l.pair l.text) l.at l.to;
}

abbrev pub decreases-loop-at : goal.decreases-loop-at
decreases-loop-at l = l.at - l.from
