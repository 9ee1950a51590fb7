use Rattle.std.proofs.Common.{not, ◌==◌, ◌-◌, ◌≤◌}
use Rattle.std.specs.Slice.Scan.{HoldsNowhere}
use Rattle.typed_path.specs.scan.{differs_in}
use Rattle.typed_path.proofs.scan.lanes.first_difference_by_one.Given as goal

abbrev pub invariant-loop-at : goal.invariant-loop-at
invariant-loop-at g l = record {
  high : l.at ≤ l.to;
  passed : HoldsNowhere (differs_in (not (g.row.LOWER == 0)) l.text l.other) 0 l.at;
}

abbrev pub decreases-loop-at : goal.decreases-loop-at
decreases-loop-at g l = l.to - l.at
