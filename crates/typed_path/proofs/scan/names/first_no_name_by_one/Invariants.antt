use Rattle.std.proofs.Common.{◌-◌, ◌≤◌}
use Rattle.std.specs.Slice.Scan.{HoldsNowhere}
use Rattle.typed_path.specs.changes.{begins_no_name_at}
use Rattle.typed_path.proofs.scan.names.first_no_name_by_one.Given as goal

abbrev pub invariant-loop-at : goal.invariant-loop-at
invariant-loop-at l = record {
  within : l.at ≤ l.to;
  passed : HoldsNowhere (begins_no_name_at l.pair l.text) 0 l.at;
}

abbrev pub decreases-loop-at : goal.decreases-loop-at
decreases-loop-at l = l.to - l.at
