use Rattle.std.proofs.Common.{not, ◌==◌, ◌-◌, ◌≤◌}
use Rattle.std.specs.Slice.Scan.{HoldsNowhere}
use Rattle.typed_path.specs.scan.{differs_in}
use Rattle.typed_path.proofs.scan.lanes.first_place_of_difference.Given as goal

abbrev pub invariant-pairs : goal.invariant-pairs
invariant-pairs g l = record {
  high : l.at ≤ l.len;
  passed : HoldsNowhere (differs_in (not (g.row.LOWER == 0)) l.text l.other) 0 l.at;
}

abbrev pub decreases-pairs : goal.decreases-pairs
decreases-pairs g l = l.len - l.at

abbrev pub invariant-wholes : goal.invariant-wholes
invariant-wholes g l = record {
  high : l.at ≤ l.len;
  passed : HoldsNowhere (differs_in (not (g.row.LOWER == 0)) l.text l.other) 0 l.at;
}

abbrev pub decreases-wholes : goal.decreases-wholes
decreases-wholes g l = l.len - l.at
