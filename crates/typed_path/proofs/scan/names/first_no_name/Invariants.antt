use Rattle.std.proofs.Common.{◌-◌, ◌≤◌}
use Rattle.std.specs.Slice.Scan.{HoldsNowhere}
use Rattle.typed_path.specs.changes.{begins_no_name_at}
use Rattle.typed_path.proofs.scan.names.first_no_name.Given as goal

abbrev pub invariant-wholes : goal.invariant-wholes
invariant-wholes l = record {
  within : l.at ≤ l.to;
  passed : HoldsNowhere (begins_no_name_at l.pair l.text) 0 l.at;
}

abbrev pub decreases-wholes : goal.decreases-wholes
decreases-wholes l = l.to - l.at
