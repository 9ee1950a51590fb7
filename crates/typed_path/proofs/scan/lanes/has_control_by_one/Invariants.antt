use Rattle.std.proofs.Common.{◌≡◌, ◌||◌, drop}
use Rattle.std.specs.List.{list_any}
use Rattle.typed_path.specs.queries.{is_control}
use Rattle.typed_path.proofs.scan.lanes.has_control_by_one.Given as goal

abbrev pub invariant-bytes : goal.invariant-bytes
invariant-bytes l = l.found || list_any is_control (drop l.byte-index l.text) ≡ list_any is_control l.text
