use Rattle.std.proofs.Common.{◌≡◌, ◌||◌, drop}
use Rattle.std.specs.List.{list_any}
use Rattle.typed_path.specs.changes.{is_forbidden_or}
use Rattle.typed_path.proofs.scan.lanes.has_forbidden_by_one.Given as goal

abbrev pub invariant-bytes : goal.invariant-bytes
invariant-bytes l = l.forbidden || list_any (is_forbidden_or l.pair) (drop l.byte-index l.text) ≡ list_any (is_forbidden_or l.pair) l.text
