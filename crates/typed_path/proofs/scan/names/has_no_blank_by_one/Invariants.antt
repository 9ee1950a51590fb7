use Rattle.std.proofs.Common.{◌≡◌, length}
use Rattle.typed_path.specs.scan.{has_blank_behind}
use Rattle.typed_path.proofs.scan.names.has_no_blank_by_one.Given as goal

abbrev pub invariant-bytes : goal.invariant-bytes
invariant-bytes l = has_blank_behind l.separators l.text ≡ has_blank_behind l.separators l.left

abbrev pub decreases-bytes : goal.decreases-bytes
decreases-bytes l = length l.left
