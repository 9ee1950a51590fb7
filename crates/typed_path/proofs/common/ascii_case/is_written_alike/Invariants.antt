use Rattle.std.proofs.Common.{◌≡◌, ◌<◌, ℕ, get_or}
use Rattle.typed_path.specs.order.{lowered_behind}
use Rattle.typed_path.proofs.common.ascii_case.is_written_alike.Given as goal

abbrev pub invariant-loop-at : goal.invariant-loop-at
invariant-loop-at l = (k : ℕ) → k < l.at → get_or (lowered_behind l.kept l.own.text.now) k 0 ≡ get_or (lowered_behind l.others l.other.text.now) k 0
