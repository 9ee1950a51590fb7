use Rattle.std.proofs.Common.{◌≡◌, ◌+◌, ◌≤◌, List, drop}
use Rattle.typed_path.specs.components.{Kind}
use Rattle.typed_path_uses.specs.Counts.{count_at, times}
use Rattle.typed_path_uses.proofs.counts.counted.Given as goal

abbrev pub invariant-names : goal.invariant-names
invariant-names g l =
    let d = g.T.Encoding.dialect in
    record {
      each : (ks : List Kind) → count_at d ks l.counts + times d ks (drop l.name-index l.names) ≡ times d ks l.names;
      few : (ks : List Kind) → count_at d ks l.counts ≤ l.name-index;
    }
