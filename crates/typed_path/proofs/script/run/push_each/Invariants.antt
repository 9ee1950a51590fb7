use Rattle.std.proofs.Common.{◌≡◌, ◌≤◌, map, take, drop}
use Rattle.typed_path.specs.changes.{push_all, FitsEach, IsKnown}
use Rattle.typed_path.proofs.script.run.push_each.Given as goal

abbrev pub invariant-others : goal.invariant-others
invariant-others g l = record {
  text : l.path.bytes ≡ push_all g.T.Encoding.dialect l.fn.path.bytes (take l.other-index (map (λ b. b.now) l.others));
  known : IsKnown g.T.Encoding.dialect l.known l.path.bytes;
  room : l.fn.path.capacity ≤ l.path.capacity;
  fits : FitsEach g.T.Encoding.dialect l.fn.path.capacity l.fn.path.bytes (map (λ b. b.now) l.others)
      → FitsEach g.T.Encoding.dialect l.fn.path.capacity l.path.bytes (drop l.other-index (map (λ b. b.now) l.others));
}
