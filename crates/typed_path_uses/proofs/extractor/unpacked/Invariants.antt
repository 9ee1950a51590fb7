use Rattle.std.proofs.Common.{◌≡◌, ◌+◌, ◌++◌, true, map, drop, vec_len, Some}
use Rattle.std.specs.List.{All}
use Rattle.typed_path.specs.views.PathViews.{path_bytes}
use Rattle.typed_path.specs.changes.{fault}
use Rattle.typed_path.specs.promises.{keeps_prefix, IsBelow}
use Rattle.typed_path_uses.specs.Uses.{joined_entries, faulty}
use Rattle.typed_path_uses.proofs.extractor.unpacked.Given as goal

abbrev pub invariant-names : goal.invariant-names
invariant-names g l =
    let d = g.T.Encoding.dialect in
    record {
      below : keeps_prefix d (path_bytes l.base) ≡ true → All (λ p. IsBelow d (path_bytes l.base) p.bytes) l.unpacking.targets.items;
      targets : map (λ p. p.bytes) l.unpacking.targets.items ++ joined_entries d (path_bytes l.base) (drop l.name-index l.names) ≡ joined_entries d (path_bytes l.base) l.names;
      names : map (λ r. r.name) l.unpacking.refused.items ++ faulty d (drop l.name-index l.names) ≡ faulty d l.names;
      refused : All (λ r. fault d r.name.now ≡ Some r.fault) l.unpacking.refused.items;
      all : vec_len l.unpacking.targets + vec_len l.unpacking.refused ≡ l.name-index;
    }
