use Rattle.std.proofs.Common.{◌≡◌, ◌++◌, true, map, drop}
use Rattle.typed_path.specs.views.PathViews.{path_bytes}
use Rattle.typed_path.specs.changes.{push}
use Rattle.typed_path.specs.promises.{keeps_prefix}
use Rattle.typed_path_uses.specs.Uses.{places, places_within, first_fault}
use Rattle.typed_path_uses.proofs.extractor.targets.Given as goal

abbrev pub invariant-names : goal.invariant-names
invariant-names g l =
    let d = g.T.Encoding.dialect in
    let base = path_bytes l.base in
    record {
      places : keeps_prefix d base ≡ true → places d (map (λ p. p.bytes) l.targets.items) ++ places_within d base (drop l.name-index l.names) ≡ places_within d base l.names;
      joined : map (λ p. p.bytes) l.targets.items ++ map (λ name. push d base name.now) (drop l.name-index l.names) ≡ map (λ name. push d base name.now) l.names;
      faults : first_fault d (drop l.name-index l.names) ≡ first_fault d l.names;
    }
