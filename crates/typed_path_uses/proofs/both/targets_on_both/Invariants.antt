use Rattle.std.proofs.Common.{◌≡◌, ◌++◌, map, drop}
use Rattle.std.specs.List.{All, AllByRecursion}
use Rattle.typed_path.specs.components.{parts_of, unix, windows}
use Rattle.typed_path.specs.views.PathViews.{path_bytes}
use Rattle.typed_path.specs.changes.{push}
use Rattle.typed_path.specs.promises.{LiesBelow}
use Rattle.typed_path_uses.proofs.both.targets_on_both.Given as goal

abbrev pub invariant-names : goal.invariant-names
invariant-names g l =
    let d = g.T.Encoding.dialect in
    let base = path_bytes l.base in
    record {
      alike :
          AllByRecursion (λ name. parts_of windows name.now ≡ parts_of unix name.now) (drop l.name-index l.names)
          → AllByRecursion (λ name. parts_of windows name.now ≡ parts_of unix name.now) l.names;
      joined : map (λ p. p.bytes) l.targets.items ++ map (λ name. push d base name.now) (drop l.name-index l.names) ≡ map (λ name. push d base name.now) l.names;
      below : All (λ p. LiesBelow d base p.bytes) l.targets.items;
    }
