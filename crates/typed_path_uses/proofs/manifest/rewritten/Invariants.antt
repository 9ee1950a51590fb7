use Rattle.std.proofs.Common.{◌≡◌, ◌++◌, map, drop, Ok}
use Rattle.typed_path_uses.specs.Uses.{crossings}
use Rattle.typed_path_uses.proofs.manifest.rewritten.Given as goal

abbrev pub invariant-entries : goal.invariant-entries
invariant-entries g l =
    map (λ p. Ok p.bytes) l.paths.items ++ crossings g.T.Encoding.dialect g.U.Encoding.dialect (drop l.entry-index l.entries)
    ≡ crossings g.T.Encoding.dialect g.U.Encoding.dialect l.entries
