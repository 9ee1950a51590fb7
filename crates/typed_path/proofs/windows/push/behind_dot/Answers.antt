use Rattle.std.proofs.Common.{◌==◌, ◌&&◌, ap, sym, ◌∙◌, slice_index}
use Rattle.typed_path.specs.components.{dot}
use Rattle.typed_path.proofs.lemmas.changes.NamePieces.{dot-cut}
use Rattle.typed_path.proofs.windows.push.behind_dot.Goals as goal

pub returns-in-len2-up-clause-same : goal.returns-in-len2-up-clause-same
returns-in-len2-up-clause-same c = dot-cut c.args.path.now c.in-len2-up.len_at_least (ap (λ x. slice_index c.args.path.now 0 == dot && x) (sym c.contains.ensures) ∙ c.if-first-contains.true)
