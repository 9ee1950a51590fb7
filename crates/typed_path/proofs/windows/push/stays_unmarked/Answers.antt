use Rattle.std.proofs.Common.{ne_eqb, sym, ◌∙◌}
use Rattle.std.proofs.lemmas.Bool.{not-true}
use Rattle.typed_path.proofs.lemmas.changes.WindowsPushes.{unmarked-third, unmarked-two}
use Rattle.typed_path.proofs.windows.push.stays_unmarked.Goals as goal

pub returns-in-len3-up : goal.returns-in-len3-up
returns-in-len3-up c = λ told. unmarked-third c.args.path.now c.in-len3-up.len_at_least (ne_eqb _ _ c.if-third-ne63.true)

pub returns-in_default : goal.returns-in_default
returns-in_default c = λ told. unmarked-two c.args.path.now (sym c.begins_with_two.ensures ∙ not-true _ told)
