use Rattle.std.proofs.Common.{[], sym, ◌∙◌, refl}
use Rattle.std.proofs.lemmas.Bool.{not-true}
use Rattle.std.proofs.lemmas.Result.{IfOk-weaker}
use Rattle.typed_path.proofs.windows.normal.put_segments.Goals as goal

pub put_undriven-requires-clause-free : goal.put_undriven-requires-clause-free
put_undriven-requires-clause-free c = not-true _ (sym c.is_free_of.ensures ∙ c.if-is_free_of.true)

-- no name stands behind the head at first
pub returns-clause-ok : goal.returns-clause-ok
returns-clause-ok c = IfOk-weaker c.put_one_by_one.result _ _ (λ plain rows done head size are. rows done head c.args.path.now [] size are tt refl) c.put_one_by_one.ensures.ok
