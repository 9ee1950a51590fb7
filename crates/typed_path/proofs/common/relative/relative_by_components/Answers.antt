use Rattle.std.proofs.Common.{arith}
use Rattle.typed_path.proofs.lemmas.components.Cuts.{comps-count}
use Rattle.typed_path.proofs.common.relative.relative_by_components.Goals as goal

pub steps_between-requires : goal.steps_between-requires
steps_between-requires g c = grind (arith, comps-count)

pub returns-in_err-text-in-Some-clause-free : goal.returns-in_err-text-in-Some-clause-free
returns-in_err-text-in-Some-clause-free g c = grind arith

pub returns-in_err-put_steps-in-Some-clause-free : goal.returns-in_err-put_steps-in-Some-clause-free
returns-in_err-put_steps-in-Some-clause-free g c = grind arith

pub returns-in_ok-put_steps-in-Some-clause-bytes : goal.returns-in_ok-put_steps-in-Some-clause-bytes
returns-in_ok-put_steps-in-Some-clause-bytes g c = grind arith

pub returns-in-None-clause-bytes : goal.returns-in-None-clause-bytes
returns-in-None-clause-bytes g c = grind arith
