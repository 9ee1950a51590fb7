use Rattle.typed_path_c.proofs.Stepped.{begins, steps_front}
use Rattle.typed_path_c.proofs.steps.typed_path_next.Goals as goal

pub returns-clause-begins : goal.returns-clause-begins
returns-clause-begins c = begins c.args.path.now

pub returns-clause-after : goal.returns-clause-after
returns-clause-after c = steps_front c.args.dialect c.args.path.now _ _ _ _ _ c.next.ensures.step
