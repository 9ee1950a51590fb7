use Rattle.typed_path_c.proofs.Stepped.{steps_back}
use Rattle.typed_path_c.proofs.steps.typed_path_next_back.Goals as goal

pub returns-clause-after : goal.returns-clause-after
returns-clause-after c = steps_back c.args.dialect c.args.path.now _ _ _ _ _ c.next_back.ensures.step
