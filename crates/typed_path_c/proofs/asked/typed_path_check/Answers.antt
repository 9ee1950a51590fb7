use Rattle.std.proofs.Common.{sym, ap, ◌∙◌}
use Rattle.typed_path.specs.components.{unix, windows}
use Rattle.typed_path_c.specs.Answers.{dialect_named}
use Rattle.typed_path_c.proofs.Held.{held-in}
use Rattle.typed_path_c.proofs.asked.typed_path_check.Goals as goal

pub returns-in-0-clause-contained : goal.returns-in-0-clause-contained
returns-in-0-clause-contained c d base named accepted =
    held-in d unix base c.args.path.now c.check.result (sym (ap dialect_named c.in-0.is) ∙ named) c.check.ensures accepted

pub returns-in-1-clause-contained : goal.returns-in-1-clause-contained
returns-in-1-clause-contained c d base named accepted =
    held-in d windows base c.args.path.now c.check-in-1.result (sym (ap dialect_named c.in-1.is) ∙ named) c.check-in-1.ensures accepted
