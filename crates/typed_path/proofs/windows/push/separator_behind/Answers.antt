use Rattle.std.proofs.Common.{rules}
use Rattle.typed_path.proofs.lemmas.changes.WindowsPushes.{ended-empty, ended-ended}
use Rattle.typed_path.proofs.windows.push.separator_behind.Goals as goal
use Rattle.typed_path.proofs.windows.push.separator_behind.Goals.{then-base-lt1, else-base-lt1+in-92-1}

pub returns-in-empty-clause-text : goal.returns-in-empty-clause-text
returns-in-empty-clause-text c = elim c.in-empty-1.branch [ then-base-lt1 w ↦ ended-empty c.args.base.now (search rules) | else-base-lt1+in-92-1 w ↦ ended-ended c.args.base.now (search rules) ]
