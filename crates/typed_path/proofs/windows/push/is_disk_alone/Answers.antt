use Rattle.std.proofs.Common.{◌∙◌, ne_eqb}
use Rattle.typed_path.proofs.lemmas.changes.WindowsPushes.{no_disk_alone}
use Rattle.typed_path.proofs.windows.push.is_disk_alone.Goals as goal

pub returns-else-path-eq2 : goal.returns-else-path-eq2
returns-else-path-eq2 c = ne_eqb _ 2 c.if-path-eq2.false ∙ no_disk_alone c.args.path.now (ne_eqb _ 2 c.if-path-eq2.false)
