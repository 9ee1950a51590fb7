use Rattle.std.proofs.Common.{sym, ◌∙◌}
use Rattle.typed_path.proofs.lemmas.changes.ValidPaths.{unlike-none, unended-none}
use Rattle.typed_path.proofs.scan.separators.begins_with_device.Goals as goal

pub returns-then-not-begins_like_device : goal.returns-then-not-begins_like_device
returns-then-not-begins_like_device c = sym (unlike-none c.args.text.now (sym c.begins_like_device.ensures ∙ c.if-not-begins_like_device.true))

pub returns-else-may_end_stem : goal.returns-else-may_end_stem
returns-else-may_end_stem c = c.if-may_end_stem.false ∙ sym (unended-none c.args.text.now (sym c.may_end_stem.ensures ∙ c.if-may_end_stem.false))
