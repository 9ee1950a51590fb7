use Rattle.std.proofs.Common.{sym, length, ◌-◌, ◌∙◌}
use Rattle.typed_path.proofs.lemmas.scan.Blanks.{last-separator}
use Rattle.typed_path.proofs.lemmas.scan.LastComponent.{end-cut}
use Rattle.typed_path.proofs.scan.names.before_last_separator.Goals as goal
use Rattle.typed_path.proofs.lemmas.lists.Lists.{free-first}

pub returns-in-len1-up-clause-body : goal.returns-in-len1-up-clause-body
returns-in-len1-up-clause-body c = λ at. last-separator c.args.separators at c.args.text.now c.in-len1-up.len_at_least (sym c.contains.ensures ∙ c.if-contains.true) (sym c.is_empty.ensures ∙ c.if-not-is_empty.true)

pub returns-in-len1-up-clause-bytes : goal.returns-in-len1-up-clause-bytes
returns-in-len1-up-clause-bytes c = λ p free. free-first p c.args.text.now (length c.args.text.now - 1) free

pub returns-in-len1-up-clause-later : goal.returns-in-len1-up-clause-later
returns-in-len1-up-clause-later c = end-cut c.args.separators c.args.text.now c.in-len1-up.len_at_least (sym c.contains.ensures ∙ c.if-contains.true)
