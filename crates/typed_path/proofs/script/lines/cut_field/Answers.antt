use Rattle.typed_path.proofs.lemmas.script.Lines.{field-before, line-before, line-whole}
use Rattle.typed_path.proofs.script.lines.cut_field.Goals as goal

pub returns-then-at-input-clause-none : goal.returns-then-at-input-clause-none
returns-then-at-input-clause-none c = line-whole c.args.input.now c.first_between-at.result c.first_between-at.ensures c.if-at-input.true

pub returns-clause-field : goal.returns-clause-field
returns-clause-field c = field-before c.args.input.now c.first_between-at.result c.first_between-at.ensures

pub returns-clause-line : goal.returns-clause-line
returns-clause-line c = line-before c.args.input.now c.first_between-at.result c.first_between-at.ensures
