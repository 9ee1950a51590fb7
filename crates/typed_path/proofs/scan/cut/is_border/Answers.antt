use Rattle.std.proofs.Common.{sym, ◌∙◌}
use Rattle.typed_path.proofs.scan.cut.is_border.Goals as goal
use Rattle.typed_path.proofs.lemmas.components.Cuts.{body-ended, body-begun}

pub returns-then-contains : goal.returns-then-contains
returns-then-contains c holds some at =
    body-ended c.args.separators at c.args.front.now _ c.args.rest.now _ c.in-Some.ensures.cases.0 (sym c.contains.ensures ∙ c.if-contains.true)

pub returns-else-contains : goal.returns-else-contains
returns-else-contains c holds some at =
    body-begun c.args.separators at c.args.front.now c.args.rest.now _ _ some c.in-Some-split_first.ensures.cases.0 (sym c.contains-else-contains.ensures ∙ holds)
