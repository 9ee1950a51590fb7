use Rattle.std.proofs.Common.{arith}
use Rattle.std.proofs.lemmas.List.{take_rest}
use Rattle.typed_path.specs.components.{is_separator}
use Rattle.typed_path.proofs.lemmas.lists.Lists.{split-none_passes, split-at_first, open-at_first}
use Rattle.typed_path.proofs.scan.separators.cut_at_separator.Goals as goal

pub returns-then-at-text-clause-pieces : goal.returns-then-at-text-clause-pieces
returns-then-at-text-clause-pieces c = grind (arith, take_rest, split-at_first)

pub returns-then-at-text-clause-open : goal.returns-then-at-text-clause-open
returns-then-at-text-clause-open c = open-at_first (is_separator c.args.separators) c.args.text.now c.first_in-at.result c.first_in-at.ensures.first c.if-at-text.true

pub returns-clause-pieces : goal.returns-clause-pieces
returns-clause-pieces c = split-none_passes (is_separator c.args.separators) c.args.text.now (omega (arith, c.first_in-at.ensures.first, c.if-at-text.false))
