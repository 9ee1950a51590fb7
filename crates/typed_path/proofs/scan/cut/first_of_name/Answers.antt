use Rattle.std.proofs.Common.{sym, ap, ◌∙◌}
use Rattle.std.specs.List.{before_first}
use Rattle.typed_path.specs.components.{is_separator}
use Rattle.typed_path.proofs.scan.cut.first_of_name.Goals as goal
use Rattle.typed_path.proofs.lemmas.lists.Lists.{before_first-cons}

pub returns : goal.returns
returns c =
    let p = is_separator c.args.separators in (
      before_first p c.in_ok-first.field-0-1.now,
      ap (before_first p) c.in_ok-first.ensures.cases.0 ∙ before_first-cons p c.in_ok-first.first.now c.in_ok-first.field-0-1.now (sym c.if-contains.ensures),
    )
