use Rattle.std.proofs.Common.{sym, ◌∙◌}
use Rattle.std.proofs.lemmas.Bool.{not-true}
use Rattle.typed_path.proofs.lemmas.queries.Portable.{plain-faultless}
use Rattle.typed_path.proofs.common.portable.are_plain_names.Goals as goal

pub returns-clause-names : goal.returns-clause-names
returns-clause-names c =
    λ at told. plain-faultless c.args.separators at c.args.text.now
    (sym c.strays_on_windows.ensures ∙ c.if-strays_on_windows.false)
    (sym c.has_control.ensures ∙ c.if-has_control.false)
    (sym c.is_text.ensures ∙ c.if-not-is_text.false)
    (sym c.has_offending_segment.ensures ∙ not-true _ told)
