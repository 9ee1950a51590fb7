use Rattle.std.proofs.Common.{sym, ◌∙◌}
use Rattle.typed_path.proofs.lemmas.changes.NamePieces.{merged-names}
use Rattle.typed_path.proofs.windows.push.names_alone.Goals as goal

pub returns-clause-merged : goal.returns-clause-merged
returns-clause-merged c = λ ps.
    merged-names c.args.path.now _ _ c.before_last_separator-names.result.now ps c.in_ok-first.ensures.cases.0 c.requires (sym c.contains.ensures ∙ c.if-contains.false)
    (c.before_last_separator-names.ensures.later ∙ c.behind_dot.ensures.same) (c.has_only_names.ensures c.if-not-has_only_names.false)
