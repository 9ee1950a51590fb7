use Rattle.std.proofs.Common.{sym, ◌∙◌}
use Rattle.std.proofs.lemmas.Bool.{not-true}
use Rattle.typed_path.proofs.lemmas.conversions.TurnedPaths.{crosses-windows}
use Rattle.typed_path.proofs.conversions.turned_for_windows.Goals as goal
use Rattle.typed_path.proofs.lemmas.components.Segments.{parts_of-same}

pub returns-then-has_no_blank_behind : goal.returns-then-has_no_blank_behind
returns-then-has_no_blank_behind c =
    let path = c.args.path.now in
    let text = c.before_last_separator-text.result.now in
    crosses-windows path text (parts_of-same path text c.before_last_separator-text.ensures.body) (not-true _ (sym c.is_free_of.ensures ∙ c.if-is_free_of.true)) (c.has_no_blank_behind.ensures c.if-has_no_blank_behind.true)
