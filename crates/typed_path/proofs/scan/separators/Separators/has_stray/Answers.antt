use Rattle.std.proofs.Common.{sym, ap, ◌∙◌}
use Rattle.std.specs.List.{list_any}
use Rattle.typed_path.specs.changes.{is_stray}
use Rattle.typed_path.proofs.lemmas.queries.ValidNames.{stray-slash}
use Rattle.typed_path.proofs.scan.separators.Separators.has_stray.Goals as goal

pub returns-in-Slash : goal.returns-in-Slash
returns-in-Slash c =
    c.is_some.ensures ∙ stray-slash c.args.bytes.now c.memchr.result c.memchr.ensures ∙ ap (λ s. list_any (is_stray s) c.args.bytes.now) (sym c.in-Slash.is)
