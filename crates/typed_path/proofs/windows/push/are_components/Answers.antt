use Rattle.typed_path.proofs.lemmas.changes.NamePieces.{names-components}
use Rattle.typed_path.proofs.windows.push.are_components.Goals as goal

pub returns-then-has_only_names : goal.returns-then-has_only_names
returns-then-has_only_names c = names-components c.args.separators c.args.text.now (c.has_only_names.ensures c.if-has_only_names.true)
