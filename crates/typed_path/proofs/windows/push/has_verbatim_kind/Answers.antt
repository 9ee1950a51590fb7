use Rattle.std.proofs.Common.{ap, sym, ◌∙◌, not}
use Rattle.typed_path.proofs.lemmas.changes.WindowsPushes.{verbatim-marked, is_marked}
use Rattle.typed_path.proofs.windows.push.has_verbatim_kind.Goals as goal

pub returns-in-Some : goal.returns-in-Some
returns-in-Some c = ap not c.is_empty.ensures ∙ ap is_marked c.in-Some.ensures.rest ∙ sym (verbatim-marked c.args.path.now)

pub returns-in-None : goal.returns-in-None
returns-in-None c = ap is_marked c.in-None.ensures.rest ∙ sym (verbatim-marked c.args.path.now)
