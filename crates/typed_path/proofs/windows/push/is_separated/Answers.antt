use Rattle.std.proofs.Common.{ap, not, length, ◌==◌, ◌∙◌}
use Rattle.typed_path.specs.components.{is_separator}
use Rattle.typed_path.proofs.lemmas.lists.Lists.{position-any}
use Rattle.typed_path.proofs.windows.push.is_separated.Goals as goal

pub returns : goal.returns
returns c = ap (λ n. not (n == length c.args.text.now)) c.first_in.ensures.first ∙ position-any (is_separator c.args.separators) c.args.text.now
