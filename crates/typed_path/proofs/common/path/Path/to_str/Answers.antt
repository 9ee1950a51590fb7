use Rattle.std.proofs.Common.{ap, ◌∙◌, option_copied}
use Rattle.typed_path.specs.queries.{text_of_bytes}
use Rattle.typed_path.proofs.common.path.Path.to_str.Goals as goal
use Rattle.typed_path.proofs.lemmas.texts.TextCuts.{text_of_bytes-read}

pub returns : goal.returns
returns g c = ap option_copied c.ok.ensures.value ∙ text_of_bytes-read _ c.from_utf8.result c.as_bytes.result.now c.from_utf8.ensures.cases ∙ ap text_of_bytes c.as_bytes.ensures
