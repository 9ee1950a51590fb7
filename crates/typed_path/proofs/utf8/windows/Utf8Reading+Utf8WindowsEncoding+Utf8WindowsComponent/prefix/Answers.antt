use Rattle.std.proofs.Common.{ap, ◌∙◌}
use Rattle.typed_path.specs.components.{parts}
use Rattle.typed_path.specs.queries.{prefix_among}
use Rattle.typed_path.specs.texts.{is_text_part_option}
use Rattle.typed_path.proofs.lemmas.texts.TextsLeft.{reading-parts, prefix_among-text}
use Rattle.typed_path.proofs.utf8.windows.«Utf8Reading+Utf8WindowsEncoding+Utf8WindowsComponent».prefix.Goals as goal

pub of_option-requires : goal.of_option-requires
of_option-requires c =
    ap is_text_part_option c.prefix.ensures
    ∙ ap (λ cs. is_text_part_option (prefix_among (parts cs))) c.bytes.ensures.items
    ∙ prefix_among-text _ (reading-parts _ _ c.args.self.is_text)
