use Rattle.std.specs.Str.{is_utf8}
use Rattle.std.proofs.lemmas.Bool.{and_parts}
use Rattle.std.proofs.lemmas.Str.{is_utf8-from_IsUtf8}
use Rattle.typed_path.specs.components.{windows}
use Rattle.typed_path.specs.views.WindowsViews.{prefix_component_part}
use Rattle.typed_path.proofs.lemmas.texts.TextsLeft.{single-text}
use Rattle.typed_path.proofs.utf8.windows.Utf8WindowsPrefixComponentTryFromRefStr.try_from.Goals as goal

pub from_utf8_unchecked-requires : goal.from_utf8_unchecked-requires
from_utf8_unchecked-requires c =
    (and_parts (is_utf8 (prefix_component_part c.in-Ok.component).text) _ (single-text windows _ (is_utf8-from_IsUtf8 _ c.utf8.text) _ c.in-Ok.ensures)).0
