use Rattle.std.proofs.Common.{ap, ◌∙◌}
use Rattle.std.specs.Str.{is_utf8}
use Rattle.typed_path.specs.components.{windows}
use Rattle.typed_path.specs.views.PathViews.{path_bytes}
use Rattle.typed_path.proofs.lemmas.texts.TextChanges.{simplified-text}
use Rattle.typed_path.proofs.utf8.windows.«Utf8Path+Utf8WindowsEncoding».simplified.Goals as goal

pub of-requires : goal.of-requires
of-requires c = ap is_utf8 c.simplified.ensures ∙ simplified-text windows (path_bytes c.as_bytes_path.result) c.as_bytes_path.ensures.text
