use Rattle.std.proofs.Common.{◌∙◌, ap}
use Rattle.typed_path.specs.components.{windows}
use Rattle.typed_path.specs.order.{lowered}
use Rattle.typed_path.specs.queries.{path_starts_with}
use Rattle.typed_path.specs.views.TextViews.{utf8_bytes}
use Rattle.typed_path.proofs.typed.utf8.path.Utf8TypedPath.starts_with_ignore_ascii_case.Goals as goal

pub returns-in-Windows : goal.returns-in-Windows
returns-in-Windows c =
    rw c.in-Windows.is (c.starts_with_ignore_ascii_case-in-Windows.ensures
    ∙ ap (λ b. path_starts_with windows (lowered windows (utf8_bytes c.in-Windows.path)) (lowered windows b)) c.new-in-Windows.ensures)
