use Rattle.typed_path.specs.components.{windows}
use Rattle.typed_path_uses.proofs.links.link_on_windows.Given as goal

abbrev pub ghost-relative_has_none : goal.ghost-relative_has_none
ghost-relative_has_none a = windows
