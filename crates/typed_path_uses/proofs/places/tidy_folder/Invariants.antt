use Rattle.typed_path.specs.components.{windows}
use Rattle.typed_path_uses.proofs.places.tidy_folder.Given as goal

abbrev pub ghost-clean_has_its_form : goal.ghost-clean_has_its_form
ghost-clean_has_its_form a = windows
