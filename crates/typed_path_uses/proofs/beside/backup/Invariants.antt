use Rattle.typed_path.specs.components.{unix}
use Rattle.typed_path_uses.proofs.beside.backup.Given as goal

abbrev pub ghost-added_extension_keeps_the_parent : goal.ghost-added_extension_keeps_the_parent
ghost-added_extension_keeps_the_parent a = unix
