use Rattle.typed_path.specs.components.{unix}
use Rattle.typed_path_uses.proofs.shipper.day_log.Given as goal

abbrev pub ghost-within_is_a_preorder : goal.ghost-within_is_a_preorder
ghost-within_is_a_preorder a = unix
