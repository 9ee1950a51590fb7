use Rattle.typed_path.specs.components.{unix}
use Rattle.typed_path_uses.proofs.links.link.Given as goal

abbrev pub ghost-relative_stays_relative : goal.ghost-relative_stays_relative
ghost-relative_stays_relative a = unix

abbrev pub ghost-led_is_short : goal.ghost-led_is_short
ghost-led_is_short a = unix
