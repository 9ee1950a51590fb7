use Rattle.typed_path.specs.components.{unix}
use Rattle.typed_path_uses.proofs.places.lead_alike.Given as goal

abbrev pub ghost-clean_is_canonical : goal.ghost-clean_is_canonical
ghost-clean_is_canonical a = unix

abbrev pub ghost-routes_tell_places : goal.ghost-routes_tell_places
ghost-routes_tell_places a = unix
