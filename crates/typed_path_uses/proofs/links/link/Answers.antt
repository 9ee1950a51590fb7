use Rattle.std.proofs.Common.{◌≡◌, ◌≢◌, ◌↔◌, ℕ, List, false, None, sym}
use Rattle.typed_path.specs.changes.{push}
use Rattle.typed_path.specs.components.{unix, kinds, parts_of}
use Rattle.typed_path.specs.places.{route}
use Rattle.typed_path.specs.queries.{begins_with_root}
use Rattle.typed_path.specs.views.PathViews.{path_bytes}
use Rattle.typed_path_uses.proofs.Found.{of-whether}
use Rattle.typed_path_uses.proofs.links.link.Goals as goal

pub returns-clause-none : goal.returns-clause-none
returns-clause-none c =
    of-whether (λ l. l.bytes)
    (λ o. (o ≡ None) ↔ ((r : List ℕ) → begins_with_root (kinds (parts_of unix r)) ≡ false → route unix (push unix (path_bytes c.args.folder) r) ≢ route unix (path_bytes c.args.page)))
    c.relative_to.result _ c.relative_to.ensures.bytes
    (rw (sym c.as_bytes-to.ensures, sym c.as_bytes-from.ensures) c.relative_has_none_at_all.ensures)
