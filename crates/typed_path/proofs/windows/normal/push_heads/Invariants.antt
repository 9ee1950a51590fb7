use Rattle.std.proofs.Common.{◌≡◌, ◌≤◌, length, map, take, drop}
use Rattle.std.specs.Vec.{vec_capacity}
use Rattle.typed_path.specs.components.{windows, parts}
use Rattle.typed_path.specs.places.{normal_text}
use Rattle.typed_path.specs.views.CursorViews.{items_left}
use Rattle.typed_path.proofs.lemmas.places.Resolving.{Comes}
use Rattle.typed_path.proofs.windows.normal.push_heads.Given as goal

abbrev pub decreases-pieces : goal.decreases-pieces
decreases-pieces l = length (items_left l.components)

abbrev pub invariant-pieces : goal.invariant-pieces
invariant-pieces l =
    Comes windows (normal_text windows l.path) (drop l.start l.text.items) (map (λ n. n.now) l.names.items) (parts (items_left l.components))
    × (take l.start l.text.items ≡ take l.start l.fn.text.items)
    × (l.start ≤ length l.text.items)
    × (vec_capacity l.fn.text ≤ vec_capacity l.text)
