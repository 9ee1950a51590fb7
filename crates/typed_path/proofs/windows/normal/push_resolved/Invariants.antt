use Rattle.std.proofs.Common.{◌≡◌, ◌≤◌, length, map, take, drop}
use Rattle.std.specs.Vec.{vec_capacity}
use Rattle.typed_path.specs.components.{windows}
use Rattle.typed_path.specs.places.{normal_text}
use Rattle.typed_path.specs.changes.{push_all, IsKnown}
use Rattle.typed_path.proofs.windows.normal.push_resolved.Given as goal

abbrev pub invariant-names : goal.invariant-names
invariant-names l =
    (normal_text windows l.path ≡ push_all windows (drop l.start l.text.items) (drop l.name-index (map (λ n. n.now) l.name-items)))
    × (take l.start l.text.items ≡ take l.start l.fn.text.items)
    × (l.start ≤ length l.text.items)
    × (vec_capacity l.fn.text ≤ vec_capacity l.text)
    × IsKnown windows l.known (drop l.start l.text.items)
