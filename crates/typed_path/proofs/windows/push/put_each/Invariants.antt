use Rattle.std.proofs.Common.{◌≡◌, ◌≤◌, length, take, drop}
use Rattle.typed_path.specs.components.{parts}
use Rattle.typed_path.specs.views.CursorViews.{items_left}
use Rattle.typed_path.proofs.lemmas.changes.MergedInPlace.{ArePut}
use Rattle.typed_path.proofs.windows.push.put_each.Given as goal

abbrev pub decreases-pieces : goal.decreases-pieces
decreases-pieces l = length (items_left l.rest)

abbrev pub invariant-pieces : goal.invariant-pieces
invariant-pieces l = record {
  put : ArePut l.parted (drop l.head l.text.items) (parts (items_left l.fn.path)) (parts (items_left l.rest));
  kept : take l.head l.text.items ≡ take l.head l.fn.text.items;
  long : l.head ≤ length l.text.items;
}
