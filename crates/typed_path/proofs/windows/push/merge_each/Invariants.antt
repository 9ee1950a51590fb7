use Rattle.std.proofs.Common.{◌≡◌, ◌≤◌, ◌+◌, length, take, drop}
use Rattle.std.specs.Vec.{vec_len, vec_capacity}
use Rattle.typed_path.specs.components.{parts}
use Rattle.typed_path.specs.changes.{room_of}
use Rattle.typed_path.specs.views.CursorViews.{items_left}
use Rattle.typed_path.proofs.lemmas.changes.SpelledTexts.{IsMerging}
use Rattle.typed_path.proofs.windows.push.merge_each.Given as goal

abbrev pub decreases-pieces : goal.decreases-pieces
decreases-pieces l = length (items_left l.rest)

abbrev pub invariant-pieces : goal.invariant-pieces
invariant-pieces l = record {
  merging : IsMerging l.fn.parted (drop l.head l.fn.text.items) (parts (items_left l.fn.path)) l.apart (drop l.head l.text.items) (parts (items_left l.rest));
  kept : take l.head l.text.items ≡ take l.head l.fn.text.items;
  long : l.head ≤ length l.text.items;
  capacity : vec_capacity l.fn.text ≤ vec_capacity l.text;
  room : vec_len l.fn.text + room_of (parts (items_left l.fn.path)) ≤ vec_capacity l.fn.text
      → vec_len l.text + room_of (parts (items_left l.rest)) ≤ vec_capacity l.text;
}
