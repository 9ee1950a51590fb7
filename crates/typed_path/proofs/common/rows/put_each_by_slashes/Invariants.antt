use Rattle.std.proofs.Common.{◌≡◌, ◌≤◌, ◌+◌, vec_len, vec_capacity, ℕ, List, length, take}
use Rattle.typed_path.specs.declared.scan.separators.Separators.TheVariants.{Slash}
use Rattle.typed_path.specs.components.{Kind}
use Rattle.typed_path.specs.places.{AreKept, segment_kinds}
use Rattle.typed_path.proofs.common.rows.put_each_by_slashes.Given as goal

abbrev pub invariant-segments : goal.invariant-segments
invariant-segments l = record {
  are : (head : List ℕ) (whole : List Kind) → AreKept Slash l.anchored head l.fn.text.items l.floor (segment_kinds Slash l.path) whole
      → AreKept Slash l.anchored head l.text.items l.begin (segment_kinds Slash l.rest) whole;
  above : l.floor ≤ l.begin;
  within : l.begin ≤ length l.text.items;
  kept : take l.floor l.text.items ≡ take l.floor l.fn.text.items;
  room : vec_len l.text + length l.rest ≤ vec_len l.fn.text + length l.path;
  capacity : vec_capacity l.fn.text ≤ vec_capacity l.text;
}

abbrev pub decreases-segments : goal.decreases-segments
decreases-segments l = length l.rest
