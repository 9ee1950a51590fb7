use Rattle.std.proofs.Common.{◌≡◌, ◌≤◌, ◌+◌, vec_len, vec_capacity, length, take}
use Rattle.typed_path.specs.declared.scan.separators.Separators.TheVariants.{Slash}
use Rattle.typed_path.specs.places.{AreKept, segment_kinds}
use Rattle.typed_path.proofs.common.rows.put_kept_by_slashes.Given as goal

abbrev pub invariant-segments : goal.invariant-segments
invariant-segments l = record {
  are : AreKept Slash l.anchored l.fn.text.items l.text.items l.floor (segment_kinds Slash l.rest) (segment_kinds Slash l.path);
  above : length l.fn.text.items ≤ l.floor;
  within : l.floor ≤ length l.text.items;
  kept : take (length l.fn.text.items) l.text.items ≡ l.fn.text.items;
  room : vec_len l.text + length l.rest ≤ vec_len l.fn.text + length l.path;
  capacity : vec_capacity l.fn.text ≤ vec_capacity l.text;
}

abbrev pub decreases-segments : goal.decreases-segments
decreases-segments l = length l.rest
