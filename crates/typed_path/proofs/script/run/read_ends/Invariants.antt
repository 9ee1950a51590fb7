use Rattle.std.proofs.Common.{◌≡◌, ◌+◌, ◌-◌, ◌≤◌, ◌++◌, map, option_map, drop, length, vec_len, vec_capacity}
use Rattle.typed_path.specs.views.PieceViews.{part_of}
use Rattle.typed_path.specs.views.PathViews.{components_items, components_slice}
use Rattle.typed_path.specs.scan.{answers_after, items_after, slice_after, sides, taken_parts}
use Rattle.typed_path.proofs.script.run.read_ends.Given as goal

abbrev pub invariant-ends : goal.invariant-ends
invariant-ends g l = record {
  answers : map (option_map part_of) l.answers.items ++ taken_parts (answers_after (components_items l.components) (sides (drop l.end-index l.ends)))
      ≡ map (option_map part_of) l.fn.answers.items ++ taken_parts (answers_after (components_items l.fn.components) (sides l.ends));
  items : items_after (components_items l.components) (sides (drop l.end-index l.ends)) ≡ items_after (components_items l.fn.components) (sides l.ends);
  slice : slice_after (components_items l.components) (components_slice l.components) (sides (drop l.end-index l.ends))
      ≡ slice_after (components_items l.fn.components) (components_slice l.fn.components) (sides l.ends);
  room : vec_len l.answers + (length l.ends - l.end-index) ≤ vec_capacity l.answers;
}
