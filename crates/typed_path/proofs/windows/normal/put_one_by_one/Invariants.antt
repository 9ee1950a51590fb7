use Rattle.std.proofs.Common.{◌≡◌, ◌≤◌, ◌<◌, ◌+◌, vec_len, vec_capacity, ℕ, List, length, take, None}
use Rattle.std.specs.List.{slice_split}
use Rattle.typed_path.specs.declared.scan.separators.Separators.TheVariants.{Either}
use Rattle.typed_path.specs.components.{is_separator, drive}
use Rattle.typed_path.specs.places.{HaveNoDisks}
use Rattle.typed_path.proofs.lemmas.places.UnixRows.{Standing}
use Rattle.typed_path.proofs.windows.normal.put_one_by_one.Given as goal

abbrev pub invariant-segments : goal.invariant-segments
invariant-segments l = record {
  standing : (head whole : List ℕ) → length head ≡ l.len → Standing Either (λ name. drive name ≡ None) l.fn.text.items head l.path whole → Standing Either (λ name. drive name ≡ None) l.text.items head l.rest whole;
  kept : take l.len l.text.items ≡ take l.len l.fn.text.items;
  long : l.len ≤ length l.text.items;
  capacity : vec_capacity l.fn.text ≤ vec_capacity l.text;
  room : vec_len l.fn.text + length l.path < vec_capacity l.fn.text → vec_len l.text + length l.rest < vec_capacity l.text;
  drives : HaveNoDisks (slice_split (is_separator Either) l.path) → HaveNoDisks (slice_split (is_separator Either) l.rest);
}

abbrev pub decreases-segments : goal.decreases-segments
decreases-segments l = length l.rest
