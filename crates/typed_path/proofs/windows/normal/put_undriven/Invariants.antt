use Rattle.std.proofs.Common.{◌≡◌, ◌≤◌, ◌<◌, ◌+◌, vec_len, vec_capacity, ℕ, List, [], length, take, None}
use Rattle.std.specs.List.{slice_split}
use Rattle.typed_path.specs.declared.scan.separators.Separators.TheVariants.{Either}
use Rattle.typed_path.specs.components.{is_separator, drive, slash, backslash}
use Rattle.typed_path.specs.changes.{TellsNames}
use Rattle.typed_path.specs.places.{AreRowsOf, HaveNoDisks}
use Rattle.typed_path.proofs.lemmas.places.UnixRows.{Standing}
use Rattle.typed_path.proofs.windows.normal.put_undriven.Given as goal

abbrev pub invariant-segments : goal.invariant-segments
invariant-segments l = record {
  standing : (head : List ℕ) → length head ≡ l.len → AreRowsOf Either l.fn.text.items head [] → Standing Either (λ name. drive name ≡ None) l.text.items head l.rest l.path;
  kept : take l.len l.text.items ≡ take l.len l.fn.text.items;
  long : l.len ≤ length l.text.items;
  capacity : vec_capacity l.fn.text ≤ vec_capacity l.text;
  room : vec_len l.fn.text + length l.path < vec_capacity l.fn.text → vec_len l.text + length l.rest < vec_capacity l.text;
  drives : HaveNoDisks (slice_split (is_separator Either) l.rest);
  names : TellsNames (slash, backslash) l.rest l.names;
}

abbrev pub decreases-segments : goal.decreases-segments
decreases-segments l = length l.rest
