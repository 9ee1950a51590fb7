use Rattle.std.proofs.Common.{◌≡◌, ◌≤◌, ◌+◌, ◌*◌, ◌++◌, vec_len, vec_capacity}
use Rattle.typed_path.specs.places.{dots, rows_of}
use Rattle.typed_path.proofs.common.relative.put_ups.Given as goal

abbrev pub invariant-ups : goal.invariant-ups
invariant-ups l = record {
  put : l.text.items ≡ l.fn.text.items ++ rows_of l.separators (dots l.counter);
  room : vec_len l.text ≤ vec_len l.fn.text + l.counter * 3;
  capacity : vec_capacity l.fn.text ≤ vec_capacity l.text;
}
