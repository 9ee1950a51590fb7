use Rattle.std.proofs.Common.{◌≡◌, ◌+◌, ◌-◌, ◌≤◌, length, take, drop, reverse, vec_len, vec_capacity}
use Rattle.typed_path.specs.views.BodyViews.{body_items}
use Rattle.typed_path.specs.places.{names_under, rows_of}
use Rattle.typed_path.proofs.common.relative.put_names.Given as goal

abbrev pub invariant-names : goal.invariant-names
invariant-names l = record {
  left : names_under l.owed (body_items l.rest) ≡ take (length (names_under 0 (body_items l.fn.rest)) - l.counter) (names_under 0 (body_items l.fn.rest));
  fits : l.owed + length (body_items l.rest) ≤ length (body_items l.fn.rest);
  put : reverse l.text.items ≡ rows_of l.separators (drop (length (names_under 0 (body_items l.fn.rest)) - l.counter) (names_under 0 (body_items l.fn.rest)));
  room : vec_len l.text ≡ length (rows_of l.separators (drop (length (names_under 0 (body_items l.fn.rest)) - l.counter) (names_under 0 (body_items l.fn.rest))));
  capacity : vec_capacity l.fn.text ≤ vec_capacity l.text;
}
