use Rattle.std.proofs.Common.{◌≡◌, ◌≤◌, ◌-◌, length, take}
use Rattle.std.specs.List.{suffix_len}
use Rattle.typed_path.specs.queries.{is_a_space}
use Rattle.typed_path.proofs.scan.devices.without_last_spaces.Given as goal

abbrev pub decreases-spaces : goal.decreases-spaces
decreases-spaces l = l.len

abbrev pub invariant-spaces : goal.invariant-spaces
invariant-spaces l = record {
  within : l.len ≤ length l.fn.text;
  kept : l.len - suffix_len is_a_space (take l.len l.fn.text) ≡ length l.fn.text - suffix_len is_a_space l.fn.text;
}
