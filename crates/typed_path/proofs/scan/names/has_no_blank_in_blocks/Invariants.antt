use Rattle.std.proofs.Common.{◌≡◌, ◌≤◌, ◌<◌, ◌-◌, ◌&&◌, ℕ, suc, false, length, drop, slice_index}
use Rattle.typed_path.specs.components.{is_separator}
use Rattle.typed_path.specs.scan.{begins_blank}
use Rattle.typed_path.proofs.scan.names.has_no_blank_in_blocks.Given as goal

abbrev pub invariant-wholes : goal.invariant-wholes
invariant-wholes g l = record {
  within : l.at ≤ length l.text;
  passed : (k : ℕ) → k < l.at → (is_separator l.separators (slice_index l.text k) && begins_blank l.separators (drop (suc k) l.text)) ≡ false;
}

abbrev pub decreases-wholes : goal.decreases-wholes
decreases-wholes g l = l.len - l.at
