use Rattle.std.proofs.Common.{◌≡◌, length}
use Rattle.std.specs.List.{slice_split, list_any}
use Rattle.typed_path.specs.components.{is_separator}
use Rattle.typed_path.specs.queries.{may_offend}
use Rattle.typed_path.proofs.common.portable.has_offending_segment.Given as goal

abbrev pub invariant-segments : goal.invariant-segments
invariant-segments l =
    list_any may_offend (slice_split (is_separator l.separators) l.text) ≡ list_any may_offend (slice_split (is_separator l.separators) l.rest)

abbrev pub decreases-segments : goal.decreases-segments
decreases-segments l = length l.rest
