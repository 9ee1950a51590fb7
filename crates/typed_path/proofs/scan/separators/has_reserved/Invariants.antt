use Rattle.std.proofs.Common.{◌≡◌, length}
use Rattle.std.specs.List.{slice_split, list_any}
use Rattle.typed_path.specs.components.{is_separator, dialect_of}
use Rattle.typed_path.specs.queries.{is_reserved}
use Rattle.typed_path.proofs.scan.separators.has_reserved.Given as goal

abbrev pub invariant-segments : goal.invariant-segments
invariant-segments l =
    list_any (is_reserved (dialect_of l.separators)) (slice_split (is_separator l.separators) l.text)
    ≡ list_any (is_reserved (dialect_of l.separators)) (slice_split (is_separator l.separators) l.rest)

abbrev pub decreases-segments : goal.decreases-segments
decreases-segments l = length l.rest
