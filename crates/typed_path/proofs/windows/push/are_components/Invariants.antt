use Rattle.std.proofs.Common.{◌≡◌, length}
use Rattle.std.specs.List.{list_all, slice_split}
use Rattle.typed_path.specs.declared.scan.separators.Separators.TheVariants.{Backslash}
use Rattle.typed_path.specs.components.{is_separator}
use Rattle.typed_path.specs.changes.{is_component}
use Rattle.typed_path.proofs.windows.push.are_components.Given as goal

abbrev pub invariant-pieces : goal.invariant-pieces
invariant-pieces l =
    list_all (is_component l.separators) (slice_split (is_separator Backslash) l.text) ≡ list_all (is_component l.separators) (slice_split (is_separator Backslash) l.rest)

abbrev pub decreases-pieces : goal.decreases-pieces
decreases-pieces l = length l.rest
