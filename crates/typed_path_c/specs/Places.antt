-- Where a path goes that is pushed, and where the names of a prefix stand, as numbers.
use Rattle.std.specs.Prelude.{◌≡◌, ◌≤◌, ◌+◌, ℕ, zero, suc, List, [], ◌∷◌, ◌++◌, length, take, MatchOption, MatchBool}
use Rattle.typed_path.specs.components.Dialects.{Dialect}
use Rattle.typed_path.specs.components.Parts.{Prefix}
use Rattle.typed_path.specs.components.Prefixes.{prefix_of}
use Rattle.typed_path.specs.queries.PrefixNames.{AreNamesOf}
use Rattle.typed_path.specs.changes.Push.{push, merges}
use Rattle.typed_path_c.specs.declared.parts.Span.{Span}
use Rattle.typed_path_c.specs.declared.place.Place.{Place}
use Rattle.typed_path_c.specs.Answers.{dialect_named, done, bad_dialect, none_there}

-- a text of at most one byte as a number, 0 for none
abbrev pub separator_number : List ℕ → ℕ
separator_number [] = 0
separator_number (b ∷ bs) = b

-- and back
abbrev pub between : ℕ → List ℕ
between zero = []
between (suc n) = suc n ∷ []

-- the path that is pushed stands behind the bytes that are kept and the byte between
abbrev pub IsPlaced : Dialect → List ℕ → List ℕ → Place → Type 0
IsPlaced d path other place = (place.kept ≤ length path) × (push d path other ≡ take place.kept path ++ between place.separator ++ other)

-- where a path goes is told, or that it is merged into its base
abbrev pub Places : ℕ → List ℕ → List ℕ → Place → Place → ℕ → Type 0
Places number path other old new status =
    MatchOption (dialect_named number) ((status ≡ bad_dialect) × (new ≡ old))
    (λ d. MatchBool (merges d path other) ((status ≡ none_there) × (new ≡ old)) ((status ≡ done) × IsPlaced d path other new))

-- the names of a prefix stand at these places
abbrev pub StandAtSpans : List ℕ → Prefix → Span → Span → Type 0
StandAtSpans t p first second = AreNamesOf t p first.start (first.start + first.length) second.start (second.start + second.length)

-- where they stand is told, or that there is no prefix
abbrev pub Names : ℕ → List ℕ → Span → Span → Span → Span → ℕ → Type 0
Names number path old new old_second new_second status =
    MatchOption (dialect_named number) ((status ≡ bad_dialect) × (new ≡ old) × (new_second ≡ old_second))
    (λ d. MatchOption (prefix_of d path) ((status ≡ none_there) × (new ≡ old) × (new_second ≡ old_second))
    (λ f. (status ≡ done) × StandAtSpans path f.prefix new new_second))
