-- Where a path goes that is pushed, and where the names of a prefix stand, as they are told.
use Rattle.std.proofs.Common.{◌≡◌, ℕ, ◌+◌, ◌-◌, ◌≤◌, true, not, List, [], ◌∷◌, ◌++◌, length, take, Option, Some, None, IfSome, IsSome, IsNone, MatchOption, refl, sym, ap, ◌∙◌, subst, arith}
use Rattle.std.specs.Prelude.{MatchBool}
use Rattle.std.proofs.lemmas.Bool.{not-true}
use Rattle.typed_path.specs.changes.{IsNoneOrSeparator, merges, push, put_in_place}
use Rattle.typed_path.specs.components.{Dialect, unix, windows, Found, Prefix, prefix_of}
use Rattle.typed_path.specs.queries.{AreNamesOf}
use Rattle.typed_path.specs.declared.windows.names.PrefixNames.{PrefixNames}
use Rattle.typed_path_c.specs.declared.parts.Span.{Span}
use Rattle.typed_path_c.specs.declared.place.Place.{Place}
use Rattle.typed_path_c.specs.Answers.{dialect_named, done, bad_dialect, none_there}
use Rattle.typed_path_c.specs.Places.{IsPlaced, Names, Places, StandAtSpans, between, separator_number}

-- a separator is told by its number
between_number : (d : Dialect) (s : List ℕ) → IsNoneOrSeparator d s → between (separator_number s) ≡ s
between_number d [] known = refl
between_number unix (b ∷ bs) known = subst (λ s. between (separator_number s) ≡ s) (sym known) refl
between_number windows (b ∷ bs) known = subst (λ s. between (separator_number s) ≡ s) (sym known) refl

-- the place of a push is told
pub placed_told : (number : ℕ) (d : Dialect) (path other separator : List ℕ) (old new : Place) → dialect_named number ≡ Some d → true ≡ not (merges d path other)
    → new.kept ≤ length path → push d path other ≡ put_in_place path new.kept separator other → IsNoneOrSeparator d separator → new.separator ≡ separator_number separator
    → Places number path other old new done
placed_told number d path other separator old new named placed within is known number_is =
    subst (λ o. MatchOption o ((done ≡ bad_dialect) × (new ≡ old))
    (λ e. MatchBool (merges e path other) ((done ≡ none_there) × (new ≡ old)) ((done ≡ done) × IsPlaced e path other new))) (sym named)
    (subst (λ b. MatchBool b ((done ≡ none_there) × (new ≡ old)) ((done ≡ done) × IsPlaced d path other new)) (sym (not-true (merges d path other) (sym placed)))
    (refl, (within, is ∙ ap (λ s. take new.kept path ++ s ++ other) (sym (ap between number_is ∙ between_number d separator known)))))

module _ (path : List ℕ) (n : PrefixNames) (old old_second : Span) where
  abbrev first_span : Span
  first_span = record { start = n.first; length = n.first_end - n.first }

  abbrev second_span : Span
  second_span = record { start = n.second; length = n.second_end - n.second }

  by_spans : (p : Prefix) → AreNamesOf path p n.first n.first_end n.second n.second_end → StandAtSpans path p first_span second_span
  by_spans p names =
      let first : n.first_end ≡ n.first + (n.first_end - n.first) = omega (arith, names.ordered) in
      let second : n.second_end ≡ n.second + (n.second_end - n.second) = omega (arith, names.second_ordered) in
      subst (λ e. AreNamesOf path p n.first (n.first + (n.first_end - n.first)) n.second e) second (subst (λ e. AreNamesOf path p n.first e n.second n.second_end) first names)

  by_prefix : (o : Option Found) → MatchOption o (IsNone (Some n)) (λ f. IsSome (Some n) × IfSome (Some n) (λ m. AreNamesOf path f.prefix m.first m.first_end m.second m.second_end))
      → MatchOption o ((done ≡ none_there) × (first_span ≡ old) × (second_span ≡ old_second)) (λ f. (done ≡ done) × StandAtSpans path f.prefix first_span second_span)
  by_prefix None told = cc told
  by_prefix (Some f) told = (refl, by_spans f.prefix told.1)

  -- the names of a prefix are told by their places
  pub names_told : (number : ℕ) (d : Dialect) → dialect_named number ≡ Some d
      → MatchOption (prefix_of d path) (IsNone (Some n)) (λ f. IsSome (Some n) × IfSome (Some n) (λ m. AreNamesOf path f.prefix m.first m.first_end m.second m.second_end))
      → Names number path old first_span old_second second_span done
  names_told number d named told =
      subst (λ o. MatchOption o ((done ≡ bad_dialect) × (first_span ≡ old) × (second_span ≡ old_second))
      (λ e. MatchOption (prefix_of e path) ((done ≡ none_there) × (first_span ≡ old) × (second_span ≡ old_second)) (λ f. (done ≡ done) × StandAtSpans path f.prefix first_span second_span))) (sym named)
      (by_prefix (prefix_of d path) told)
