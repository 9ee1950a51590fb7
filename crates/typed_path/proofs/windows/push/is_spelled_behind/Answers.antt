use Rattle.std.proofs.Common.{◌≡◌, Bool, true, false, [], ◌∷◌, List, drop, sym, ap, ap₂, ◌∙◌, ℕ, Some, eqb-true, ◌&&◌, not}
use Rattle.std.specs.Prelude.{◌||◌}
use Rattle.std.specs.List.{list_all, list_any, slice_split}
use Rattle.typed_path.specs.declared.scan.separators.Separators.TheVariants.{Slash, Backslash}
use Rattle.std.proofs.lemmas.List.{nil_from_length}
use Rattle.typed_path.specs.components.{windows, backslash, separators, Found, prefix_of, is_empty, is_separator, is_verbatim}
use Rattle.typed_path.specs.queries.{is_verbatim_prefix}
use Rattle.typed_path.specs.changes.{is_row, is_component, TellsSpelled}
use Rattle.typed_path.proofs.lemmas.changes.SpelledTexts.{root-spelled, row-spelled_text, other-unspelled, row-unspelled}
use Rattle.typed_path.proofs.windows.push.is_spelled_behind.Goals as goal
use Rattle.typed_path.proofs.windows.push.is_spelled_behind.Goals.{else-not-is_verbatim-via-then-not-is_verbatim+else-is_separated, else-not-is_verbatim-via-else-not-is_verbatim}

pub returns-then-first-ne92 : goal.returns-then-first-ne92
returns-then-first-ne92 c = λ f is marked behind.
    other-unspelled c.args.text.now f is marked c.in-Some.first.now c.in-Some.names.now (behind ∙ c.in-Some.ensures.cases.0) c.if-first-ne92.true

pub returns-then-is_empty : goal.returns-then-is_empty
returns-then-is_empty c = λ f is marked behind.
    let none : c.in-Some.names.now ≡ [] = nil_from_length c.in-Some.names.now (eqb-true _ 0 (sym c.is_empty.ensures ∙ c.if-is_empty.true)) in
    root-spelled c.args.text.now f is marked (behind ∙ c.in-Some.ensures.cases.0 ∙ (λ i. c.if-first-ne92.false i ∷ none i))

-- a row tells
row-told : (t names : List ℕ) (f : Found) → prefix_of windows t ≡ Some f → is_verbatim_prefix f.prefix ≡ true → drop f.length t ≡ backslash ∷ names → is_empty names ≡ false
    → (b : Bool) → is_row (separators windows t) names ≡ b → TellsSpelled b t
row-told t names f is marked behind filled true e = row-spelled_text t f is marked names behind e
row-told t names f is marked behind filled false e = row-unspelled t f is marked names behind filled e

pub returns-then-is_separated : goal.returns-then-is_separated
returns-then-is_separated c = λ f is marked behind.
    let names = c.in-Some.names.now in
    row-told c.args.text.now names f is marked (behind ∙ c.in-Some.ensures.cases.0 ∙ ap (λ b. b ∷ names) c.if-first-ne92.false) (sym c.is_empty.ensures ∙ c.if-is_empty.false) false
    (ap (λ s. is_row s names) (sym c.of_windows-separators.ensures)
    ∙ ap₂ (λ a b. (a || not b) && list_all (is_component c.of_windows-separators.result) (slice_split (is_separator Backslash) names)) (sym c.is_verbatim.ensures ∙ c.if-not-is_verbatim.true) (sym c.is_separated.ensures ∙ c.if-is_separated.true))

pub returns : goal.returns
returns c = λ f is marked behind.
    let names = c.in-Some.names.now in
    let apart : (is_verbatim c.of_windows-separators.result || not (list_any (is_separator Slash) names)) ≡ true = elim c.else-not-is_verbatim.branch [
      | else-not-is_verbatim-via-else-not-is_verbatim w ↦ ap (λ b. b || not (list_any (is_separator Slash) names)) (sym c.is_verbatim.ensures ∙ w.if-not-is_verbatim.false)
      | else-not-is_verbatim-via-then-not-is_verbatim+else-is_separated w ↦ ap₂ (λ a b. a || not b) (sym c.is_verbatim.ensures ∙ w.if-not-is_verbatim.true) (sym w.is_separated.ensures ∙ w.if-is_separated.false)
    ] in
    row-told c.args.text.now names f is marked (behind ∙ c.in-Some.ensures.cases.0 ∙ ap (λ b. b ∷ names) c.if-first-ne92.false) (sym c.is_empty.ensures ∙ c.if-is_empty.false) c.are_components.result
    (ap (λ s. is_row s names) (sym c.of_windows-separators.ensures) ∙ ap₂ ◌&&◌ apart (sym c.are_components.ensures))
