use Rattle.std.proofs.Common.{◌≡◌, true≢false, ℕ, List, true, false, length, refl, sym, ap, ◌∙◌, arith}
use Rattle.std.proofs.lemmas.Bool.{leb-true, not-true, or_parts}
use Rattle.typed_path.specs.components.{Dialect, unix, windows, is_verbatim, separators}
use Rattle.typed_path.specs.conversions.{IsUnrefused, same_dialect}
use Rattle.typed_path.proofs.lemmas.conversions.UnrefusedPaths.{unrefused-unix, unrefused-windows}
use Rattle.typed_path.proofs.conversions.is_unrefused.Goals as goal
use Rattle.typed_path.proofs.conversions.is_unrefused.Goals.{then-not-has_second_colon, else-not-has_second_colon, then-not-is_verbatim, else-not-is_verbatim, then-path-ge-SHORT, else-path-ge-SHORT}

-- the encodings are those that the dialects say
onto-windows : (d e : Dialect) (t : List ℕ) → same_dialect d unix ≡ true → same_dialect e windows ≡ true → IsUnrefused unix windows t → (same_dialect d e ≡ false) × IsUnrefused d e t
onto-windows unix windows t own other h = (refl, h)
onto-windows unix unix t own other h = cc
onto-windows windows e t own other h = cc

onto-unix : (d e : Dialect) (t : List ℕ) → same_dialect d windows ≡ true → same_dialect e unix ≡ true → IsUnrefused windows unix t → (same_dialect d e ≡ false) × IsUnrefused d e t
onto-unix windows unix t own other h = (refl, h)
onto-unix windows windows t own other h = cc
onto-unix unix e t own other h = cc

pub returns-then-have_one_dialect-2 : goal.returns-then-have_one_dialect-2
returns-then-have_one_dialect-2 g c = λ told.
    let path = c.args.path.now in
    let whole : IsUnrefused unix windows path = elim c.if-not-has_second_colon.branch [
      | then-not-has_second_colon w ↦ let none = or_parts _ _ (sym w.has_forbidden_or_device.ensures ∙ not-true _ (sym w.result-is ∙ told)) in unrefused-windows path none.0 none.1
      | else-not-has_second_colon w ↦ absurd (true≢false (sym told ∙ w.result-is ∙ w.if-not-has_second_colon.false))
    ] in
    onto-windows _ _ path (sym c.have_one_dialect.ensures ∙ c.if-have_one_dialect.true) (sym c.have_one_dialect-then-have_one_dialect.ensures ∙ c.if-have_one_dialect-2.true) whole

pub returns-then-have_one_dialect-4 : goal.returns-then-have_one_dialect-4
returns-then-have_one_dialect-4 g c = λ told.
    let path = c.args.path.now in
    let whole : IsUnrefused windows unix path = elim c.if-not-is_verbatim.branch [
      | then-not-is_verbatim w ↦
          let apart : is_verbatim (separators windows path) ≡ false = elim c.if-path-ge-SHORT.branch [
            | then-path-ge-SHORT v ↦ ap is_verbatim (sym v.of_windows.ensures) ∙ sym v.is_verbatim.ensures ∙ not-true _ (sym v.value-is ∙ w.if-not-is_verbatim.true)
            | else-path-ge-SHORT v ↦ let long = leb-true 3 (length path) (sym v.value-is ∙ w.if-not-is_verbatim.true) in absurd (omega (arith, long, v.if-path-ge-SHORT.false))
          ] in
          unrefused-unix path apart (not-true _ (sym w.is_free_of.ensures ∙ sym w.result-is ∙ told))
      | else-not-is_verbatim w ↦ absurd (true≢false (sym told ∙ w.result-is ∙ w.if-not-is_verbatim.false))
    ] in
    onto-unix _ _ path (sym c.have_one_dialect-2.ensures ∙ c.if-have_one_dialect-3.true) (sym c.have_one_dialect-then-have_one_dialect-3.ensures ∙ c.if-have_one_dialect-4.true) whole
