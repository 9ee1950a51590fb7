-- Keys that are not equal are those of paths that are not of one file.
use Rattle.std.proofs.Common.{◌≡◌, List, Bool, true, false, not, sym, ap, ◌∙◌}
use Rattle.std.proofs.lemmas.Bool.{not-true, not-false}
use Rattle.std.specs.Cmp.{Equal-is, eq_by_cmp_equiv}
use Rattle.std.specs.Ordering.{is_eq}
use Rattle.typed_path.specs.components.{Kind}
use Rattle.typed_path.specs.order.{kinds_cmp, kinds_cmp_total, exact_lists, exact_kinds}

module _ (ks ls ms ns : List Kind) (k : ks ≡ ms) (l : ls ≡ ns) (b : Bool) (is : b ≡ not (is_eq (kinds_cmp ks ls))) where
  pub keys_apart : b ≡ true → ms ≡ ns → ⊥
  keys_apart e one =
      let same = ap (λ js. is_eq (kinds_cmp ks js)) (l ∙ sym (k ∙ one)) ∙ (eq_by_cmp_equiv kinds_cmp_total).refl ks in
      let differ = not-true _ (sym is ∙ e) in cc

  pub keys_one : b ≡ false → ms ≡ ns
  keys_one e = sym k ∙ exact_lists exact_kinds ks ls ((Equal-is (kinds_cmp ks ls)).0 (not-false _ (sym is ∙ e))) ∙ l
