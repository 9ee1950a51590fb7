-- A file that is put at one path and taken away at another has moved there.
use Rattle.std.proofs.Common.{◌≡◌, ℕ, List, Some, None, option_map, Vec, refl, sym, ap, ◌∙◌}
use Rattle.std.specs.BTreeMap.{BTreeMap}
use Rattle.typed_path.specs.components.{Dialect}
use Rattle.typed_path.specs.order.Keyed.{value_at}
use Rattle.typed_path.specs.views.OwnedViews.{Owned}
use Rattle.typed_path_uses.specs.Tree.{AreOne, found, Puts, Moves}

module _ {Y : Type 0} (d : Dialect) (from to : List ℕ) (old : BTreeMap Owned (Vec ℕ Y)) where
  pub moved : (file : List ℕ) (both new : BTreeMap Owned (Vec ℕ Y)) → (AreOne d from to → ⊥) → found d old from ≡ Some file → Puts d to (Some file) old both → Puts d from None both new → Moves d from to old new
  moved file both new apart was put taken = record {
    there = λ other one. taken.elsewhere other (λ e. apart (e ∙ sym one)) ∙ put.there other one ∙ sym was;
    gone = λ other differ one. taken.there other one;
    elsewhere = λ other differ differs. taken.elsewhere other differs ∙ put.elsewhere other differ;
  }

  pub stays : AreOne d from to → Moves d from to old old
  stays same = record { there = λ other one. ap (λ ks. option_map (λ v. v.items) (value_at d ks old)) (sym (same ∙ one)); gone = λ other differ one. absurd (differ (sym same ∙ one)); elsewhere = λ other differ differs. refl }
