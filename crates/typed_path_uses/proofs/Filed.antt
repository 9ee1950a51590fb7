-- What paths find among files, by the keys of these.
use Rattle.std.proofs.Common.{◌≡◌, ℕ, List, Option, Some, option_map, Vec, sym, ap, ◌∙◌}
use Rattle.std.specs.BTreeMap.{BTreeMap}
use Rattle.typed_path.specs.components.{Dialect, kinds, parts_of}
use Rattle.typed_path.specs.order.Keyed.{value_at, PutsAt}
use Rattle.typed_path.specs.views.OwnedViews.{Owned}
use Rattle.typed_path_uses.specs.Tree.{filed, found, IsKeyOf, Puts}

module _ {Y : Type 0} (d : Dialect) (path : List ℕ) (key : Owned) (is : IsKeyOf d path key.bytes) where
  pub puts : (file : Option (Vec ℕ Y)) (old new : BTreeMap Owned (Vec ℕ Y)) → PutsAt d (kinds (parts_of d key.bytes)) file old new → Puts d path (option_map (λ v. v.items) file) old new
  puts file old new at = record {
    there = λ other one. ap (λ ks. option_map (λ v. v.items) (value_at d ks new)) (sym (is ∙ one)) ∙ ap (option_map (λ v. v.items)) at.there;
    elsewhere = λ other differ. ap (option_map (λ v. v.items)) (at.elsewhere (filed d other) (λ e. differ (sym (e ∙ is))));
  }

  pub found-some : (files : BTreeMap Owned (Vec ℕ Y)) (file : Vec ℕ Y) → Some file ≡ value_at d (kinds (parts_of d key.bytes)) files → found d files path ≡ Some file.items
  found-some files file value = ap (λ ks. option_map (λ v. v.items) (value_at d ks files)) (sym is) ∙ ap (option_map (λ v. v.items)) (sym value)
