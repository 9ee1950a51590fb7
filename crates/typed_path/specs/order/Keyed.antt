-- What is found in a map whose keys are paths.
use Rattle.std.specs.Prelude.{◌≡◌, ◌≢◌, List, Option}
use Rattle.std.specs.declared.cmp.Ordering.{Ordering}
use Rattle.std.specs.BTreeMap.{BTreeMap, get_by}
use Rattle.typed_path.specs.components.Dialects.{Dialect}
use Rattle.typed_path.specs.components.Parts.{Kind, kinds}
use Rattle.typed_path.specs.components.Comps.{parts_of}
use Rattle.typed_path.specs.order.Same.{kinds_cmp}
use Rattle.typed_path.specs.views.OwnedViews.{Owned}

-- how a list compares to what a key is read as
abbrev pub to_key : Dialect → List Kind → Owned → Ordering
to_key d ks key = kinds_cmp ks (kinds (parts_of d key.bytes))

module _ {X : Type 0} where
  -- the value at the key that is read as a list
  abbrev pub value_at : Dialect → List Kind → BTreeMap Owned X → Option X
  value_at d ks map = get_by (to_key d ks) map

  -- a map that is as it was, but that this value, or none, is at the key that is read as a list
  pub record PutsAt (d : Dialect) (ks : List Kind) (value : Option X) (old new : BTreeMap Owned X) : Type 0 where
    pub there : value_at d ks new ≡ value
    pub elsewhere : (others : List Kind) → others ≢ ks → value_at d others new ≡ value_at d others old
