-- What a tree of files promises.
use Rattle.std.specs.Prelude.{◌≡◌, ℕ, List, map, filter, Option, None, option_map, Vec}
use Rattle.std.specs.BTreeMap.{BTreeMap, keys}
use Rattle.typed_path.specs.components.Dialects.{Dialect, unix, windows}
use Rattle.typed_path.specs.components.Parts.{Kind, kinds}
use Rattle.typed_path.specs.components.Comps.{parts_of}
use Rattle.typed_path.specs.order.Keyed.{value_at}
use Rattle.typed_path.specs.places.Places.{resolve, normal_text}
use Rattle.typed_path.specs.queries.Ancestry.{is_child_of}
use Rattle.typed_path.specs.views.OwnedViews.{Owned}

-- what a path is filed under: on Unix what it resolves to, on Windows what its normal text is read as
abbrev pub filed : Dialect → List ℕ → List Kind
filed unix path = kinds (resolve (parts_of unix path))
filed windows path = kinds (parts_of windows (normal_text windows path))

-- two paths are of one file
abbrev pub AreOne : Dialect → List ℕ → List ℕ → Type 0
AreOne d path other = filed d path ≡ filed d other

-- a normal text stands for the file of a path
abbrev pub IsKeyOf : Dialect → List ℕ → List ℕ → Type 0
IsKeyOf d path key = kinds (parts_of d key) ≡ filed d path

module _ {Y : Type 0} where
  -- the bytes that a path finds among files
  abbrev pub found : Dialect → BTreeMap Owned (Vec ℕ Y) → List ℕ → Option (List ℕ)
  found d files path = option_map (λ v. v.items) (value_at d (filed d path) files)

  -- files that are as they were, but for that of a path, which is now this one or none
  pub record Puts (d : Dialect) (path : List ℕ) (file : Option (List ℕ)) (old new : BTreeMap Owned (Vec ℕ Y)) : Type 0 where
    pub there : (other : List ℕ) → AreOne d path other → found d new other ≡ file
    pub elsewhere : (other : List ℕ) → (AreOne d path other → ⊥) → found d new other ≡ found d old other

  -- files that are as they were, but that what one path found stands at another
  pub record Moves (d : Dialect) (from to : List ℕ) (old new : BTreeMap Owned (Vec ℕ Y)) : Type 0 where
    pub there : (other : List ℕ) → AreOne d to other → found d new other ≡ found d old from
    pub gone : (other : List ℕ) → (AreOne d to other → ⊥) → AreOne d from other → found d new other ≡ None
    pub elsewhere : (other : List ℕ) → (AreOne d to other → ⊥) → (AreOne d from other → ⊥) → found d new other ≡ found d old other

  -- the keys one name below a folder, in the order of the keys
  abbrev pub children_of : Dialect → List ℕ → BTreeMap Owned (Vec ℕ Y) → List (List ℕ)
  children_of d folder files = filter (is_child_of d (filed d folder)) (map (λ k. k.bytes) (keys files))
