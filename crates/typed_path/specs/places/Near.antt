-- The path that leads from a base to another, as the bytes of the two tell: behind the components that both begin with, each has names alone.
use Rattle.std.specs.Prelude.{◌≡◌, ℕ, List, [], ◌∷◌, ◌++◌, map, Bool, true, length, if◌then◌else◌}
use Rattle.std.specs.List.{list_all, slice_split}
use Rattle.typed_path.specs.declared.scan.separators.Separators.{Separators}
use Rattle.typed_path.specs.components.Dialects.{is_separator}
use Rattle.typed_path.specs.components.Parts.{Kind, normal, kinds, parts}
use Rattle.typed_path.specs.components.Comps.{body}
use Rattle.typed_path.specs.changes.Spelled.{is_name_piece}
use Rattle.typed_path.specs.places.Relative.{is_reached, names_down, shared_count, steps_up}

-- a text is names alone, with a separator behind each of them, or behind each but the last
abbrev pub AreAlone : Separators → List ℕ → Bool → List (List ℕ) → Type 0
AreAlone s text ended names = (list_all is_name_piece names ≡ true) × (slice_split (is_separator s) text ≡ names ++ (if ended then [] ∷ [] else []))

-- what is left of two texts behind components that both begin with, where that is names alone: the first names differ
pub record PartInto (s : Separators) (text other rest behind : List ℕ) : Type 0 where
  pub front : List Kind
  pub own : (ended : Bool) (names : List (List ℕ)) → AreAlone s rest ended names → kinds (parts (body s 0 text)) ≡ front ++ map normal names
  pub others : (ended : Bool) (names : List (List ℕ)) → AreAlone s behind ended names → kinds (parts (body s 0 other)) ≡ front ++ map normal names
  pub apart : (ended more : Bool) (names others : List (List ℕ)) → AreAlone s rest ended names → AreAlone s behind more others → shared_count names others ≡ 0

-- two lists that begin alike and go on with names alone: those of the one are a text, and those of the other are so many
pub record PartInNames (s : Separators) (ks ls : List Kind) (ups : ℕ) (rest : List ℕ) (ended : Bool) : Type 0 where
  pub front : List Kind
  pub names : List (List ℕ)
  pub others : List (List ℕ)
  pub own : ks ≡ front ++ map normal names
  pub other : ls ≡ front ++ map normal others
  pub apart : shared_count names others ≡ 0
  pub alone : AreAlone s rest ended names
  pub up : ups ≡ length others

-- so many parents, and then the names of a text, lead from one list to another
pub record AreNearSteps (s : Separators) (ks ls : List Kind) (ups : ℕ) (rest : List ℕ) (ended : Bool) : Type 0 where
  pub reached : is_reached ks ls ≡ true
  pub up : ups ≡ steps_up ks ls
  pub alone : AreAlone s rest ended (names_down ks ls)
