-- What a component is, how it is written, and where it stands.
use Rattle.std.specs.Prelude.{ℕ, ◌+◌, List, [], ◌∷◌, map, length, Bool, true, false}
use Rattle.typed_path.specs.components.Dialects.{dot}

-- the prefixes of Windows, with their names; a drive is its letter
pub data Prefix : Type 0 where
  verbatim : List ℕ → Prefix
  verbatim_unc : List ℕ → List ℕ → Prefix
  verbatim_disk : ℕ → Prefix
  device_ns : List ℕ → Prefix
  unc : List ℕ → List ℕ → Prefix
  disk : ℕ → Prefix

-- what a component is: all that equality and order look at
pub data Kind : Type 0 where
  prefix : Prefix → Kind
  root current parent : Kind
  normal : List ℕ → Kind

-- a component, and how it is written
pub record Part : Type 0 where
  pub kind : Kind
  pub text : List ℕ

-- a component, and the place in the text where it begins
pub record Placed : Type 0 where
  pub part : Part
  pub start : ℕ

-- the place where a component ends
abbrev pub end_of : Placed → ℕ
end_of c = c.start + length c.part.text

abbrev pub kinds : List Part → List Kind
kinds ps = map (λ p. p.kind) ps

abbrev pub texts : List Part → List (List ℕ)
texts ps = map (λ p. p.text) ps

abbrev pub parts : List Placed → List Part
parts cs = map (λ c. c.part) cs

abbrev pub current_part : Part
current_part = record { kind = current; text = dot ∷ [] }

abbrev pub parent_part : Part
parent_part = record { kind = parent; text = dot ∷ dot ∷ [] }

abbrev pub name_part : List ℕ → Part
name_part name = record { kind = normal name; text = name }

abbrev pub root_part : List ℕ → Part
root_part text = record { kind = root; text = text }

abbrev pub prefix_part : Prefix → List ℕ → Part
prefix_part p raw = record { kind = prefix p; text = raw }

-- which of the kinds it is
abbrev pub is_name : Kind → Bool
is_name (normal name) = true
is_name k = false

abbrev pub is_parent : Kind → Bool
is_parent parent = true
is_parent k = false

abbrev pub is_current : Kind → Bool
is_current current = true
is_current k = false
