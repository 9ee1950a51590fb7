-- Where a path leads from a directory that is not known, and which paths lead to another and further down.
use Rattle.std.specs.Prelude.{ℕ, zero, suc, ◌-◌, ◌==◌, List, [], ◌∷◌, ◌++◌, Bool, true, false, not, ◌&&◌, ◌||◌, nat_le, length, if◌then◌else◌, Option, Some, None}
use Rattle.std.specs.List.{starts_with}
use Rattle.std.specs.Str.{bytes_eq}
use Rattle.typed_path.specs.components.Dialects.{Dialect}
use Rattle.typed_path.specs.components.Parts.{Prefix, Kind, prefix, root, current, parent, normal, Placed, kinds, parts}
use Rattle.typed_path.specs.components.Comps.{parts_of}
use Rattle.typed_path.specs.queries.Queries.{first_prefix, has_prefix, has_implicit_root, has_physical_root}
use Rattle.typed_path.specs.order.Same.{are_same_prefixes}

-- how many parents of a list find no name to take away
abbrev pub unmet : List Kind → ℕ
unmet [] = 0
unmet (prefix p ∷ ks) = unmet ks
unmet (root ∷ ks) = unmet ks
unmet (current ∷ ks) = unmet ks
unmet (parent ∷ ks) = suc (unmet ks)
unmet (normal name ∷ ks) = unmet ks - 1

-- the names that no parent takes away
abbrev pub kept_names : List Kind → List (List ℕ)
kept_names [] = []
kept_names (prefix p ∷ ks) = kept_names ks
kept_names (root ∷ ks) = kept_names ks
kept_names (current ∷ ks) = kept_names ks
kept_names (parent ∷ ks) = kept_names ks
kept_names (normal name ∷ ks) = if unmet ks == 0 then name ∷ kept_names ks else kept_names ks

-- a list begins with a root, written or implied: behind it no parent leads further up
abbrev pub is_anchored : List Kind → Bool
is_anchored ks = has_implicit_root ks || has_physical_root ks

-- a prefix or none, and a root or none
abbrev pub headed : Option Prefix → Bool → List Kind
headed None false = []
headed None true = root ∷ []
headed (Some p) false = prefix p ∷ []
headed (Some p) true = prefix p ∷ root ∷ []

-- the prefix that a list begins with, and the root, written or implied
abbrev pub head_of : List Kind → List Kind
head_of ks = headed (first_prefix ks) (is_anchored ks)

-- how many parents lead above where a path begins
abbrev pub rising : List Kind → ℕ
rising ks = if is_anchored ks then 0 else unmet ks

-- two lists begin with the same prefix or none, and with a root or none
abbrev pub same_heads : List Kind → List Kind → Bool
same_heads ks ls = are_same_prefixes (first_prefix ks) (first_prefix ls) && (if is_anchored ks then is_anchored ls else not (is_anchored ls))

-- a list leads to the place of another, and then to names alone
abbrev pub leads_within : List Kind → List Kind → Bool
leads_within ks base = same_heads ks base && (rising ks == rising base) && starts_with bytes_eq (kept_names ks) (kept_names base)

-- a base without names holds what leads no higher: a root alone all without a prefix, parents alone all with no more of them
abbrev pub holds_all : List Kind → List Kind → Bool
holds_all ks base =
    are_same_prefixes (first_prefix ks) (first_prefix base) && (length (kept_names base) == 0)
    && (if is_anchored base then not (has_prefix base) else not (is_anchored ks) && nat_le (unmet ks) (unmet base))

-- a path lies at a base or below it, from whatever directory both are read
abbrev pub is_within : Dialect → List ℕ → List ℕ → Bool
is_within d path base =
    leads_within (kinds (parts_of d path)) (kinds (parts_of d base)) || holds_all (kinds (parts_of d path)) (kinds (parts_of d base))

-- so many parents
abbrev pub parents : ℕ → List Kind
parents zero = []
parents (suc n) = parent ∷ parents n

-- the names that are kept of a list behind which so many parents stand
abbrev pub names_under : ℕ → List Placed → List (List ℕ)
names_under n cs = kept_names (kinds (parts cs) ++ parents n)

-- and the parents that find no name there
abbrev pub unmet_under : ℕ → List Placed → ℕ
unmet_under n cs = unmet (kinds (parts cs) ++ parents n)
