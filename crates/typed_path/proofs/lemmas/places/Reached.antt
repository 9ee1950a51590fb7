-- Whether a path is reached from a base, by how many steps, and what room these take.
-- A path that is reached from a base lies within it exactly where no step leads up.
use Rattle.std.proofs.Common.{◌≡◌, ℕ, suc, ◌+◌, ◌-◌, ◌≤◌, ◌==◌, Bool, true, false, ◌&&◌, List, [], ◌∷◌, ◌++◌, if◌then◌else◌, length, drop, sym, ap, ◌∙◌, arith, nat_le, length-drop, ◌||◌, refl, eq-eqb}
use Rattle.std.proofs.lemmas.Grind.{common_steps}
use Rattle.std.proofs.lemmas.Bool.{and_parts, eqb-true, leb-true}
use Rattle.std.proofs.lemmas.List.{length-map}
use Rattle.std.proofs.Math.Bool.{and-false}
use Rattle.typed_path.specs.declared.scan.separators.Separators.{Separators}
use Rattle.typed_path.specs.components.{Dialect, is_separator, Kind, prefix, root, current, parent, normal, Part, Placed, parts, kinds, parts_of}
use Rattle.typed_path.specs.places.{can_stand, is_reached, kept_names, met_count, names_down, rising, rows_of, same_heads, shared_count, steps_up, unmet, AreNearSteps, holds_all, leads_within}
use Rattle.typed_path.proofs.lemmas.lists.Lists.{width, width-slice_split}
use Rattle.typed_path.proofs.lemmas.components.Segments.{body_parts, first_part, first_parts, later_part, later_parts, parts_behind, parts-comps_behind, pieces}
use Rattle.typed_path.proofs.lemmas.places.SharedFromBack.{shared_count-fits}
use Rattle.typed_path.proofs.lemmas.places.TakenNames.{rows-drop, row-size}
use Rattle.std.specs.List.{starts_with}
use Rattle.std.specs.Str.{bytes_eq}
use Rattle.std.proofs.lemmas.Slice.Eq.{bytes_eq-Decides}

-- no more names meet than either list keeps
pub met-fits : (ks ls : List Kind) → (met_count ks ls ≤ length (kept_names ks)) × (met_count ks ls ≤ length (kept_names ls))
met-fits ks ls = grind (arith, shared_count-fits)

-- no more names are kept, and parents are left over, than there are components
few-kept : (ks : List Kind) → unmet ks + length (kept_names ks) ≤ length ks
few-kept [] = grind arith
few-kept (prefix p ∷ ks) = grind (arith, few-kept ks)
few-kept (root ∷ ks) = grind (arith, few-kept ks)
few-kept (current ∷ ks) = grind (arith, few-kept ks)
few-kept (parent ∷ ks) = grind (arith, few-kept ks)
few-kept (normal name ∷ ks) = grind (arith, few-kept ks)

pub few-steps : (cs : List Placed) → rising (kinds (parts cs)) + length (kept_names (kinds (parts cs))) ≤ length cs
few-steps cs = grind (arith, few-kept, length-map)

pub not-standing : (ks ls : List Kind) → can_stand (names_down ks ls) ≡ false → is_reached ks ls ≡ false
not-standing ks ls e = ap (λ b. (same_heads ks ls && nat_le (rising ls) (rising ks)) && b) e ∙ and-false (same_heads ks ls && nat_le (rising ls) (rising ks))

-- the names behind those that are met
pub names-down : (ks ls : List Kind) (m downs : ℕ) → m ≡ met_count ks ls → downs ≡ length (kept_names ks) - m → drop (length (kept_names ks) - downs) (kept_names ks) ≡ names_down ks ls
names-down ks ls m downs is e = grind (arith, met-fits)

pub reached-all : (ks ls : List Kind) → same_heads ks ls ≡ true → rising ls ≤ rising ks → can_stand (names_down ks ls) ≡ true → is_reached ks ls ≡ true
reached-all ks ls heads rises stands = grind (arith, common_steps)

-- names that are met, told by numbers and names that are those of two lists
pub met-told : (ks ls : List Kind) (own other : ℕ) (xs ys : List (List ℕ)) → own ≡ rising ks → other ≡ rising ls → xs ≡ kept_names ks → ys ≡ kept_names ls
    → (if own == other then shared_count xs ys else 0) ≡ met_count ks ls
met-told ks ls own other xs ys a b e f = grind arith

-- How many bytes the names that are kept take, each with a separator behind it.

abbrev name_size : Kind → ℕ
name_size (normal name) = length name + 1
name_size k = 0

abbrev names_size : List Kind → ℕ
names_size [] = 0
names_size (k ∷ ks) = name_size k + names_size ks

kept-size : (s : Separators) (ks : List Kind) → length (rows_of s (kept_names ks)) ≤ names_size ks
kept-size s [] = grind arith
kept-size s (prefix p ∷ ks) = grind (arith, kept-size s ks)
kept-size s (root ∷ ks) = grind (arith, kept-size s ks)
kept-size s (current ∷ ks) = grind (arith, kept-size s ks)
kept-size s (parent ∷ ks) = grind (arith, kept-size s ks)
kept-size s (normal name ∷ ks) = grind (arith, row-size, kept-size s ks)

names_size-append : (ps qs : List Part) → names_size (kinds (ps ++ qs)) ≡ names_size (kinds ps) + names_size (kinds qs)
names_size-append [] qs = omega arith
names_size-append (p ∷ ps) qs = omega (arith, names_size-append ps qs)

size-later : (s : Separators) (piece : List ℕ) → names_size (kinds (later_part s piece)) ≤ length piece + 1
size-later s piece = grind arith

size-first : (s : Separators) (piece : List ℕ) → name_size (first_part s piece).kind ≤ length piece + 1
size-first s piece = grind arith

sizes-later : (s : Separators) (all : List (List ℕ)) → names_size (kinds (later_parts s all)) ≤ width all
sizes-later s [] = omega arith
sizes-later s (piece ∷ all) = omega (arith, size-later s piece, sizes-later s all, names_size-append (later_part s piece) (later_parts s all))

sizes-first : (s : Separators) (all : List (List ℕ)) → names_size (kinds (first_parts s all)) ≤ width all
sizes-first s all = grind (arith, size-first, sizes-later)

sizes-body : (s : Separators) (text : List ℕ) → names_size (kinds (body_parts s text)) ≤ length text + 1
sizes-body s [] = omega arith
sizes-body s (b ∷ bs) = omega (arith, sizes-first s (pieces s (b ∷ bs)), width-slice_split (is_separator s) (b ∷ bs))

sizes-whole : (d : Dialect) (t : List ℕ) → names_size (kinds (parts_of d t)) ≤ length t + 1
sizes-whole d t = grind (arith, parts-comps_behind, parts_behind, sizes-body, length-drop)

-- the last of them take a byte more than the path at the most
pub rows-room : (s : Separators) (d : Dialect) (t : List ℕ) (n : ℕ) → length (rows_of s (drop n (kept_names (kinds (parts_of d t))))) ≤ length t + 1
rows-room s d t n = let ks = kinds (parts_of d t) in omega (arith, rows-drop s n (kept_names ks), kept-size s ks, sizes-whole d t)

-- names that share all of others begin with these, and share all that they begin with
starts-shared : (xs ys : List (List ℕ)) → shared_count xs ys ≡ length ys → starts_with bytes_eq xs ys ≡ true
starts-shared [] [] all = refl
starts-shared (x ∷ xs) [] all = refl
starts-shared [] (y ∷ ys) all = absurd (omega (arith, all))
starts-shared (x ∷ xs) (y ∷ ys) all = by (starts-shared xs ys) (bytes_eq x y) refl all
  where
    by : (shared_count xs ys ≡ length ys → starts_with bytes_eq xs ys ≡ true) → (same : Bool) → bytes_eq x y ≡ same → (if same then suc (shared_count xs ys) else 0) ≡ suc (length ys)
        → bytes_eq y x && starts_with bytes_eq xs ys ≡ true
    by more same e is = grind (arith, bytes_eq-Decides)

shared-starts : (xs ys : List (List ℕ)) → starts_with bytes_eq xs ys ≡ true → shared_count xs ys ≡ length ys
shared-starts [] [] begins = refl
shared-starts (x ∷ xs) [] begins = refl
shared-starts [] (y ∷ ys) begins = cc
shared-starts (x ∷ xs) (y ∷ ys) begins =
    let both = and_parts (bytes_eq y x) (starts_with bytes_eq xs ys) begins in
    ap (λ same. if same then suc (shared_count xs ys) else 0) ((bytes_eq-Decides x y).1 (sym ((bytes_eq-Decides y x).0 both.0))) ∙ ap suc (shared-starts xs ys both.1)

-- where neither leads higher, the names that both begin with are met
level-met : (ks ls : List Kind) → rising ks ≡ rising ls → met_count ks ls ≡ shared_count (kept_names ks) (kept_names ls)
level-met ks ls level = ap (λ b. if b then shared_count (kept_names ks) (kept_names ls) else 0) (eq-eqb (rising ks) (rising ls) level)

module _ (ks ls : List Kind) (reached : is_reached ks ls ≡ true) where
  heads : same_heads ks ls ≡ true
  heads = (and_parts (same_heads ks ls) (nat_le (rising ls) (rising ks)) (and_parts (same_heads ks ls && nat_le (rising ls) (rising ks)) (can_stand (names_down ks ls)) reached).0).0

  rises : rising ls ≤ rising ks
  rises = leb-true (rising ls) (rising ks) (and_parts (same_heads ks ls) (nat_le (rising ls) (rising ks)) (and_parts (same_heads ks ls && nat_le (rising ls) (rising ks)) (can_stand (names_down ks ls)) reached).0).1

  no-step : steps_up ks ls ≡ 0 → leads_within ks ls ≡ true
  no-step h = grind (arith, rises, met-fits, level-met, heads, eq-eqb, starts-shared)

  within-no-step : leads_within ks ls ≡ true → steps_up ks ls ≡ 0
  within-no-step leads = grind (arith, and_parts, eqb-true, level-met, shared-starts)

  held-no-step : holds_all ks ls ≡ true → steps_up ks ls ≡ 0
  held-no-step holds = grind (arith, and_parts, eqb-true)

  pub reached-within : (steps_up ks ls == 0) ≡ (leads_within ks ls || holds_all ks ls)
  reached-within = grind (arith, common_steps, no-step, eqb-true, eq-eqb, within-no-step, held-no-step)

-- as the steps that bytes tell say
pub near-within : (s : Separators) (ks ls : List Kind) (ups : ℕ) (rest : List ℕ) (ended : Bool) → AreNearSteps s ks ls ups rest ended → (ups == 0) ≡ (leads_within ks ls || holds_all ks ls)
near-within s ks ls ups rest ended near = ap (λ n. n == 0) near.up ∙ reached-within ks ls near.reached
