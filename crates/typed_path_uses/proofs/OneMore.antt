-- What a map of counts has once one more is counted.
use Rattle.std.proofs.Common.{◌≡◌, ◌≢◌, ◌+◌, ◌<◌, ◌≤◌, ℕ, List, ◌∷◌, Bool, true, false, Some, refl, sym, ap, ◌∙◌, arith, drop, get_or, length}
use Rattle.std.specs.Cmp.{Equal-is}
use Rattle.std.specs.Borrow.{Bor}
use Rattle.std.specs.Option.{unwrap_or}
use Rattle.std.specs.Ordering.{is_eq}
use Rattle.std.proofs.lemmas.List.{drop_more}
use Rattle.std.proofs.lemmas.Cmp.{tied_itself}
use Rattle.std.specs.HashMap.{HashMap, UpdatesBy, get_by}
use Rattle.std.specs.Map.{AreApart, IsKeyTest, KeepsOthers, lookup}
use Rattle.typed_path.specs.components.{Dialect, Kind, kinds, parts_of}
use Rattle.typed_path.specs.order.{kinds_cmp, kinds_cmp_total, exact_lists, exact_kinds, is_same}
use Rattle.typed_path.specs.views.OwnedViews.{Owned}
use Rattle.typed_path.specs.declared.common.keys.Key.{Key}
use Rattle.typed_path_uses.specs.Counts.{is_key_of, is_read_as, one_if, times, count_at}

-- a path that is read as a list has that list
read-is : (d : Dialect) (ks : List Kind) (path : List ℕ) → is_read_as d ks path ≡ true → ks ≡ kinds (parts_of d path)
read-is d ks path e = exact_lists exact_kinds ks _ ((Equal-is (kinds_cmp ks (kinds (parts_of d path)))).0 e)

-- whether two keys are of one path
abbrev pub are_same : Dialect → Key Owned → Key Owned → Bool
are_same d x y = is_same d x.path.bytes y.path.bytes

-- so whether a key is read as a list is a test of one key
read-tests : (d : Dialect) (ks : List Kind) → IsKeyTest (are_same d) (is_key_of d ks)
read-tests d ks x y e = ap (λ ls. is_read_as d ls y.path.bytes) (read-is d ks x.path.bytes e)

-- two lists ask for two keys
read-apart : (d : Dialect) (ks others : List Kind) → others ≢ ks → AreApart (is_key_of d ks) (is_key_of d others)
read-apart d ks others differ key e = no (is_read_as d others key.path.bytes) refl
  where
    no : (b : Bool) → is_read_as d others key.path.bytes ≡ b → b ≡ false
    no true f = absurd (differ (read-is d others key.path.bytes f ∙ sym (read-is d ks key.path.bytes e)))
    no false f = refl

-- the path that is counted has one more, and every other one what it had
pub counted-one : {S : Type 0} (d : Dialect) (key : Key Owned) (n : ℕ) (old new : HashMap (Key Owned) ℕ S) → n ≡ count_at d (kinds (parts_of d key.path.bytes)) old
    → UpdatesBy (are_same d) (are_same d key) old new (Some (n + 1))
    → (ks : List Kind) → count_at d ks new ≡ count_at d ks old + one_if (is_read_as d ks key.path.bytes)
unfolding KeepsOthers
counted-one d key n old new was updates ks = by (is_read_as d ks key.path.bytes) refl
  where
    own : List Kind
    own = kinds (parts_of d key.path.bytes)

    by : (b : Bool) → is_read_as d ks key.path.bytes ≡ b → count_at d ks new ≡ count_at d ks old + one_if b
    by true e =
        let is : ks ≡ own = read-is d ks key.path.bytes e in
        ap (λ ls. count_at d ls new) is ∙ ap (λ o. unwrap_or o 0) updates.1 ∙ ap (λ m. m + 1) was ∙ ap (λ ls. count_at d ls old + 1) (sym is)
    by false e =
        ap (λ o. unwrap_or o 0) (updates.3 (is_key_of d ks) (read-tests d ks) (read-apart d own ks (λ same. no (sym (told same) ∙ e)))) ∙ omega arith
      where
        read-own : is_read_as d own key.path.bytes ≡ true
        read-own = ap is_eq (tied_itself kinds_cmp_total own)

        told : ks ≡ own → is_read_as d ks key.path.bytes ≡ true
        told same = ap (λ ls. is_read_as d ls key.path.bytes) same ∙ read-own

        no : true ≡ false → ⊥
        no f = cc

-- so what is counted and what is still to come stay the whole
pub counted-next : (d : Dialect) (ks : List Kind) (names : List (Bor (List ℕ))) (i : ℕ) (none : Bor (List ℕ)) (path : List ℕ) (was now whole : ℕ) → i < length names
    → path ≡ (get_or names i none).now → now ≡ was + one_if (is_read_as d ks path) → was + times d ks (drop i names) ≡ whole → now + times d ks (drop (i + 1) names) ≡ whole
counted-next d ks names i none path was now whole within is counted sum =
    let split : times d ks (drop i names) ≡ one_if (is_read_as d ks path) + times d ks (drop (i + 1) names) =
    ap (times d ks) (drop_more names i none within) ∙ ap (λ t. one_if (is_read_as d ks t) + times d ks (drop (i + 1) names)) (sym is) in
    omega (arith, counted, sum, split)

-- no more are counted than came
pub counted-few : (d : Dialect) (ks : List Kind) (path : List ℕ) (was now i : ℕ) → now ≡ was + one_if (is_read_as d ks path) → was ≤ i → now ≤ i + 1
counted-few d ks path was now i counted few = by (is_read_as d ks path) counted
  where
    by : (b : Bool) → now ≡ was + one_if b → now ≤ i + 1
    by true e = omega (arith, e, few)
    by false e = omega (arith, e, few)
