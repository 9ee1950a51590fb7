-- The order of paths is total, and what it does not tell apart is the same. The laws of the traits cite it.
use Rattle.std.proofs.Common.{◌≡◌, ℕ, true, List, [], ◌∷◌, Ordering, Equal, refl, ap}
use Rattle.std.specs.List.{concat}
use Rattle.std.specs.Ordering.{ordering_then}
use Rattle.std.specs.Cmp.{IsTotalOrder, Equal-is, on_total}
use Rattle.std.specs.Cmp.Lexicographic.{slice_cmp, lists_total, nat_list_cmp_total}
use Rattle.std.proofs.lemmas.Map.Lookups.{CmpEqualImpliesEq, exact_bytes}
use Rattle.typed_path.specs.components.Dialects.{Dialect}
use Rattle.typed_path.specs.components.Parts.{verbatim, verbatim_unc, verbatim_disk, device_ns, unc, disk, Kind, prefix, root, current, parent, normal, kinds}
use Rattle.typed_path.specs.components.Comps.{parts_of}
use Rattle.typed_path.specs.order.Same.{key, kind_cmp, kinds_cmp, path_cmp, is_same}
use Rattle.typed_path.specs.order.KeyWords.{kinds_key_words}
use Rattle.typed_path.specs.order.KeyBytes.{chunked, key_writes}

-- kinds are in a total order
pub kind_cmp_total : IsTotalOrder kind_cmp
kind_cmp_total = on_total key (lists_total nat_list_cmp_total)

-- lists of kinds are in a total order
pub kinds_cmp_total : IsTotalOrder kinds_cmp
kinds_cmp_total = lists_total kind_cmp_total

-- paths are in a total order
pub path_cmp_total : (d : Dialect) → IsTotalOrder (path_cmp d)
path_cmp_total d = on_total (λ t. kinds (parts_of d t)) kinds_cmp_total

-- where one answer and then another come to `Equal`, both are `Equal`
both_equal : (a b : Ordering) → ordering_then a b ≡ Equal → (a ≡ Equal) × (b ≡ Equal)
both_equal Equal b e = (refl, e)
both_equal a b e = cc

-- lists that compare as equal are equal, where that holds of elements
pub exact_lists : {X : Type 0} {R : X → X → Ordering} → CmpEqualImpliesEq R → CmpEqualImpliesEq (slice_cmp R)
exact_lists exact [] [] e = refl
exact_lists exact [] (y ∷ ys) e = cc
exact_lists exact (x ∷ xs) [] e = cc
exact_lists {R = R} exact (x ∷ xs) (y ∷ ys) e =
    let both = both_equal (R x y) (slice_cmp R xs ys) e in
    cc (exact x y both.0, exact_lists exact xs ys both.1)

-- two kinds with one key are one kind; a case for `disk` beside another kind is there to take the prefix apart
key_injective : (k l : Kind) → key k ≡ key l → k ≡ l
key_injective (prefix (verbatim a)) (prefix (verbatim b)) e = cc
key_injective (prefix (verbatim_unc a c)) (prefix (verbatim_unc b d)) e = cc
key_injective (prefix (verbatim_disk a)) (prefix (verbatim_disk b)) e = cc
key_injective (prefix (device_ns a)) (prefix (device_ns b)) e = cc
key_injective (prefix (unc a c)) (prefix (unc b d)) e = cc
key_injective (prefix (disk a)) (prefix (disk b)) e = cc
key_injective root (prefix (disk b)) e = cc
key_injective root root e = refl
key_injective current (prefix (disk b)) e = cc
key_injective current current e = refl
key_injective parent (prefix (disk b)) e = cc
key_injective parent parent e = refl
key_injective (normal a) (prefix (disk b)) e = cc
key_injective (normal a) (normal b) e = cc
key_injective k l e = cc

-- kinds that compare as equal are equal
pub exact_kinds : CmpEqualImpliesEq kind_cmp
exact_kinds k l e = key_injective k l (exact_lists exact_bytes (key k) (key l) e)

-- equal texts have equal kinds
pub same-kinds : (d : Dialect) (t u : List ℕ) → is_same d t u ≡ true → kinds (parts_of d t) ≡ kinds (parts_of d u)
same-kinds d t u same = exact_lists exact_kinds (kinds (parts_of d t)) (kinds (parts_of d u)) ((Equal-is (path_cmp d t u)).0 same)

-- and are fed alike as keys
pub same-writes : (d : Dialect) (t u : List ℕ) → is_same d t u ≡ true → key_writes d t ≡ key_writes d u
same-writes d t u same = ap (λ ks. chunked (concat (kinds_key_words ks))) (same-kinds d t u same)
