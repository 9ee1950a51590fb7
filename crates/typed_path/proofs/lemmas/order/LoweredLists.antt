-- Two paths compared in lower case, component by component, with their prefixes first.
use Rattle.std.proofs.Common.{◌≡◌, ◌≢◌, ℕ, zero, suc, ◌-◌, ◌<◌, ◌≤◌, ◌==◌, Bool, true, false, not, ◌&&◌, List, [], ◌∷◌, ◌++◌, map, length, take, drop, get_or, min, refl, sym, ap, ap₂, ◌∙◌, arith, Option, Some, None, option_map, Ordering, Less, Equal, Greater, take-append-drop, take_all, length-drop, eqb-true, eq-eqb}
use Rattle.std.specs.Ordering.{nat_cmp, ordering_then}
use Rattle.std.specs.Str.{bytes_eq}
use Rattle.std.specs.Char.{to_ascii_lowercase}
use Rattle.typed_path.specs.components.{Dialect, Prefix, verbatim, verbatim_unc, verbatim_disk, device_ns, unc, disk, Kind, prefix, root, current, parent, normal, Part, Placed, parts, kinds, comps, unix, windows, Found, prefix_of}
use Rattle.typed_path.specs.scan.{first_part, PartAt}
use Rattle.typed_path.specs.queries.{first_prefix, behind_prefix, path_starts_with}
use Rattle.typed_path.specs.order.{IsLoweredBehind, bytes_cmp, kind_cmp, kinds_cmp, left_cmp, path_cmp, lowered, lowered_begins, lowered_behind, lowered_cmp, mark_before, mark_length, lowered_kind, lowered_part, lowered_placed, lowered_prefix}
use Rattle.typed_path.proofs.lemmas.order.Lowered.{comps_lowered, prefix-lowered}
use Rattle.typed_path.specs.declared.scan.separators.Separators.TheVariants.{Slash}
use Rattle.typed_path.proofs.lemmas.components.Prefixes.{prefix-fits}
use Rattle.typed_path.proofs.lemmas.components.PrefixCuts.{first-found, prefix_of-none}
use Rattle.typed_path.proofs.lemmas.order.DifferentPrefixes.{bare-found, body-bare}
use Rattle.typed_path.proofs.lemmas.order.SharedNames.{alike-before, bytes-shared}
use Rattle.typed_path.proofs.lemmas.lists.Lists.{alike-front, same-bytes}
use Rattle.typed_path.proofs.lemmas.lists.Options.{some_is}
use Rattle.std.proofs.Math.Seq.{drop-cons}
use Rattle.std.proofs.lemmas.Bool.{both_ways, eqb-false, false_from_ne_true, not-true}
use Rattle.std.proofs.lemmas.Bool.Decides.{nat_tests}
use Rattle.std.proofs.lemmas.List.{get_or-map, length-map}
use Rattle.std.proofs.lemmas.Slice.Eq.{bytes_eq-Decides}

-- The first component of a list, and those behind it, in lower case.

pub first-some : (cs : List Placed) (p : Part) → Some p ≡ first_part cs → Some (lowered_part p) ≡ first_part (map lowered_placed cs)
first-some [] p is = cc
first-some (c ∷ cs) p is = ap (option_map lowered_part) is

pub first-none : (cs : List Placed) → None ≡ first_part cs → None ≡ first_part (map lowered_placed cs)
first-none [] is = refl
first-none (c ∷ cs) is = cc

pub behind-first : (cs ds : List Placed) → ds ≡ drop 1 cs → map lowered_placed ds ≡ drop 1 (map lowered_placed cs)
behind-first [] ds is = ap (map lowered_placed) is
behind-first (c ∷ cs) ds is = ap (map lowered_placed) is

-- The prefix.

pub prefix-first : (cs : List Placed) → first_prefix (kinds (parts (map lowered_placed cs))) ≡ option_map lowered_prefix (first_prefix (kinds (parts cs)))
prefix-first [] = refl
prefix-first (c ∷ cs) = by c.part.kind
  where
    by : (k : Kind) → first_prefix (lowered_kind k ∷ kinds (parts (map lowered_placed cs))) ≡ option_map lowered_prefix (first_prefix (k ∷ kinds (parts cs)))
    by (prefix p) = refl
    by root = refl
    by current = refl
    by parent = refl
    by (normal name) = refl

pub behind-prefix : (cs : List Placed) → behind_prefix (map lowered_placed cs) ≡ map lowered_placed (behind_prefix cs)
behind-prefix [] = refl
behind-prefix (c ∷ cs) = by c refl
  where
    by : (d : Placed) → d ≡ c → behind_prefix (lowered_placed d ∷ map lowered_placed cs) ≡ map lowered_placed (behind_prefix (d ∷ cs))
    by d e = grind arith

pub prefix-some : (cs : List Placed) (p : Prefix) → Some p ≡ first_prefix (kinds (parts cs)) → Some (lowered_prefix p) ≡ first_prefix (kinds (parts (map lowered_placed cs)))
prefix-some cs p is = ap (option_map lowered_prefix) is ∙ sym (prefix-first cs)

pub prefix-none : (cs : List Placed) → None ≡ first_prefix (kinds (parts cs)) → None ≡ first_prefix (kinds (parts (map lowered_placed cs)))
prefix-none cs is = ap (option_map lowered_prefix) is ∙ sym (prefix-first cs)

-- a prefix comes before every other component, in lower case too
bare-first : (q : Prefix) (ks : List Kind) (bs : List Placed) → None ≡ first_prefix (kinds (parts bs)) → kinds_cmp (prefix q ∷ ks) (kinds (parts (map lowered_placed bs))) ≡ kinds_cmp (prefix q ∷ ks) (kinds (parts bs))
bare-first q ks [] bare = refl
bare-first q ks (b ∷ bs) bare = by q b.part.kind bare
  where
    less : Prefix → Kind → Type 0
    less p k = ordering_then (kind_cmp (prefix p) (lowered_kind k)) (kinds_cmp ks (kinds (parts (map lowered_placed bs)))) ≡ ordering_then (kind_cmp (prefix p) k) (kinds_cmp ks (kinds (parts bs)))

    by : (p : Prefix) (k : Kind) → None ≡ first_prefix (k ∷ kinds (parts bs)) → ordering_then (kind_cmp (prefix p) (lowered_kind k)) (kinds_cmp ks (kinds (parts (map lowered_placed bs)))) ≡ ordering_then (kind_cmp (prefix p) k) (kinds_cmp ks (kinds (parts bs)))
    by p (prefix r) is = cc
    by (verbatim a) k is = grind arith
    by (verbatim_unc a c) k is = grind arith
    by (verbatim_disk a) k is = grind arith
    by (device_ns a) k is = grind arith
    by (unc a c) k is = grind arith
    by (disk a) k is = grind arith

-- so what is told of a list without a prefix is told of it in lower case
pub ordered-bare : (bs : List Placed) (r : Ordering) → ((q : Prefix) (ks : List Kind) → None ≡ first_prefix (kinds (parts bs)) → r ≡ kinds_cmp (prefix q ∷ ks) (kinds (parts bs)))
    → (q : Prefix) (ks : List Kind) → None ≡ first_prefix (kinds (parts (map lowered_placed bs))) → r ≡ kinds_cmp (prefix q ∷ ks) (kinds (parts (map lowered_placed bs)))
ordered-bare bs r told q ks bare = let none = bare-again bs bare in told q ks none ∙ sym (bare-first q ks bs none)
  where
    bare-again : (cs : List Placed) → None ≡ first_prefix (kinds (parts (map lowered_placed cs))) → None ≡ first_prefix (kinds (parts cs))
    bare-again [] is = refl
    bare-again (c ∷ cs) is = by c.part.kind is
      where
        by : (k : Kind) → None ≡ first_prefix (lowered_kind k ∷ kinds (parts (map lowered_placed cs))) → None ≡ first_prefix (k ∷ kinds (parts cs))
        by (prefix p) e = cc
        by root e = refl
        by current e = refl
        by parent e = refl
        by (normal name) e = refl

-- what stands behind the prefix
pub behind-lowered : (cs bs : List Placed) → bs ≡ behind_prefix cs → map lowered_placed bs ≡ behind_prefix (map lowered_placed cs)
behind-lowered cs bs is = ap (map lowered_placed) is ∙ sym (behind-prefix cs)

-- Two lists in lower case.

-- two paths in lower case compare as their lists do
pub path-lowered : (d : Dialect) (t u : List ℕ) (cs ds : List Placed) → cs ≡ comps d t → ds ≡ comps d u → lowered_cmp cs ds ≡ path_cmp d (lowered d t) (lowered d u)
path-lowered d t u cs ds own other = ap₂ left_cmp (ap (map lowered_placed) own ∙ sym (comps_lowered d t)) (ap (map lowered_placed) other ∙ sym (comps_lowered d u))

pub begins-lowered : (d : Dialect) (t u : List ℕ) (cs ds : List Placed) → cs ≡ comps d t → ds ≡ comps d u → path_starts_with d (lowered d t) (lowered d u) ≡ lowered_begins cs ds
begins-lowered d t u cs ds own other = grind (arith, comps_lowered)

-- what a component of both tells of whether one begins with the other
pub begins-step : (rest wanted : List Placed) (p q : Part) → Some p ≡ first_part wanted → Some q ≡ first_part rest
    → lowered_begins rest wanted ≡ (bytes_eq (lowered_part p).text (lowered_part q).text && lowered_begins (drop 1 rest) (drop 1 wanted))
begins-step rest wanted p q some own = grind arith

pub begins-short : (rest wanted : List Placed) (p : Part) → Some p ≡ first_part wanted → None ≡ first_part rest → lowered_begins rest wanted ≡ false
begins-short rest wanted p some none = grind arith

pub begins-all : (rest wanted : List Placed) → None ≡ first_part wanted → lowered_begins rest wanted ≡ true
begins-all rest wanted none = grind arith

-- How much of a path stays as it is written.

pub kept-none : (d : Dialect) (t : List ℕ) → None ≡ first_prefix (kinds (parts (comps d t))) → IsLoweredBehind d t 0
kept-none unix t bare = record { lowered_is = refl; within = omega arith }
kept-none windows t bare = record { lowered_is = ap (λ o. lowered_behind (mark_before o) t) (prefix_of-none t (sym bare)); within = omega arith }

pub kept-some : (d : Dialect) (t : List ℕ) (p : Prefix) → Some p ≡ first_prefix (kinds (parts (comps d t))) → IsLoweredBehind d t (mark_length p)
kept-some unix t p some = cc (body-bare Slash t)
kept-some windows t p some = by (prefix_of windows t) refl
  where
    by : (o : Option Found) → prefix_of windows t ≡ o → IsLoweredBehind windows t (mark_length p)
    by None e = cc (bare-found t e)
    by (Some f) e =
        let same : f.prefix ≡ p = some_is (first-found t f e ∙ sym some) in
        record {
          lowered_is = ap (λ o. lowered_behind (mark_before o) t) e ∙ ap (λ q. lowered_behind (mark_length q) t) same;
          within = omega (arith, ap mark_length same, (prefix-lowered t).marked f e, (prefix-fits windows t f e).fits);
        }

-- Two texts that part at a place.

module _ (t u : List ℕ) (n : ℕ) (place : PartAt t u n) where
  rests-told : bytes_cmp t u ≡ bytes_cmp (drop n t) (drop n u)
  rests-told =
      ap₂ bytes_cmp (sym (take-append-drop n t)) (sym (take-append-drop n u))
      ∙ ap (λ front. bytes_cmp (front ++ drop n t) (take n u ++ drop n u)) (alike-before t u n n place (omega arith))
      ∙ bytes-shared (take n u) (drop n t) (drop n u)

  -- they are in the order of the bytes there
  pub order-apart : n < length t → n < length u → bytes_cmp t u ≡ nat_cmp (get_or t n 0) (get_or u n 0)
  order-apart own other =
      rests-told ∙ ap₂ bytes_cmp (drop-cons t n 0 own) (drop-cons u n 0 other)
      ∙ apart (get_or t n 0) (get_or u n 0) (drop (suc n) t) (drop (suc n) u) (place.hit (omega (arith, own, other)))
    where
      apart : (a b : ℕ) (xs ys : List ℕ) → not (a == b) ≡ true → bytes_cmp (a ∷ xs) (b ∷ ys) ≡ nat_cmp a b
      apart a b xs ys differ = grind (arith, nat_tests)

  -- or the shorter one comes first
  pub order-ended : min (length t) (length u) ≤ n → bytes_cmp t u ≡ nat_cmp (length t) (length u)
  order-ended whole = rests-told ∙ by (drop n t) (drop n u) (length-drop n t) (length-drop n u) (place.high)
    where
      by : (xs ys : List ℕ) → length xs ≡ length t - n → length ys ≡ length u - n → n ≤ min (length t) (length u) → bytes_cmp xs ys ≡ nat_cmp (length t) (length u)
      by [] [] e f h = sym (ends (length t) (length u) (omega (arith, e, f, h)))
        where
          ends : (a b : ℕ) → a ≡ b → nat_cmp a b ≡ Equal
          ends a b same = grind (arith, nat_tests)
      by [] (y ∷ ys) e f h = sym (first (length t) (length u) (omega (arith, e, f, h)))
        where
          first : (a b : ℕ) → a < b → nat_cmp a b ≡ Less
          first a b less = grind (arith, nat_tests)
      by (x ∷ xs) [] e f h = sym (second (length t) (length u) (omega (arith, e, f, h)))
        where
          second : (a b : ℕ) → b < a → nat_cmp a b ≡ Greater
          second a b less = grind (arith, nat_tests)
      by (x ∷ xs) (y ∷ ys) e f h = absurd (omega (arith, e, f, h, whole))

  -- texts of one length are one where they part at their end
  pub same-ended : length t ≡ length u → (n == length t) ≡ bytes_eq u t
  same-ended long = by (n == length t) refl
    where
      by : (b : Bool) → (n == length t) ≡ b → b ≡ bytes_eq u t
      by true e =
          let whole = eqb-true n (length t) e in
          let same : t ≡ u = sym (take_all n t (omega (arith, whole))) ∙ alike-before t u n n place (omega arith) ∙ take_all n u (omega (arith, whole, long)) in
          sym (ap (bytes_eq u) same ∙ same-bytes u)
      by false e = sym (false_from_ne_true (bytes_eq u t) (λ eq.
          let same : u ≡ t = (bytes_eq-Decides u t).0 eq in
          let inner : n < length t = omega (arith, place.high, eqb-false n (length t) e) in
          both_ways (get_or t n 0 == get_or u n 0) (not-true _ (place.hit (omega (arith, inner, long)))) (eq-eqb (get_or t n 0) (get_or u n 0) (ap (λ x. get_or x n 0) (sym same)))))

-- The bytes of a text in lower case, but for its first ones.

pub length-lowered : (n : ℕ) (text : List ℕ) → length (lowered_behind n text) ≡ length text
length-lowered zero text = length-map text to_ascii_lowercase
length-lowered (suc n) [] = refl
length-lowered (suc n) (b ∷ bs) = ap suc (length-lowered n bs)

pub byte-lowered : (n at : ℕ) (text : List ℕ) → n ≤ at → at < length text → get_or (lowered_behind n text) at 0 ≡ to_ascii_lowercase (get_or text at 0)
byte-lowered zero at text behind inside = get_or-map to_ascii_lowercase text at 0 0 inside
byte-lowered (suc n) at [] behind inside = absurd (omega arith)
byte-lowered (suc n) zero (b ∷ bs) behind inside = absurd (omega arith)
byte-lowered (suc n) (suc at) (b ∷ bs) behind inside = byte-lowered n at bs (omega arith) (omega arith)

-- texts that differ in length, or at a place, are not one
pub differ-length : (xs ys : List ℕ) → length xs ≢ length ys → bytes_eq ys xs ≡ false
differ-length xs ys apart = false_from_ne_true (bytes_eq ys xs) (λ eq. apart (ap length (sym ((bytes_eq-Decides ys xs).0 eq))))

pub differ-at : (xs ys : List ℕ) (k : ℕ) → get_or xs k 0 ≢ get_or ys k 0 → bytes_eq ys xs ≡ false
differ-at xs ys k apart = false_from_ne_true (bytes_eq ys xs) (λ eq. apart (ap (λ x. get_or x k 0) (sym ((bytes_eq-Decides ys xs).0 eq))))

pub alike-each : (xs ys : List ℕ) → length xs ≡ length ys → ((k : ℕ) → k < length xs → get_or xs k 0 ≡ get_or ys k 0) → bytes_eq ys xs ≡ true
alike-each xs ys long each =
    let same : xs ≡ ys = sym (take_all (length xs) xs (omega arith)) ∙ alike-front (length xs) xs ys (omega arith) (omega (arith, long)) each ∙ take_all (length xs) ys (omega (arith, long)) in
    ap (bytes_eq ys) same ∙ same-bytes ys
