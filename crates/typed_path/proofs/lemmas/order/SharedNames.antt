-- Two texts that begin alike and go on with different names: their order is that of the names.
use Rattle.std.proofs.Common.{◌≡◌, ℕ, zero, suc, ◌+◌, ◌-◌, ◌<◌, ◌≤◌, ◌==◌, List, [], ◌∷◌, ◌++◌, Bool, true, false, not, ◌&&◌, ◌||◌, All, take, drop, length, get_or, Ordering, Equal, refl, sym, ap, ap₂, subst, ◌∙◌, arith, length-take-le, length-drop, take-append-drop, get_or-take, get_or-drop, take_all, append_assoc, length-append, inl, inr, Option, Some, None}
use Rattle.std.proofs.lemmas.Grind.{common_steps}
use Rattle.std.specs.Ordering.{is_ne, ordering_then}
use Rattle.std.specs.List.{before_first, position_or_len, suffix_len}
use Rattle.std.specs.Str.{bytes_eq}
use Rattle.std.specs.Cmp.Lexicographic.{bytes_decides, nat_list_cmp_total}
use Rattle.std.proofs.Math.Bool.{and-false}
use Rattle.std.proofs.Math.Seq.{get_or-append_seam}
use Rattle.std.proofs.lemmas.Bool.{and_parts, cases_lt, false_from_ne_true, not-true}
use Rattle.std.proofs.lemmas.List.{drop-append-le, take-append-le, take_more, take_rest}
use Rattle.std.proofs.Math.Dec.{eqb-suc-zero}
use Rattle.std.proofs.lemmas.Cmp.{tied_itself, nat_cmp_total}
use Rattle.typed_path.specs.declared.scan.separators.Separators.{Separators}
use Rattle.typed_path.specs.declared.scan.separators.Separators.TheVariants.{Either}
use Rattle.typed_path.specs.declared.scan.cursor.Body.{Body as Reading}
use Rattle.typed_path.specs.declared.scan.cursor.Begin.{Begin}
use Rattle.typed_path.specs.declared.scan.cursor.Begin.TheVariants.{Body, Inside}
use Rattle.typed_path.specs.components.{is_separator, dot, Placed, name_part, component, first, body, later_body, kinds, parts, windows, Prefix, prefix, prefix_part, Found, prefix_of, separators, comps, comps_behind, IsPartedDrive}
use Rattle.typed_path.specs.scan.{body_from, is_clean, counts, begins_with_name, tells_name, IsParting, PartWithinNames, PartAt}
use Rattle.typed_path.specs.order.{bytes_cmp, left_cmp, kinds_cmp, path_cmp, kind_cmp_total, kinds_cmp_total}
use Rattle.typed_path.specs.views.BodyViews.{body_slice, body_items}
use Rattle.typed_path.proofs.lemmas.lists.Lists.{last_place, before_first-cons, alike-front}
use Rattle.typed_path.proofs.lemmas.components.Segments.{body_from-first, parts-body}
use Rattle.typed_path.proofs.lemmas.components.Prefixes.{prefix-fits}
use Rattle.typed_path.specs.changes.{HaveOnePrefix, raw_length, is_name_piece}
use Rattle.typed_path.specs.queries.{path_starts_with}
use Rattle.typed_path.proofs.lemmas.queries.Bases.{begins}
use Rattle.typed_path.proofs.lemmas.order.Comparisons.{cmp-behind}
use Rattle.typed_path.proofs.lemmas.components.Cuts.{body-ended}

-- a segment that is a name is read as one
first-name : (s : Separators) (piece : List ℕ) (at : ℕ) → is_name_piece piece ≡ true → first s (record { text = piece; start = at }) ≡ component (name_part piece) at
first-name s piece at h = grind arith

counts-name : (s : Separators) (piece : List ℕ) → is_name_piece piece ≡ true → counts s piece ≡ true
counts-name s piece h = grind arith

-- three bytes or more are a name
long-name : (a b c : ℕ) (rest : List ℕ) → is_name_piece (a ∷ b ∷ c ∷ rest) ≡ true
long-name a b c rest = ap (λ e. not (e || false || false)) (eqb-suc-zero (length (b ∷ c ∷ rest)))

-- a segment that holds another byte than a dot is a name
holds-name : (xs : List ℕ) (b : ℕ) (ys : List ℕ) → (b == dot) ≡ false → is_name_piece (xs ++ b ∷ ys) ≡ true
holds-name [] b [] h = ap (λ d. not (d || false)) h
holds-name [] b (c ∷ []) h = ap (λ d. not (d && (c == dot))) h
holds-name [] b (c ∷ d ∷ ys) h = long-name b c d ys
holds-name (a ∷ []) b [] h = ap (λ d. not ((a == dot) && d)) h ∙ ap not (and-false (a == dot))
holds-name (a ∷ []) b (c ∷ ys) h = long-name a b c ys
holds-name (a ∷ c ∷ []) b ys h = long-name a c b ys
holds-name (a ∷ c ∷ d ∷ xs) b ys h = long-name a c d (xs ++ b ∷ ys)

before_first-open : (p : ℕ → Bool) (mid rest : List ℕ) → All (λ b. p b ≡ false) mid → before_first p (mid ++ rest) ≡ mid ++ before_first p rest
before_first-open p [] rest none = refl
before_first-open p (m ∷ mid) rest none =
    before_first-cons p m (mid ++ rest) (none 0 0 (omega arith))
    ∙ ap (λ xs. m ∷ xs) (before_first-open p mid rest (λ k d l. none (suc k) d (omega (arith, l))))

-- a text that begins with a name has it as its first component
pub begins-name : (begin : Begin) (s : Separators) (at : ℕ) (text : List ℕ) → begins_with_name s text ≡ true
    → (cs : List Placed) × (body_from begin s at text ≡ record { part = name_part (before_first (is_separator s) text); start = at } ∷ cs)
begins-name begin s at [] h = cc
begins-name begin s at (b ∷ bs) h =
    let n = position_or_len (is_separator s) (b ∷ bs) in
    let rest = later_body s (at + n) (drop n (b ∷ bs)) in (
      rest,
      body_from-first begin s at b bs (is_clean-of begin (counts-name s (before_first (is_separator s) (b ∷ bs)) h))
          ∙ ap (λ cs. cs ++ rest) (first-name s (before_first (is_separator s) (b ∷ bs)) at h),
    )
  where
    is_clean-of : (begin : Begin) → counts s (before_first (is_separator s) (b ∷ bs)) ≡ true → is_clean begin s (b ∷ bs) ≡ true
    is_clean-of begin h = grind arith

-- two lists that begin with different names are in their order
named-order : (cs ds : List Placed) (n m : List ℕ) (at : ℕ) (o : Ordering) → bytes_cmp n m ≡ o → is_ne o ≡ true
    → left_cmp (record { part = name_part n; start = at } ∷ cs) (record { part = name_part m; start = at } ∷ ds) ≡ o
named-order cs ds n m at o e h = grind arith

-- what two lists of bytes begin with alike does not tell
pub bytes-shared : (mid xs ys : List ℕ) → bytes_cmp (mid ++ xs) (mid ++ ys) ≡ bytes_cmp xs ys
bytes-shared [] xs ys = refl
bytes-shared (m ∷ mid) xs ys = ap (λ o. ordering_then o (bytes_cmp (mid ++ xs) (mid ++ ys))) (tied_itself nat_cmp_total m) ∙ bytes-shared mid xs ys

pub same-byte : (a b : ℕ) → not (a == b) ≡ false → a ≡ b
same-byte a b h = grind arith

-- what is left of a reading has the components of its slice, read from its beginning
pub clean-parts : (begin : Begin) (s : Separators) (at : ℕ) (v : List ℕ) → is_clean begin s v ≡ true → parts (body_from begin s at v) ≡ parts (body s 0 v)
clean-parts Body s at [] clean = refl
clean-parts Inside s at [] clean = refl
clean-parts begin s at (b ∷ bs) clean =
    ap parts (body_from-first begin s at b bs clean ∙ sym (body_from-first Body s at b bs refl))
    ∙ parts-body s at (b ∷ bs)
    ∙ sym (parts-body s 0 (b ∷ bs))

-- a whole body has the components of its slice, wherever that stands
pub whole-body : (b : Reading) (s : Separators) (text : List ℕ) → s ≡ b.separators → text ≡ body_slice b → b.begin ≡ Begin.Body → kinds (parts (body s 0 text)) ≡ kinds (parts (body_items b))
whole-body b s text same slice begins = grind (arith, begins, parts-body)

-- two texts with the same components in front, and then names in a given order
pub record Parted (s : Separators) (t u : List ℕ) (o : Ordering) : Type 0 where
  pub front : List Placed
  pub at : ℕ
  pub own : List ℕ
  pub other : List ℕ
  pub behind_own : List Placed
  pub behind_other : List Placed
  pub own_is : body s 0 t ≡ front ++ record { part = name_part own; start = at } ∷ behind_own
  pub other_is : body s 0 u ≡ front ++ record { part = name_part other; start = at } ∷ behind_other
  pub order : bytes_cmp own other ≡ o

-- these are in the order of the names
pub parted-cmp : (s : Separators) (t u : List ℕ) (o : Ordering) → Parted s t u o → is_ne o ≡ true → left_cmp (body s 0 t) (body s 0 u) ≡ o
parted-cmp s t u o p differ =
    sym (cmp-behind p.front (record { part = name_part p.own; start = p.at } ∷ p.behind_own) (record { part = name_part p.other; start = p.at } ∷ p.behind_other) (body s 0 t) (body s 0 u) p.own_is p.other_is)
    ∙ named-order p.behind_own p.behind_other p.own p.other p.at o p.order differ

-- a list does not begin with another that has a name otherwise in one place
begins-apart : (fs gs : List Placed) (c d : Placed) (cs ds : List Placed) → length fs ≡ length gs → bytes_eq d.part.text c.part.text ≡ false → begins (fs ++ c ∷ cs) (gs ++ d ∷ ds) ≡ false
begins-apart [] [] c d cs ds e h = ap (λ b. b && begins cs ds) h
begins-apart [] (g ∷ gs) c d cs ds e h = absurd (omega (arith, e))
begins-apart (f ∷ fs) [] c d cs ds e h = absurd (omega (arith, e))
begins-apart (f ∷ fs) (g ∷ gs) c d cs ds e h =
    ap (λ b. bytes_eq g.part.text f.part.text && b) (begins-apart fs gs c d cs ds (omega (arith, e)) h) ∙ and-false (bytes_eq g.part.text f.part.text)

-- behind the same components a list begins with another as it does without them
begins-behind : (fs cs ds : List Placed) → begins (fs ++ cs) (fs ++ ds) ≡ begins cs ds
begins-behind [] cs ds = refl
begins-behind (f ∷ fs) cs ds = ap (λ b. b && begins (fs ++ cs) (fs ++ ds)) ((bytes_decides f.part.text f.part.text).1 refl) ∙ begins-behind fs cs ds

-- names that are in an order are not one
pub unlike : (a b : List ℕ) (o : Ordering) → bytes_cmp a b ≡ o → is_ne o ≡ true → (bytes_eq a b ≡ false) × (bytes_eq b a ≡ false)
unlike a b o is differ = (false_from_ne_true _ (λ same. apart ((bytes_decides a b).0 same)), false_from_ne_true _ (λ same. apart (sym ((bytes_decides b a).0 same))))
  where
    apart : a ≡ b → ⊥
    apart e = let tied : is_ne Equal ≡ true = subst (λ r. is_ne r ≡ true) (sym is ∙ sym (ap (bytes_cmp a) e) ∙ tied_itself nat_list_cmp_total a) differ in cc

-- so the one does not begin with the other
pub parted-begins : (s : Separators) (t u : List ℕ) (o : Ordering) → Parted s t u o → is_ne o ≡ true → begins (body s 0 t) (body s 0 u) ≡ false
parted-begins s t u o p differ = grind (arith, begins-apart, unlike)

-- the first segments of what two texts hold behind a place are in an order
abbrev pub AreInOrder : Separators → List ℕ → List ℕ → ℕ → Ordering → Type 0
AreInOrder s t u k o = bytes_cmp (before_first (is_separator s) (take (length t - k) (drop k t))) (before_first (is_separator s) (take (length u - k) (drop k u))) ≡ o

-- two texts, and behind the last separator that both begin with
module _ (s : Separators) (t u : List ℕ) (k n : ℕ) (parted : IsParting s t u k n) where
  fits : k ≤ length t
  fits = omega (arith, parted.0.high)

  fits' : k ≤ length u
  fits' = omega (arith, parted.0.high)

  low : n ≤ k
  low = omega (arith, parted.2, length-take-le k t fits)

  same : take k t ≡ take k u
  same = alike-front k t u fits fits' (λ i l. same-byte (get_or t i 0) (get_or u i 0) (parted.0.before i (omega arith) l))

  -- what stands before a place behind a separator
  split : (v : List ℕ) (j : ℕ) → n ≡ j + 1 → n ≤ length v → is_separator s (get_or v j 0) ≡ true → body s 0 v ≡ body s 0 (take n v) ++ later_body s n (drop n v)
  split v j e long separates =
      ap (body s 0) (sym (take-append-drop n v))
      ∙ body-ended s 0 (take n v) (take j v) (drop n v) (get_or v j 0) (ap (λ i. take i v) e ∙ take_more v j 0 (omega (arith, e, long))) separates
      ∙ ap (λ i. body s 0 (take n v) ++ later_body s i (drop n v)) (omega (arith, length-take-le n v long))

  take-front : (v : List ℕ) → k ≤ length v → take n v ≡ take n (take k v)
  take-front v long = ap (take n) (sym (take-append-drop k v)) ∙ take-append-le n (take k v) (drop k v) (omega (arith, length-take-le k v long, low))

  last_own : (j : ℕ) → n ≡ suc j → is_separator s (get_or t j 0) ≡ true
  last_own j e = grind (arith, get_or-take, low)

  last_other : (j : ℕ) → n ≡ suc j → is_separator s (get_or u j 0) ≡ true
  last_other j e = ap (is_separator s) (sym (same-byte (get_or t j 0) (get_or u j 0) (parted.0.before j (omega arith) (omega (arith, e, low))))) ∙ last_own j e

  pub own-at : (j : ℕ) → n ≡ suc j → body s 0 t ≡ body s 0 (take n t) ++ later_body s n (drop n t)
  own-at j e = split t j (omega (arith, e)) (omega (arith, fits, low)) (last_own j e)

  pub other-at : (j : ℕ) → n ≡ suc j → body s 0 u ≡ body s 0 (take n t) ++ later_body s n (drop n u)
  other-at j e =
      split u j (omega (arith, e)) (omega (arith, fits', low)) (last_other j e)
      ∙ ap (λ x. body s 0 x ++ later_body s n (drop n u)) (take-front u fits' ∙ ap (take n) (sym same) ∙ sym (take-front t fits))

  -- so they are in the order of what stands behind the components of the shared front
  pub behind-shared : 0 < n → left_cmp (later_body s n (drop n t)) (later_body s n (drop n u)) ≡ left_cmp (body s 0 t) (body s 0 u)
  behind-shared h =
      cmp-behind (body s 0 (take n t)) (later_body s n (drop n t)) (later_body s n (drop n u)) (body s 0 t) (body s 0 u) (own-at (n - 1) (omega (arith, h))) (other-at (n - 1) (omega (arith, h)))

  -- and the one begins with the other as what stands there does
  pub begins-shared : 0 < n → begins (later_body s n (drop n t)) (later_body s n (drop n u)) ≡ begins (body s 0 t) (body s 0 u)
  begins-shared h =
      sym (ap₂ begins (own-at (n - 1) (omega (arith, h))) (other-at (n - 1) (omega (arith, h))) ∙ begins-behind (body s 0 (take n t)) (later_body s n (drop n t)) (later_body s n (drop n u)))

  -- what both hold of the segments in which they part, which separates nowhere
  abbrev mid : List ℕ
  mid = drop n (take k t)

  opened : All (λ b. is_separator s b ≡ false) mid
  opened i d l = ap (is_separator s) (get_or-drop n (take k t) i d) ∙ parted.1.0 (n + i) d (omega arith) (omega (arith, l, length-drop n (take k t)))

  own-piece : before_first (is_separator s) (drop n t) ≡ mid ++ before_first (is_separator s) (drop k t)
  own-piece =
      ap (before_first (is_separator s)) (ap (drop n) (sym (take-append-drop k t)) ∙ drop-append-le n (take k t) (drop k t) parted.2)
      ∙ before_first-open (is_separator s) mid (drop k t) opened

  other-piece : before_first (is_separator s) (drop n u) ≡ mid ++ before_first (is_separator s) (drop k u)
  other-piece =
      ap (before_first (is_separator s)) (ap (drop n) (sym (take-append-drop k u)) ∙ ap (λ x. drop n (x ++ drop k u)) (sym same) ∙ drop-append-le n (take k t) (drop k u) parted.2)
      ∙ before_first-open (is_separator s) mid (drop k u) opened

  -- where the last byte that both begin with tells it, these are names
  last-named : (before : List ℕ) (b : ℕ) → take k t ≡ before ++ b ∷ [] → tells_name s b ≡ true → (begins_with_name s (drop n t) ≡ true) × (begins_with_name s (drop n u) ≡ true)
  last-named before b is tells = (
    ap is_name_piece own-piece ∙ name (before_first (is_separator s) (drop k t)),
    ap is_name_piece other-piece ∙ name (before_first (is_separator s) (drop k u)),
  )
    where
      both : (not (is_separator s b) ≡ true) × (not (b == dot) ≡ true)
      both = and_parts (not (is_separator s b)) (not (b == dot)) tells

      size : length (take k t) ≡ length before + 1
      size = ap length is ∙ length-append before (b ∷ [])

      inside : n ≤ length before
      inside = elim (cases_lt (length before) n) [
        | inl h ↦
            let last : n - 1 ≡ length before = omega (arith, h, size, parted.2) in
            let separates : is_separator s b ≡ true =
            ap (is_separator s) (sym (get_or-append_seam before b [] 0) ∙ ap (λ i. get_or (before ++ b ∷ []) i 0) (sym last) ∙ ap (λ xs. get_or xs (n - 1) 0) (sym is))
            ∙ parted.1.1 (omega (arith, h)) 0 in
            let apart = not-true _ both.0 in
            cc
        | inr h ↦ h
      ]

      name : (rest : List ℕ) → is_name_piece (mid ++ rest) ≡ true
      name rest = grind (arith, drop-append-le, inside, append_assoc, holds-name, not-true, both)

  -- these are in the order of their ends
  pub ends-order : (o : Ordering) → AreInOrder s t u k o → bytes_cmp (before_first (is_separator s) (drop n t)) (before_first (is_separator s) (drop n u)) ≡ o
  ends-order o is = grind (arith, own-piece, other-piece, bytes-shared, take_rest)

  -- where they are names, the texts are in the order of their ends
  pub names-parted : (o : Ordering) → begins_with_name s (drop n t) ≡ true → begins_with_name s (drop n u) ≡ true → AreInOrder s t u k o → Parted s t u o
  names-parted o named-own named-other is =
      by n refl
    where
      named : bytes_cmp (before_first (is_separator s) (drop n t)) (before_first (is_separator s) (drop n u)) ≡ o
      named = ends-order o is

      by : (m : ℕ) → n ≡ m → Parted s t u o
      by zero e =
          let a = begins-name Body s 0 t (ap (λ i. begins_with_name s (drop i t)) (sym e) ∙ named-own) in
          let b = begins-name Body s 0 u (ap (λ i. begins_with_name s (drop i u)) (sym e) ∙ named-other) in
          record {
            front = [];
            at = 0;
            own = before_first (is_separator s) t;
            other = before_first (is_separator s) u;
            behind_own = a.0;
            behind_other = b.0;
            own_is = a.1;
            other_is = b.1;
            order = sym (ap (λ i. bytes_cmp (before_first (is_separator s) (drop i t)) (before_first (is_separator s) (drop i u))) e) ∙ named;
          }
      by (suc j) e =
          let a = begins-name Inside s n (drop n t) named-own in
          let b = begins-name Inside s n (drop n u) named-other in
          record {
            front = body s 0 (take n t);
            at = n;
            own = before_first (is_separator s) (drop n t);
            other = before_first (is_separator s) (drop n u);
            behind_own = a.0;
            behind_other = b.0;
            own_is = own-at j e ∙ ap (λ cs. body s 0 (take n t) ++ cs) a.1;
            other_is = other-at j e ∙ ap (λ cs. body s 0 (take n t) ++ cs) b.1;
            order = named;
          }

-- two texts part within names where the last byte that both begin with tells it
pub tells-parted : (s : Separators) (t u : List ℕ) (k : ℕ) → PartAt t u k
    → (before : List ℕ) (b : ℕ) → take k t ≡ before ++ b ∷ [] → tells_name s b ≡ true → PartWithinNames s t u k
tells-parted s t u k parting before b is tells =
    let n = length (take k t) - suffix_len (λ x. not (is_separator s x)) (take k t) in
    let place = last_place (is_separator s) (take k t) in
    let parted : IsParting s t u k n = (parting, place.last, place.within) in
    let named = last-named s t u k n parted before b is tells in
    (n, parted, named.0, named.1)

-- two texts begin with the bytes before any place up to the first at which they differ
pub alike-before : (t u : List ℕ) (k n : ℕ) → PartAt t u k → n ≤ k → take n t ≡ take n u
alike-before t u k n place low = alike-front n t u (omega (arith, place.high)) (omega (arith, place.high)) (λ i l. same-byte (get_or t i 0) (get_or u i 0) (place.before i (omega arith) (omega arith)))

-- the same as a slice takes what stands there
pub parted-rest : (t u : List ℕ) (k n : ℕ) → PartAt t u k → n ≤ k → PartAt (take (length t - n) (drop n t)) (take (length u - n) (drop n u)) (k - n)
parted-rest t u k n place low = grind (arith, common_steps)

-- and where that is the end of one of them, the other begins with it
pub shared-begins : (t u : List ℕ) (k : ℕ) → PartAt t u k → k ≡ length u → (take (length u) t ≡ u) × (length u ≤ length t)
shared-begins t u k place whole = grind (arith, common_steps, alike-before)

-- one text is in order with itself
pub itself-order : (s : Separators) (t u : List ℕ) (k : ℕ) → PartAt t u k → k ≡ length t → k ≡ length u → left_cmp (body s 0 t) (body s 0 u) ≡ Equal
itself-order s t u k parting whole whole' =
    let same : t ≡ u = sym (take_all k t (omega (arith, whole))) ∙ alike-front k t u (omega (arith, whole)) (omega (arith, whole')) (λ i l. same-byte (get_or t i 0) (get_or u i 0) (parting.before i (omega arith) l)) ∙ take_all k u (omega (arith, whole')) in
    ap (λ v. left_cmp (body s 0 t) (body s 0 v)) (sym same) ∙ tied_itself kinds_cmp_total (kinds (parts (body s 0 t)))

-- behind one prefix two lists are in the order of what stands there
behind-order : (p : Prefix) (a b : List ℕ) (s : Separators) (n m : ℕ) (v w : List ℕ) (o : Ordering) → left_cmp (body s 0 v) (body s 0 w) ≡ o
    → left_cmp (component (prefix_part p a) 0 ++ body s n v) (component (prefix_part p b) 0 ++ body s m w) ≡ o
behind-order p a b s n m v w o is =
    ap (λ r. ordering_then r (left_cmp (body s n v) (body s m w))) (tied_itself kind_cmp_total (prefix p))
    ∙ ap₂ kinds_cmp (ap kinds (parts-body s n v ∙ sym (parts-body s 0 v))) (ap kinds (parts-body s m w ∙ sym (parts-body s 0 w)))
    ∙ is

-- and the one does not begin with the other where what stands there does not
behind-apart : (p : Prefix) (a b : List ℕ) (s : Separators) (n m : ℕ) (v w : List ℕ) → begins (body s 0 v) (body s 0 w) ≡ false
    → begins (component (prefix_part p a) 0 ++ body s n v) (component (prefix_part p b) 0 ++ body s m w) ≡ false
behind-apart p a b s n m v w apart = grind (arith, parts-body, and-false)

-- two Windows texts with no prefix but one drive
pub parted-one : (t u : List ℕ) (a b : Option ℕ) (v w : List ℕ) → IsPartedDrive t a v → IsPartedDrive u b w → a ≡ b → HaveOnePrefix t u (length t - length v) Either
parted-one t u a b v w own other same = grind arith

-- a prefix ends within its text
raw-fits : (t : List ℕ) (p : Option Found) → prefix_of windows t ≡ p → raw_length p ≤ length t
raw-fits t None is = omega arith
raw-fits t (Some f) is = (prefix-fits windows t f is).fits

-- and one of two texts within both
pub one-fits : (t u : List ℕ) (n : ℕ) (s : Separators) → HaveOnePrefix t u n s → (n ≤ length t) × (n ≤ length u)
one-fits t u n s one = grind (arith, raw-fits)

-- two Windows texts with one prefix, or none, are in the order of what stands behind it, and the one does not begin with the other where that does not
module _ (t u : List ℕ) (n : ℕ) (s : Separators) (one : HaveOnePrefix t u n s) where
  bare-comps : (v : List ℕ) → prefix_of windows v ≡ None → separators windows v ≡ s → comps windows v ≡ body s 0 (drop 0 v)
  bare-comps v is read = ap₂ (λ r g. comps_behind r v g) read is

  prefixed-comps : (f : Found) (v : List ℕ) → prefix_of windows v ≡ Some f → separators windows v ≡ s
      → comps windows v ≡ component (prefix_part f.prefix (take f.length v)) 0 ++ body s f.length (drop f.length v)
  prefixed-comps f v is read = ap₂ (λ r g. comps_behind r v g) read is

  pub one-order : (o : Ordering) → left_cmp (body s 0 (drop n t)) (body s 0 (drop n u)) ≡ o → path_cmp windows t u ≡ o
  one-order o is = by (prefix_of windows t) refl one.2 one.3
    where
      by : (p : Option Found) → prefix_of windows t ≡ p → prefix_of windows u ≡ p → n ≡ raw_length p → path_cmp windows t u ≡ o
      by None own other e = ap₂ left_cmp (bare-comps t own one.0) (bare-comps u other one.1) ∙ sym (λ i. left_cmp (body s 0 (drop (e i) t)) (body s 0 (drop (e i) u))) ∙ is
      by (Some f) own other e =
          ap₂ left_cmp (prefixed-comps f t own one.0) (prefixed-comps f u other one.1)
          ∙ behind-order f.prefix (take f.length t) (take f.length u) s f.length f.length (drop f.length t) (drop f.length u) o
          (sym (λ i. left_cmp (body s 0 (drop (e i) t)) (body s 0 (drop (e i) u))) ∙ is)

  pub one-apart : begins (body s 0 (drop n t)) (body s 0 (drop n u)) ≡ false → path_starts_with windows t u ≡ false
  one-apart apart = by (prefix_of windows t) refl one.2 one.3
    where
      by : (p : Option Found) → prefix_of windows t ≡ p → prefix_of windows u ≡ p → n ≡ raw_length p → path_starts_with windows t u ≡ false
      by None own other e = ap₂ begins (bare-comps t own one.0) (bare-comps u other one.1) ∙ sym (λ i. begins (body s 0 (drop (e i) t)) (body s 0 (drop (e i) u))) ∙ apart
      by (Some f) own other e =
          ap₂ begins (prefixed-comps f t own one.0) (prefixed-comps f u other one.1)
          ∙ behind-apart f.prefix (take f.length t) (take f.length u) s f.length f.length (drop f.length t) (drop f.length u)
          (sym (λ i. begins (body s 0 (drop (e i) t)) (body s 0 (drop (e i) u))) ∙ apart)
