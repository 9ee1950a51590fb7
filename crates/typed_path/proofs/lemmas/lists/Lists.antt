-- What lists are cut into and what stands before a first match; parts of lists, what holds of each of their elements, and lists that begin alike.
use Rattle.std.proofs.Common.{◌≡◌, ℕ, ◌+◌, Bool, true, false, cond, List, [], ◌∷◌, ◌++◌, map, All, flat_map, sum_by, fold, refl, sym, ap₂, ◌<◌, ◌≤◌, ◌==◌, suc, not, ◌||◌, length, take, drop, ap, ◌∙◌, arith, ◌-◌, inl, inr, length-append, get_or, reverse, zero, zero-le, get_or-take, length-take-le, length-drop, get_or-drop, take-append-drop, take_all, eq-eqb, eqb-true, min, take-take, append-nil, length-take, slice_index, slice_range, drop-drop, take_at, ◌&&◌, if◌then◌else◌}
use Rattle.std.proofs.lemmas.Grind.{common_steps, flat_map-append}
use Rattle.std.specs.List.{slice_split, onto_first, AllByRecursion, position_or_len, list_any, IsAfterLastMatch, after_last, suffix_len, before_first, prefix_len, count_by, list_all, flat_map, join_with_byte, starts_with}
use Rattle.std.proofs.lemmas.List.Elements.{All-nil}
use Rattle.std.proofs.lemmas.List.Splits.{slice_split-cons_yes, slice_split_none, slice_split_first, slice_split-cons_no}
use Rattle.std.proofs.lemmas.List.{length-reverse, get_or-reverse, drop_more, take_more, drop_all, take-map, take_min, drop-take, reverse-append, reverse-reverse}
use Rattle.std.proofs.lemmas.List.Sums.{fails_before_first, prefix_len_passes, prefix_len_stops, suffix_len_is, suffix_len-le-length, sum_by_push}
use Rattle.std.proofs.lemmas.Bool.{eqb-false, not-true, not-false, both_ways, cases_lt, not_from_true, not_from_false, cases_Bool, or_parts}
use Rattle.std.proofs.Math.Seq.{get_or-append-add}
use Rattle.std.specs.Str.{bytes_eq}
use Rattle.std.proofs.lemmas.Slice.Eq.{bytes_eq-Decides}

-- Lists: what a split gives, and what a function of each element sees.

-- a function of a choice is the choice of its values
pub choice : {A B : Type 0} (f : A → B) (b : Bool) (x y : A) → f (cond b x y) ≡ cond b (f x) (f y)
choice f b x y = grind arith

-- what stands before the first match, by the first element
pub before_first-byte : (p : ℕ → Bool) (b : ℕ) (bs : List ℕ) → before_first p (b ∷ bs) ≡ cond (p b) [] (b ∷ before_first p bs)
before_first-byte p b bs = grind arith

-- a split has a first part
pub slice_split-some : {X : Type 0} (p : X → Bool) (xs : List X) → (piece : List X) × (pieces : List (List X)) × (slice_split p xs ≡ piece ∷ pieces)
slice_split-some p [] = ([], [], refl)
slice_split-some {X} p (x ∷ xs) = by (p x) (slice_split p xs)
  where
    by : (b : Bool) (pieces : List (List X)) → (first : List X) × (rest : List (List X)) × (cond b ([] ∷ pieces) (onto_first x pieces) ≡ first ∷ rest)
    by true pieces = ([], pieces, refl)
    by false [] = (x ∷ [], [], refl)
    by false (piece ∷ pieces) = (x ∷ piece, pieces, refl)

-- putting an element onto the first part leaves the parts behind it as they are
onto_first-append : {X : Type 0} (x : X) (p : X → Bool) (xs : List X) (yss : List (List X)) → onto_first x (slice_split p xs ++ yss) ≡ onto_first x (slice_split p xs) ++ yss
onto_first-append x p xs yss = let e = slice_split-some p xs in rw e.2

-- a list with a separator in it is split before and behind that
pub slice_split-append : {X : Type 0} (p : X → Bool) (us : List X) (x : X) (vs : List X) → p x ≡ true → slice_split p (us ++ x ∷ vs) ≡ slice_split p us ++ slice_split p vs
slice_split-append p [] x vs separates = slice_split-cons_yes p x vs separates
slice_split-append p (u ∷ us) x vs separates = grind (arith, common_steps, onto_first-append, choice, slice_split-append p us x vs separates)

-- no element of the list separates
abbrev pub IsUnseparated : {X : Type 0} → (X → Bool) → List X → Type 0
IsUnseparated p xs = All (λ x. p x ≡ false) xs

-- no part holds a separator
pub slice_split-unseparated : {X : Type 0} (p : X → Bool) (xs : List X) → AllByRecursion (IsUnseparated p) (slice_split p xs)
slice_split-unseparated p [] = (All-nil _, tt)
slice_split-unseparated {X} p (x ∷ xs) = by (p x) refl (slice_split p xs) (slice_split-unseparated p xs)
  where
    by : (b : Bool) → p x ≡ b → (pieces : List (List X)) → AllByRecursion (IsUnseparated p) pieces → AllByRecursion (IsUnseparated p) (cond b ([] ∷ pieces) (onto_first x pieces))
    by b e pieces all = grind arith

-- what holds of each element of two lists holds of each element of both
pub AllByRecursion-append : {X : Type 0} (P : X → Type 0) (xs ys : List X) → AllByRecursion P xs → AllByRecursion P ys → AllByRecursion P (xs ++ ys)
AllByRecursion-append P xs ys each more = grind (arith, common_steps)

-- what follows at each element holds of each element
pub AllByRecursion-weaker : {X : Type 0} (P Q : X → Type 0) → ((x : X) → P x → Q x) → (xs : List X) → AllByRecursion P xs → AllByRecursion Q xs
AllByRecursion-weaker P Q weaker [] each = tt
AllByRecursion-weaker P Q weaker (x ∷ xs) each = (weaker x each.0, AllByRecursion-weaker P Q weaker xs each.1)

-- `f` sees of each element only what `k` makes of it
module _ {X K : Type 0} (k : X → K) where
  -- then a `map` of `f` is one of `g` over what `k` makes
  pub map-through : {A : Type 0} (f : X → A) (g : K → A) (xs : List X) → AllByRecursion (λ x. f x ≡ g (k x)) xs → map f xs ≡ map g (map k xs)
  map-through f g [] each = refl
  map-through f g (x ∷ xs) each = ap₂ ◌∷◌ each.0 (map-through f g xs each.1)

  -- so is a `flat_map`
  pub flat_map-through : {A : Type 0} (f : X → List A) (g : K → List A) (xs : List X) → AllByRecursion (λ x. f x ≡ g (k x)) xs → flat_map f xs ≡ flat_map g (map k xs)
  flat_map-through f g [] each = refl
  flat_map-through f g (x ∷ xs) each = ap₂ ◌++◌ each.0 (flat_map-through f g xs each.1)

  -- so is a sum from any start
  fold-through : (f : X → ℕ) (g : K → ℕ) (start : ℕ) (xs : List X) → AllByRecursion (λ x. f x ≡ g (k x)) xs → fold (λ a x. a + f x) start xs ≡ fold (λ a l. a + g l) start (map k xs)
  fold-through f g start [] each = refl
  fold-through f g start (x ∷ xs) each = rw each.0 (fold-through f g (start + g (k x)) xs each.1)

  -- so is a sum
  pub sum_by-through : (f : X → ℕ) (g : K → ℕ) (xs : List X) → AllByRecursion (λ x. f x ≡ g (k x)) xs → sum_by f xs ≡ sum_by g (map k xs)
  sum_by-through f g xs each = fold-through f g 0 xs each

-- A list cut at the first element that passes a test.

module _ (p : ℕ → Bool) (text : List ℕ) where
  -- no element before the first one that passes does
  pub fails_before : (n : ℕ) → n ≡ position_or_len p text → n ≤ length text → All (λ b. p b ≡ false) (take n text)
  fails_before n is within k d l = grind (arith, length-take-le, get_or-take, fails_before_first)

  pub split-none_passes : length text ≤ position_or_len p text → slice_split p text ≡ text ∷ []
  split-none_passes h = slice_split_none p text (λ k d l. fails_before_first p text k d (omega arith))

  pub split-at_first : (n : ℕ) → n ≡ position_or_len p text → n < length text → slice_split p text ≡ take n text ∷ slice_split p (drop (n + 1) text)
  split-at_first n is within = rw is (slice_split_first p text 0 (omega arith))

  pub open-at_first : (n : ℕ) → n ≡ position_or_len p text → n < length text → slice_split p (take n text) ≡ take n text ∷ []
  open-at_first n is within = slice_split_none p (take n text) (fails_before n is (omega arith))

-- some element passes where the first one that does does not stand at the end
pub position-any : (p : ℕ → Bool) (text : List ℕ) → not (position_or_len p text == length text) ≡ list_any p text
position-any p [] = grind arith
position-any p (b ∷ bs) = grind (arith, eq-eqb, eqb-true, not-false, eqb-false, not-true, position-any p bs)

-- Lists, cut at the last element that passes.

module _ {X : Type 0} (p : X → Bool) where
  -- the place behind the last element that passes, or 0
  pub record IsLastPlace (xs : List X) (start : ℕ) : Type 0 where
    pub within : start ≤ length xs
    pub last : IsAfterLastMatch p xs start

  -- each list has such a place
  pub last_place : (xs : List X) → IsLastPlace xs (length xs - suffix_len (λ x. not (p x)) xs)
  last_place xs =
      let q : X → Bool = λ x. not (p x) in
      let n = suffix_len q xs in
      let fits : n ≤ length xs = suffix_len-le-length q xs in
      record {
        within = omega arith;
        last = (
          λ k d low high.
              let back : length xs - 1 - (length xs - 1 - k) ≡ k = omega arith in
              not-true _ (rw back at (rw (get_or-reverse xs (length xs - 1 - k) d (omega arith)) at (prefix_len_passes q (reverse xs) (length xs - 1 - k) d (omega arith)))),
          λ some d.
              let before : length xs - 1 - n ≡ length xs - n - 1 = omega arith in
              not-false _ (rw before at (rw (get_or-reverse xs n d (omega arith)) at (prefix_len_stops q (reverse xs) d (omega (arith, length-reverse xs))))),
        );
      }

  -- what stands behind it, in the word of std
  pub after_last-drop : (xs : List X) (start : ℕ) (d : X) → IsLastPlace xs start → after_last p xs ≡ drop start xs
  after_last-drop xs start d h =
      let fits = h.within in
      let size = suffix_len_is (λ x. not (p x)) xs start d h.within (λ k low high. not_from_false _ (h.last.0 k d low high)) (λ some. not_from_true _ (h.last.1 some d)) in
      ap (λ n. drop n xs) (omega arith)

  -- no element behind it passes
  pub behind_last-unseparated : (xs : List X) (start : ℕ) → IsLastPlace xs start → IsUnseparated p (drop start xs)
  behind_last-unseparated xs start h k d low = grind (arith, length-drop, get_or-drop)

  -- a list, as what stands before the last element that passes, that element, and what stands behind it
  pub record IsCut (xs : List X) (start : ℕ) : Type 0 where
    pub before : List X
    pub mark : X
    pub whole : xs ≡ before ++ mark ∷ drop start xs
    pub front : take start xs ≡ before ++ mark ∷ []
    pub passes : p mark ≡ true
    pub counted : length before + 1 ≡ start

  -- so each list is cut where an element passes
  pub cut_last : (xs : List X) (start : ℕ) (d : X) → IsLastPlace xs start → 0 < start → IsCut xs start
  cut_last xs start d h some =
      let fits = h.within in
      let next : start - 1 + 1 ≡ start = omega arith in
      let more : drop (start - 1) xs ≡ get_or xs (start - 1) d ∷ drop start xs = rw next at (drop_more xs (start - 1) d (omega arith)) in
      record {
        before = take (start - 1) xs;
        mark = get_or xs (start - 1) d;
        whole = sym (take-append-drop (start - 1) xs) ∙ ap (λ ys. take (start - 1) xs ++ ys) more;
        front = rw next at (take_more xs (start - 1) d (omega arith));
        passes = h.last.1 some d;
        counted = omega (arith, length-take-le (start - 1) xs (omega arith));
      }

-- the place behind the last element that passes, where none does, and where one is followed by none
module _ (p : ℕ → Bool) where
  pub place-none : (xs : List ℕ) (start : ℕ) → IsLastPlace p xs start → IsUnseparated p xs → start ≡ 0
  place-none xs start h h1 = grind arith

  pub place-behind : (front : List ℕ) (mark : ℕ) (tail : List ℕ) (start : ℕ) → p mark ≡ true → IsUnseparated p tail → IsLastPlace p (front ++ mark ∷ tail) start → start ≡ length front + 1
  place-behind front mark tail start passes none h = elim (cases_lt (length front) start) [
    | inr least ↦ absurd (both_ways _ (h.last.0 (length front) 0 least (omega (arith, size))) (ap p at_mark ∙ passes))
    | inl more ↦ elim (cases_lt (length front + 1) start) [
      | inr least ↦ omega arith
      | inl beyond ↦
          let within = h.within in
          let m = start - 1 - (length front + 1) in
          let at : start - 1 ≡ length front + suc m = omega arith in
          let same : get_or (front ++ mark ∷ tail) (start - 1) 0 ≡ get_or tail m 0 = ap (λ k. get_or (front ++ mark ∷ tail) k 0) at ∙ get_or-append-add front (mark ∷ tail) (suc m) 0 in
          absurd (both_ways _ (none m 0 (omega (arith, size))) (sym (ap p same) ∙ h.last.1 (omega arith) 0))
    ]
  ]
    where
      size : length (front ++ mark ∷ tail) ≡ length front + length (mark ∷ tail)
      size = length-append front (mark ∷ tail)

      at_mark : get_or (front ++ mark ∷ tail) (length front) 0 ≡ mark
      at_mark = ap (λ k. get_or (front ++ mark ∷ tail) k 0) (omega arith) ∙ get_or-append-add front (mark ∷ tail) 0 0

-- A text cut between the pieces of its split: each part is split into its own pieces.

-- how many elements the pieces take, with a separator behind each
abbrev pub width : {X : Type 0} → List (List X) → ℕ
width [] = 0
width (piece ∷ pieces) = length piece + 1 + width pieces

-- the pieces of a text take one more than the text has, for want of a separator at its end
pub width-slice_split : {X : Type 0} (p : X → Bool) (xs : List X) → width (slice_split p xs) ≡ length xs + 1
width-slice_split p [] = refl
width-slice_split {X} p (x ∷ xs) = let some = slice_split-some p xs in by (p x) (slice_split p xs) some.0 some.1 some.2 (width-slice_split p xs)
  where
    by : (b : Bool) (all : List (List X)) (piece : List X) (pieces : List (List X)) → all ≡ piece ∷ pieces → width all ≡ length xs + 1 → width (cond b ([] ∷ all) (onto_first x all)) ≡ suc (length xs) + 1
    by b all piece pieces e h = grind arith

module _ {X : Type 0} (p : X → Bool) where
  -- the front of a text, as long as its first pieces, is split into them
  abbrev TakesPieces : List X → Type 0
  TakesPieces xs = (n : ℕ) (piece : List X) (before behind : List (List X)) → slice_split p xs ≡ piece ∷ before ++ behind → n ≡ length piece + width before
      → slice_split p (take n xs) ≡ piece ∷ before

  -- so it is with a separator before it
  takes-separator : (x : X) (xs : List X) → p x ≡ true → TakesPieces xs → TakesPieces (x ∷ xs)
  takes-separator x xs passes rest n piece before behind e size = by n piece before (sym (slice_split-cons_yes p x xs passes) ∙ e) size
    where
      by : (n : ℕ) (piece : List X) (before : List (List X)) → [] ∷ slice_split p xs ≡ piece ∷ before ++ behind → n ≡ length piece + width before → slice_split p (take n (x ∷ xs)) ≡ piece ∷ before
      by zero [] [] e size = refl
      by zero (y ∷ ys) before e size = cc
      by zero [] (q ∷ before) e size = absurd (omega arith)
      by (suc n) (y ∷ ys) before e size = cc
      by (suc n) [] [] e size = cc
      by (suc n) [] (q ∷ before) e size = grind (arith, slice_split-cons_yes)

  -- so it is with another element before it
  takes-other : (x : X) (xs : List X) → p x ≡ false → TakesPieces xs → TakesPieces (x ∷ xs)
  takes-other x xs fails rest n piece before behind e size =
      let some = slice_split-some p xs in
      by n piece some.0 some.1 some.2 (ap (onto_first x) (sym some.2) ∙ sym (slice_split-cons_no p x xs fails) ∙ e) size
    where
      by : (n : ℕ) (piece first : List X) (pieces : List (List X)) → slice_split p xs ≡ first ∷ pieces → (x ∷ first) ∷ pieces ≡ piece ∷ before ++ behind → n ≡ length piece + width before
          → slice_split p (take n (x ∷ xs)) ≡ piece ∷ before
      by n piece first pieces h e size = grind (arith, slice_split-cons_no)

  -- so it is with each text
  takes_pieces : (xs : List X) → TakesPieces xs
  takes_pieces [] n piece [] behind e size = rw (take_all n [] zero-le) cc
  takes_pieces [] n piece (q ∷ before) behind e size = cc
  takes_pieces (x ∷ xs) n piece before behind e size =
      elim (cases_Bool (p x)) [ inl h ↦ takes-separator x xs h (takes_pieces xs) n piece before behind e size | inr h ↦ takes-other x xs h (takes_pieces xs) n piece before behind e size ]

  -- the front of a text, as long as its first pieces, is split into them
  pub slice_split-take : (xs : List X) (piece : List X) (before behind : List (List X)) → slice_split p xs ≡ piece ∷ before ++ behind → slice_split p (take (length piece + width before) xs) ≡ piece ∷ before
  slice_split-take xs piece before behind e = takes_pieces xs (length piece + width before) piece before behind e refl

  -- a text without its first pieces is split into the others
  abbrev DropsPieces : List X → Type 0
  DropsPieces xs = (n : ℕ) (before : List (List X)) (piece : List X) (behind : List (List X)) → slice_split p xs ≡ before ++ piece ∷ behind → n ≡ width before
      → slice_split p (drop n xs) ≡ piece ∷ behind

  -- so it is with a separator before it
  drops-separator : (x : X) (xs : List X) → p x ≡ true → DropsPieces xs → DropsPieces (x ∷ xs)
  drops-separator x xs passes rest n before piece behind e size = by n before (sym (slice_split-cons_yes p x xs passes) ∙ e) size
    where
      by : (n : ℕ) (before : List (List X)) → [] ∷ slice_split p xs ≡ before ++ piece ∷ behind → n ≡ width before → slice_split p (drop n (x ∷ xs)) ≡ piece ∷ behind
      by zero [] e size = slice_split-cons_yes p x xs passes ∙ e
      by (suc n) [] e size = cc
      by zero (q ∷ before) e size = absurd (omega arith)
      by (suc n) ((y ∷ ys) ∷ before) e size = cc
      by (suc n) ([] ∷ before) e size = let others : slice_split p xs ≡ before ++ piece ∷ behind = cc in rest n before piece behind others (omega arith)

  -- so it is with another element before it
  drops-other : (x : X) (xs : List X) → p x ≡ false → DropsPieces xs → DropsPieces (x ∷ xs)
  drops-other x xs fails rest n before piece behind e size =
      let some = slice_split-some p xs in
      by n before some.0 some.1 some.2 (ap (onto_first x) (sym some.2) ∙ sym (slice_split-cons_no p x xs fails) ∙ e) size
    where
      by : (n : ℕ) (before : List (List X)) (first : List X) (pieces : List (List X)) → slice_split p xs ≡ first ∷ pieces → (x ∷ first) ∷ pieces ≡ before ++ piece ∷ behind → n ≡ width before
          → slice_split p (drop n (x ∷ xs)) ≡ piece ∷ behind
      by zero [] first pieces some e size = slice_split-cons_no p x xs fails ∙ ap (onto_first x) some ∙ e
      by (suc n) [] first pieces some e size = cc
      by zero (q ∷ before) first pieces some e size = absurd (omega arith)
      by (suc n) ([] ∷ before) first pieces some e size = cc
      by (suc n) ((y ∷ ys) ∷ before) first pieces some e size =
          let others : slice_split p xs ≡ ys ∷ before ++ piece ∷ behind = cc in
          rest n (ys ∷ before) piece behind others (omega arith)

  -- so it is with each text
  drops_pieces : (xs : List X) → DropsPieces xs
  drops_pieces [] n [] piece behind e size = rw (drop_all n [] zero-le) e
  drops_pieces [] n (q ∷ []) piece behind e size = cc
  drops_pieces [] n (q ∷ r ∷ before) piece behind e size = cc
  drops_pieces (x ∷ xs) n before piece behind e size =
      elim (cases_Bool (p x)) [ inl h ↦ drops-separator x xs h (drops_pieces xs) n before piece behind e size | inr h ↦ drops-other x xs h (drops_pieces xs) n before piece behind e size ]

  -- a text without its first pieces is split into the others
  pub slice_split-drop : (xs : List X) (before : List (List X)) (piece : List X) (behind : List (List X)) → slice_split p xs ≡ before ++ piece ∷ behind → slice_split p (drop (width before) xs) ≡ piece ∷ behind
  slice_split-drop xs before piece behind e = drops_pieces xs (width before) before piece behind e refl

-- the front of a list passes a test as far as the list does
pub prefix_len-take : (q : ℕ → Bool) (m : ℕ) (xs : List ℕ) → prefix_len q (take m xs) ≡ min m (prefix_len q xs)
prefix_len-take q zero xs = grind arith
prefix_len-take q (suc m) [] = grind arith
prefix_len-take q (suc m) (x ∷ xs) = grind (arith, prefix_len-take q m xs)

-- what holds of each element holds of each that is left behind the first, and of each of the first ones
pub AllByRecursion-tail : {X : Type 0} (P : X → Type 0) (xs : List X) → AllByRecursion P xs → AllByRecursion P (drop 1 xs)
AllByRecursion-tail P xs each = grind arith

pub AllByRecursion-take : {X : Type 0} (P : X → Type 0) (n : ℕ) (xs : List X) → AllByRecursion P xs → AllByRecursion P (take n xs)
AllByRecursion-take P n xs each = grind (arith, common_steps)

-- of the last one
pub AllByRecursion-last : {X : Type 0} (P : X → Type 0) (xs : List X) (x : X) → AllByRecursion P (xs ++ x ∷ []) → P x
AllByRecursion-last P [] x each = each.0
AllByRecursion-last P (y ∷ ys) x each = AllByRecursion-last P ys x each.1

-- what holds of each element but the last
pub all-front : {X : Type 0} (P : X → Type 0) (xs ys : List X) → AllByRecursion P (xs ++ ys) → AllByRecursion P xs
all-front P [] ys each = tt
all-front P (x ∷ xs) ys each = (each.0, all-front P xs ys each.1)

pub take-ended : {X : Type 0} (xs : List X) (x : X) → take (length (xs ++ x ∷ []) - 1) (xs ++ x ∷ []) ≡ xs
take-ended xs x = grind (arith, common_steps)

pub take-behind : (xs ys : List (List ℕ)) (n : ℕ) → n ≤ length ys → take (length (xs ++ ys) - n) (xs ++ ys) ≡ xs ++ take (length ys - n) ys
take-behind [] ys n e = refl
take-behind (x ∷ xs) ys n e =
    let more : suc (length (xs ++ ys)) - n ≡ suc (length (xs ++ ys) - n) = omega (arith, e, length-append xs ys) in
    ap (λ m. take m (x ∷ xs ++ ys)) more ∙ ap (λ ns. x ∷ ns) (take-behind xs ys n e)

pub take-nothing : (n : ℕ) → take {A = List ℕ} n [] ≡ []
take-nothing n = grind arith

-- what stands at the front of a text stays as names are put behind it
pub kept-front : (n : ℕ) (old new : List ℕ) → n ≤ length old → take (length old) new ≡ old → take n new ≡ take n old
kept-front n old new within front = sym (take-take n (length old) new within) ∙ ap (take n) front

-- so do fewer bytes of it than those that stay
pub kept-shorter : (n m : ℕ) (old new : List ℕ) → n ≤ m → take m new ≡ take m old → take n new ≡ take n old
kept-shorter n m old new less same = sym (take-take n m new less) ∙ ap (take n) same ∙ take-take n m old less

-- one more element counted
pub count_by-push : {X : Type 0} (p : X → Bool) (xs : List X) (x : X) → count_by p (xs ++ x ∷ []) ≡ count_by p xs + (if p x then 1 else 0)
count_by-push p xs x = sum_by_push (λ y. if p y then 1 else 0) xs x

-- a list of lists, each spread out
pub flat_map-flat : {X A B : Type 0} (f : A → List B) (g : X → List A) (xs : List X) → flat_map f (flat_map g xs) ≡ flat_map (λ x. flat_map f (g x)) xs
flat_map-flat f g [] = refl
flat_map-flat f g (x ∷ xs) = flat_map-append f (g x) (flat_map g xs) ∙ ap (λ ys. flat_map f (g x) ++ ys) (flat_map-flat f g xs)

-- what stands before the first match, where the first elements do not match
pub before_first-cons : (p : ℕ → Bool) (b : ℕ) (bs : List ℕ) → p b ≡ false → before_first p (b ∷ bs) ≡ b ∷ before_first p bs
before_first-cons p b bs h = before_first-byte p b bs ∙ ap (λ c. cond c [] (b ∷ before_first p bs)) h

pub pieces-first : (p : ℕ → Bool) (xs : List ℕ) → (more : List (List ℕ)) × (slice_split p xs ≡ before_first p xs ∷ more)
pieces-first p xs = elim (cases_lt (position_or_len p xs) (length xs)) [
  | inl h ↦ (_, slice_split_first p xs 0 h)
  | inr h ↦ ([], slice_split_none p xs (λ k d l. fails_before_first p xs k d (omega (arith, h, l))) ∙ ap (λ t. t ∷ []) (sym (take_all (position_or_len p xs) xs h)))
]

-- a text begins with its first piece
pub first-piece : (p : ℕ → Bool) (t piece : List ℕ) (more : List (List ℕ)) → slice_split p t ≡ piece ∷ more → (x : List ℕ) × (t ≡ piece ++ x)
first-piece p t [] more e = (t, refl)
first-piece p [] (c ∷ piece) more e = cc
first-piece p (b ∷ bs) (c ∷ piece) more e = let some = slice_split-some p bs in by (first-piece p bs) (p b) some.0 some.1 some.2 e
  where
    by : ((piece : List ℕ) (more : List (List ℕ)) → slice_split p bs ≡ piece ∷ more → (x : List ℕ) × (bs ≡ piece ++ x)) → (separates : Bool) (one : List ℕ) (others : List (List ℕ)) → slice_split p bs ≡ one ∷ others
        → (if separates then [] ∷ slice_split p bs else onto_first b (slice_split p bs)) ≡ (c ∷ piece) ∷ more → (x : List ℕ) × (b ∷ bs ≡ c ∷ piece ++ x)
    by again separates one others h e = grind arith

-- what no byte of a text is, none of its first bytes is
pub free-first : (p : ℕ → Bool) (text : List ℕ) (n : ℕ) → list_any p text ≡ false → list_any p (take n text) ≡ false
free-first p text zero free = refl
free-first p [] (suc n) free = refl
free-first p (b ∷ bs) (suc n) free = let both = or_parts (p b) (list_any p bs) free in ap (λ x. x || list_any p (take n bs)) both.0 ∙ free-first p bs n both.1

-- nor any of the others
pub free-behind : (p : ℕ → Bool) (text : List ℕ) (n : ℕ) → list_any p text ≡ false → list_any p (drop n text) ≡ false
free-behind p text zero free = free
free-behind p [] (suc n) free = refl
free-behind p (b ∷ bs) (suc n) free = free-behind p bs n (or_parts (p b) (list_any p bs) free).1

-- a list of images, one longer
pub take-map-more : {X Y : Type 0} (f : X → Y) (xs : List X) (i : ℕ) (x : X) → i < length xs → take (i + 1) (map f xs) ≡ take i (map f xs) ++ f (get_or xs i x) ∷ []
take-map-more f xs i x within = grind (arith, common_steps, take-map)

-- two texts are alike up to the first place at which they differ
pub alike-front : (k : ℕ) (t u : List ℕ) → k ≤ length t → k ≤ length u → ((i : ℕ) → i < k → get_or t i 0 ≡ get_or u i 0) → take k t ≡ take k u
alike-front zero t u fits fits' same = refl
alike-front (suc k) [] u fits fits' same = absurd (omega (arith, fits))
alike-front (suc k) (x ∷ t) [] fits fits' same = absurd (omega (arith, fits'))
alike-front (suc k) (x ∷ t) (y ∷ u) fits fits' same =
    ap₂ (λ a xs. a ∷ xs) (same 0 (omega arith)) (alike-front k t u (omega (arith, fits)) (omega (arith, fits')) (λ i l. same (suc i) (omega (arith, l))))

pub all-at : (p : ℕ → Bool) (xs : List ℕ) → list_all p xs ≡ true → (i : ℕ) → i < length xs → p (get_or xs i 0) ≡ true
all-at p xs e i l = grind (arith, common_steps)

-- texts with a byte between: the first, and then the byte and a text again and again
pub join_with_byte-map : {A : Type 0} (c : ℕ) (f : A → List ℕ) (x : List ℕ) (as' : List A) → join_with_byte c (x ∷ map f as') ≡ x ++ flat_map (λ a. c ∷ f a) as'
join_with_byte-map c f x [] = sym (append-nil x)
join_with_byte-map c f x (a ∷ as') = ap (λ t. x ++ (c ∷ t)) (join_with_byte-map c f (f a) as')

-- a front of a text is as many bytes of it as it has
pub take-front : (e : ℕ) (t : List ℕ) → take (length (take e t)) t ≡ take e t
take-front e t = ap (λ n. take n t) (length-take e t) ∙ take_min e t

pub same-bytes : (x : List ℕ) → bytes_eq x x ≡ true
same-bytes x = (bytes_eq-Decides x x).1 refl

-- a list begins with each front of it
pub starts_own : (n : ℕ) (xs : List (List ℕ)) → starts_with bytes_eq xs (take n xs) ≡ true
starts_own zero xs = refl
starts_own (suc n) [] = refl
starts_own (suc n) (x ∷ xs) = ap₂ (λ a b. a && b) (same-bytes x) (starts_own n xs)

-- what begins nothing is nothing
pub starts_nothing : (zs : List (List ℕ)) → starts_with bytes_eq [] zs ≡ true → zs ≡ []
starts_nothing zs e = grind (arith, common_steps)

-- a text is what stands before its last byte, and that byte
pub but_last : (text : List ℕ) → (length text == 0) ≡ false → text ≡ take (length text - 1) text ++ slice_index text (length text - 1) ∷ []
but_last text filled = grind (arith, common_steps)

-- a path that is cut to its parent is no longer
pub slice-length : (t : List ℕ) (from to : ℕ) → length (slice_range t from to) ≤ length t
slice-length t from to = omega (arith, length-take (to - from) (drop from t), length-drop from t)

-- the end of a text, taken to its own end
pub whole_range : (text other : List ℕ) (start : ℕ) → other ≡ text → slice_range other start (length other) ≡ drop start text
whole_range text other start e = take_all (length other - start) (drop start other) (omega (arith, length-drop start other)) ∙ ap (drop start) e

-- a range of a text that begins later
pub slice_range-later : (text left : List ℕ) (from k to : ℕ) → from ≤ to → to ≤ length text → left ≡ slice_range text from to → k ≤ length left
    → slice_range text (from + k) to ≡ drop k left
slice_range-later text left from k to ordered in_range e h =
    let size = length-take (to - from) (drop from text) in
    let rest = length-drop from text in
    let fits : from + k ≤ to = omega (arith, ap length e) in
    ap (take (to - (from + k))) (sym (drop-drop k from text))
    ∙ sym (drop-take k (to - (from + k)) (drop from text))
    ∙ ap (λ n. drop k (take n (drop from text))) (omega arith)
    ∙ ap (drop k) (sym e)

-- a range of a text that ends earlier
pub slice_range-earlier : (text left : List ℕ) (from k to : ℕ) → left ≡ slice_range text from to → k ≤ length left → slice_range text from (from + k) ≡ take k left
slice_range-earlier text left from k to e h = grind (arith, length-take, take-take)

-- what was taken from the back stands at the end of the list
pub reverse-take-reverse : {X : Type 0} (xs : List X) (j : ℕ) → j ≤ length xs → reverse (take j (reverse xs)) ≡ drop (length xs - j) xs
reverse-take-reverse xs j h =
    let n = length xs - j in
    let size : length (reverse (drop n xs)) ≡ j = length-reverse (drop n xs) ∙ length-drop n xs ∙ omega arith in
    ap (λ ys. reverse (take j (reverse ys))) (sym (take-append-drop n xs))
    ∙ ap (λ ys. reverse (take j ys)) (reverse-append (take n xs) (drop n xs))
    ∙ ap reverse (take_at (reverse (drop n xs)) (reverse (take n xs)) j size)
    ∙ reverse-reverse (drop n xs)

-- two facts of each
pub both-each : (P Q : List ℕ → Type 0) (ps : List (List ℕ)) → AllByRecursion P ps → AllByRecursion Q ps → AllByRecursion (λ p. P p × Q p) ps
both-each P Q [] f g = tt
both-each P Q (p ∷ ps) f g = ((f.0, g.0), both-each P Q ps f.1 g.1)
