-- What masks say of places, and searches of a range put together from what was seen of it.
use Rattle.std.proofs.Common.{◌≡◌, ℕ, suc, ◌+◌, ◌-◌, ◌*◌, ◌^◌, ◌/◌, ◌%◌, ◌≤◌, ◌<◌, List, Bool, true, false, not, ◌&&◌, ◌||◌, ◌==◌, w64, cond, length, slice_index, slice_range, take, drop, get_or, map, refl, sym, ap, ap₂, eqb, replicate, ◌∙◌, arith, bit_or, bit_and, ⊎_elim, pow_mono, [], ◌∷◌, nat_lt, subst, shr-shr, eqb-true, get_or-take, get_or-drop, length-take-le, length-drop, take_all}
use Rattle.std.proofs.lemmas.Grind.{common_steps}
use Rattle.std.specs.Int.{bit_at, trailing_zeros}
use Rattle.std.specs.Slice.Scan.{HoldsNowhere, IsFirstPlace, IsLastPlace}
use Rattle.std.specs.Simd.Lanes.{mask_l}
use Rattle.std.proofs.Math.Nat.{two-pow-succ, div-eq_of_lt}
use Rattle.std.proofs.lemmas.Bool.{cases_lt, eqb-false, and_parts, false_from_ne_true}
use Rattle.std.proofs.lemmas.List.{get_or-map, get_or_past, length-map}
use Rattle.std.proofs.lemmas.Nat.Bits.{bit_at-zero, bit_at_or, bit_at_and, bit_at-trailing_zeros}
use Rattle.std.proofs.lemmas.Simd.{bit_mask_l, length-chunk, get_or-chunk, length-zip2, get_or-zip2, zip2_splat, mask_l-mod}
use Rattle.std.specs.List.{position_or_len, list_any}
use Rattle.std.proofs.lemmas.List.Sums.{position_or_len_is}
use lib.Lanes.{zip2, chunk, top}
use Rattle.typed_path.specs.scan.{IsMask, TellsWhether, is_one_of, stands_at, IsFirstOf}

-- What masks say of places, and searches of a range put together from what was seen of it.

-- ---- masks

-- the mask of a comparison of the bytes from a place on
pub mask-chunk : (f : ℕ → Bool) (at n : ℕ) (xs : List ℕ) → at + n ≤ length xs → IsMask (λ k. f (get_or xs (at + k) 0)) n (mask_l (map f (chunk at n xs)))
mask-chunk f at n xs fits = grind (arith, length-chunk, bit_mask_l, chunk, get_or-map, get_or-chunk, get_or_past, length-map)

-- a lane of ones where a test holds
abbrev pub lane : Bool → ℕ
lane b = cond b 255 0

-- lanes where either of two tests holds
pub lanes-or : (p q : ℕ → Bool) (xs : List ℕ) {a b : List ℕ} → a ≡ map (λ x. lane (p x)) xs → b ≡ map (λ x. lane (q x)) xs → zip2 bit_or a b ≡ map (λ x. lane (p x || q x)) xs
lanes-or p q xs e f = ap₂ (zip2 bit_or) e f ∙ by xs
  where
    both : (c d : Bool) → bit_or (lane c) (lane d) ≡ lane (c || d)
    both c d = grind arith

    by : (ys : List ℕ) → zip2 bit_or (map (λ x. lane (p x)) ys) (map (λ x. lane (q x)) ys) ≡ map (λ x. lane (p x || q x)) ys
    by [] = refl
    by (y ∷ ys) = ap₂ ◌∷◌ (both (p y) (q y)) (by ys)

-- lanes of a block where a byte stands
pub lanes-of : (y at n : ℕ) (text : List ℕ) → at + n ≤ length text → zip2 (λ a b. lane (eqb a b)) (chunk at n text) (replicate n y) ≡ map (λ x. lane (eqb x y)) (chunk at n text)
lanes-of y at n text fits = zip2_splat (λ a b. lane (eqb a b)) (chunk at n text) n y (length-chunk at n text fits)

-- the mask of such lanes
pub mask-lanes : (p : ℕ → Bool) (at n : ℕ) (text : List ℕ) {z : List ℕ} → at + n ≤ length text → n ≤ 64 → z ≡ map (λ x. lane (p x)) (chunk at n text)
    → IsMask (λ k. p (get_or text (at + k) 0)) n (mask_l (map (top 7) z) % 2 ^ 64)
mask-lanes p at n text {z} fits short e =
    let xs = chunk at n text in
    subst (IsMask (λ k. p (get_or text (at + k) 0)) n)
    (sym (ap (λ l. mask_l (map (top 7) l) % 2 ^ 64) e ∙ ap (λ l. mask_l l % 2 ^ 64) (tops xs) ∙ mask_l-mod (map p xs) 64 (omega (arith, length-map xs p, length-chunk at n text fits))))
    (mask-chunk p at n text fits)
  where
    own : (b : Bool) → top 7 (lane b) ≡ b
    own b = grind arith

    tops : (ys : List ℕ) → map (top 7) (map (λ x. lane (p x)) ys) ≡ map p ys
    tops [] = refl
    tops (y ∷ ys) = ap₂ ◌∷◌ (own (p y)) (tops ys)

-- the mask of either of two tests
pub mask-or : (p q : ℕ → Bool) (n a b : ℕ) → IsMask p n a → IsMask q n b → IsMask (λ k. p k || q k) n (bit_or a b)
mask-or p q n a b g h = grind (arith, bit_at_or)

-- the mask of both
pub mask-and : (p q : ℕ → Bool) (n a b : ℕ) → IsMask p n a → IsMask q n b → IsMask (λ k. p k && q k) n (bit_and a b)
mask-and p q n a b g h = grind (arith, bit_at_and)

-- a mask of a test is one of each test that agrees with it
pub mask-alike : (p q : ℕ → Bool) (n a : ℕ) → ((k : ℕ) → q k ≡ p k) → IsMask p n a → IsMask q n a
mask-alike p q n a same g = grind arith

-- the mask of a comparison of the bytes from a place on with those of another text
pub mask-chunks : (f : ℕ → ℕ → Bool) (at n : ℕ) (xs ys : List ℕ) → at + n ≤ length xs → at + n ≤ length ys
    → IsMask (λ k. f (get_or xs (at + k) 0) (get_or ys (at + k) 0)) n (mask_l (zip2 f (chunk at n xs) (chunk at n ys)))
mask-chunks f at n xs ys fits fits' = grind (arith, length-chunk, length-zip2, chunk, zip2, bit_mask_l, get_or-zip2, get_or-chunk, get_or_past)

-- a mask without its lowest bits
pub mask-behind : (p : ℕ → Bool) (s n mask : ℕ) → IsMask p (s + n) mask → IsMask (λ k. p (s + k)) n (mask / 2 ^ s)
mask-behind p s n mask marks = grind (arith, shr-shr)

-- of the marks of a block that ends with a range, those of the range
pub mask-last : (q : ℕ → Bool) (n from to mask : ℕ) → from ≤ to → to ≤ from + n → n ≤ to → IsMask (λ k. q (to - n + k)) n mask → IsMask (λ k. q (from + k)) (to - from) (mask / 2 ^ (n - (to - from)))
mask-last q n from to mask ordered near room marks =
    let s = n - (to - from) in
    let whole : n ≡ s + (to - from) = omega arith in
    mask-alike _ _ (to - from) _ (λ k. ap q (omega arith)) (mask-behind (λ k. q (to - n + k)) s (to - from) mask (subst (λ m. IsMask (λ k. q (to - n + k)) m mask) whole marks))

-- the highest bit of a number, and those above it
pub highest_is_set : (mask k : ℕ) → 2 ^ k ≤ mask → mask < 2 * 2 ^ k → bit_at mask k ≡ 1
highest_is_set mask k low high = grind arith

pub clear_above : (mask j k : ℕ) → mask < 2 * 2 ^ j → j < k → bit_at mask k ≡ 0
clear_above mask j k high l = ap (λ x. x % 2) (div-eq_of_lt (omega (arith, two-pow-succ j, pow_mono {i = suc j} {j = k} (omega arith))))

-- ---- a block of places, and its mask
module _ (p : ℕ → Bool) (n mask k : ℕ) (marks : IsMask p n mask) where
  -- a bit is set by a test that holds
  pub set-of : k < n → p k ≡ true → bit_at mask k ≡ 1
  set-of low h = marks.within k low ∙ ap (λ b. cond b 1 0) h

  -- a test holds by a bit that is set
  pub of-set : bit_at mask k ≡ 1 → (k < n) × (p k ≡ true)
  of-set set = grind arith

  -- and does not by one that is not
  pub of-unset : k < n → bit_at mask k ≡ 0 → p k ≡ false
  of-unset low clear = false_from_ne_true (p k) (λ h. absurd (omega (arith, clear, set-of low h)))

module _ (q : ℕ → Bool) (at n mask : ℕ) (marks : IsMask (λ k. q (at + k)) n mask) where
  -- a bit that is set
  block-set : (k : ℕ) → bit_at mask k ≡ 1 → (k < n) × (q (at + k) ≡ true)
  block-set k set = of-set (λ k. q (at + k)) n mask k marks set

  -- one that is not
  block-clear : (k : ℕ) → at ≤ k → k < at + n → bit_at mask (k - at) ≡ 0 → q k ≡ false
  block-clear k low high clear = grind arith

  -- no bit is set
  pub block-none : mask ≡ 0 → HoldsNowhere q at (at + n)
  block-none none k low high = block-clear k low high (ap (λ m. bit_at m (k - at)) none ∙ bit_at-zero (k - at))

  -- and so nowhere up to the end of the block, where it is so before a place within it
  pub block-passed : (place : ℕ) → at ≤ place → HoldsNowhere q 0 place → mask ≡ 0 → HoldsNowhere q 0 (at + n)
  block-passed place within passed none k low high = ⊎_elim (passed k low) (λ l. block-none none k (omega (arith, l, within)) high) (cases_lt k place)

  -- whether one is
  pub block-tells : mask < 2 ^ 64 → TellsWhether q at (at + n) (not (mask == 0))
  block-tells fits = by (mask == 0) refl
    where
      by : (none : Bool) → (mask == 0) ≡ none → TellsWhether q at (at + n) (not none)
      by true e = block-none (eqb-true mask 0 e)
      by false e =
          let low = bit_at-trailing_zeros w64 mask (omega (arith, eqb-false mask 0 e)) fits in
          let found = block-set (trailing_zeros w64 mask) low.1 in (at + trailing_zeros w64 mask, omega arith, omega (arith, found.0), found.1)

  -- the lowest bit
  pub block-first : (low : ℕ) → bit_at mask low ≡ 1 → ((k : ℕ) → k < low → bit_at mask k ≡ 0) → (low < n) × IsFirstPlace q at (at + n) (at + low)
  block-first low set below = grind (arith, block-set, block-clear)

  -- the highest bit
  pub block-last : (high : ℕ) → bit_at mask high ≡ 1 → ((k : ℕ) → high < k → bit_at mask k ≡ 0) → (high < n) × IsLastPlace q at (at + n) (at + high + 1)
  block-last high set above = grind (arith, block-set, block-clear)

-- where a test holds nowhere up to the end of a range
pub place-none : (q : ℕ → Bool) (to : ℕ) → HoldsNowhere q 0 to → IsFirstPlace q 0 to to
place-none q to none = record { low = omega arith; high = omega arith; before = none; hit = λ l. absurd (omega arith) }

-- the first place within the front of a range is its first
pub place-front : (q : ℕ → Bool) (n to place : ℕ) → n ≤ to → IsFirstPlace q 0 n place → place < n → IsFirstPlace q 0 to place
place-front q n to place short found within = record { low = omega arith; high = omega arith; before = found.before; hit = λ _. found.hit within }

-- so is the first within its end, where the test holds nowhere before it
pub place-back : (q : ℕ → Bool) (from at to place : ℕ) → from ≤ at → HoldsNowhere q 0 at → IsFirstPlace q from to place → IsFirstPlace q 0 to place
place-back q from at to place near h found = grind arith

-- of the first block of a range and the last one, no mask marks a place
pub both-none : (q : ℕ → Bool) (n to front back : ℕ) → n ≤ to → to ≤ n + n → IsMask (λ k. q (0 + k)) n front → IsMask (λ k. q (to - n + k)) n back → ((front == 0) && (back == 0)) ≡ true → HoldsNowhere q 0 to
both-none q n to front back room near first last none =
    let each = and_parts (front == 0) (back == 0) none in
    let whole : to - n + n ≡ to = omega (arith, room) in
    subst (HoldsNowhere q 0) whole (block-passed q (to - n) n back last (0 + n) (omega (arith, near)) (block-passed q 0 n front first 0 (omega arith) (λ k low high. absurd (omega (arith, high))) (eqb-true front 0 each.0)) (eqb-true back 0 each.1))

-- ---- one of a pair, and a test that agrees with it
module _ (pair : ℕ × ℕ) (p : ℕ → Bool) (same : (b : ℕ) → p b ≡ is_one_of pair b) (text : List ℕ) where
  -- the first place within a range
  pub first-within : (from to place : ℕ) → from ≤ to → to ≤ length text → IsFirstOf pair text from to place → place - from ≡ position_or_len p (slice_range text from to)
  first-within from to place ordered in_range found =
      let part = slice_range text from to in
      let long : length part ≡ to - from = length-take-le (to - from) (drop from text) (omega (arith, length-drop from text)) in
      let here : (k : ℕ) → k < to - from → p (get_or part k 0) ≡ stands_at pair text (from + k) = λ k l.
      ap p (get_or-take (to - from) (drop from text) k 0 l ∙ get_or-drop from text k 0) ∙ same (slice_index text (from + k)) in
      let back : from + (place - from) ≡ place = omega (arith, found.low) in
      sym (position_or_len_is p part (place - from) 0 (omega (arith, found.high))
      (λ k l. here k (omega (arith, found.high)) ∙ found.before (from + k) (omega arith) (omega (arith, found.low)))
      (λ l. here (place - from) (omega arith) ∙ ap (stands_at pair text) back ∙ found.hit (omega (arith, found.low))))

  -- the first place
  pub first-of : (place : ℕ) → IsFirstOf pair text 0 (length text) place → place ≡ position_or_len p text
  first-of place found =
      let whole : length text - 0 ≡ length text = omega arith in
      let same_place : place ≡ place - 0 = omega arith in
      same_place
      ∙ first-within 0 (length text) place (omega arith) (omega arith) found
      ∙ ap (λ n. position_or_len p (take n text)) whole
      ∙ ap (position_or_len p) (take_all (length text) text (omega arith))

-- Whether a text has a byte that no name of Windows may have, told by its places.

-- a test that holds at no place of a text holds of no byte
pub any-nowhere : (p : ℕ → Bool) (text : List ℕ) → HoldsNowhere (λ k. p (slice_index text k)) 0 (length text) → list_any p text ≡ false
any-nowhere p [] none = refl
any-nowhere p (x ∷ xs) none = ap (λ b. b || list_any p xs) (none 0 (omega arith) (omega arith)) ∙ any-nowhere p xs (λ k low high. none (suc k) (omega arith) (omega arith))

-- the place of the first tells whether there is one
pub first-tells : (holds : ℕ → Bool) (from to place : ℕ) → IsFirstPlace holds from to place → TellsWhether holds from to (nat_lt place to)
first-tells holds from to place found = grind arith

-- what is told of the end of a text, before which it holds nowhere, is told of the whole
pub any-told : (p : ℕ → Bool) (text : List ℕ) (from to : ℕ) (told : Bool) → TellsWhether (λ k. p (slice_index text k)) from to told → ((k : ℕ) → k < from → p (slice_index text k) ≡ false) → length text ≡ to → told ≡ list_any p text
any-told p text from to told h before whole = grind (arith, common_steps, any-nowhere, cases_lt)

-- the tests of eight bytes, two by two and one by one
pub paired : (a b c d e f g h : Bool) → (((a || b) || (c || d)) || (e || f)) || (g || h) ≡ (a || b || c || d || e || f || g || h)
paired a b c d e f g h = grind arith
