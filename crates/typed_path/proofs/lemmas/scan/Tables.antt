-- Tables that bytes are looked up in by their low bits, a block of them at once.
use Rattle.std.proofs.Common.{◌≡◌, ℕ, zero, suc, ◌+◌, ◌-◌, ◌*◌, ◌^◌, ◌/◌, ◌%◌, ◌<◌, List, [], ◌∷◌, Bool, true, ◌&&◌, ◌||◌, w8, length, map, take, drop, get_or, refl, sym, ap, eqb, replicate, ◌∙◌, arith, bit_and, inl, inr, get_or-take, get_or-drop}
use Rattle.std.proofs.lemmas.Grind.{common_steps}
use Rattle.std.proofs.lemmas.Bool.{cases_lt, and_parts}
use Rattle.std.proofs.lemmas.List.{get_or-map, length-map, ext_get_or}
use Rattle.std.proofs.lemmas.Nat.{and_mask}
use Rattle.std.proofs.lemmas.Simd.{zip2_splat, swz_l, length-swz_l, get_or-swz_l_below}
use lib.Lanes.{zip2}
use Rattle.typed_path.specs.changes.{is_forbidden}
use Rattle.typed_path.specs.declared.scan.lanes.TheConstants.{FORBIDDEN, ALSO_FORBIDDEN}
use Rattle.typed_path.proofs.lemmas.scan.Searches.{lane}

-- Tables that bytes are looked up in by their low bits, a block of them at once.

-- a test of all numbers below another
abbrev pub all-under : (ℕ → Bool) → ℕ → Bool
all-under p zero = true
all-under p (suc n) = p n && all-under p n

pub under : (p : ℕ → Bool) (n : ℕ) → all-under p n ≡ true → (m : ℕ) → m < n → p m ≡ true
under p zero e m l = absurd (omega arith)
under p (suc n) e m l =
    let both = and_parts (p n) (all-under p n) e in
    elim (cases_lt m n) [
      | inl low ↦ under p n both.1 m low
      | inr high ↦ let same : m ≡ n = omega arith in ap p same ∙ both.0
    ]

-- lanes of a block where what is made of a byte is another thing made of it
pub lanes-made : (f g : ℕ → ℕ) (xs : List ℕ) → zip2 (λ a b. lane (eqb a b)) (map f xs) (map g xs) ≡ map (λ x. lane (eqb (f x) (g x))) xs
lanes-made f g [] = refl
lanes-made f g (x ∷ xs) = ap (λ l. lane (eqb (f x) (g x)) ∷ l) (lanes-made f g xs)

-- the same of the byte itself
pub lanes-held : (f : ℕ → ℕ) (xs : List ℕ) → zip2 (λ a b. lane (eqb a b)) (map f xs) xs ≡ map (λ x. lane (eqb (f x) x)) xs
lanes-held f [] = refl
lanes-held f (x ∷ xs) = ap (λ l. lane (eqb (f x) x) ∷ l) (lanes-held f xs)

-- the low bits of each byte of a block
pub low-bits : (n bits : ℕ) (xs : List ℕ) → length xs ≡ n → zip2 bit_and xs (replicate n (2 ^ bits - 1)) ≡ map (λ x. x % 2 ^ bits) xs
low-bits n bits xs long = grind (arith, zip2_splat, and_mask)

-- what a table of two halves alike holds at the place that each byte of a block has in its half
pub looked-up : (table xs js : List ℕ) → drop 16 table ≡ take 16 table → length xs ≡ 32 → js ≡ map (λ x. x % 16) xs → swz_l w8 16 table 0 js ≡ map (λ x. get_or table (x % 16) 0) xs
looked-up table xs js twice fits e =
    let long : length js ≡ 32 = ap length e ∙ length-map xs (λ x. x % 16) ∙ fits in
    ext_get_or 0 _ _ (length-swz_l w8 16 table 0 js ∙ long ∙ sym (length-map xs (λ x. get_or table (x % 16) 0) ∙ fits)) (λ i h.
    let within : i < length xs = omega (arith, length-swz_l w8 16 table 0 js) in
    let is : get_or js i 0 ≡ get_or xs i 0 % 16 = ap (λ l. get_or l i 0) e ∙ get_or-map (λ x. x % 16) xs i 0 0 within in
    let low : get_or js i 0 < 16 = omega arith in
    get_or-swz_l_below w8 16 table 0 js i (omega arith) low
    ∙ half i (get_or js i 0) (omega arith) low
    ∙ ap (λ k. get_or table k 0) is
    ∙ sym (get_or-map (λ x. get_or table (x % 16) 0) xs i 0 0 within))
  where
    half : (i m : ℕ) → i < 32 → m < 16 → get_or table (16 * ((0 + i) / 16) + m) 0 ≡ get_or table m 0
    half i m l low = elim (cases_lt i 16) [
      | inl first ↦ ap (λ n. get_or table n 0) (omega arith)
      | inr second ↦ ap (λ n. get_or table n 0) (omega arith) ∙ sym (get_or-drop 16 table m 0) ∙ ap (λ t. get_or t m 0) twice ∙ get_or-take 16 table m 0 low
    ]

-- ---- the bytes that no name of Windows may have

-- a table holds a byte at the place of its low bits
abbrev pub holds : List ℕ → ℕ → Bool
holds table b = eqb (get_or table (b % 16) 0) b

-- two tables hold them
pub forbidden-held : (b : ℕ) → (holds FORBIDDEN b || holds ALSO_FORBIDDEN b) ≡ is_forbidden b
forbidden-held b = grind (arith, common_steps)
