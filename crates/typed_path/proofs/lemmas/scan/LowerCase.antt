-- Blocks of bytes in lower case, and where two texts differ in lower case.
use Rattle.std.proofs.Common.{◌≡◌, ℕ, zero, suc, ◌+◌, ◌%◌, ◌^◌, ◌==◌, ◌≤◌, ◌&&◌, Bool, true, false, not, cond, List, [], ◌∷◌, map, length, take, drop, replicate, refl, sym, subst, ap, ap₂, ◌∙◌, w8, arith, leb, bit_and}
use Rattle.std.proofs.lemmas.Bool.Decides.{nat_tests}
use Rattle.std.proofs.lemmas.List.{take-map, drop-map, length-map}
use Rattle.std.proofs.lemmas.Simd.{tops_compared, mask_l-mod, length-zip2, length-chunk}
use Rattle.std.specs.Char.{to_ascii_lowercase}
use Rattle.std.specs.Str.{str_to_ascii_lowercase}
use Rattle.typed_path.specs.scan.{IsMask, differs_at, differs_in}
use Rattle.typed_path.proofs.lemmas.scan.Searches.{lane, mask-chunks}
use lib.Lanes.{chunk, mask_l, zip2, sel_l, top}

-- both of two lanes are set
both-set : (p q : Bool) → top 7 (bit_and (lane p) (lane q)) ≡ (p && q)
both-set true true = refl
both-set true false = refl
both-set false true = refl
both-set false false = refl

-- a byte from `A` to `Z` is raised by 32
raised : (x : ℕ) → cond (leb 65 x && leb x 90) ((x + 32) % 256) x ≡ to_ascii_lowercase x
raised x = grind (arith, nat_tests)

-- so the lanes of a block are chosen
pub lanes-lowered : (n : ℕ) (xs : List ℕ) → length xs ≡ n
    → sel_l (map (top 7) (zip2 bit_and (zip2 (λ a b. lane (leb a b)) (replicate n 65) xs) (zip2 (λ a b. lane (leb a b)) xs (replicate n 90)))) (zip2 (λ a b. (a + b) % 256) xs (replicate n 32)) xs
    ≡ str_to_ascii_lowercase xs
lanes-lowered n [] long = by n
  where
    by : (m : ℕ) → sel_l (map (top 7) (zip2 bit_and (zip2 (λ a b. lane (leb a b)) (replicate m 65) []) (zip2 (λ a b. lane (leb a b)) [] (replicate m 90)))) (zip2 (λ a b. (a + b) % 256) [] (replicate m 32)) [] ≡ []
    by zero = refl
    by (suc m) = refl
lanes-lowered zero (x ∷ xs) long = absurd (omega arith)
lanes-lowered (suc n) (x ∷ xs) long =
    ap₂ ◌∷◌ (ap (λ b. cond b ((x + 32) % 256) x) (both-set (leb 65 x) (leb x 90)) ∙ raised x) (lanes-lowered n xs (omega arith))

-- a block of a text in lower case
pub chunk-lowered : (at n : ℕ) (text : List ℕ) → str_to_ascii_lowercase (chunk at n text) ≡ chunk at n (str_to_ascii_lowercase text)
chunk-lowered at n text = sym (ap (take n) (drop-map to_ascii_lowercase at text) ∙ take-map to_ascii_lowercase n (drop at text))

pub fits-lowered : (m : ℕ) (text : List ℕ) → m ≤ length text → m ≤ length (str_to_ascii_lowercase text)
fits-lowered m text fits = omega (arith, length-map text to_ascii_lowercase)

abbrev differ : ℕ → ℕ → Bool
differ a b = not (a == b)

-- the mask of the lanes in which a block of one text differs from that of another
pub marks-of : (at n : ℕ) (text other : List ℕ) → n ≤ 64 → at + n ≤ length text → at + n ≤ length other
    → IsMask (λ k. differs_at text other (at + k)) n (mask_l (map (top 7) (zip2 (λ a b. cond (differ a b) 255 0) (chunk at n text) (chunk at n other))) % 2 ^ 64)
marks-of at n text other low fits fits' =
    let xs = chunk at n text in
    let ys = chunk at n other in
    let whole = length-chunk at n text fits in
    let long = length-zip2 differ xs ys (whole ∙ sym (length-chunk at n other fits')) ∙ whole in
    let mask = ap (λ ms. mask_l ms % 2 ^ 64) (tops_compared w8 differ xs ys) ∙ mask_l-mod (zip2 differ xs ys) 64 (omega (arith, long, low)) in
    subst (λ m. IsMask (λ k. differs_at text other (at + k)) n m) (sym mask) (mask-chunks differ at n text other fits fits')

-- which of the two is asked
module _ (text other : List ℕ) (at n mask : ℕ) where
  pub as-lowered : (b : Bool) → b ≡ true → IsMask (λ k. differs_at (str_to_ascii_lowercase text) (str_to_ascii_lowercase other) (at + k)) n mask → IsMask (λ k. differs_in b text other (at + k)) n mask
  as-lowered true e marks = marks
  as-lowered false e marks = cc

  pub as-written : (b : Bool) → b ≡ false → IsMask (λ k. differs_at text other (at + k)) n mask → IsMask (λ k. differs_in b text other (at + k)) n mask
  as-written true e marks = cc
  as-written false e marks = marks
