-- How many first names two lists share, told from the back.
use Rattle.std.proofs.Common.{◌≡◌, ℕ, zero, suc, ◌+◌, ◌-◌, ◌<◌, ◌≤◌, Bool, true, false, List, [], ◌∷◌, ◌++◌, if◌then◌else◌, length, take, refl, sym, ap, ◌∙◌, arith, inl, inr}
use Rattle.std.specs.Prelude.{◌⊎◌, bytes_eq}
use Rattle.std.proofs.lemmas.List.{length-append, length-take-le}
use Rattle.std.proofs.lemmas.Bool.{cases_lt}
use Rattle.typed_path.specs.places.{IsLast, shared_count}
use Rattle.typed_path.proofs.lemmas.lists.Lists.{same-bytes}

-- no more than either has
pub shared_count-fits : (xs ys : List (List ℕ)) → (shared_count xs ys ≤ length xs) × (shared_count xs ys ≤ length ys)
shared_count-fits [] ys = grind arith
shared_count-fits (x ∷ xs) [] = grind arith
shared_count-fits (x ∷ xs) (y ∷ ys) = grind (arith, shared_count-fits xs ys)

-- a list shares all its names with itself
pub shared_count-own : (xs : List (List ℕ)) → shared_count xs xs ≡ length xs
shared_count-own [] = refl
shared_count-own (x ∷ xs) = ap (λ b. if b then suc (shared_count xs xs) else 0) (same-bytes x) ∙ ap suc (shared_count-own xs)

-- what another name at the end of each does
record More (before after n : ℕ) (same : Bool) : Type 0 where
  pub all : before ≡ n → same ≡ true → after ≡ n + 1
  pub last : before ≡ n → same ≡ false → after ≡ n
  pub less : before < n → after ≡ before

more : (xs ys : List (List ℕ)) (a b : List ℕ) → length xs ≡ length ys → More (shared_count xs ys) (shared_count (xs ++ a ∷ []) (ys ++ b ∷ [])) (length xs) (bytes_eq a b)
more [] [] a b size = by (bytes_eq a b)
  where
    by : (s : Bool) → More 0 (if s then suc 0 else 0) 0 s
    by s = grind arith
more (x ∷ xs) [] a b size = absurd (omega (arith, size))
more [] (y ∷ ys) a b size = absurd (omega (arith, size))
more (x ∷ xs) (y ∷ ys) a b size = by (bytes_eq x y) (more xs ys a b (omega (arith, size)))
  where
    by : (s : Bool) → More (shared_count xs ys) (shared_count (xs ++ a ∷ []) (ys ++ b ∷ [])) (length xs) (bytes_eq a b)
        → More (if s then suc (shared_count xs ys) else 0) (if s then suc (shared_count (xs ++ a ∷ []) (ys ++ b ∷ [])) else 0) (suc (length xs)) (bytes_eq a b)
    by s h = grind arith

-- lists of one length share so many in all: what is known already where they are the same, and otherwise what they share
pub record Tells (all : ℕ) (xs ys : List (List ℕ)) (n known : ℕ) : Type 0 where
  pub size : length xs ≡ n
  pub other : length ys ≡ n
  pub same : shared_count xs ys ≡ n → all ≡ known
  pub less : shared_count xs ys < n → all ≡ shared_count xs ys

shared_count-take : (m : ℕ) (xs ys : List (List ℕ)) → m ≤ length xs → m ≤ length ys → (m ≡ length xs) ⊎ (m ≡ length ys) → shared_count (take m xs) (take m ys) ≡ shared_count xs ys
shared_count-take zero [] ys h g e = refl
shared_count-take zero (x ∷ xs) [] h g e = refl
shared_count-take zero (x ∷ xs) (y ∷ ys) h g (inl e) = absurd (omega (arith, e))
shared_count-take zero (x ∷ xs) (y ∷ ys) h g (inr e) = absurd (omega (arith, e))
shared_count-take (suc m) [] ys h g e = absurd (omega (arith, h))
shared_count-take (suc m) (x ∷ xs) [] h g e = absurd (omega (arith, g))
shared_count-take (suc m) (x ∷ xs) (y ∷ ys) h g (inl e) = ap (λ n. if bytes_eq x y then suc n else 0) (shared_count-take m xs ys (omega (arith, h)) (omega (arith, g)) (inl (omega (arith, e))))
shared_count-take (suc m) (x ∷ xs) (y ∷ ys) h g (inr e) = ap (λ n. if bytes_eq x y then suc n else 0) (shared_count-take m xs ys (omega (arith, h)) (omega (arith, g)) (inr (omega (arith, e))))

-- of two lists as long as the shorter
pub tells-first : (xs ys left others : List (List ℕ)) (n : ℕ) → n ≤ length xs → n ≤ length ys → (n ≡ length xs) ⊎ (n ≡ length ys) → left ≡ take n xs → others ≡ take n ys
    → length left ≡ n → length others ≡ n → Tells (shared_count xs ys) left others n n
tells-first xs ys left others n h g e is are size other = grind (arith, shared_count-take)

module _ (all : ℕ) (xs ys xs' ys' : List (List ℕ)) (n known : ℕ) (a b : List ℕ) (is : xs ≡ xs' ++ a ∷ []) (are : ys ≡ ys' ++ b ∷ []) (h : Tells all xs ys n known) where
  size : length xs' + 1 ≡ n
  size = omega (arith, h.size, ap length is, length-append xs' (a ∷ []))

  other : length ys' + 1 ≡ n
  other = omega (arith, h.other, ap length are, length-append ys' (b ∷ []))

  step : More (shared_count xs' ys') (shared_count xs ys) (length xs') (bytes_eq a b)
  step = grind (arith, more, size, other)

  -- the same name at both ends
  pub tells-same : bytes_eq a b ≡ true → Tells all xs' ys' (n - 1) known
  tells-same alike = grind (arith, size, other, step)

  -- different names
  pub tells-other : bytes_eq a b ≡ false → Tells all xs' ys' (n - 1) (n - 1)
  tells-other alike = grind (arith, size, other, step)

-- of two lists, the deeper one cut to the length of the other
pub tells-start : (xs ys left others : List (List ℕ)) (names base_names n deeper base_deeper : ℕ) → length xs ≡ names → length ys ≡ base_names → deeper ≡ names - base_names → base_deeper ≡ base_names - names → n ≡ names - deeper
    → left ≡ take (length xs - deeper) xs → others ≡ take (length ys - base_deeper) ys → Tells (shared_count xs ys) left others n n
tells-start xs ys left others names base_names n deeper base_deeper size other cut base_cut is left_is others_is = grind (arith, tells-first, cases_lt, length-take-le)

-- one name more was taken off both
module _ (all : ℕ) (xs ys xs' ys' : List (List ℕ)) (n known : ℕ) (b : List ℕ) (are : ys ≡ ys' ++ b ∷ []) (h : Tells all xs ys n known) where
  some : xs ≡ [] → ⊥
  some none = omega (arith, h.size, h.other, ap length none, ap length are, length-append ys' (b ∷ []))

  pub step-other : (same : Bool) → same ≡ false → IsLast xs xs' b same → Tells all xs' ys' (n - 1) (n - 1)
  step-other same e (inl l) = tells-other all xs ys xs' ys' n known l.0 b l.1 are h (sym l.2 ∙ e)
  step-other same e (inr none) = absurd (some none)

  pub step-same : (same : Bool) → same ≡ true → IsLast xs xs' b same → Tells all xs' ys' (n - 1) known
  step-same same e (inl l) = tells-same all xs ys xs' ys' n known l.0 b l.1 are h (sym l.2 ∙ e)
  step-same same e (inr none) = absurd (some none)
