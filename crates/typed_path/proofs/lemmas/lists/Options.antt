-- What an option tells that is made by a test, of another option, or as the first of two cases or the second.
use Rattle.std.proofs.Common.{Option, Some, arith, option_and_then, Bool, None, false, true, refl, ◌≡◌, if◌then◌else◌, ap, ◌∙◌, ℕ, ◌==◌, eqb-true}
use Rattle.std.specs.Option.{option_or, option_eq}

-- what a value behind an option tells
pub and_then-some : {A B : Type 0} (g : A → Option B) (o : Option A) (y : B) → option_and_then g o ≡ Some y → (x : A) × (o ≡ Some x) × (g x ≡ Some y)
and_then-some g o y e = grind arith

-- what a value unless a test holds tells
pub unless-some : {A : Type 0} (b : Bool) (x y : A) → (if b then None else Some x) ≡ Some y → (b ≡ false) × (x ≡ y)
unless-some b x y e = grind arith

-- what a value where a test holds tells
pub where-some : {A : Type 0} (b : Bool) (x y : A) → (if b then Some x else None) ≡ Some y → (b ≡ true) × (x ≡ y)
where-some b x y e = grind arith

-- what equal values tell
pub some_is : {A : Type 0} {x y : A} → Some x ≡ Some y → x ≡ y
some_is e = cc

-- what no value unless a test holds tells
pub unless-none : {A : Type 0} (b : Bool) (x : A) → (if b then None else Some x) ≡ None → b ≡ true
unless-none b x e = grind arith

-- where neither of two cases holds the second does not
pub or-none : {A : Type 0} (o p : Option A) → option_or o p ≡ None → p ≡ None
or-none o p e = grind arith

-- what no value tells: each value is impossible
pub none_from : {A : Type 0} (o : Option A) → ((x : A) → o ≡ Some x → ⊥) → o ≡ None
none_from {A = A} o never = by o refl
  where
    by : (p : Option A) → o ≡ p → p ≡ None
    by p e = grind arith

-- the first of two cases does not hold where neither does
pub none-first : {A : Type 0} (o p : Option A) → option_or o p ≡ None → o ≡ None
none-first o p e = grind arith

-- the first of two cases that holds
pub first-some : {A : Type 0} (o p : Option A) (x : A) → o ≡ Some x → option_or o p ≡ Some x
first-some o p x is = ap (λ q. option_or q p) is

-- or the second
pub first-none : {A : Type 0} (o p r : Option A) → o ≡ None → p ≡ r → option_or o p ≡ r
first-none o p r is e = ap (λ q. option_or q p) is ∙ e

-- numbers, or none, that are told to be equal are one
pub option_eq-same : (d e : Option ℕ) → option_eq (λ x y. x == y) d e ≡ true → d ≡ e
option_eq-same None None same = refl
option_eq-same None (Some e) same = cc
option_eq-same (Some d) None same = cc
option_eq-same (Some d) (Some e) same = ap Some (eqb-true d e same)
