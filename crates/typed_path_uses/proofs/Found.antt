-- What a law says of the path that leads from a base holds of the path that was found.
use Rattle.std.proofs.Common.{◌≡◌, ℕ, List, sym, subst, Option, Some, None, option_map, Result, Ok, Err}
use Rattle.std.specs.Prelude.{IfOk, IfSome}

module _ {P E : Type 0} (bytes : P → List ℕ) where
  pub of-found : (Q : List ℕ → Type 0) (r : Result (Option P) E) (o : Option (List ℕ)) → IfOk r (λ found. option_map bytes found ≡ o) → ((t : List ℕ) → o ≡ Some t → Q t) → IfOk r (λ found. IfSome found (λ p. Q (bytes p)))
  of-found Q (Ok (Some p)) o is h = h (bytes p) (sym is)
  of-found Q (Ok None) o is h = tt
  of-found Q (Err e) o is h = tt

  pub of-whether : (Q : Option (List ℕ) → Type 0) (r : Result (Option P) E) (o : Option (List ℕ)) → IfOk r (λ found. option_map bytes found ≡ o) → Q o → IfOk r (λ found. Q (option_map bytes found))
  of-whether Q (Ok found) o is q = subst Q (sym is) q
  of-whether Q (Err e) o is q = tt
