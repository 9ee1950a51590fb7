-- No element is kept of those of which none passes.
use Rattle.std.proofs.Common.{◌≡◌, List, [], ◌∷◌, Bool, true, false, ◌||◌, cond, refl, ap, ◌∙◌}
use Rattle.std.specs.List.{filter, list_any}

neither : (a b : Bool) → (a || b) ≡ false → (a ≡ false) × (b ≡ false)
neither false b e = (refl, e)
neither true b e = cc

pub none-kept : {X : Type 0} (p : X → Bool) (xs : List X) → list_any p xs ≡ false → filter p xs ≡ []
none-kept p [] none = refl
none-kept p (x ∷ xs) none =
    let both = neither (p x) (list_any p xs) none in
    ap (λ b. cond b (x ∷ filter p xs) (filter p xs)) both.0 ∙ none-kept p xs both.1
