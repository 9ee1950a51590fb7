-- A list of what passes a test, one element later.
use Rattle.std.proofs.Common.{◌≡◌, List, [], ◌∷◌, ◌++◌, Bool, filter, append_assoc, sym, ap, ◌∙◌}
use Rattle.std.proofs.lemmas.List.Elements.{filter-append}

pub one-later : {X : Type 0} (p : X → Bool) (done grown : List X) (x : X) (rest whole : List X) → grown ≡ done ++ filter p (x ∷ []) → done ++ filter p (x ∷ rest) ≡ whole → grown ++ filter p rest ≡ whole
one-later p done grown x rest whole grew was =
    ap (λ xs. xs ++ filter p rest) grew
    ∙ append_assoc done (filter p (x ∷ [])) (filter p rest)
    ∙ ap (λ xs. done ++ xs) (sym (filter-append p (x ∷ []) rest))
    ∙ was
