-- The entries of an archive, one after the other.
use Rattle.std.proofs.Common.{◌≡◌, ◌<◌, ◌+◌, ℕ, List, [], ◌∷◌, ◌++◌, map, length, drop, get_or, append_assoc, Bor, sym, ap, ◌∙◌}
use Rattle.std.proofs.lemmas.List.{map-append, drop_more}
use Rattle.std.proofs.lemmas.List.Elements.{filter-append}
use Rattle.typed_path.specs.components.{Dialect}
use Rattle.std.specs.Option.{is_none, is_some}
use Rattle.typed_path.specs.changes.{push, fault}
use Rattle.typed_path_uses.specs.Uses.{fine, faulty, joined_entries}

pub faulty-cons : (d : Dialect) (name : Bor (List ℕ)) (names : List (Bor (List ℕ))) → faulty d (name ∷ names) ≡ faulty d (name ∷ []) ++ faulty d names
faulty-cons d name names = filter-append (λ n. is_some (fault d n.now)) (name ∷ []) names

pub joined-cons : (d : Dialect) (base : List ℕ) (name : Bor (List ℕ)) (names : List (Bor (List ℕ))) → joined_entries d base (name ∷ names) ≡ joined_entries d base (name ∷ []) ++ joined_entries d base names
joined-cons d base name names = ap (map (λ n. push d base n.now)) (filter-append (λ n. is_none (fault d n.now)) (name ∷ []) names) ∙ map-append (λ n. push d base n.now) (fine d (name ∷ [])) (fine d names)

-- what is done and what is left stay a whole, one entry later
pub one-more : {N Y : Type 0} (f : List N → List Y) → ((n : N) (ns : List N) → f (n ∷ ns) ≡ f (n ∷ []) ++ f ns) → (done grown : List Y) (names : List N) (i : ℕ) (other : N) → i < length names → grown ≡ done ++ f (get_or names i other ∷ []) → done ++ f (drop i names) ≡ f names → grown ++ f (drop (i + 1) names) ≡ f names
one-more f cons done grown names i other within grew was = ap (λ it. it ++ f (drop (i + 1) names)) grew ∙ append_assoc done (f (get_or names i other ∷ [])) (f (drop (i + 1) names)) ∙ ap (λ it. done ++ it) (sym (ap f (drop_more names i other within) ∙ cons (get_or names i other) (drop (i + 1) names))) ∙ was
