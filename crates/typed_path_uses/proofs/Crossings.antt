-- The refusal that a list of crossings meets first.
use Rattle.std.proofs.Common.{◌≡◌, ◌<◌, ℕ, List, [], ◌∷◌, ◌++◌, map, length, drop, get_or, suc, Bor, Some, refl, ap, Result, Ok, Err}
use Rattle.std.proofs.Math.Seq.{drop-cons}
use Rattle.typed_path.specs.declared.errors.CheckedPathError.{CheckedPathError}
use Rattle.typed_path.specs.components.{Dialect}
use Rattle.typed_path.specs.conversions.{converted_checked}
use Rattle.typed_path_uses.specs.Uses.{crossings, first_refusal}

-- the first refusal stands behind paths that are not refused
pub refused-behind : {X : Type 0} (bytes : X → List ℕ) (done : List X) (e : CheckedPathError) (rest : List (Result (List ℕ) CheckedPathError)) → first_refusal (map (λ p. Ok (bytes p)) done ++ Err e ∷ rest) ≡ Some e
refused-behind bytes [] e rest = refl
refused-behind bytes (p ∷ done) e rest = refused-behind bytes done e rest

-- the paths that are left begin with the one that comes next
pub crossings-next : (d e : Dialect) (entries : List (Bor (List ℕ))) (i : ℕ) (entry : Bor (List ℕ)) → i < length entries
    → crossings d e (drop i entries) ≡ converted_checked d e (get_or entries i entry).now ∷ crossings d e (drop (suc i) entries)
crossings-next d e entries i entry within = ap (crossings d e) (drop-cons entries i entry within)
