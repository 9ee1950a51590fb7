use Rattle.std.proofs.Common.{◌≡◌, ℕ, List, ◌∷◌, length, ap, arith, Some}
use Rattle.std.specs.Iterator.{MakesProgress, item_count}
use Rattle.typed_path.proofs.lemmas.queries.Parents.{readings-step}
use Rattle.typed_path.proofs.common.components.AncestorsIterator.next.Goals as goal

-- one item less is left
progress : {S A : Type 0} (view : A → List ℕ) (rest : S → List (List ℕ)) (can : S → Type 0) → ((s : S) → can s) → (s t : S) (x : A) → rest s ≡ view x ∷ rest t
    → MakesProgress can (item_count rest) s (Some x) t
progress view rest can all s t x h = record { on = λ finite. (all t, tt, omega (arith, ap length h)); keeps = all t; rests = λ finite. tt }

pub returns-clause-steps : goal.returns-clause-steps
returns-clause-steps g c = grind (arith, readings-step)

pub returns-clause-goes : goal.returns-clause-goes
returns-clause-goes g c = grind (arith, progress, returns-clause-steps)
