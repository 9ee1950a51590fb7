-- Lists of operations, one operation more; and room that is enough stays so where it grows.
use Rattle.std.proofs.Common.{◌≡◌, ℕ, ◌+◌, ◌<◌, ◌≤◌, List, [], ◌∷◌, ◌++◌, map, length, take, drop, get_or, Bor, OnErr, refl, sym, ap, ◌∙◌, arith, Result}
use Rattle.std.proofs.lemmas.List.{drop-map, drop_more, length-map}
use Rattle.std.proofs.lemmas.List.Sums.{fold-append}
use Rattle.typed_path.specs.declared.script.run.PathOp.{PathOp}
use Rattle.typed_path.specs.components.{Dialect}
use Rattle.typed_path.specs.changes.{push, push_all, FitsPush, without_file_name, Operation, push_op, push_checked_op, pop_op, set_file_name_op, set_extension_op, clear_op, extend_op, Response, step, text_after, replies, FitsEach, FitsStep, FitsAll}
use Rattle.typed_path.specs.views.RunViews.{operation_of, operations_of, pushes_of, first_pushes, AreTaken, StopsAt}
use Rattle.typed_path.proofs.lemmas.lists.Lists.{take-map-more}

-- one more path pushed
pub push_all-more : (d : Dialect) (t old new : List ℕ) (paths : List (Bor (List ℕ))) (i : ℕ) (path : Bor (List ℕ)) → i < length paths → new ≡ push d old (get_or paths i path).now
    → old ≡ push_all d t (take i (map (λ b. b.now) paths)) → new ≡ push_all d t (take (i + 1) (map (λ b. b.now) paths))
push_all-more d t old new paths i path within pushed h =
    pushed
    ∙ ap (λ u. push d u (get_or paths i path).now) h
    ∙ sym (fold-append (push d) t (take i (map (λ b. b.now) paths)) ((get_or paths i path).now ∷ []))
    ∙ ap (push_all d t) (sym (take-map-more (λ b. b.now) paths i path within))

-- one more operation done
text_after-push : (d : Dialect) (t : List ℕ) (ops : List Operation) (op : Operation) → text_after d t (ops ++ op ∷ []) ≡ (step d (text_after d t ops) op).0
text_after-push d t [] op = refl
text_after-push d t (o ∷ ops) op = text_after-push d (step d t o).0 ops op

replies-push : (d : Dialect) (t : List ℕ) (ops : List Operation) (op : Operation) → replies d t (ops ++ op ∷ []) ≡ replies d t ops ++ (step d (text_after d t ops) op).1 ∷ []
replies-push d t [] op = refl
replies-push d t (o ∷ ops) op = ap (λ rs. (step d t o).1 ∷ rs) (replies-push d (step d t o).0 ops op)

module _ (d : Dialect) (t : List ℕ) (ops : List PathOp) (i : ℕ) (op : PathOp) (within : i < length ops) where
  -- the operations done, and the next
  abbrev done : List Operation
  done = take i (operations_of ops)

  abbrev next : Operation
  next = operation_of (get_or ops i op)

  pub text_after-more : (old new : List ℕ) → old ≡ text_after d t done → new ≡ (step d old next).0 → new ≡ text_after d t (take (i + 1) (operations_of ops))
  text_after-more old new h stepped =
      stepped
      ∙ ap (λ u. (step d u next).0) h
      ∙ sym (text_after-push d t done next)
      ∙ ap (text_after d t) (sym (take-map-more operation_of ops i op within))

  pub replies-more : (old : List ℕ) (answer : Response) → old ≡ text_after d t done → answer ≡ (step d old next).1
      → replies d t done ++ answer ∷ [] ≡ replies d t (take (i + 1) (operations_of ops))
  replies-more old answer h stepped =
      ap (λ r. replies d t done ++ r ∷ []) (stepped ∙ ap (λ u. (step d u next).1) h)
      ∙ sym (replies-push d t done next)
      ∙ ap (replies d t) (sym (take-map-more operation_of ops i op within))

  -- the pushes of the next operation
  next-pushes : first_pushes (drop i (operations_of ops)) ≡ pushes_of next
  next-pushes = ap first_pushes (drop-map operation_of i ops ∙ ap (map operation_of) (drop_more ops i op within))

  -- a run that stops before the next operation, or in the midst of its pushes
  pub stops : (old new : List ℕ) (before after : List Response) → old ≡ text_after d t done → after ≡ before ++ replies d t done → AreTaken d old (pushes_of next) new
      → StopsAt d t (operations_of ops) new before after
  stops old new before after h answered taken = grind (arith, length-map, next-pushes)

-- nothing pushed yet
pub none_taken : (d : Dialect) (t : List ℕ) (paths : List (List ℕ)) → AreTaken d t paths t
none_taken d t paths = record { pushed = 0; text = refl }

pub on_err : {A E P : Type 0} (r : Result A E) → P → OnErr r P
on_err r p = grind arith

-- room that is enough stays enough where it grows
pub fits_push-more : (d : Dialect) (room more : ℕ) (t path : List ℕ) → room ≤ more → FitsPush d room t path → FitsPush d more t path
fits_push-more d room more t path h fits = grind arith

pub fits_each-more : (d : Dialect) (room more : ℕ) (t : List ℕ) (paths : List (List ℕ)) → room ≤ more → FitsEach d room t paths → FitsEach d more t paths
fits_each-more d room more t [] h fits = tt
fits_each-more d room more t (path ∷ paths) h fits = (fits_push-more d room more t path h fits.0, fits_each-more d room more (push d t path) paths h fits.1)

pub fits_step-more : (d : Dialect) (room more : ℕ) (t : List ℕ) (op : Operation) → room ≤ more → FitsStep d room t op → FitsStep d more t op
fits_step-more d room more t (push_op path) h fits = fits_push-more d room more t path h fits
fits_step-more d room more t (push_checked_op path) h fits = λ e. fits_push-more d room more t path h (fits e)
fits_step-more d room more t pop_op h fits = tt
fits_step-more d room more t (set_file_name_op name) h fits = fits_push-more d room more (without_file_name d t) name h fits
fits_step-more d room more t (set_extension_op ext) h fits = omega arith
fits_step-more d room more t clear_op h fits = tt
fits_step-more d room more t (extend_op paths) h fits = fits_each-more d room more t paths h fits

-- there is room for the next path of a list, and for those behind it
module _ (d : Dialect) (room : ℕ) (t : List ℕ) (paths : List (Bor (List ℕ))) (i : ℕ) (path : Bor (List ℕ)) (within : i < length paths)
    (fits : FitsEach d room t (drop i (map (λ b. b.now) paths))) where
  next_fits : FitsEach d room t (map (λ b. b.now) (get_or paths i path ∷ drop (i + 1) paths))
  next_fits = grind (arith, drop-map, drop_more)

  pub fits_each-first : (more : ℕ) (next : List ℕ) → room ≤ more → next ≡ (get_or paths i path).now → FitsPush d more t next
  fits_each-first more next h e = rw e (fits_push-more d room more t (get_or paths i path).now h next_fits.0)

  pub fits_each-pushed : (new : List ℕ) → new ≡ push d t (get_or paths i path).now → FitsEach d room new (drop (i + 1) (map (λ b. b.now) paths))
  fits_each-pushed new e = rw (e, drop-map (λ b. b.now) (i + 1) paths) next_fits.1

-- and for the next operation, and those behind it
module _ (d : Dialect) (room : ℕ) (t : List ℕ) (ops : List PathOp) (i : ℕ) (op : PathOp) (within : i < length ops)
    (fits : FitsAll d room t (drop i (operations_of ops))) where
  next_step_fits : FitsAll d room t (operations_of (get_or ops i op ∷ drop (i + 1) ops))
  next_step_fits = grind (arith, drop-map, drop_more)

  pub fits_all-first : (more : ℕ) → room ≤ more → FitsStep d more t (operation_of (get_or ops i op))
  fits_all-first more h = fits_step-more d room more t (operation_of (get_or ops i op)) h next_step_fits.0

  pub fits_all-stepped : (new : List ℕ) → new ≡ (step d t (operation_of (get_or ops i op))).0 → FitsAll d room new (drop (i + 1) (operations_of ops))
  fits_all-stepped new e = rw (e, drop-map operation_of (i + 1) ops) next_step_fits.1
