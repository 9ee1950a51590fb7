-- A checked conversion is put, or refused, as its definition has it; and answers that fit into their bounds.
use Rattle.std.proofs.Common.{arith, ◌≡◌, ◌≤◌, ◌+◌, ◌*◌, ℕ, List, [], ◌∷◌, length, length-take, Result, Ok, Err, Option, Some, None, IfSome, refl, sym, subst, ⊎_elim, IfOk, MatchResult}
use Rattle.std.proofs.lemmas.Bool.{cases_lt}
use Rattle.std.proofs.lemmas.List.{length-append}
use Rattle.typed_path.specs.declared.errors.CheckedPathError.{CheckedPathError}
use Rattle.typed_path.specs.declared.errors.AbsolutizeError.{AbsolutizeError}
use Rattle.typed_path.specs.declared.errors.AbsolutizeError.TheVariants as absolute
use Rattle.typed_path.specs.declared.errors.PathError.{PathError}
use Rattle.typed_path.specs.declared.errors.PathError.TheVariants.{Checked, OutOfMemory}
use Rattle.typed_path.specs.changes.{push, refusal, with_added_extension}
use Rattle.typed_path_c.specs.Answers.{too_small, path_status, absolute_status, IsPut, IsRefused, IsMade, IsCrossed, IsFound}
use Rattle.typed_path.specs.components.{Dialect}
use Rattle.typed_path.specs.conversions.{absolute_under}
use Rattle.typed_path.specs.places.{clean_text, relative_text}
use Rattle.typed_path.proofs.lemmas.changes.Lengths.{push_length}
use Rattle.typed_path.proofs.lemmas.changes.PushLengths.{absolute_known}
use Rattle.typed_path.proofs.lemmas.places.CleanLengths.{clean_text_length, relative_text_length}

module _ (old new : List ℕ) (told len status : ℕ) where
  put-made : (answer : List ℕ) → IsPut answer old new len status → IsMade answer old told new len status
  put-made answer (fits, short, told) =
      (λ e. ⊎_elim (λ h. cc ((short h).0, e)) (λ h. cc ((fits h).0, e)) (cases_lt (length old) (length answer)), λ no. (fits, short, told))

  pub made_crossed : {P : Type 0} (bytes : P → List ℕ) (made : Result P PathError) (answer : Result (List ℕ) CheckedPathError)
      → IfOk made (λ p. answer ≡ Ok (bytes p))
      → ((why : CheckedPathError) → refusal made ≡ Some why → answer ≡ Err why)
      → MatchResult made (λ p. IsPut (bytes p) old new len status) (λ e. IsRefused (path_status e) old told new len status)
      → IsCrossed answer old told new len status
  made_crossed bytes (Ok p) answer is why put = subst (λ a. IsCrossed a old told new len status) (sym is) (put-made (bytes p) put)
  made_crossed bytes (Err (Checked e)) answer is why (st, kept) =
      subst (λ a. IsCrossed a old told new len status) (sym (why e refl)) (kept, λ no. st)
  made_crossed bytes (Err OutOfMemory) (Ok a) is why (st, kept) = (λ e. kept, λ no. absurd (no st))
  made_crossed bytes (Err OutOfMemory) (Err e) is why (st, kept) = (kept, λ no. absurd (no st))

-- a path with one extension more has one byte more than both at the most
pub with_added_extension_length : (d : Dialect) (t ext : List ℕ) → length (with_added_extension d t ext) ≤ length t + length ext + 1
with_added_extension_length d t [] = omega arith
with_added_extension_length d t (b ∷ bs) = grind (arith, length-append, length-take)

-- and the clean path of a join four
pub resolved_length : (d : Dialect) (base path : List ℕ) → length (clean_text d (push d base path)) ≤ length base + length path + 4
resolved_length d base path = omega (arith, clean_text_length d (push d base path), push_length d base path)

-- an answer of no more bytes than a buffer has is never too long for it
pub never_small : (answer old new : List ℕ) (len status bound : ℕ) → IsPut answer old new len status → length answer ≤ bound → bound ≤ length old → status ≡ too_small → ⊥
never_small answer old new len status bound put short room e = omega (arith, e, (put.0 (omega (arith, short, room))).0)

-- nor is a path that leads from a base
pub leads_fit : (d : Dialect) (path base old new : List ℕ) (told len status : ℕ) → IsFound (relative_text d path base) old told new len status
    → length path + 2 * length base + 3 ≤ length old → status ≡ too_small → ⊥
leads_fit d path base old new told len status found room small = by (relative_text d path base) (relative_text_length d path base) found
  where
    by : (o : Option (List ℕ)) → IfSome o (λ t. length t ≤ length path + 2 * length base + 3) → IsFound o old told new len status → ⊥
    by None fits (st, kept) = omega (arith, st, small)
    by (Some answer) fits made = never_small answer old new len status _ (made.1 (λ e. omega (arith, e, small))) fits room small

-- nor is one made absolute
pub absolute_fits : {P : Type 0} (bytes : P → List ℕ) (made : Result P AbsolutizeError) (d e : Dialect) (directory path old new : List ℕ) (told len status : ℕ)
    → IfOk made (λ p. absolute_under d e directory path ≡ Some (bytes p)) → MatchResult made (λ p. IsPut (bytes p) old new len status) (λ e. IsRefused (absolute_status e) old told new len status)
    → length directory + length path + 3 ≤ length old → status ≡ too_small → ⊥
absolute_fits bytes (Ok p) d e directory path old new told len status is put room small = never_small (bytes p) old new len status _ put (absolute_known d e directory path (bytes p) is) room small
absolute_fits bytes (Err absolute.Ambiguous) d e directory path old new told len status is (st, kept) room small = omega (arith, st, small)
absolute_fits bytes (Err absolute.OutOfMemory) d e directory path old new told len status is (st, kept) room small = omega (arith, st, small)
