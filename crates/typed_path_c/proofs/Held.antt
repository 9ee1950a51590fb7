-- What a checked join accepts lies within its base, and so does its clean path.
use Rattle.std.proofs.Common.{◌≡◌, ℕ, ◌==◌, Bool, true, false, not, ◌&&◌, ◌||◌, if◌then◌else◌, List, ◌++◌, map, length, Option, Some, None, option_map, Result, Ok, Err, IfOk, IsOk, true≢false, refl, sym, ap, subst, ◌∙◌, arith}
use Rattle.std.specs.Prelude.{nat_le}
use Rattle.std.specs.List.{starts_with}
use Rattle.std.specs.Str.{bytes_eq}
use Rattle.typed_path.specs.components.{Dialect, unix, windows, Kind, Prefix, normal, kinds, parts_of}
use Rattle.typed_path.specs.queries.{first_prefix, has_prefix}
use Rattle.typed_path.specs.order.{are_same_prefixes}
use Rattle.typed_path.specs.declared.errors.CheckedPathError.{CheckedPathError}
use Rattle.typed_path.specs.declared.errors.CheckedPathError.TheVariants.{InvalidFilename, PathTraversalAttack, UnexpectedPrefix, UnexpectedRoot}
use Rattle.typed_path.specs.declared.errors.PathError.{PathError}
use Rattle.typed_path.specs.changes.{fault, push, refusal}
use Rattle.typed_path.specs.places.{clean_text, headed, is_anchored, is_within, kept_names, leads_within, place, rising, route, unmet}
use Rattle.typed_path.specs.promises.{HasPrefixOf, LiesWithin, is_verbatim_unc_name, keeps_prefix, prefix_kind}
use Rattle.typed_path.proofs.lemmas.places.KeptNames.{place-kept}
use Rattle.typed_path.proofs.lemmas.promises.RouteBehind.{Alike, alike}
use Rattle.typed_path.proofs.lemmas.promises.WindowsClean.{clean_form}
use Rattle.typed_path.proofs.lemmas.promises.UnixContained as on_unix
use Rattle.typed_path.proofs.lemmas.promises.WindowsContained as on_windows
use Rattle.typed_path.proofs.lemmas.promises.WindowsContained.{kept_no_unc}
use Rattle.typed_path.proofs.lemmas.promises.Within.{lies_below}
use Rattle.typed_path.proofs.lemmas.promises.JoinedWithin.{stays_within}
use Rattle.typed_path_c.specs.Answers.{done, fault_status, status_by, IsHeld}

has-prefix : (d : Dialect) (base name : List ℕ) → fault d name ≡ None → HasPrefixOf d base (push d base name)
has-prefix unix base name accepted = on_unix.keeps base name accepted
has-prefix windows base name accepted = on_windows.keeps base name accepted

lies-within : (d : Dialect) (base name : List ℕ) → fault d name ≡ None → LiesWithin d base name (push d base name)
lies-within unix base name accepted = on_unix.contained base name accepted
lies-within windows base name accepted = on_windows.contained base name accepted

pub held : (d : Dialect) (base path : List ℕ) → fault d path ≡ None → IsHeld d base path (push d base path)
held d base path accepted =
    let stays = has-prefix d base path accepted in
    let within = lies-within d base path accepted in
    (stays, within, lies_below d base path (push d base path) accepted stays within, stays_within d base path accepted)

-- a path that is told to be accepted
unrefused : (o : Option CheckedPathError) → status_by fault_status o ≡ done → o ≡ None
unrefused None e = refl
unrefused (Some InvalidFilename) e = absurd (omega (arith, e))
unrefused (Some PathTraversalAttack) e = absurd (omega (arith, e))
unrefused (Some UnexpectedPrefix) e = absurd (omega (arith, e))
unrefused (Some UnexpectedRoot) e = absurd (omega (arith, e))

pub held-in : (d e : Dialect) (base path : List ℕ) (status : ℕ) → Some e ≡ Some d → status ≡ status_by fault_status (fault e path) → status ≡ done → IsHeld d base path (push d base path)
held-in d e base path status same is accepted = subst (λ x. IsHeld x base path (push x base path)) (cc same) (held e base path (unrefused (fault e path) (sym is ∙ accepted)))

-- whether a path is within a base, by what its route tells
abbrev within_by : List Kind → Option Prefix → Bool → ℕ → List (List ℕ) → Bool
within_by ls o anchored n names =
    ((are_same_prefixes o (first_prefix ls) && (if anchored then is_anchored ls else not (is_anchored ls))) && (n == rising ls) && starts_with bytes_eq names (kept_names ls))
    || (are_same_prefixes o (first_prefix ls) && (length (kept_names ls) == 0)
    && (if is_anchored ls then not (has_prefix ls) else not anchored && nat_le n (unmet ls)))

level : (anchored : Bool) (n u : ℕ) → (not anchored && nat_le n u) ≡ (not anchored && nat_le (if anchored then 0 else n) u)
level true n u = refl
level false n u = refl

told-by : (d : Dialect) (t base : List ℕ)
    → is_within d t base
    ≡ within_by (kinds (parts_of d base)) (first_prefix (kinds (parts_of d t))) (is_anchored (kinds (parts_of d t))) (rising (kinds (parts_of d t))) (kept_names (kinds (parts_of d t)))
told-by d t base =
    let ks = kinds (parts_of d t) in
    let ls = kinds (parts_of d base) in
    ap (λ x. leads_within ks ls || (are_same_prefixes (first_prefix ks) (first_prefix ls) && (length (kept_names ls) == 0)
    && (if is_anchored ls then not (has_prefix ls) else x)))
    (level (is_anchored ks) (unmet ks) (unmet ls))

module _ (d : Dialect) (t u : List ℕ) (same : route d t ≡ route d u) where
  abbrev h : Alike (kinds (parts_of d t)) (kinds (parts_of d u))
  h = alike (kinds (parts_of d t)) (kinds (parts_of d u)) same

  -- paths of one route lie at one place
  pub place-alike : place d t ≡ place d u
  place-alike = place-kept d t ∙ (λ i. headed (h.prefix i) (h.anchored i) ++ map normal (h.names i)) ∙ sym (place-kept d u)

  -- and within the same bases
  pub within-alike : (base : List ℕ) → is_within d t base ≡ is_within d u base
  within-alike base = told-by d t base ∙ (λ i. within_by (kinds (parts_of d base)) (h.prefix i) (h.anchored i) (h.rising i) (h.names i)) ∙ sym (told-by d u base)

no_unc : (d : Dialect) (base : List ℕ) → keeps_prefix d base ≡ true → is_verbatim_unc_name (prefix_kind d base) ≡ false
no_unc unix base kept = refl
no_unc windows base kept = kept_no_unc base kept

-- so a base that keeps its prefix holds it
pub held-clean : (d : Dialect) (base path : List ℕ) → fault d path ≡ None → keeps_prefix d base ≡ true → IsHeld d base path (clean_text d (push d base path))
held-clean d base path accepted kept =
    let joined = push d base path in
    let clean = clean_text d joined in
    let (stays, within, below, inside) = held d base path accepted in
    let prefix : prefix_kind d joined ≡ prefix_kind d base = stays kept in
    let form = clean_form d joined (ap is_verbatim_unc_name prefix ∙ no_unc d base kept) in
    let one = place-alike d clean joined form.route in (
      λ keeps. ap (option_map (λ f. f.prefix)) form.prefix ∙ prefix,
      λ stays_too. one ∙ within prefix,
      λ keeps. let b = below kept in record { names = b.names; leads = one ∙ b.leads },
      λ keeps. within-alike d clean joined form.route base ∙ inside kept,
    )

pub resolved-held : {P : Type 0} (bytes : P → List ℕ) (made : Result P PathError) (d : Dialect) (base path text : List ℕ) → refusal made ≡ fault d path
    → IfOk made (λ p. bytes p ≡ clean_text d (push d base path)) → IfOk made (λ p. bytes p ≡ text) × IsOk made → keeps_prefix d base ≡ true → IsHeld d base path text
resolved-held bytes (Ok p) d base path text refused is stands kept = subst (IsHeld d base path) (sym is ∙ stands.0) (held-clean d base path (sym refused) kept)
resolved-held bytes (Err e) d base path text refused is stands kept = absurd (true≢false (sym stands.1))
