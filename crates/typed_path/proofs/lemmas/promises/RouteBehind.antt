-- Paths that lead alike lie at one place, from each directory of which is known where paths lead behind it.
use Rattle.std.proofs.Common.{◌≡◌, ℕ, zero, suc, ◌-◌, Bool, true, false, List, [], ◌∷◌, ◌++◌, map, if◌then◌else◌, length, take, refl, sym, ap, ap₂, ◌∙◌, Option, Some, None}
use Rattle.std.specs.Prelude.{is_some}
use Rattle.typed_path.specs.components.{Dialect, unix, windows, Prefix, normal, Kind}
use Rattle.typed_path.specs.queries.{begins_with_root, first_prefix, has_physical_root}
use Rattle.typed_path.specs.changes.{push}
use Rattle.typed_path.specs.places.{place, unmet, kept_names, is_anchored, rising, headed, routed, clean_text}
use Rattle.typed_path.specs.promises.{CleanLeadsAlike, LeadAlike}
use Rattle.typed_path.proofs.lemmas.places.KeptNames.{place-kept}
use Rattle.typed_path.proofs.lemmas.promises.WindowsClean.{clean_form}
use Rattle.typed_path.proofs.lemmas.promises.CleanRead.{ups, unmet-ups, names-ups}
use Rattle.typed_path.proofs.lemmas.promises.Within.{kinds_of, has_prefix-first, bare-anchored, Leading, Replaces}
use Rattle.typed_path.proofs.lemmas.promises.UnixWithin.{leading, unix-replaces}
use Rattle.typed_path.proofs.lemmas.promises.VerbatimWithin.{windows-leading}
use Rattle.typed_path.proofs.lemmas.promises.WindowsWithin.{replaces}

-- What a route tells.

pub record Tells (ks : List Kind) (o : Option Prefix) (rooted : Bool) (n : ℕ) (left : List (List ℕ)) : Type 0 where
  pub prefix : first_prefix ks ≡ o
  pub anchored : has_physical_root ks ≡ rooted
  pub over : unmet ks ≡ n
  pub names : kept_names ks ≡ left

tells-ups : (n : ℕ) (names : List (List ℕ)) → (first_prefix (ups n names) ≡ None) × (begins_with_root (ups n names) ≡ false) × (has_physical_root (ups n names) ≡ false)
tells-ups (suc n) names = (refl, refl, refl)
tells-ups zero [] = (refl, refl, refl)
tells-ups zero (name ∷ names) = (refl, refl, refl)

pub tells : (o : Option Prefix) (anchored : Bool) (n : ℕ) (names : List (List ℕ)) → Tells (headed o anchored ++ ups n names) o anchored n names
tells None false n names = let h = tells-ups n names in record { prefix = h.0; anchored = h.2; over = unmet-ups n names; names = names-ups n names }
tells None true n names = record { prefix = refl; anchored = refl; over = unmet-ups n names; names = names-ups n names }
tells (Some p) false n names = let h = tells-ups n names in record { prefix = refl; anchored = h.1; over = unmet-ups n names; names = names-ups n names }
tells (Some p) true n names = record { prefix = refl; anchored = refl; over = unmet-ups n names; names = names-ups n names }

-- lists of one route lead alike
pub record Alike (ks ls : List Kind) : Type 0 where
  pub prefix : first_prefix ks ≡ first_prefix ls
  pub anchored : is_anchored ks ≡ is_anchored ls
  pub rising : rising ks ≡ rising ls
  pub names : kept_names ks ≡ kept_names ls

pub alike : (ks ls : List Kind) → routed ks ≡ routed ls → Alike ks ls
alike ks ls same =
    let own = tells (first_prefix ks) (is_anchored ks) (rising ks) (kept_names ks) in
    let others = tells (first_prefix ls) (is_anchored ls) (rising ls) (kept_names ls) in
    record {
      prefix = sym own.prefix ∙ ap first_prefix same ∙ others.prefix;
      anchored = sym own.anchored ∙ ap has_physical_root same ∙ others.anchored;
      rising = sym own.over ∙ ap unmet same ∙ others.over;
      names = sym own.names ∙ ap kept_names same ∙ others.names;
    }

module _ (d : Dialect) (dir t u : List ℕ) (l : Leading d dir) (replaces : Replaces d dir) (h : Alike (kinds_of d t) (kinds_of d u)) where
  abbrev K : List Kind
  K = kinds_of d t

  abbrev L : List Kind
  L = kinds_of d u

  -- without a prefix
  bare-alike : first_prefix K ≡ None → place d (push d dir t) ≡ place d (push d dir u)
  bare-alike bare = by (begins_with_root K) refl
    where
      other : first_prefix L ≡ None
      other = sym h.prefix ∙ bare

      same : begins_with_root K ≡ begins_with_root L
      same = sym (bare-anchored K bare) ∙ h.anchored ∙ bare-anchored L other

      level : begins_with_root K ≡ false → unmet K ≡ unmet L
      level e =
          ap (λ b. if b then 0 else unmet K) (sym (bare-anchored K bare ∙ e))
          ∙ h.rising
          ∙ ap (λ b. if b then 0 else unmet L) (bare-anchored L other ∙ sym same ∙ e)

      by : (b : Bool) → begins_with_root K ≡ b → place d (push d dir t) ≡ place d (push d dir u)
      by true e = l.rooted t bare e ∙ ap (λ names. l.head ++ map normal names) h.names ∙ sym (l.rooted u other (sym same ∙ e))
      by false e =
          l.relative t bare e
          ∙ ap₂ (λ n names. l.head ++ map normal (l.before ++ (take (length l.own - n) l.own ++ names))) (level e) h.names
          ∙ sym (l.relative u other (sym same ∙ e))

  -- with one
  prefixed-alike : (p : Prefix) → first_prefix K ≡ Some p → place d (push d dir t) ≡ place d (push d dir u)
  prefixed-alike p e =
      ap (place d) (replaces t (has_prefix-first K ∙ ap is_some e))
      ∙ place-kept d t
      ∙ ap₂ (λ o b. headed o b ++ map normal (kept_names K)) h.prefix h.anchored
      ∙ ap (λ names. headed (first_prefix L) (is_anchored L) ++ map normal names) h.names
      ∙ sym (place-kept d u)
      ∙ ap (place d) (sym (replaces u (has_prefix-first L ∙ ap is_some (sym h.prefix ∙ e))))

  one-place : place d (push d dir t) ≡ place d (push d dir u)
  one-place = by (first_prefix K) refl
    where
      by : (o : Option Prefix) → first_prefix K ≡ o → place d (push d dir t) ≡ place d (push d dir u)
      by None e = bare-alike e
      by (Some p) e = prefixed-alike p e

-- from each absolute directory that keeps its prefix
pub lead_alike : (d : Dialect) (dir t u : List ℕ) → LeadAlike d dir t u
lead_alike unix dir t u kept absolute same = one-place unix dir t u (leading dir absolute) (unix-replaces dir) (alike (kinds_of unix t) (kinds_of unix u) same)
lead_alike windows dir t u kept absolute same = one-place windows dir t u (windows-leading dir kept absolute) (replaces dir) (alike (kinds_of windows t) (kinds_of windows u) same)

-- a clean text has the route of its text
pub clean_leads_alike : (d : Dialect) (dir t : List ℕ) → CleanLeadsAlike d dir t
clean_leads_alike d dir t kept absolute no_unc = let form = clean_form d t no_unc in lead_alike d dir (clean_text d t) t kept absolute form.route
