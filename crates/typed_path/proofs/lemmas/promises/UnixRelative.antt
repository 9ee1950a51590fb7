-- On Unix the path that leads from a base to another, joined to the base, leads where that leads; and there is none exactly where no relative path does so.
use Rattle.std.proofs.Common.{◌≡◌, ℕ, ◌+◌, ◌-◌, ◌<◌, ◌≤◌, ◌==◌, Bool, true, false, List, [], ◌∷◌, ◌++◌, if◌then◌else◌, length, refl, sym, ap, ap₂, ◌∙◌, append-nil, arith, subst, inl, inr, eq-eqb, Option, Some, None}
use Rattle.std.proofs.lemmas.Grind.{common_steps}
use Rattle.std.specs.Prelude.{◌⊎◌, ◌≢◌}
use Rattle.std.specs.List.{AllByRecursion}
use Rattle.std.proofs.lemmas.Bool.{cases_lt, or_parts}
use Rattle.std.proofs.lemmas.List.{drop_all, map-append}
use Rattle.std.proofs.lemmas.List.Folds.{list_any_none}
use Rattle.typed_path.specs.declared.scan.separators.Separators.TheVariants.{Slash}
use Rattle.typed_path.specs.components.{Dialect, unix, windows, slash, dot, is_separator, Kind, current, Part, kinds, parts_of, prefix_of}
use Rattle.typed_path.specs.queries.{begins_with_root}
use Rattle.typed_path.specs.changes.{push, push_unix}
use Rattle.typed_path.specs.places.{can_stand, headed, is_anchored, is_reached, kept_names, met_count, names_down, relative_text, rising, route, same_heads, steps_text, steps_up, unmet}
use Rattle.typed_path.specs.promises.{HasNone, HasNoneAtAll, HasNoneOnUnix, IsDotAlike, IsUnreached, apart, higher, unreadable, without_leading_current}
use Rattle.typed_path.proofs.lemmas.components.Segments.{AreRead, IsCleanName, body_parts, body_parts-read, parts_of-unix}
use Rattle.typed_path.proofs.lemmas.places.KeptFromBack.{alike-append}
use Rattle.typed_path.proofs.lemmas.places.KeptNames.{AlikeKept, unmet-append, without_leading_current-kept}
use Rattle.typed_path.proofs.lemmas.places.Reached.{reached-all}
use Rattle.typed_path.proofs.lemmas.promises.StepsBack.{alike-heads, free-rising, heads-alike, leads-back, reached-told, same-route, same_heads-all, body-clean, clean-drop, names-unix, read-relative, stays_relative}
use Rattle.typed_path.proofs.lemmas.promises.CleanForms.{parts-plain, plain, route-plain, route-tells}
use Rattle.typed_path.proofs.lemmas.promises.CleanRead.{anchored-stays, names-ups, unmet-ups, ups}
use Rattle.typed_path.proofs.lemmas.promises.UnixContained.{join_appends, push_unix-nothing}
use Rattle.typed_path.proofs.lemmas.promises.Within.{bare-anchored, kinds_of}
use Rattle.typed_path.proofs.lemmas.promises.UnixWithin.{first-none}
use Rattle.typed_path.proofs.lemmas.places.SharedFromBack.{shared_count-own}

-- a list of Unix is anchored where it begins with a root
anchored-unix : (t : List ℕ) → is_anchored (kinds_of unix t) ≡ begins_with_root (kinds_of unix t)
anchored-unix t = bare-anchored (kinds_of unix t) (first-none t)

-- something stands before the list
record IsFilled (ps : List Part) : Type 0 where
  first : Part
  rest : List Part
  is : ps ≡ first ∷ rest

filled-list : (b : ℕ) (bs : List ℕ) → IsFilled (parts_of unix (b ∷ bs))
filled-list b bs = grind arith

anchored-more : (ps : List Part) (ks : List Kind) → IsFilled ps → AreRead Slash ps → is_anchored (kinds ps ++ ks) ≡ is_anchored (kinds ps)
anchored-more ps ks h read = grind arith

-- what a relative text joined to a base is read as
pub record Joined (base r : List ℕ) : Type 0 where
  pub anchored : is_anchored (kinds_of unix (push_unix base r)) ≡ is_anchored (kinds_of unix base)
  pub alike : AlikeKept (kinds_of unix (push_unix base r)) (kinds_of unix base ++ kinds_of unix r)

pub joined : (base r : List ℕ) → begins_with_root (kinds_of unix r) ≡ false → Joined base r
joined [] r relative =
    let e = push_unix-nothing r in
    let free : is_anchored (kinds_of unix r) ≡ false = anchored-unix r ∙ relative in
    record {
      anchored = ap (λ t. is_anchored (kinds_of unix t)) e ∙ free;
      alike = record { unmet = ap (λ t. unmet (kinds_of unix t)) e; names = ap (λ t. kept_names (kinds_of unix t)) e };
    }
joined (b ∷ bs) r relative =
    let base = b ∷ bs in
    let whole : kinds_of unix (push_unix base r) ≡ kinds_of unix base ++ kinds (without_leading_current (parts_of unix r)) =
    ap kinds (join_appends base r (omega arith) relative) ∙ map-append (λ p. p.kind) (parts_of unix base) (without_leading_current (parts_of unix r)) in
    let h = alike-append (kinds_of unix base) (kinds (without_leading_current (parts_of unix r))) (kinds_of unix r) (without_leading_current-kept (parts_of unix r)) in
    record {
      anchored = ap is_anchored whole ∙ anchored-more (parts_of unix base) _ (filled-list b bs) (subst (AreRead Slash) (sym (parts_of-unix base)) (body_parts-read Slash base));
      alike = record { unmet = ap unmet whole ∙ h.unmet; names = ap kept_names whole ∙ h.names };
    }

pub leads_unix : (path base r : List ℕ) → relative_text unix path base ≡ Some r → route unix (push unix base r) ≡ route unix path
leads_unix path base r e =
    let h = read-relative unix path base r e in
    let j = joined base r (stays_relative unix path base r e).root in
    let same : kinds_of unix r ≡ kinds (body_parts Slash r) = ap kinds (parts_of-unix r) in
    let ks = kinds_of unix path in
    let ls = kinds_of unix base in
    let steps = alike-append ls (kinds_of unix r) (ups (steps_up ks ls) (names_down ks ls)) (record {
      unmet = ap unmet same ∙ sym (free-rising (kinds (body_parts Slash r)) h.reads.leads.anchored) ∙ h.reads.leads.rising ∙ sym (unmet-ups (steps_up ks ls) (names_down ks ls));
      names = ap kept_names same ∙ h.reads.leads.names ∙ sym (names-ups (steps_up ks ls) (names_down ks ls));
    }) in
    same-route ks ls (kinds_of unix (push_unix base r)) h.reached (first-none (push_unix base r) ∙ sym (first-none base))
    (leads-back ks ls (kinds_of unix (push_unix base r)) h.reached j.anchored (record { unmet = j.alike.unmet ∙ steps.unmet; names = j.alike.names ∙ steps.names }))

-- Where there is none.

-- names that are read without a prefix hold no `/`
bare-slash : (d : Dialect) (b : ℕ) → is_separator (plain d) b ≡ false → (b == slash) ≡ false
bare-slash unix b e = e
bare-slash windows b e = (or_parts (b == slash) (b == 92) e).0

clean-can : (d : Dialect) (names : List (List ℕ)) → AllByRecursion (IsCleanName (plain d)) names → can_stand names ≡ true
clean-can d [] each = refl
clean-can d (name ∷ names) each = grind (arith, common_steps, list_any_none, bare-slash, clean-can d names each.1)

read-can : (d : Dialect) (r : List ℕ) (names : List (List ℕ)) → prefix_of d r ≡ None → kept_names (kinds (parts_of d r)) ≡ names → can_stand names ≡ true
read-can d r names h e = grind (arith, parts-plain, clean-can, body_parts, plain, body-clean)

module _ (d : Dialect) (path base : List ℕ) where
  abbrev ks : List Kind
  ks = kinds (parts_of d path)

  abbrev ls : List Kind
  ls = kinds (parts_of d base)

  none-not : relative_text d path base ≡ None → is_reached ks ls ≡ true → ⊥
  none-not e reached = let some : Some (steps_text d (steps_up ks ls) (names_down ks ls)) ≡ None = sym (ap (λ b. if b then Some (steps_text d (steps_up ks ls) (names_down ks ls)) else None) reached) ∙ e in cc

  not-none : (is_reached ks ls ≡ true → ⊥) → relative_text d path base ≡ None
  not-none never = grind arith

  unreached : relative_text d path base ≡ None → IsUnreached d path base
  unreached none = by (same_heads ks ls) refl (cases_lt (rising ks) (rising ls))
    where
      by : (b : Bool) → same_heads ks ls ≡ b → (rising ks < rising ls) ⊎ (rising ls ≤ rising ks) → IsUnreached d path base
      by false e f = apart (λ same. let both : true ≡ false = sym (alike-heads ks ls same) ∙ e in cc)
      by true e (inl less) = higher less
      by true e (inr le) = unreadable (λ r plain read. none-not none (reached-all ks ls e le (read-can d r (names_down ks ls) plain read)))

  none-reached : IsUnreached d path base → is_reached ks ls ≡ true → ⊥
  none-reached (apart differ) reached = differ (heads-alike ks ls (reached-told ks ls reached).heads)
  none-reached (higher less) reached = let h = (reached-told ks ls reached).rising in absurd (omega (arith, less, h))
  none-reached (unreadable never) reached =
      let e : relative_text d path base ≡ Some (steps_text d (steps_up ks ls) (names_down ks ls)) = ap (λ b. if b then Some (steps_text d (steps_up ks ls) (names_down ks ls)) else None) reached in
      let h = read-relative d path base (steps_text d (steps_up ks ls) (names_down ks ls)) e in
      never (steps_text d (steps_up ks ls) (names_down ks ls)) h.reads.none (ap (λ ps. kept_names (kinds ps)) (parts-plain d (steps_text d (steps_up ks ls) (names_down ks ls)) h.reads.none) ∙ h.reads.leads.names)

  pub has_none : HasNone d path base
  has_none = (unreached, λ un. not-none (none-reached un))

unix-heads : (t u : List ℕ) → is_anchored (kinds_of unix t) ≡ is_anchored (kinds_of unix u) → same_heads (kinds_of unix t) (kinds_of unix u) ≡ true
unix-heads t u same = same_heads-all (kinds_of unix t) (kinds_of unix u) (first-none t ∙ sym (first-none u)) same

module _ (path base : List ℕ) where
  -- on Unix each name can stand
  unix-reached : begins_with_root (kinds_of unix path) ≡ begins_with_root (kinds_of unix base) → rising (kinds_of unix base) ≤ rising (kinds_of unix path) → is_reached (kinds_of unix path) (kinds_of unix base) ≡ true
  unix-reached same le =
      reached-all (kinds_of unix path) (kinds_of unix base) (unix-heads path base (anchored-unix path ∙ same ∙ sym (anchored-unix base))) le
      (clean-can unix (names_down (kinds_of unix path) (kinds_of unix base)) (clean-drop Slash _ (kept_names (kinds_of unix path)) (names-unix path)))

  pub has_none_on_unix : HasNoneOnUnix path base
  has_none_on_unix = (
    (λ none. by none (begins_with_root (kinds_of unix path)) (begins_with_root (kinds_of unix base)) refl refl (cases_lt (rising (kinds_of unix path)) (rising (kinds_of unix base)))),
    λ un. not-none unix path base (back un),
  )
    where
      by : relative_text unix path base ≡ None → (a b : Bool) → begins_with_root (kinds_of unix path) ≡ a → begins_with_root (kinds_of unix base) ≡ b
          → (rising (kinds_of unix path) < rising (kinds_of unix base)) ⊎ (rising (kinds_of unix base) ≤ rising (kinds_of unix path))
          → (begins_with_root (kinds_of unix path) ≢ begins_with_root (kinds_of unix base)) ⊎ (rising (kinds_of unix path) < rising (kinds_of unix base))
      by none a b e f (inl less) = inr less
      by none true true e f (inr le) = absurd (none-not unix path base none (unix-reached (e ∙ sym f) le))
      by none false false e f (inr le) = absurd (none-not unix path base none (unix-reached (e ∙ sym f) le))
      by none true false e f (inr le) = inl (λ same. let h : true ≡ false = sym e ∙ same ∙ f in cc)
      by none false true e f (inr le) = inl (λ same. let h : false ≡ true = sym e ∙ same ∙ f in cc)

      back : (begins_with_root (kinds_of unix path) ≢ begins_with_root (kinds_of unix base)) ⊎ (rising (kinds_of unix path) < rising (kinds_of unix base)) → is_reached (kinds_of unix path) (kinds_of unix base) ≡ true → ⊥
      back h reached = grind (arith, anchored-unix, reached-told, kinds_of)

  -- whatever relative path leads from the base to the path, this one does
  led : (r : List ℕ) → begins_with_root (kinds_of unix r) ≡ false → route unix (push unix base r) ≡ route unix path → is_reached (kinds_of unix path) (kinds_of unix base) ≡ true
  led r relative leads =
      let h = route-tells unix (push_unix base r) path refl refl leads in
      let j = joined base r relative in
      let same : is_anchored (kinds_of unix base) ≡ is_anchored (kinds_of unix path) = sym j.anchored ∙ h.anchored in
      unix-reached (sym (anchored-unix path) ∙ sym same ∙ anchored-unix base)
      (by (is_anchored (kinds_of unix base)) refl j.anchored h.rising (j.alike.unmet ∙ unmet-append (kinds_of unix base) (kinds_of unix r)))
    where
      by : (b : Bool) → is_anchored (kinds_of unix base) ≡ b → is_anchored (kinds_of unix (push_unix base r)) ≡ is_anchored (kinds_of unix base) → rising (kinds_of unix (push_unix base r)) ≡ rising (kinds_of unix path)
          → unmet (kinds_of unix (push_unix base r)) ≡ unmet (kinds_of unix base) + (unmet (kinds_of unix r) - length (kept_names (kinds_of unix base))) → rising (kinds_of unix base) ≤ rising (kinds_of unix path)
      by true e same rises more = omega (arith, anchored-stays (kinds_of unix base) e)
      by false e same rises more = grind (arith, free-rising, kinds_of)

  pub has_none_at_all : HasNoneAtAll path base
  has_none_at_all = (
    (λ none r relative leads. none-not unix path base none (led r relative leads)),
    λ never. by never (relative_text unix path base) refl,
  )
    where
      by : ((r : List ℕ) → begins_with_root (kinds_of unix r) ≡ false → route unix (push unix base r) ≢ route unix path) → (o : Option (List ℕ)) → relative_text unix path base ≡ o → relative_text unix path base ≡ None
      by never None e = e
      by never (Some r) e = absurd (never r (stays_relative unix path base r e).root (leads_unix path base r e))

-- Where it is `.`.

module _ (ks ls : List Kind) (over : rising ks ≡ rising ls) (names : kept_names ks ≡ kept_names ls) where
  all-met : met_count ks ls ≡ length (kept_names ks)
  all-met = grind (arith, eq-eqb, shared_count-own)

  none-up : steps_up ks ls ≡ 0
  none-up = omega (arith, all-met, over, ap length names)

  none-down : names_down ks ls ≡ []
  none-down = drop_all (met_count ks ls) (kept_names ks) (omega (arith, all-met))

-- `.` joined to a base changes nothing
dot-stays : (base : List ℕ) → route unix (push_unix base (dot ∷ [])) ≡ route unix base
dot-stays base =
    let j = joined base (dot ∷ []) refl in
    let bs = kinds_of unix base in
    let ms = kinds_of unix (push_unix base (dot ∷ [])) in
    let h = alike-append bs (current ∷ []) [] (record { unmet = refl; names = refl }) in
    let over : unmet ms ≡ unmet bs = j.alike.unmet ∙ h.unmet ∙ ap unmet (append-nil bs) in
    let names : kept_names ms ≡ kept_names bs = j.alike.names ∙ h.names ∙ ap kept_names (append-nil bs) in
    route-plain unix (push_unix base (dot ∷ [])) refl
    ∙ ap₂ (λ a n. headed None a ++ ups (if a then 0 else n) (kept_names ms)) j.anchored over
    ∙ ap (λ ns. headed None (is_anchored bs) ++ ups (rising bs) ns) names
    ∙ sym (route-plain unix base refl)

pub dot_alike : (path base : List ℕ) → IsDotAlike path base
dot_alike path base = (
  (λ e. sym (leads_unix path base (dot ∷ []) e) ∙ dot-stays base),
  λ same.
      let h = route-tells unix path base refl refl same in
      let reached = unix-reached path base (sym (anchored-unix path) ∙ h.anchored ∙ anchored-unix base) (omega (arith, h.rising)) in
      ap (λ b. if b then Some (steps_text unix (steps_up (kinds_of unix path) (kinds_of unix base)) (names_down (kinds_of unix path) (kinds_of unix base))) else None) reached
      ∙ ap₂ (λ n ns. Some (steps_text unix n ns)) (none-up (kinds_of unix path) (kinds_of unix base) h.rising h.names) (none-down (kinds_of unix path) (kinds_of unix base) h.rising h.names),
)
