-- On Unix a path is within a base exactly where it lies below it from every absolute directory.
use Rattle.std.proofs.Common.{◌≡◌, ℕ, zero, suc, ◌+◌, ◌-◌, ◌<◌, Bool, true, false, inl, inr, List, [], ◌∷◌, ◌++◌, map, if◌then◌else◌, length, take, replicate, refl, sym, ap, ap₂, ◌∙◌, arith, add-one, None}
use Rattle.std.proofs.lemmas.Grind.{common_steps}
use Rattle.std.specs.Prelude.{is_some}
use Rattle.std.proofs.lemmas.List.{map-append, take_all, length-replicate, replicate_more, take-replicate}
use Rattle.std.proofs.lemmas.Bool.{cases_lt}
use Rattle.typed_path.specs.declared.scan.separators.Separators.TheVariants.{Slash}
use Rattle.typed_path.specs.components.{unix, slash, Kind, root, normal, kinds, parts_of, name_part}
use Rattle.typed_path.specs.queries.{begins_with_root, first_prefix, is_absolute}
use Rattle.typed_path.specs.changes.{push, push_unix}
use Rattle.typed_path.specs.places.{place, unmet, kept_names, is_anchored, is_within}
use Rattle.typed_path.specs.promises.{IsBelow, LeadsBelow, IsWithinExactly, without_leading_current}
use Rattle.typed_path.proofs.lemmas.components.Segments.{IsCleanName, parts_of-unix, body_parts-name}
use Rattle.typed_path.proofs.lemmas.order.DifferentPrefixes.{body-bare}
use Rattle.typed_path.proofs.lemmas.places.KeptNames.{kept_names-append, without_leading_current-kept, place-kept, names-same}
use Rattle.typed_path.proofs.lemmas.promises.UnixContained.{join_appends}
use Rattle.typed_path.proofs.lemmas.promises.Within.{kinds_of, has_prefix-first, bare-anchored, bare-head, Leading, Replaces, within-below, within-true, root-true, parents-true}
use Rattle.typed_path.proofs.lemmas.components.WrittenForms.{begins-append}

-- Where a path leads behind an absolute directory.

pub first-none : (t : List ℕ) → first_prefix (kinds_of unix t) ≡ None
first-none t = body-bare Slash t

-- a path with a root replaces
rooted-replaces : (dir t : List ℕ) → begins_with_root (kinds_of unix t) ≡ true → push_unix dir t ≡ t
rooted-replaces dir t rooted = grind arith

absolute-filled : (dir : List ℕ) → is_absolute unix (kinds_of unix dir) ≡ true → 0 < length dir
absolute-filled dir absolute = grind arith

-- a place behind the root
rooted-place : (v : List ℕ) → begins_with_root (kinds_of unix v) ≡ true → place unix v ≡ root ∷ map normal (kept_names (kinds_of unix v))
rooted-place v rooted = place-kept unix v ∙ ap (λ hs. hs ++ map normal (kept_names (kinds_of unix v))) (bare-head (kinds_of unix v) true (first-none v) rooted)

abbrev unix-leading : (dir : List ℕ) → is_absolute unix (kinds_of unix dir) ≡ true → Leading unix dir
unix-leading dir absolute = record {
  head = root ∷ [];
  before = [];
  own = kept_names (kinds_of unix dir);
  rooted = λ t bare rooted. ap (place unix) (rooted-replaces dir t rooted) ∙ rooted-place t rooted;
  relative = λ t bare relative.
      let rest = without_leading_current (parts_of unix t) in
      let alike = without_leading_current-kept (parts_of unix t) in
      let joined : kinds_of unix (push_unix dir t) ≡ kinds_of unix dir ++ kinds rest =
      ap kinds (join_appends dir t (absolute-filled dir absolute) relative) ∙ map-append (λ p. p.kind) (parts_of unix dir) rest in
      rooted-place (push_unix dir t) (ap begins_with_root joined ∙ begins-append (kinds_of unix dir) (kinds rest) absolute)
      ∙ ap (λ names. root ∷ map normal names)
      (ap kept_names joined ∙ kept_names-append (kinds_of unix dir) (kinds rest)
      ∙ ap₂ (λ n names. take (length (kept_names (kinds_of unix dir)) - n) (kept_names (kinds_of unix dir)) ++ names) alike.unmet alike.names);
}

-- so each absolute directory has one
pub leading : (dir : List ℕ) → is_absolute unix (kinds_of unix dir) ≡ true → Leading unix dir
leading dir absolute = unix-leading dir absolute

pub unix-replaces : (dir : List ℕ) → Replaces unix dir
unix-replaces dir v prefixed = let e : true ≡ false = sym prefixed ∙ has_prefix-first (kinds_of unix v) ∙ ap is_some (first-none v) in cc

-- from each of them a path within a base lies below it
pub unix_below : (dir base t : List ℕ) → LeadsBelow unix dir base t
unix_below dir base t kept absolute asked = within-below unix dir base t (unix-leading dir absolute) (unix-replaces dir) asked

-- A name that begins neither of two lists.

abbrev letters : ℕ → List ℕ
letters n = replicate n 97

letters-clean : (n : ℕ) → IsCleanName Slash (letters (suc n))
letters-clean n = grind (arith, common_steps)

abbrev first_length : List (List ℕ) → ℕ
first_length [] = 0
first_length (n ∷ ns) = length n

abbrev fresh : List (List ℕ) → List (List ℕ) → List ℕ
fresh xs ys = letters (suc (first_length xs + first_length ys))

fresh-first : (xs ys rest : List (List ℕ)) → xs ≡ fresh xs ys ∷ rest → ⊥
fresh-first xs ys rest e = grind (arith, length-replicate)

-- A directory of one name, many times.

module _ (x : List ℕ) (clean : IsCleanName Slash x) where
  abbrev deep : ℕ → List ℕ
  deep zero = slash ∷ []
  deep (suc n) = push_unix (deep n) x

  record IsDeep (n : ℕ) (dir : List ℕ) : Type 0 where
    absolute : is_absolute unix (kinds_of unix dir) ≡ true
    names : kept_names (kinds_of unix dir) ≡ replicate n x

  deep-is : (n : ℕ) → IsDeep n (deep n)
  deep-is zero = record { absolute = refl; names = refl }
  deep-is (suc n) =
      let h = deep-is n in
      let single : parts_of unix x ≡ name_part x ∷ [] = parts_of-unix x ∙ body_parts-name Slash x clean in
      let joined : kinds_of unix (push_unix (deep n) x) ≡ kinds_of unix (deep n) ++ normal x ∷ [] =
      ap kinds (join_appends (deep n) x (absolute-filled (deep n) h.absolute) (ap (λ ps. begins_with_root (kinds ps)) single) ∙ ap (λ ps. parts_of unix (deep n) ++ without_leading_current ps) single)
      ∙ map-append (λ p. p.kind) (parts_of unix (deep n)) (name_part x ∷ []) in
      record {
        absolute = ap begins_with_root joined ∙ begins-append (kinds_of unix (deep n)) (normal x ∷ []) h.absolute;
        names = ap kept_names joined ∙ kept_names-append (kinds_of unix (deep n)) (normal x ∷ [])
            ∙ ap (λ ns. ns ++ x ∷ []) (whole (kept_names (kinds_of unix (deep n))) ∙ h.names)
            ∙ replicate_more n x ∙ ap (λ m. replicate m x) (add-one n);
      }
    where
      whole : (ns : List (List ℕ)) → take (length ns - 0) ns ≡ ns
      whole ns = take_all (length ns - 0) ns (omega arith)

  -- what is left of it and a path behind it
  abbrev left_at : ℕ → List ℕ → List (List ℕ)
  left_at n v = if begins_with_root (kinds_of unix v) then kept_names (kinds_of unix v) else replicate (n - unmet (kinds_of unix v)) x ++ kept_names (kinds_of unix v)

  deep-place : (n : ℕ) (v : List ℕ) → place unix (push unix (deep n) v) ≡ root ∷ map normal (left_at n v)
  deep-place n v = by (begins_with_root (kinds_of unix v)) refl
    where
      h : IsDeep n (deep n)
      h = deep-is n

      by : (b : Bool) → begins_with_root (kinds_of unix v) ≡ b
          → place unix (push unix (deep n) v) ≡ root ∷ map normal (if b then kept_names (kinds_of unix v) else replicate (n - unmet (kinds_of unix v)) x ++ kept_names (kinds_of unix v))
      by true e = (unix-leading (deep n) h.absolute).rooted v (first-none v) e
      by false e =
          (unix-leading (deep n) h.absolute).relative v (first-none v) e
          ∙ ap (λ ns. root ∷ map normal (take (length ns - unmet (kinds_of unix v)) ns ++ kept_names (kinds_of unix v))) h.names
          ∙ ap (λ m. root ∷ map normal (take (m - unmet (kinds_of unix v)) (replicate n x) ++ kept_names (kinds_of unix v))) (length-replicate n x)
          ∙ ap (λ ns. root ∷ map normal (ns ++ kept_names (kinds_of unix v))) (take-replicate (n - unmet (kinds_of unix v)) n x (omega arith))

  -- what is below it there has its names
  below-names : (n : ℕ) (base t : List ℕ) → IsBelow unix (push unix (deep n) base) (push unix (deep n) t) → (more : List (List ℕ)) × (left_at n t ≡ left_at n base ++ more)
  below-names n base t below = grind (arith, deep-place, map-append, names-same)

-- The test from what lies below.

module _ (base t : List ℕ) where
  abbrev K : List Kind
  K = kinds_of unix t

  abbrev L : List Kind
  L = kinds_of unix base

  abbrev Holds : Type 0
  Holds = (dir : List ℕ) → is_absolute unix (kinds_of unix dir) ≡ true → IsBelow unix (push unix dir base) (push unix dir t)

  abbrev x : List ℕ
  x = fresh (kept_names K) (kept_names L)

  clean : IsCleanName Slash x
  clean = letters-clean (first_length (kept_names K) + first_length (kept_names L))

  all : Holds → (n : ℕ) → (more : List (List ℕ)) × (left_at x clean n t ≡ left_at x clean n base ++ more)
  all holds n = below-names x clean n base t (holds (deep x clean n) (deep-is x clean n).absolute)

  anchored : (b : Bool) → begins_with_root K ≡ b → is_anchored K ≡ b
  anchored b e = bare-anchored K (first-none t) ∙ e

  anchored_base : (c : Bool) → begins_with_root L ≡ c → is_anchored L ≡ c
  anchored_base c d = bare-anchored L (first-none base) ∙ d

  -- heads alike, and names that go on
  go-on : (b : Bool) → begins_with_root K ≡ b → begins_with_root L ≡ b → (b ≡ false → unmet K ≡ unmet L) → (more : List (List ℕ)) → kept_names K ≡ kept_names L ++ more → is_within unix t base ≡ true
  go-on b e d same =
      within-true K L (first-none t) (first-none base) (anchored b e ∙ sym (anchored_base b d))
      (ap (λ o. if o then 0 else unmet K) (anchored b e) ∙ even b same ∙ ap (λ o. if o then 0 else unmet L) (sym (anchored_base b d)))
    where
      even : (b : Bool) → (b ≡ false → unmet K ≡ unmet L) → (if b then 0 else unmet K) ≡ (if b then 0 else unmet L)
      even b same = grind arith

  -- behind a name of its own stands a base without names
  nameless : (others more own : List (List ℕ)) → own ≡ kept_names L → x ∷ others ≡ own ++ more → kept_names L ≡ []
  nameless others more own e h = grind (arith, common_steps)

  complete : Holds → is_within unix t base ≡ true
  complete holds = by (begins_with_root K) refl (begins_with_root L) refl
    where
      at : (n : ℕ) (b : Bool) → begins_with_root K ≡ b → (c : Bool) → begins_with_root L ≡ c
          → (more : List (List ℕ)) × ((if b then kept_names K else replicate (n - unmet K) x ++ kept_names K) ≡ (if c then kept_names L else replicate (n - unmet L) x ++ kept_names L) ++ more)
      at n b e c d =
          let h = all holds n in
          (h.0, ap (λ o. if o then kept_names K else replicate (n - unmet K) x ++ kept_names K) (sym e) ∙ h.1 ∙ ap (λ o. (if o then kept_names L else replicate (n - unmet L) x ++ kept_names L) ++ h.0) d)

      one : (k u : ℕ) → k ≡ suc u → (ns : List (List ℕ)) → replicate k x ++ ns ≡ x ∷ (replicate u x ++ ns)
      one k u e ns = ap (λ m. replicate m x ++ ns) e

      none : (n : ℕ) (ns : List (List ℕ)) → replicate (n - n) x ++ ns ≡ ns
      none n ns = let zero : n - n ≡ 0 = omega arith in ap (λ m. replicate m x ++ ns) zero

      by : (b : Bool) → begins_with_root K ≡ b → (c : Bool) → begins_with_root L ≡ c → is_within unix t base ≡ true
      by true e true d = let h = at 0 true e true d in go-on true e d (λ f. cc) h.0 h.1
      by false e true d =
          let h = at (suc (unmet K)) false e true d in
          root-true K L (first-none t) (first-none base) (anchored_base true d)
          (nameless _ h.0 (kept_names L) refl (sym (one (suc (unmet K) - unmet K) 0 (omega arith) (kept_names K)) ∙ h.1))
      by true e false d =
          let h = at (suc (unmet L)) true e false d in
          absurd (fresh-first (kept_names K) (kept_names L) _ (h.1 ∙ ap (λ ns. ns ++ h.0) (one (suc (unmet L) - unmet L) 0 (omega arith) (kept_names L))))
      by false e false d = elim (cases_lt (unmet L) (unmet K)) [
        | inl higher ↦
            let h = at (unmet K) false e false d in
            absurd (fresh-first (kept_names K) (kept_names L) _
            (sym (none (unmet K) (kept_names K)) ∙ h.1 ∙ ap (λ ns. ns ++ h.0) (one (unmet K - unmet L) (unmet K - unmet L - 1) (omega (arith, higher)) (kept_names L))))
        | inr low ↦ elim (cases_lt (unmet K) (unmet L)) [
          | inl lower ↦
              let h = at (unmet L) false e false d in
              parents-true K L (first-none t) (first-none base) (anchored false e) (anchored_base false d) low
              (nameless _ h.0 (kept_names L) refl
              (sym (one (unmet L - unmet K) (unmet L - unmet K - 1) (omega (arith, lower)) (kept_names K)) ∙ h.1 ∙ ap (λ ns. ns ++ h.0) (none (unmet L) (kept_names L))))
          | inr level ↦
              let same : unmet K ≡ unmet L = omega (arith, low, level) in
              let h = at (unmet L) false e false d in
              go-on false e d (λ f. same) h.0
              (sym (ap (λ m. replicate (unmet L - m) x ++ kept_names K) same ∙ none (unmet L) (kept_names K)) ∙ h.1 ∙ ap (λ ns. ns ++ h.0) (none (unmet L) (kept_names L)))
        ]
      ]

-- the test is exact
pub is_exact : (base t : List ℕ) → IsWithinExactly base t
is_exact base t = ((λ asked dir absolute. unix_below dir base t refl absolute asked), complete base t)
