-- A path that is within a base lies below it, from each directory of which is known where paths lead behind it; and a checked join lies below its base.
use Rattle.std.proofs.Common.{◌≡◌, ℕ, ◌-◌, ◌==◌, ◌≤◌, Bool, true, false, not, ◌&&◌, ◌||◌, inl, inr, List, [], ◌++◌, map, if◌then◌else◌, length, take, drop, refl, sym, ap, ap₂, ◌∙◌, append_assoc, append-nil, take-append-drop, arith, nat_le, eq-eqb, Option, Some, None, zero, suc, ◌∷◌}
use Rattle.std.proofs.lemmas.Grind.{common_steps}
use Rattle.std.specs.Prelude.{is_some}
use Rattle.std.specs.List.{starts_with}
use Rattle.std.specs.Str.{bytes_eq}
use Rattle.std.specs.Cmp.{Equal-is}
use Rattle.std.proofs.lemmas.Bool.{eqb-true, and_parts, or_cases, both_ways, leb-true, le-leb, not-true}
use Rattle.std.proofs.lemmas.List.{map-append, take-take}
use Rattle.std.proofs.lemmas.Slice.Eq.{starts_is, bytes_eq-Decides}
use Rattle.typed_path.specs.components.{Dialect, Prefix, Kind, prefix, normal, kinds, parts_of, root, current, parent, Part}
use Rattle.typed_path.specs.queries.{begins_with_root, first_prefix, has_prefix, is_valid_name}
use Rattle.typed_path.specs.order.{are_same_prefixes, kind_cmp, exact_kinds}
use Rattle.typed_path.specs.changes.{push, fault, fault_at}
use Rattle.typed_path.specs.places.{place, unmet, kept_names, is_anchored, rising, headed, head_of, same_heads, leads_within, holds_all, is_within, overdraws, resolve, stays}
use Rattle.typed_path.specs.promises.{IsBelow, keeps_prefix, HasPrefixOf, LiesWithin}
use Rattle.typed_path.proofs.lemmas.places.KeptNames.{place-kept}
use Rattle.typed_path.specs.declared.errors.CheckedPathError.TheVariants.{InvalidFilename}
use Rattle.typed_path.proofs.lemmas.changes.Faults.{fault_behind-at}

abbrev pub kinds_of : Dialect → List ℕ → List Kind
kinds_of d t = kinds (parts_of d t)

-- Heads.

pub has_prefix-first : (ks : List Kind) → has_prefix ks ≡ is_some (first_prefix ks)
has_prefix-first ks = grind arith

-- without a prefix a root is written
pub bare-anchored : (ks : List Kind) → first_prefix ks ≡ None → is_anchored ks ≡ begins_with_root ks
bare-anchored ks bare = grind arith

pub bare-head : (ks : List Kind) (b : Bool) → first_prefix ks ≡ None → begins_with_root ks ≡ b → head_of ks ≡ headed None b
bare-head ks b bare e = ap₂ headed bare (bare-anchored ks bare ∙ e)

-- What it tells that a list leads within another.

-- it leads to the place of the other and then to names, or no higher than one without names
pub data Leads (ks ls : List Kind) : Type 0 where
  to_names : (more : List (List ℕ)) → is_anchored ks ≡ is_anchored ls → (is_anchored ls ≡ false → unmet ks ≡ unmet ls) → kept_names ks ≡ kept_names ls ++ more → Leads ks ls
  under_root : is_anchored ls ≡ true → has_prefix ls ≡ false → kept_names ls ≡ [] → Leads ks ls
  under_parents : is_anchored ks ≡ false → is_anchored ls ≡ false → unmet ks ≤ unmet ls → kept_names ls ≡ [] → Leads ks ls

pub record IsTold (ks ls : List Kind) : Type 0 where
  pub prefixes : first_prefix ks ≡ first_prefix ls
  pub leads : Leads ks ls

pub same-prefix : (o r : Option Prefix) → are_same_prefixes o r ≡ true → o ≡ r
same-prefix None None e = refl
same-prefix (Some p) (Some q) e = let same : prefix p ≡ prefix q = exact_kinds (prefix p) (prefix q) ((Equal-is (kind_cmp (prefix p) (prefix q))).0 e) in cc
same-prefix None (Some q) e = cc
same-prefix (Some p) None e = cc

pub test-same : (a : Bool) → (if a then a else not a) ≡ true
test-same a = grind arith

pub same-test : (a b : Bool) → (if a then b else not b) ≡ true → a ≡ b
same-test a b e = grind arith

nothing : (names : List (List ℕ)) → (length names == 0) ≡ true → names ≡ []
nothing names e = grind (arith, common_steps)

-- parents that lead above are those that find no name, without a root
unmet-rising : (ks ls : List Kind) → is_anchored ks ≡ is_anchored ls → rising ks ≡ rising ls → is_anchored ls ≡ false → unmet ks ≡ unmet ls
unmet-rising ks ls same level e = grind arith

pub told : (ks ls : List Kind) → (leads_within ks ls || holds_all ks ls) ≡ true → IsTold ks ls
told ks ls asked = elim (or_cases (leads_within ks ls) (holds_all ks ls) asked) [
  | inl inside ↦
      let outer = and_parts (same_heads ks ls && (rising ks == rising ls)) _ inside in
      let inner = and_parts (same_heads ks ls) _ outer.0 in
      let heads = and_parts (are_same_prefixes (first_prefix ks) (first_prefix ls)) _ inner.0 in
      let same = same-test (is_anchored ks) (is_anchored ls) heads.1 in
      record {
        prefixes = same-prefix (first_prefix ks) (first_prefix ls) heads.0;
        leads = to_names (drop (length (kept_names ls)) (kept_names ks)) same (unmet-rising ks ls same (eqb-true (rising ks) (rising ls) inner.1))
            ((starts_is bytes_eq-Decides (kept_names ks) (kept_names ls) true (sym outer.1)).0 refl);
      }
  | inr held ↦
      let outer = and_parts (are_same_prefixes (first_prefix ks) (first_prefix ls) && (length (kept_names ls) == 0)) _ held in
      let inner = and_parts (are_same_prefixes (first_prefix ks) (first_prefix ls)) _ outer.0 in
      record {
        prefixes = same-prefix (first_prefix ks) (first_prefix ls) inner.0;
        leads = by (is_anchored ls) refl (nothing (kept_names ls) inner.1) outer.1;
      }
]
  where
    by : (b : Bool) → is_anchored ls ≡ b → kept_names ls ≡ [] → (if b then not (has_prefix ls) else not (is_anchored ks) && nat_le (unmet ks) (unmet ls)) ≡ true → Leads ks ls
    by b e h why = grind (arith, not-true, and_parts, leb-true)

-- The other way round, of lists without a prefix.

module _ (ks ls : List Kind) (bare : first_prefix ks ≡ None) (bare_base : first_prefix ls ≡ None) where
  pub within-true : is_anchored ks ≡ is_anchored ls → rising ks ≡ rising ls → (more : List (List ℕ)) → kept_names ks ≡ kept_names ls ++ more → (leads_within ks ls || holds_all ks ls) ≡ true
  within-true same level more begins =
      let begun : starts_with bytes_eq (kept_names ks) (kept_names ls) ≡ true = (starts_is bytes_eq-Decides (kept_names ks) (kept_names ls) (starts_with bytes_eq (kept_names ks) (kept_names ls)) refl).1 more begins in
      ap (λ b. b || holds_all ks ls)
      (ap₂ (λ o r. are_same_prefixes o r && (if is_anchored ks then is_anchored ls else not (is_anchored ls)) && (rising ks == rising ls) && starts_with bytes_eq (kept_names ks) (kept_names ls)) bare bare_base
      ∙ ap (λ b. (if b then is_anchored ls else not (is_anchored ls)) && (rising ks == rising ls) && starts_with bytes_eq (kept_names ks) (kept_names ls)) same
      ∙ ap (λ b. b && (rising ks == rising ls) && starts_with bytes_eq (kept_names ks) (kept_names ls)) (test-same (is_anchored ls))
      ∙ ap₂ (λ b c. b && c) (eq-eqb (rising ks) (rising ls) level) begun)

  held : (b : Bool) → is_anchored ls ≡ b → (if b then not (has_prefix ls) else not (is_anchored ks) && nat_le (unmet ks) (unmet ls)) ≡ true → kept_names ls ≡ [] → (leads_within ks ls || holds_all ks ls) ≡ true
  held b e why h = grind arith

  pub root-true : is_anchored ls ≡ true → kept_names ls ≡ [] → (leads_within ks ls || holds_all ks ls) ≡ true
  root-true rooted = held true rooted (ap not (has_prefix-first ls ∙ ap is_some bare_base))

  pub parents-true : is_anchored ks ≡ false → is_anchored ls ≡ false → unmet ks ≤ unmet ls → kept_names ls ≡ [] → (leads_within ks ls || holds_all ks ls) ≡ true
  parents-true loose loose_base less = held false loose_base (ap₂ (λ b c. not b && c) loose (le-leb (unmet ks) (unmet ls) less))

-- names behind a head, and more
pub more-behind : (hs : List Kind) (names more : List (List ℕ)) → hs ++ map normal (names ++ more) ≡ (hs ++ map normal names) ++ map normal more
more-behind hs names more = ap (λ ks. hs ++ ks) (map-append normal names more) ∙ sym (append_assoc hs (map normal names) (map normal more))

-- Where paths lead behind a directory.

-- behind one head: a path with a root to what is kept of it, and another behind those of the directory's last names that its parents leave
pub record Leading (d : Dialect) (dir : List ℕ) : Type 0 where
  pub head : List Kind
  pub before : List (List ℕ)
  pub own : List (List ℕ)
  pub rooted : (t : List ℕ) → first_prefix (kinds_of d t) ≡ None → begins_with_root (kinds_of d t) ≡ true → place d (push d dir t) ≡ head ++ map normal (kept_names (kinds_of d t))
  pub relative : (t : List ℕ) → first_prefix (kinds_of d t) ≡ None → begins_with_root (kinds_of d t) ≡ false
      → place d (push d dir t) ≡ head ++ map normal (before ++ (take (length own - unmet (kinds_of d t)) own ++ kept_names (kinds_of d t)))

module _ (d : Dialect) (base t : List ℕ) where
  abbrev K : List Kind
  K = kinds_of d t

  abbrev L : List Kind
  L = kinds_of d base

  -- behind the same head
  headed-below : head_of K ≡ head_of L → (more : List (List ℕ)) → kept_names K ≡ kept_names L ++ more → IsBelow d base t
  headed-below same more begins = record {
    names = more;
    leads = place-kept d t ∙ ap₂ (λ hs names. hs ++ map normal names) same begins ∙ more-behind (head_of L) (kept_names L) more ∙ ap (λ ks. ks ++ map normal more) (sym (place-kept d base));
  }

  -- with a prefix
  alone-below : IsTold K L → has_prefix L ≡ true → IsBelow d base t
  alone-below h prefixed = by h.leads
    where
      by : Leads K L → IsBelow d base t
      by (to_names more same level begins) = headed-below (ap₂ headed h.prefixes same) more begins
      by (under_root rooted bare none) = absurd (both_ways _ bare prefixed)
      by (under_parents loose loose_base less none) = headed-below (ap₂ headed h.prefixes (loose ∙ sym loose_base)) (kept_names K) (ap (λ names. names ++ kept_names K) (sym none))

  -- behind a directory
  module _ (dir : List ℕ) (l : Leading d dir) where
    abbrev behind : List ℕ → List (List ℕ)
    behind v = l.before ++ (take (length l.own - unmet (kinds_of d v)) l.own ++ kept_names (kinds_of d v))

    from : (names others more : List (List ℕ)) → place d (push d dir t) ≡ l.head ++ map normal names → place d (push d dir base) ≡ l.head ++ map normal others → names ≡ others ++ more → IsBelow d (push d dir base) (push d dir t)
    from names others more leads leads_base begins = grind (arith, more-behind)

    -- as many parents left over: the names go on
    level-names : (n : ℕ) (names more : List (List ℕ)) → l.before ++ (take n l.own ++ (names ++ more)) ≡ (l.before ++ (take n l.own ++ names)) ++ more
    level-names n names more = ap (λ ns. l.before ++ ns) (sym (append_assoc (take n l.own) names more)) ∙ sym (append_assoc l.before (take n l.own ++ names) more)

    -- fewer: more names of the directory stand
    lower-names : (n m : ℕ) (names : List (List ℕ)) → n ≤ m → l.before ++ (take m l.own ++ names) ≡ (l.before ++ (take n l.own ++ [])) ++ (drop n (take m l.own) ++ names)
    lower-names n m names less =
        ap (λ ns. l.before ++ (ns ++ names)) (sym (take-append-drop n (take m l.own)) ∙ ap (λ ns. ns ++ drop n (take m l.own)) (take-take n m l.own less))
        ∙ ap (λ ns. l.before ++ ns) (append_assoc (take n l.own) (drop n (take m l.own)) names)
        ∙ sym (append_assoc l.before (take n l.own) (drop n (take m l.own) ++ names))
        ∙ ap (λ ns. (l.before ++ ns) ++ (drop n (take m l.own) ++ names)) (sym (append-nil (take n l.own)))

    -- without a prefix
    behind-below : IsTold (kinds_of d t) (kinds_of d base) → first_prefix (kinds_of d t) ≡ None → IsBelow d (push d dir base) (push d dir t)
    behind-below h bare = by h.leads
      where
        bare_base : first_prefix L ≡ None
        bare_base = sym h.prefixes ∙ bare

        begun : is_anchored L ≡ begins_with_root L
        begun = bare-anchored L bare_base

        by : Leads K L → IsBelow d (push d dir base) (push d dir t)
        by (to_names more same level begins) = rooted (begins_with_root L) refl
          where
            own : begins_with_root K ≡ begins_with_root L
            own = sym (bare-anchored K bare) ∙ same ∙ begun

            rooted : (b : Bool) → begins_with_root L ≡ b → IsBelow d (push d dir base) (push d dir t)
            rooted true e = from (kept_names K) (kept_names L) more (l.rooted t bare (own ∙ e)) (l.rooted base bare_base e) begins
            rooted false e = grind (arith, from, own, bare_base, begun, level-names)
        by (under_root anchored none_base none) = own (begins_with_root K) refl
          where
            leads_base : place d (push d dir base) ≡ l.head ++ map normal (kept_names L)
            leads_base = l.rooted base bare_base (sym begun ∙ anchored)

            all : (names : List (List ℕ)) → names ≡ kept_names L ++ names
            all names = ap (λ ns. ns ++ names) (sym none)

            own : (b : Bool) → begins_with_root K ≡ b → IsBelow d (push d dir base) (push d dir t)
            own true e = from (kept_names K) (kept_names L) (kept_names K) (l.rooted t bare e) leads_base (all (kept_names K))
            own false e = from (behind t) (kept_names L) (behind t) (l.relative t bare e) leads_base (all (behind t))
        by (under_parents loose loose_base less none) =
            let n = length l.own - unmet L in
            let m = length l.own - unmet K in
            from (behind t) (behind base) (drop n (take m l.own) ++ kept_names K)
            (l.relative t bare (sym (bare-anchored K bare) ∙ loose)) (l.relative base bare_base (sym begun ∙ loose_base))
            (lower-names n m (kept_names K) (omega (arith, less)) ∙ ap (λ ns. (l.before ++ (take n l.own ++ ns)) ++ (drop n (take m l.own) ++ kept_names K)) (sym none))

-- The law, where a path with a prefix takes the place of the directory.

abbrev pub Replaces : Dialect → List ℕ → Type 0
Replaces d dir = (v : List ℕ) → has_prefix (kinds_of d v) ≡ true → push d dir v ≡ v

pub prefixed-below : (d : Dialect) (dir base t : List ℕ) → Replaces d dir → has_prefix (kinds_of d t) ≡ true → is_within d t base ≡ true → IsBelow d (push d dir base) (push d dir t)
prefixed-below d dir base t replaces prefixed asked =
    let h = told (kinds_of d t) (kinds_of d base) asked in
    let other : has_prefix (kinds_of d base) ≡ true = has_prefix-first (kinds_of d base) ∙ ap is_some (sym h.prefixes) ∙ sym (has_prefix-first (kinds_of d t)) ∙ prefixed in
    let alone = alone-below d base t h other in
    record {
      names = alone.names;
      leads = ap (place d) (replaces t prefixed) ∙ alone.leads ∙ ap (λ v. place d v ++ map normal alone.names) (sym (replaces base other));
    }

pub within-below : (d : Dialect) (dir base t : List ℕ) → Leading d dir → Replaces d dir → is_within d t base ≡ true → IsBelow d (push d dir base) (push d dir t)
within-below d dir base t l replaces asked = by (first_prefix (kinds_of d t)) refl
  where
    by : (o : Option Prefix) → first_prefix (kinds_of d t) ≡ o → IsBelow d (push d dir base) (push d dir t)
    by None e = behind-below d base t dir l (told (kinds_of d t) (kinds_of d base) asked) e
    by (Some p) e = prefixed-below d dir base t replaces (has_prefix-first (kinds_of d t) ∙ ap is_some e) asked

-- A path that is not refused leads to names alone, so a checked join lies below its base.

-- a list of names alone
record AreNames (ks : List Kind) : Type 0 where
  names : List (List ℕ)
  are : ks ≡ map normal names

-- one component more, of a list that is not refused
resolved-more : (d : Dialect) (depth : ℕ) (k : Kind) (text : List ℕ) (ps : List Part) → fault_at d depth (k ∷ kinds ps) ≡ None
    → ((n : ℕ) → fault_at d n (kinds ps) ≡ None → AreNames (kinds (resolve ps))) → AreNames (kinds (resolve (record { kind = k; text = text } ∷ ps)))
resolved-more d depth (prefix p) text ps e rest = absurd (cc)
resolved-more d depth root text ps e rest = absurd (cc)
resolved-more d depth current text ps e rest = rest depth e
resolved-more d zero parent text ps e rest = absurd (cc)
resolved-more d (suc depth) parent text ps e rest = rest depth e
resolved-more d depth (normal name) text ps e rest = named (not (overdraws zero (kinds ps))) (rest (suc depth) (valid (is_valid_name d name) e))
  where
    valid : (b : Bool) → (if b then fault_at d (suc depth) (kinds ps) else Some InvalidFilename) ≡ None → fault_at d (suc depth) (kinds ps) ≡ None
    valid b h = grind arith

    named : (b : Bool) → AreNames (kinds (resolve ps)) → AreNames (kinds ((if b then record { kind = normal name; text = text } ∷ [] else []) ++ resolve ps))
    named true h = record { names = name ∷ h.names; are = ap (λ ks. normal name ∷ ks) h.are }
    named false h = h

-- a list that is not refused resolves to names
resolved-names : (d : Dialect) (depth : ℕ) (ps : List Part) → fault_at d depth (kinds ps) ≡ None → AreNames (kinds (resolve ps))
resolved-names d depth [] e = record { names = []; are = refl }
resolved-names d depth (p ∷ ps) e = resolved-more d depth p.kind p.text ps e (λ n h. resolved-names d n ps h)

-- a path that is not refused leads to names
accepted-names : (d : Dialect) (path : List ℕ) → fault d path ≡ None → AreNames (kinds (resolve (parts_of d path)))
accepted-names d path e = resolved-names d zero (parts_of d path) (sym (fault_behind-at d [] zero (kinds (parts_of d path)) refl) ∙ e)

-- a path that is not refused, where what it is joined to holds it, lies below that
pub accepted_below : (d : Dialect) (base path joined : List ℕ) → fault d path ≡ None → place d joined ≡ place d base ++ kinds (resolve (parts_of d path)) → IsBelow d base joined
accepted_below d base path joined accepted lies =
    let found = accepted-names d path accepted in
    record { names = found.names; leads = lies ∙ ap (λ ks. place d base ++ ks) found.are }

-- what has the promises of a checked join lies below its base, where that keeps its prefix
pub lies_below : (d : Dialect) (base path joined : List ℕ) → fault d path ≡ None → HasPrefixOf d base joined → LiesWithin d base path joined → keeps_prefix d base ≡ true → IsBelow d base joined
lies_below d base path joined accepted stays contained kept = accepted_below d base path joined accepted (contained (stays kept))
