-- What a list resolves to: names that it comes down to, lists put behind one another, and a root put in.
use Rattle.std.proofs.Common.{◌≡◌, ℕ, zero, suc, List, [], ◌∷◌, ◌++◌, Bool, true, false, not, ◌&&◌, cond, map, append_assoc, append-nil, refl, ap, sym, ◌∙◌, if◌then◌else◌, arith, true≢false}
use Rattle.std.proofs.lemmas.List.{map-append}
use Rattle.std.specs.List.{list_all, AllByRecursion}
use Rattle.std.proofs.lemmas.Bool.{and_parts, cond_both, not-true}
use Rattle.typed_path.specs.declared.scan.separators.Separators.{Separators}
use Rattle.typed_path.specs.components.{Dialect, backslash, Kind, prefix, root, current, parent, normal, Part, kinds, texts, name_part, Prefix, verbatim_disk, root_part, prefix_part}
use Rattle.typed_path.specs.changes.{push, push_all}
use Rattle.typed_path.specs.places.{overdraws, stays, resolve, with_implied_root}
use Rattle.typed_path.specs.promises.{with_drive_root, without_leading_current}
use Rattle.typed_path.proofs.lemmas.lists.Lists.{AllByRecursion-append}
use Rattle.typed_path.specs.queries.{begins_with_root}
use Rattle.typed_path.proofs.lemmas.components.Segments.{IsLater, IsLaterPart, IsWritten, AreRead, AreRead-later, first_parts, later_parts}

-- Names that a list comes down to, one component at a time.

-- two lists that every list before them sees alike
pub record Alike (ps qs : List Part) : Type 0 where
  pub draws : (names : ℕ) → overdraws names (kinds ps) ≡ overdraws names (kinds qs)
  pub resolves : resolve ps ≡ resolve qs

overdraws-cons : (k : Kind) (ks ls : List Kind) → ((names : ℕ) → overdraws names ks ≡ overdraws names ls) → (names : ℕ) → overdraws names (k ∷ ks) ≡ overdraws names (k ∷ ls)
overdraws-cons (prefix p) ks ls h zero = h zero
overdraws-cons (prefix p) ks ls h (suc names) = h (suc names)
overdraws-cons root ks ls h zero = h zero
overdraws-cons root ks ls h (suc names) = h (suc names)
overdraws-cons current ks ls h zero = h zero
overdraws-cons current ks ls h (suc names) = h (suc names)
overdraws-cons parent ks ls h zero = refl
overdraws-cons parent ks ls h (suc names) = h names
overdraws-cons (normal name) ks ls h zero = h (suc zero)
overdraws-cons (normal name) ks ls h (suc names) = h (suc (suc names))

stays-alike : (k : Kind) (ks ls : List Kind) → ((names : ℕ) → overdraws names ks ≡ overdraws names ls) → stays k ks ≡ stays k ls
stays-alike (prefix p) ks ls h = refl
stays-alike root ks ls h = refl
stays-alike current ks ls h = refl
stays-alike parent ks ls h = refl
stays-alike (normal name) ks ls h = ap not (h zero)

Alike-cons : (p : Part) (ps qs : List Part) → Alike ps qs → Alike (p ∷ ps) (p ∷ qs)
Alike-cons p ps qs h = record {
  draws = overdraws-cons p.kind (kinds ps) (kinds qs) h.draws;
  resolves =
      ap (λ b. cond b (p ∷ []) [] ++ resolve ps) (stays-alike p.kind (kinds ps) (kinds qs) h.draws)
      ∙ ap (λ rs. cond (stays p.kind (kinds qs)) (p ∷ []) [] ++ rs) h.resolves;
}

pub Alike-append : (rs ps qs : List Part) → Alike ps qs → Alike (rs ++ ps) (rs ++ qs)
Alike-append [] ps qs h = h
Alike-append (r ∷ rs) ps qs h = Alike-cons r (rs ++ ps) (rs ++ qs) (Alike-append rs ps qs h)

-- a current directory is nothing
pub current-alike : (text : List ℕ) (ps : List Part) → Alike (record { kind = current; text = text } ∷ ps) ps
current-alike text ps = record { draws = λ names. refl; resolves = refl }

-- nor is a name with a parent behind it
pub cancelled-alike : (name text : List ℕ) (ps : List Part) → Alike (name_part name ∷ record { kind = parent; text = text } ∷ ps) ps
cancelled-alike name text ps = record { draws = λ names. refl; resolves = refl }

-- prefixes and roots
abbrev pub is_head : Kind → Bool
is_head (prefix p) = true
is_head root = true
is_head k = false

abbrev pub no_heads : List Kind → Bool
no_heads ks = list_all (λ k. not (is_head k)) ks

-- behind a component of another kind stands no prefix and no root
abbrev pub heads_first : List Kind → Bool
heads_first [] = true
heads_first (k ∷ ks) = cond (is_head k) (heads_first ks) (no_heads ks)

pub no_heads-first : (ks : List Kind) → no_heads ks ≡ true → heads_first ks ≡ true
no_heads-first [] h = refl
no_heads-first (k ∷ ks) h = by_head (is_head k) h
  where
    by_head : (b : Bool) → not b && no_heads ks ≡ true → cond b (heads_first ks) (no_heads ks) ≡ true
    by_head true e = cc
    by_head false e = e

no_heads-without : (ks : List Kind) (k : Kind) (ls : List Kind) → no_heads (ks ++ k ∷ ls) ≡ true → no_heads (ks ++ ls) ≡ true
no_heads-without [] k ls h = (and_parts _ _ h).1
no_heads-without (l ∷ ks) k ls h =
    let head = (and_parts (not (is_head l)) _ h).0 in
    let rest = no_heads-without ks k ls (and_parts (not (is_head l)) _ h).1 in
    ap (λ b. b && no_heads (ks ++ ls)) head ∙ rest

no_heads-at : (ks : List Kind) (k : Kind) (ls : List Kind) → no_heads (ks ++ k ∷ ls) ≡ true → is_head k ≡ false
no_heads-at [] k ls h = not-true (is_head k) (and_parts _ _ h).0
no_heads-at (l ∷ ks) k ls h = no_heads-at ks k ls (and_parts (not (is_head l)) _ h).1

heads_first-without : (ks : List Kind) (k : Kind) (ls : List Kind) → heads_first (ks ++ k ∷ ls) ≡ true → heads_first (ks ++ ls) ≡ true
heads_first-without [] k ls h = by_head (is_head k) h
  where
    by_head : (b : Bool) → cond b (heads_first ls) (no_heads ls) ≡ true → heads_first ls ≡ true
    by_head true e = e
    by_head false e = no_heads-first ls e
heads_first-without (l ∷ ks) k ls h = by_head (is_head l) h (heads_first-without ks k ls) (no_heads-without ks k ls)
  where
    by_head : (b : Bool) → cond b (heads_first (ks ++ k ∷ ls)) (no_heads (ks ++ k ∷ ls)) ≡ true
        → (heads_first (ks ++ k ∷ ls) ≡ true → heads_first (ks ++ ls) ≡ true) → (no_heads (ks ++ k ∷ ls) ≡ true → no_heads (ks ++ ls) ≡ true)
        → cond b (heads_first (ks ++ ls)) (no_heads (ks ++ ls)) ≡ true
    by_head true e f g = f e
    by_head false e f g = g e

-- a list of names that begins with names and goes on with other components
abbrev pub named_then : List (List ℕ) → List Part → List Part
named_then names ps = map name_part names ++ ps

-- what the text becomes where names were taken and the list goes on
pub record Comes (d : Dialect) (goal text : List ℕ) (names : List (List ℕ)) (ps : List Part) : Type 0 where
  pub written : goal ≡ push_all d text (texts (resolve (named_then names ps)))
  pub heads : heads_first (kinds (named_then names ps)) ≡ true

kinds-append : (ps qs : List Part) → kinds (ps ++ qs) ≡ kinds ps ++ kinds qs
kinds-append ps qs = map-append (λ p. p.kind) ps qs

stays-head : (k : Kind) (ks : List Kind) → is_head k ≡ true → stays k ks ≡ true
stays-head (prefix p) ks h = refl
stays-head root ks h = refl
stays-head current ks h = cc
stays-head parent ks h = cc
stays-head (normal name) ks h = cc

-- one component dropped
heads_first-drop : (ps : List Part) (p : Part) (qs : List Part) → heads_first (kinds (ps ++ p ∷ qs)) ≡ true → heads_first (kinds (ps ++ qs)) ≡ true
heads_first-drop ps p qs h =
    ap heads_first (kinds-append ps qs) ∙ heads_first-without (kinds ps) p.kind (kinds qs) (ap heads_first (sym (kinds-append ps (p ∷ qs))) ∙ h)

push_names : (names : List (List ℕ)) (name : List ℕ) (ps : List Part) → named_then (names ++ name ∷ []) ps ≡ named_then names (name_part name ∷ ps)
push_names names name ps = ap (λ ns. ns ++ ps) (map-append name_part names (name ∷ [])) ∙ append_assoc (map name_part names) (name_part name ∷ []) ps

module _ {d : Dialect} {goal text : List ℕ} where
  pub comes-current : {names : List (List ℕ)} {word : List ℕ} {ps : List Part} → Comes d goal text names (record { kind = current; text = word } ∷ ps) → Comes d goal text names ps
  comes-current {names} {word} {ps} h = record {
    written = h.written ∙ ap (λ rs. push_all d text (texts rs)) (Alike-append (map name_part names) _ ps (current-alike word ps)).resolves;
    heads = heads_first-drop (map name_part names) (record { kind = current; text = word }) ps h.heads;
  }

  pub comes-parent_alone : {word : List ℕ} {ps : List Part} → Comes d goal text [] (record { kind = parent; text = word } ∷ ps) → Comes d goal text [] ps
  comes-parent_alone {word} {ps} h = record { written = h.written; heads = heads_first-drop [] (record { kind = parent; text = word }) ps h.heads }

  pub comes-name : {names : List (List ℕ)} {name : List ℕ} {ps : List Part} → Comes d goal text names (name_part name ∷ ps) → Comes d goal text (names ++ name ∷ []) ps
  comes-name {names} {name} {ps} h = record {
    written = h.written ∙ ap (λ rs. push_all d text (texts (resolve rs))) (sym (push_names names name ps));
    heads = ap (λ rs. heads_first (kinds rs)) (push_names names name ps) ∙ h.heads;
  }

  pub comes-parent : {names : List (List ℕ)} (name : List ℕ) {word : List ℕ} {ps : List Part}
      → Comes d goal text (names ++ name ∷ []) (record { kind = parent; text = word } ∷ ps) → Comes d goal text names ps
  comes-parent {names} name {word} {ps} h =
      let shift = push_names names name (record { kind = parent; text = word } ∷ ps) in record {
        written = h.written ∙ ap (λ rs. push_all d text (texts (resolve rs))) shift
            ∙ ap (λ rs. push_all d text (texts rs)) (Alike-append (map name_part names) _ ps (cancelled-alike name word ps)).resolves;
        heads = heads_first-drop (map name_part names) (record { kind = parent; text = word }) ps
            (heads_first-drop (map name_part names) (name_part name) _ (ap (λ rs. heads_first (kinds rs)) (sym shift) ∙ h.heads));
      }

  pub comes-head : {names : List (List ℕ)} {p : Part} {ps : List Part} → is_head p.kind ≡ true → Comes d goal text names (p ∷ ps) → Comes d goal (push d text p.text) names ps
  comes-head {names = []} {p} {ps} head h = record {
    written = h.written ∙ ap (λ b. push_all d text (texts (cond b (p ∷ []) [] ++ resolve ps))) (stays-head p.kind (kinds ps) head);
    heads = heads_first-drop [] p ps h.heads;
  }
  comes-head {names = name ∷ names} {p} {ps} head h =
      absurd (true≢false (sym head ∙ no_heads-at (kinds (map name_part names)) p.kind (kinds ps) (ap no_heads (sym (kinds-append (map name_part names) (p ∷ ps))) ∙ h.heads)))

-- names alone stay
overdraws-names : (names : List (List ℕ)) (n : ℕ) → overdraws n (kinds (map name_part names)) ≡ false
overdraws-names [] n = refl
overdraws-names (name ∷ names) n = overdraws-names names (suc n)

resolve-names : (names : List (List ℕ)) → resolve (map name_part names) ≡ map name_part names
resolve-names [] = refl
resolve-names (name ∷ names) =
    ap (λ b. cond (not b) (name_part name ∷ []) [] ++ resolve (map name_part names)) (overdraws-names names zero) ∙ ap (λ ps. name_part name ∷ ps) (resolve-names names)

pub texts-names : (names : List (List ℕ)) → texts (map name_part names) ≡ names
texts-names [] = refl
texts-names (name ∷ names) = ap (λ ns. name ∷ ns) (texts-names names)

-- at the end the names are pushed
pub comes-end : {d : Dialect} {goal text : List ℕ} {names : List (List ℕ)} → Comes d goal text names [] → goal ≡ push_all d text names
comes-end {d} {goal} {text} {names} h =
    h.written ∙ ap (λ ps. push_all d text (texts (resolve ps))) (append-nil (map name_part names))
    ∙ ap (λ ps. push_all d text (texts ps)) (resolve-names names) ∙ ap (push_all d text) (texts-names names)

-- What the list of a path resolves to: prefixes, roots and names, which a second pass leaves alone.

-- a prefix, a root or a name: what stays where nothing follows
abbrev pub IsKept : Part → Type 0
IsKept p = stays p.kind [] ≡ true

-- what holds of each component holds of each that a list resolves to
pub resolve-each : (P : Part → Type 0) (ps : List Part) → AllByRecursion P ps → AllByRecursion P (resolve ps)
resolve-each P [] each = tt
resolve-each P (p ∷ ps) each =
    AllByRecursion-append P _ (resolve ps)
    (cond_both (stays p.kind (kinds ps)) (p ∷ []) [] (AllByRecursion P) (λ kept. (each.0, tt)) (λ dropped. tt))
    (resolve-each P ps each.1)

-- what stays before a list stays before nothing
IsKept-stays : (k : Kind) (ks : List Kind) → stays k ks ≡ true → stays k [] ≡ true
IsKept-stays current ks kept = kept
IsKept-stays parent ks kept = kept
IsKept-stays k ks kept = refl

-- a list resolves to prefixes, roots and names
pub resolve-kept : (ps : List Part) → AllByRecursion IsKept (resolve ps)
resolve-kept [] = tt
resolve-kept (p ∷ ps) =
    AllByRecursion-append IsKept _ (resolve ps)
    (cond_both (stays p.kind (kinds ps)) (p ∷ []) [] (AllByRecursion IsKept) (λ kept. (IsKept-stays p.kind (kinds ps) kept, tt)) (λ dropped. tt))
    (resolve-kept ps)

-- a list of prefixes, roots and names holds no parent that overdraws
pub overdraws-kept : (names : ℕ) (ps : List Part) → AllByRecursion IsKept ps → overdraws names (kinds ps) ≡ false
overdraws-kept names [] each = refl
overdraws-kept names (p ∷ ps) each = by p.kind each.0 (λ n. overdraws-kept n ps each.1)
  where
    by : (k : Kind) → stays k [] ≡ true → ((n : ℕ) → overdraws n (kinds ps) ≡ false) → overdraws names (k ∷ kinds ps) ≡ false
    by (prefix q) kept more = more names
    by root kept more = more names
    by (normal name) kept more = more (suc names)
    by k kept more = cc

-- a list of prefixes, roots and names resolves to itself
pub resolve-same : (ps : List Part) → AllByRecursion IsKept ps → resolve ps ≡ ps
resolve-same [] each = refl
resolve-same (p ∷ ps) each = rw (by p.kind each.0) (ap (λ qs. p ∷ qs) (resolve-same ps each.1))
  where
    by : (k : Kind) → stays k [] ≡ true → stays k (kinds ps) ≡ true
    by (normal name) kept = ap not (overdraws-kept 0 ps each.1)
    by current kept = kept
    by parent kept = kept
    by k kept = refl

-- a second pass changes nothing
pub resolve-resolve : (ps : List Part) → resolve (resolve ps) ≡ resolve ps
resolve-resolve ps = resolve-same (resolve ps) (resolve-kept ps)

-- later components are no prefixes and no roots
pub written-headless : (s : Separators) (ps : List Part) → AllByRecursion (IsLaterPart s) ps → no_heads (kinds ps) ≡ true
written-headless s [] later = refl
written-headless s (p ∷ ps) later = ap (λ b. b && no_heads (kinds ps)) (by p.kind p.text later.0) ∙ written-headless s ps later.1
  where
    by : (k : Kind) (text : List ℕ) → IsLater s k text → not (is_head k) ≡ true
    by (prefix q) text later = absurd later
    by root text later = absurd later
    by k text later = refl

-- nor are those of a list as it is read that does not begin with a root
pub read-headless : (s : Separators) (ps : List Part) → AreRead s ps → begins_with_root (kinds ps) ≡ false → no_heads (kinds ps) ≡ true
read-headless s [] read relative = refl
read-headless s (p ∷ ps) read relative = ap (λ b. b && no_heads (kinds ps)) (by p.kind p.text read.0 relative) ∙ written-headless s ps read.1
  where
    by : (k : Kind) (text : List ℕ) → IsWritten s k text → begins_with_root (k ∷ kinds ps) ≡ false → not (is_head k) ≡ true
    by (prefix q) text written relative = absurd written
    by root text written relative = cc
    by k text written relative = refl

-- a list as it is read resolves to such a list
pub resolve-read : (s : Separators) (ps : List Part) → AreRead s ps → AreRead s (resolve ps)
resolve-read s [] read = tt
resolve-read s (p ∷ ps) read =
    let later : AllByRecursion (IsLaterPart s) (resolve ps) = resolve-each (IsLaterPart s) ps read.1 in
    cond_both (stays p.kind (kinds ps)) (p ∷ []) [] (λ qs. AreRead s (qs ++ resolve ps)) (λ kept. (read.0, later)) (λ dropped. AreRead-later s (resolve ps) later)

-- A list with a root put in where a name stands right behind a verbatim drive: it stays and leads where the list does.

-- what is made of two components and more
module _ (ps : List Part) where
  -- it is the list, or that with a root put in
  pub data Rooting : Part → Part → List Part → Type 0 where
    same : (p q : Part) → Rooting p q (p ∷ q ∷ ps)
    put_in : (letter : ℕ) (raw name text : List ℕ) →
        Rooting (prefix_part (verbatim_disk letter) raw) (record { kind = normal name; text = text }) (prefix_part (verbatim_disk letter) raw ∷ root_part (backslash ∷ []) ∷ record { kind = normal name; text = text } ∷ ps)

  -- each list is one of these
  rooting : (p q : Part) → Rooting p q (with_drive_root (p ∷ q ∷ ps))
  rooting p q = by p.kind p.text q.kind q.text
    where
      behind : (f : Prefix) (raw : List ℕ) (l : Kind) (text : List ℕ)
          → Rooting (prefix_part f raw) (record { kind = l; text = text }) (with_drive_root (prefix_part f raw ∷ record { kind = l; text = text } ∷ ps))
      behind (verbatim_disk letter) raw (normal name) text = put_in letter raw name text
      behind (verbatim_disk letter) raw l text = same _ _
      behind f raw l text = same _ _

      by : (k : Kind) (raw : List ℕ) (l : Kind) (text : List ℕ)
          → Rooting (record { kind = k; text = raw }) (record { kind = l; text = text }) (with_drive_root (record { kind = k; text = raw } ∷ record { kind = l; text = text } ∷ ps))
      by (prefix f) raw l text = behind f raw l text
      by k raw l text = same _ _

-- such a list stays where the list does
pub with_drive_root-kept : (ps : List Part) → AllByRecursion IsKept ps → AllByRecursion IsKept (with_drive_root ps)
with_drive_root-kept [] kept = tt
with_drive_root-kept (p ∷ []) kept = kept
with_drive_root-kept (p ∷ q ∷ ps) kept = by p q (with_drive_root (p ∷ q ∷ ps)) (rooting ps p q) kept
  where
    by : (p q : Part) (rs : List Part) → Rooting ps p q rs → AllByRecursion IsKept (p ∷ q ∷ ps) → AllByRecursion IsKept rs
    by _ _ _ (same p q) kept = kept
    by _ _ _ (put_in letter raw name text) kept = (refl, (refl, kept.1))

-- and leads where the list does
pub with_drive_root-place : (ps : List Part) → with_implied_root (kinds (with_drive_root ps)) ≡ with_implied_root (kinds ps)
with_drive_root-place [] = refl
with_drive_root-place (p ∷ []) = refl
with_drive_root-place (p ∷ q ∷ ps) = by p q (with_drive_root (p ∷ q ∷ ps)) (rooting ps p q)
  where
    by : (p q : Part) (rs : List Part) → Rooting ps p q rs → with_implied_root (kinds rs) ≡ with_implied_root (kinds (p ∷ q ∷ ps))
    by _ _ _ (same p q) = refl
    by _ _ _ (put_in letter raw name text) = refl

-- a list with a root behind its prefix is left alone
pub with_drive_root-rooted : (p : Prefix) (raw text : List ℕ) (ps : List Part) → with_drive_root (prefix_part p raw ∷ root_part text ∷ ps) ≡ prefix_part p raw ∷ root_part text ∷ ps
with_drive_root-rooted (verbatim_disk letter) raw text ps = refl
with_drive_root-rooted p raw text ps = refl

-- Lists put behind one another resolve one by one, where the second takes nothing away from the first.

-- with one more name before it a list overdraws no sooner
overdraws-suc : (names : ℕ) (ks : List Kind) → overdraws names ks ≡ false → overdraws (suc names) ks ≡ false
overdraws-suc names [] e = refl
overdraws-suc names (prefix p ∷ ks) e = overdraws-suc names ks e
overdraws-suc names (root ∷ ks) e = overdraws-suc names ks e
overdraws-suc names (current ∷ ks) e = overdraws-suc names ks e
overdraws-suc zero (parent ∷ ks) e = cc
overdraws-suc (suc names) (parent ∷ ks) e = overdraws-suc names ks e
overdraws-suc names (normal name ∷ ks) e = overdraws-suc (suc names) ks e

-- nor with any number of names
overdraws-any : (ks : List Kind) → overdraws zero ks ≡ false → (names : ℕ) → overdraws names ks ≡ false
overdraws-any ks e zero = e
overdraws-any ks e (suc names) = overdraws-suc names ks (overdraws-any ks e names)

-- what follows a list and takes nothing away from it does not count
overdraws-append : (names : ℕ) (ks ls : List Kind) → ((n : ℕ) → overdraws n ls ≡ false) → overdraws names (ks ++ ls) ≡ overdraws names ks
overdraws-append names [] ls none = none names
overdraws-append names (prefix p ∷ ks) ls none = overdraws-append names ks ls none
overdraws-append names (root ∷ ks) ls none = overdraws-append names ks ls none
overdraws-append names (current ∷ ks) ls none = overdraws-append names ks ls none
overdraws-append zero (parent ∷ ks) ls none = refl
overdraws-append (suc names) (parent ∷ ks) ls none = overdraws-append names ks ls none
overdraws-append names (normal name ∷ ks) ls none = overdraws-append (suc names) ks ls none

stays-append : (k : Kind) (ks ls : List Kind) → ((n : ℕ) → overdraws n ls ≡ false) → stays k (ks ++ ls) ≡ stays k ks
stays-append (prefix p) ks ls none = refl
stays-append root ks ls none = refl
stays-append current ks ls none = refl
stays-append parent ks ls none = refl
stays-append (normal name) ks ls none = ap not (overdraws-append zero ks ls none)

-- two lists resolve to what each of them resolves to
pub resolve-append : (ps qs : List Part) → overdraws zero (kinds qs) ≡ false → resolve (ps ++ qs) ≡ resolve ps ++ resolve qs
resolve-append [] qs closed = refl
resolve-append (p ∷ ps) qs closed =
    ap (λ b. (if b then p ∷ [] else []) ++ resolve (ps ++ qs)) (ap (stays p.kind) (map-append (λ r. r.kind) ps qs) ∙ stays-append p.kind (kinds ps) (kinds qs) (overdraws-any (kinds qs) closed))
    ∙ ap (λ rs. (if stays p.kind (kinds ps) then p ∷ [] else []) ++ rs) (resolve-append ps qs closed)
    ∙ sym (append_assoc (if stays p.kind (kinds ps) then p ∷ [] else []) (resolve ps) (resolve qs))

-- a current directory at the front counts for nothing
pub overdraws-without_leading_current : (names : ℕ) (ps : List Part) → overdraws names (kinds (without_leading_current ps)) ≡ overdraws names (kinds ps)
overdraws-without_leading_current names [] = refl
overdraws-without_leading_current names (p ∷ ps) = by p.kind p.text
  where
    by : (k : Kind) (text : List ℕ) → overdraws names (kinds (without_leading_current (record { kind = k; text = text } ∷ ps))) ≡ overdraws names (k ∷ kinds ps)
    by current text = refl
    by (prefix q) text = refl
    by root text = refl
    by parent text = refl
    by (normal name) text = refl

pub resolve-without_leading_current : (ps : List Part) → resolve (without_leading_current ps) ≡ resolve ps
resolve-without_leading_current [] = refl
resolve-without_leading_current (p ∷ ps) = by p.kind p.text
  where
    by : (k : Kind) (text : List ℕ) → resolve (without_leading_current (record { kind = k; text = text } ∷ ps)) ≡ resolve (record { kind = k; text = text } ∷ ps)
    by current text = refl
    by (prefix q) text = refl
    by root text = refl
    by parent text = refl
    by (normal name) text = refl

-- pieces that do not begin with a root resolve alike at the beginning and later
pub first_parts-alike : (s : Separators) (some : List (List ℕ)) → begins_with_root (kinds (first_parts s some)) ≡ false → Alike (first_parts s some) (later_parts s some)
first_parts-alike s some relative = grind arith
