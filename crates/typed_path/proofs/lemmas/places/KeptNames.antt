-- The names that are kept of a list: of names alone, of one with another behind it, and of one that is resolved; and the place of a path, read off them.
use Rattle.std.proofs.Common.{◌≡◌, ℕ, zero, suc, ◌+◌, ◌-◌, ◌==◌, ◌<◌, ◌≤◌, Bool, true, false, not, ◌||◌, List, [], ◌∷◌, ◌++◌, map, if◌then◌else◌, length, take, refl, sym, ap, ◌∙◌, arith, Option, Some, None, ap₂}
use Rattle.std.proofs.lemmas.Bool.{eqb-true, eqb-false, and_parts}
use Rattle.typed_path.specs.declared.scan.separators.Separators.{Separators}
use Rattle.typed_path.specs.declared.scan.separators.Separators.TheVariants.{Slash, Either}
use Rattle.typed_path.specs.components.{Dialect, unix, windows, Prefix, Kind, prefix, root, current, parent, normal, Part, kinds, parts_of, Found, prefix_of, prefix_part}
use Rattle.typed_path.specs.places.{overdraws, resolve, place, with_implied_root, unmet, kept_names, headed, head_of}
use Rattle.typed_path.specs.promises.{without_leading_current}
use Rattle.typed_path.specs.queries.{begins_with_root, is_disk}
use Rattle.typed_path.proofs.lemmas.components.Segments.{body_parts, body_parts-read, parts-body, AreRead}
use Rattle.typed_path.proofs.lemmas.changes.Faults.{place_of}
use Rattle.typed_path.proofs.lemmas.places.Resolving.{no_heads, is_head, written-headless}
use Rattle.typed_path.proofs.lemmas.components.PrefixCuts.{parts_of-none, parts_of-some}
use Rattle.typed_path.proofs.lemmas.lists.Lists.{take-nothing}

-- names alone take no parent up, and all are kept
pub unmet-names : (names : List (List ℕ)) → unmet (map normal names) ≡ 0
unmet-names [] = refl
unmet-names (name ∷ names) = ap (λ n. n - 1) (unmet-names names)

pub kept-names : (names : List (List ℕ)) → kept_names (map normal names) ≡ names
kept-names [] = grind arith
kept-names (name ∷ names) = grind (arith, unmet-names, kept-names names)

-- these are known by their kinds
pub names-same : (ns ms : List (List ℕ)) → map normal ns ≡ map normal ms → ns ≡ ms
names-same [] [] e = refl
names-same [] (m ∷ ms) e = cc
names-same (n ∷ ns) [] e = cc
names-same (n ∷ ns) (m ∷ ms) e =
    let first : n ≡ m = cc in
    let rest : map normal ns ≡ map normal ms = cc in
    ap₂ (λ x xs. x ∷ xs) first (names-same ns ms rest)

-- the parents that are left over of the second list take names of the first
pub unmet-append : (ks ls : List Kind) → unmet (ks ++ ls) ≡ unmet ks + (unmet ls - length (kept_names ks))
unmet-append [] ls = grind arith
unmet-append (prefix p ∷ ks) ls = grind (arith, unmet-append ks ls)
unmet-append (root ∷ ks) ls = grind (arith, unmet-append ks ls)
unmet-append (current ∷ ks) ls = grind (arith, unmet-append ks ls)
unmet-append (parent ∷ ks) ls = grind (arith, unmet-append ks ls)
unmet-append (normal name ∷ ks) ls = grind (arith, eqb-true, eqb-false, unmet-append ks ls)

take-none : (n : ℕ) (names : List (List ℕ)) → n ≡ 0 → take n names ≡ []
take-none n names e = ap (λ m. take m names) e

-- what is left of the first list but for these, and then of the second
pub kept_names-append : (ks ls : List Kind) → kept_names (ks ++ ls) ≡ take (length (kept_names ks) - unmet ls) (kept_names ks) ++ kept_names ls
kept_names-append [] ls = ap (λ names. names ++ kept_names ls) (sym (take-nothing (0 - unmet ls)))
kept_names-append (prefix p ∷ ks) ls = kept_names-append ks ls
kept_names-append (root ∷ ks) ls = kept_names-append ks ls
kept_names-append (current ∷ ks) ls = kept_names-append ks ls
kept_names-append (parent ∷ ks) ls = kept_names-append ks ls
kept_names-append (normal name ∷ ks) ls = by (unmet-append ks ls) (kept_names-append ks ls) (unmet ks == 0) refl (unmet (ks ++ ls) == 0) refl
  where
    by : unmet (ks ++ ls) ≡ unmet ks + (unmet ls - length (kept_names ks)) → kept_names (ks ++ ls) ≡ take (length (kept_names ks) - unmet ls) (kept_names ks) ++ kept_names ls
        → (b : Bool) → (unmet ks == 0) ≡ b → (c : Bool) → (unmet (ks ++ ls) == 0) ≡ c
        → (if c then name ∷ kept_names (ks ++ ls) else kept_names (ks ++ ls)) ≡ take (length (if b then name ∷ kept_names ks else kept_names ks) - unmet ls) (if b then name ∷ kept_names ks else kept_names ks) ++ kept_names ls
    by h rest b e c f = grind (arith, eqb-true, eqb-false, take-none)

-- a list whose parents find names overdraws nothing, and another does
overdraws-met : (n : ℕ) (ks : List Kind) → unmet ks ≤ n → overdraws n ks ≡ false
overdraws-met n [] e = refl
overdraws-met n (prefix p ∷ ks) e = overdraws-met n ks e
overdraws-met n (root ∷ ks) e = overdraws-met n ks e
overdraws-met n (current ∷ ks) e = overdraws-met n ks e
overdraws-met zero (parent ∷ ks) e = absurd (omega (arith, e))
overdraws-met (suc n) (parent ∷ ks) e = overdraws-met n ks (omega (arith, e))
overdraws-met n (normal name ∷ ks) e = overdraws-met (suc n) ks (omega (arith, e))

pub overdraws-unmet : (n : ℕ) (ks : List Kind) → n < unmet ks → overdraws n ks ≡ true
overdraws-unmet n [] e = absurd (omega (arith, e))
overdraws-unmet n (prefix p ∷ ks) e = overdraws-unmet n ks e
overdraws-unmet n (root ∷ ks) e = overdraws-unmet n ks e
overdraws-unmet n (current ∷ ks) e = overdraws-unmet n ks e
overdraws-unmet zero (parent ∷ ks) e = refl
overdraws-unmet (suc n) (parent ∷ ks) e = overdraws-unmet n ks (omega (arith, e))
overdraws-unmet n (normal name ∷ ks) e = overdraws-unmet (suc n) ks (omega (arith, e))

-- two lists that every list before them sees alike
pub record AlikeKept (ks ls : List Kind) : Type 0 where
  pub unmet : unmet ks ≡ unmet ls
  pub names : kept_names ks ≡ kept_names ls

-- a current directory at the front counts for nothing
pub without_leading_current-kept : (ps : List Part) → AlikeKept (kinds (without_leading_current ps)) (kinds ps)
without_leading_current-kept ps = grind arith

-- Where a list leads: its head, with the root that is implied, and the names that are kept.

-- a list without heads resolves to the names that are left of it
resolved-names : (ps : List Part) → no_heads (kinds ps) ≡ true → kinds (resolve ps) ≡ map normal (kept_names (kinds ps))
resolved-names [] none = refl
resolved-names (p ∷ ps) none = by p.kind p.text both.0 (resolved-names ps both.1)
  where
    both : (not (is_head p.kind) ≡ true) × (no_heads (kinds ps) ≡ true)
    both = and_parts (not (is_head p.kind)) (no_heads (kinds ps)) none

    met : (name text : List ℕ) → kinds (resolve ps) ≡ map normal (kept_names (kinds ps)) → (b : Bool) → (unmet (kinds ps) == 0) ≡ b
        → kinds ((if not (overdraws zero (kinds ps)) then record { kind = normal name; text = text } ∷ [] else []) ++ resolve ps) ≡ map normal (if b then name ∷ kept_names (kinds ps) else kept_names (kinds ps))
    met name text rest b f = grind (arith, overdraws-met, eqb-true, eqb-false, overdraws-unmet)

    by : (k : Kind) (text : List ℕ) → not (is_head k) ≡ true → kinds (resolve ps) ≡ map normal (kept_names (kinds ps))
        → kinds (resolve (record { kind = k; text = text } ∷ ps)) ≡ map normal (kept_names (k ∷ kinds ps))
    by k text e rest = grind (arith, met)

-- a list that has a root at its front at most, and no prefix; and one with a prefix before that
abbrev pub is_body : List Kind → Bool
is_body (root ∷ ks) = no_heads ks
is_body ks = no_heads ks

abbrev pub is_headed : List Kind → Bool
is_headed (prefix p ∷ ks) = is_body ks
is_headed ks = is_body ks

resolved-body : (ps : List Part) → is_body (kinds ps) ≡ true → kinds (resolve ps) ≡ headed None (begins_with_root (kinds ps)) ++ map normal (kept_names (kinds ps))
resolved-body [] e = refl
resolved-body (p ∷ ps) e = by p.kind p.text e
  where
    by : (k : Kind) (text : List ℕ) → is_body (k ∷ kinds ps) ≡ true
        → kinds (resolve (record { kind = k; text = text } ∷ ps)) ≡ headed None (begins_with_root (k ∷ kinds ps)) ++ map normal (kept_names (k ∷ kinds ps))
    by (prefix q) text e = cc
    by root text e = ap (λ ks. root ∷ ks) (resolved-names ps e)
    by current text e = resolved-names (record { kind = current; text = text } ∷ ps) e
    by parent text e = resolved-names (record { kind = parent; text = text } ∷ ps) e
    by (normal name) text e = resolved-names (record { kind = normal name; text = text } ∷ ps) e

-- behind a prefix that is no drive stands a root, written or implied
place_of-prefixed : (p : Prefix) (raw : List ℕ) (ps : List Part) → is_body (kinds ps) ≡ true → place_of (prefix_part p raw ∷ ps) ≡ head_of (prefix p ∷ kinds ps) ++ map normal (kept_names (kinds ps))
place_of-prefixed p raw ps e =
    ap (λ ks. with_implied_root (prefix p ∷ ks)) (resolved-body ps e) ∙ by (is_disk p) (begins_with_root (kinds ps)) (kept_names (kinds ps))
  where
    by : (drives rooted : Bool) (names : List (List ℕ))
        → (if drives then prefix p ∷ (headed None rooted ++ map normal names)
        else (if begins_with_root (headed None rooted ++ map normal names) then prefix p ∷ (headed None rooted ++ map normal names) else prefix p ∷ root ∷ (headed None rooted ++ map normal names)))
        ≡ headed (Some p) (not drives || rooted) ++ map normal names
    by true true names = refl
    by true false names = refl
    by false true names = refl
    by false false [] = refl
    by false false (name ∷ names) = refl

-- no root is implied without a prefix
place_of-bare : (ps : List Part) → is_body (kinds ps) ≡ true → place_of ps ≡ headed None (begins_with_root (kinds ps)) ++ map normal (kept_names (kinds ps))
place_of-bare ps e = ap with_implied_root (resolved-body ps e) ∙ by (begins_with_root (kinds ps)) (kept_names (kinds ps))
  where
    by : (rooted : Bool) (names : List (List ℕ)) → with_implied_root (headed None rooted ++ map normal names) ≡ headed None rooted ++ map normal names
    by true names = refl
    by false [] = refl
    by false (name ∷ names) = refl

pub place_of-kept : (ps : List Part) → is_headed (kinds ps) ≡ true → place_of ps ≡ head_of (kinds ps) ++ map normal (kept_names (kinds ps))
place_of-kept [] e = refl
place_of-kept (p ∷ ps) e = by p.kind p.text e
  where
    by : (k : Kind) (text : List ℕ) → is_headed (k ∷ kinds ps) ≡ true → place_of (record { kind = k; text = text } ∷ ps) ≡ head_of (k ∷ kinds ps) ++ map normal (kept_names (k ∷ kinds ps))
    by (prefix q) text e = place_of-prefixed q text ps e
    by root text e = place_of-bare (record { kind = root; text = text } ∷ ps) e
    by current text e = place_of-bare (record { kind = current; text = text } ∷ ps) e
    by parent text e = place_of-bare (record { kind = parent; text = text } ∷ ps) e
    by (normal name) text e = place_of-bare (record { kind = normal name; text = text } ∷ ps) e

-- so it is of each list as it is read
pub read-body : (s : Separators) (ps : List Part) → AreRead s ps → is_body (kinds ps) ≡ true
read-body s ps read = grind (arith, no_heads, written-headless)

bare-headed : (ks : List Kind) → is_body ks ≡ true → is_headed ks ≡ true
bare-headed ks e = grind arith

read-headed : (s : Separators) (text : List ℕ) → is_headed (kinds (body_parts s text)) ≡ true
read-headed s text = bare-headed (kinds (body_parts s text)) (read-body s (body_parts s text) (body_parts-read s text))

parts_of-headed : (d : Dialect) (t : List ℕ) → is_headed (kinds (parts_of d t)) ≡ true
parts_of-headed unix t = ap (λ ps. is_headed (kinds ps)) (parts-body Slash 0 t) ∙ read-headed Slash t
parts_of-headed windows t = by (prefix_of windows t) refl
  where
    by : (o : Option Found) → prefix_of windows t ≡ o → is_headed (kinds (parts_of windows t)) ≡ true
    by None e = ap (λ ps. is_headed (kinds ps)) (parts_of-none t e) ∙ read-headed Either t
    by (Some f) e = grind (arith, parts_of-some, read-body, body_parts, body_parts-read)

-- the place of a path
pub place-kept : (d : Dialect) (t : List ℕ) → place d t ≡ head_of (kinds (parts_of d t)) ++ map normal (kept_names (kinds (parts_of d t)))
place-kept d t = place_of-kept (parts_of d t) (parts_of-headed d t)
