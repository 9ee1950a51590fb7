-- The clean text of a text in UTF-8 is one.
-- The path that leads from a base to a text is a text.
use Rattle.std.proofs.Common.{◌≡◌, ℕ, zero, suc, ◌<◌, ◌==◌, ◌||◌, ◌&&◌, not, Bool, true, false, List, [], ◌∷◌, ◌++◌, if◌then◌else◌, length, arith, drop, subst, Some, None}
use Rattle.std.proofs.lemmas.Grind.{common_steps}
use Rattle.std.specs.Prelude.{is_some}
use Rattle.std.specs.List.{AllByRecursion, join_with_byte}
use Rattle.std.specs.Str.{IsUtf8, is_utf8}
use Rattle.std.proofs.lemmas.Bool.{cond_both, and_parts}
use Rattle.std.proofs.lemmas.Str.{IsUtf8-nil, IsUtf8-append, IsUtf8-from_is_utf8, is_utf8-from_IsUtf8}
use Rattle.typed_path.specs.components.{Dialect, unix, windows, dot, Kind, prefix, root, current, parent, normal, Part, kinds, prefix_of, parts_of}
use Rattle.typed_path.specs.queries.{begins_with_root, is_disk}
use Rattle.typed_path.specs.texts.{is_text_kind, is_text_part, are_text_parts}
use Rattle.typed_path.specs.places.{unmet, kept_names, is_anchored, behind_head, clean_by, clean_text, dots, kept_segments, own_separator, unheaded, is_reached, names_down, relative_text, steps_text, steps_up}
use Rattle.typed_path.proofs.lemmas.lists.Lists.{AllByRecursion-append}
use Rattle.typed_path.proofs.lemmas.texts.TextCuts.{byte-utf8}
use Rattle.typed_path.proofs.lemmas.texts.TextsLeft.{parts_of-text}
use Rattle.typed_path.proofs.lemmas.texts.TextChanges.{IsWritten, parts_of-written}
use Rattle.std.proofs.lemmas.Option.{same_Some}

-- the names that are kept
pub names-utf8 : (ps : List Part) → are_text_parts ps ≡ true → AllByRecursion IsUtf8 (kept_names (kinds ps))
names-utf8 [] each = tt
names-utf8 (p ∷ ps) each =
    let both = and_parts (is_text_part p) (are_text_parts ps) each in
    by p.kind (and_parts (is_utf8 p.text) _ both.0).1 (names-utf8 ps both.1)
  where
    by : (k : Kind) → is_text_kind k ≡ true → AllByRecursion IsUtf8 (kept_names (kinds ps)) → AllByRecursion IsUtf8 (kept_names (k ∷ kinds ps))
    by (prefix q) own rest = rest
    by root own rest = rest
    by current own rest = rest
    by parent own rest = rest
    by (normal name) own rest =
        cond_both (unmet (kinds ps) == 0) (name ∷ kept_names (kinds ps)) (kept_names (kinds ps)) (AllByRecursion IsUtf8) (λ kept. (IsUtf8-from_is_utf8 name own, rest)) (λ taken. rest)

pub dots-utf8 : (n : ℕ) → AllByRecursion IsUtf8 (dots n)
dots-utf8 zero = tt
dots-utf8 (suc n) = (IsUtf8-append (dot ∷ []) (dot ∷ []) (byte-utf8 dot (omega arith)) (byte-utf8 dot (omega arith)), dots-utf8 n)

pub joined-utf8 : (sep : ℕ) (segments : List (List ℕ)) → sep < 128 → AllByRecursion IsUtf8 segments → IsUtf8 (join_with_byte sep segments)
joined-utf8 sep [] low each = IsUtf8-nil
joined-utf8 sep (s ∷ []) low each = each.0
joined-utf8 sep (s ∷ next ∷ segments) low each =
    IsUtf8-append s (sep ∷ join_with_byte sep (next ∷ segments)) each.0
    (IsUtf8-append (sep ∷ []) (join_with_byte sep (next ∷ segments)) (byte-utf8 sep low) (joined-utf8 sep (next ∷ segments) low each.1))

pub separator-low : (d : Dialect) → own_separator d < 128
separator-low unix = omega arith
separator-low windows = omega arith

separator-utf8 : (d : Dialect) → IsUtf8 (own_separator d ∷ [])
separator-utf8 d = byte-utf8 (own_separator d) (separator-low d)

pub unheaded-utf8 : (d : Dialect) (text : List ℕ) → IsUtf8 text → IsUtf8 (unheaded d text)
unheaded-utf8 d [] is = byte-utf8 dot (omega arith)
unheaded-utf8 d (b ∷ bs) is =
    cond_both (is_some (prefix_of d (b ∷ bs))) (dot ∷ own_separator d ∷ b ∷ bs) (b ∷ bs) IsUtf8
    (λ found. IsUtf8-append (dot ∷ []) (own_separator d ∷ b ∷ bs) (byte-utf8 dot (omega arith)) (IsUtf8-append (own_separator d ∷ []) (b ∷ bs) (separator-utf8 d) is))
    (λ none. is)

behind_head-utf8 : (d : Dialect) (raw : List ℕ) (rooted implied : Bool) (segments : List (List ℕ)) → IsUtf8 raw → IsUtf8 (join_with_byte (own_separator d) segments)
    → IsUtf8 (behind_head (own_separator d) raw rooted implied segments)
behind_head-utf8 d raw rooted implied segments own is =
    let there = rooted || (implied && not (length segments == 0)) in
    let between : IsUtf8 (if there then own_separator d ∷ [] else []) = cond_both there (own_separator d ∷ []) [] IsUtf8 (λ yes. separator-utf8 d) (λ none. IsUtf8-nil) in
    IsUtf8-append (raw ++ (if there then own_separator d ∷ [] else [])) (join_with_byte (own_separator d) segments) (IsUtf8-append raw _ own between) is

clean_by-utf8 : (d : Dialect) (ps : List Part) (segments : List (List ℕ)) → AllByRecursion IsWritten ps → IsUtf8 (join_with_byte (own_separator d) segments) → IsUtf8 (clean_by d ps segments)
clean_by-utf8 d [] segments each is = unheaded-utf8 d _ is
clean_by-utf8 d (p ∷ ps) segments each is = by p.kind
  where
    by : (k : Kind) → IsUtf8 (clean_by d (record { kind = k; text = p.text } ∷ ps) segments)
    by (prefix q) = behind_head-utf8 d p.text (begins_with_root (kinds ps)) (not (is_disk q)) segments each.0 is
    by root = behind_head-utf8 d [] true false segments IsUtf8-nil is
    by current = unheaded-utf8 d _ is
    by parent = unheaded-utf8 d _ is
    by (normal name) = unheaded-utf8 d _ is

pub clean_text-text : (d : Dialect) (t : List ℕ) → is_utf8 t ≡ true → is_utf8 (clean_text d t) ≡ true
clean_text-text d t is =
    let text = IsUtf8-from_is_utf8 t is in
    let ks = kinds (parts_of d t) in
    let over = if is_anchored ks then 0 else unmet ks in
    is_utf8-from_IsUtf8 (clean_text d t)
    (clean_by-utf8 d (parts_of d t) (kept_segments (is_anchored ks) ks) (parts_of-written d t text)
    (joined-utf8 (own_separator d) (kept_segments (is_anchored ks) ks) (separator-low d)
    (AllByRecursion-append IsUtf8 (dots over) (kept_names ks) (dots-utf8 over) (names-utf8 (parts_of d t) (parts_of-text d t text)))))

-- what the search is told of clean texts
pub ruleset clean_laws = (clean_text-text)

drop-utf8 : (n : ℕ) (ts : List (List ℕ)) → AllByRecursion IsUtf8 ts → AllByRecursion IsUtf8 (drop n ts)
drop-utf8 n ts each = grind (arith, common_steps)

pub steps_text-utf8 : (d : Dialect) (n : ℕ) (names : List (List ℕ)) → AllByRecursion IsUtf8 names → IsUtf8 (steps_text d n names)
steps_text-utf8 d n names each = unheaded-utf8 d _ (joined-utf8 (own_separator d) (dots n ++ names) (separator-low d) (AllByRecursion-append IsUtf8 (dots n) names (dots-utf8 n) each))

module _ (d : Dialect) (t b : List ℕ) where
  abbrev ks : List Kind
  ks = kinds (parts_of d t)

  abbrev ls : List Kind
  ls = kinds (parts_of d b)

  pub relative-some : (u : List ℕ) → is_utf8 t ≡ true → relative_text d t b ≡ Some u → is_utf8 u ≡ true
  relative-some u is e = by (is_reached ks ls) e
    where
      by : (c : Bool) → (if c then Some (steps_text d (steps_up ks ls) (names_down ks ls)) else None) ≡ Some u → is_utf8 u ≡ true
      by true f =
          is_utf8-from_IsUtf8 u (subst IsUtf8 (same_Some _ _ f)
          (steps_text-utf8 d (steps_up ks ls) (names_down ks ls) (drop-utf8 _ (kept_names ks) (names-utf8 (parts_of d t) (parts_of-text d t (IsUtf8-from_is_utf8 t is))))))
      by false f = cc

-- what the search is told of such paths
pub ruleset relative_laws = (relative-some)
