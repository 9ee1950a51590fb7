-- A file name, its stem and its extension, and names with allowed bytes.
use Rattle.std.proofs.Common.{◌≡◌, ℕ, ◌+◌, ◌-◌, ◌<◌, ◌≤◌, Bool, true, false, not, if◌then◌else◌, List, [], ◌∷◌, ◌++◌, length, reverse, drop, get_or, Some, None, All, ◌⊎◌, inl, inr, refl, sym, ap, ◌∙◌, append_assoc, arith, cond, take, subst, eqb-true, get_or-drop, length-drop, length-take, take-append-drop}
use Rattle.std.proofs.lemmas.Grind.{common_steps}
use Rattle.std.specs.Prelude.{position, nat_lt}
use Rattle.std.specs.List.{list_any, before_first, after_first, position_or_len, before_last, after_last, suffix_len, slice_split, onto_first, AllByRecursion}
use Rattle.std.proofs.lemmas.Bool.{not-true, not-false, cases_lt, ltb-false, both_ways, cond_both, false_from_ne_true}
use Rattle.std.proofs.lemmas.List.{take_all, take_more, get_or-reverse, get_or_default, length-reverse}
use Rattle.std.proofs.lemmas.List.Folds.{Any-from_list_any, list_any_none, list_any_at}
use Rattle.std.proofs.lemmas.List.Sums.{prefix_len_passes, prefix_len_stops, suffix_len_is, passes_at_first, split_at_first}
use Rattle.memchr.specs.Find.{Nowhere, NoneAfter, Passes}
use Rattle.std.proofs.lemmas.List.Elements.{All-head, All-tail}
use Rattle.typed_path.specs.declared.scan.separators.Separators.{Separators}
use Rattle.typed_path.specs.declared.scan.cursor.Begin.{Begin}
use Rattle.typed_path.specs.declared.scan.cursor.Begin.TheVariants.{Body, Inside}
use Rattle.typed_path.specs.components.{dot, Dialect, dialect_of, is_separator, root_text, Part, Kind, kinds, parts, root_part, current_part, parent_part, name_part}
use Rattle.typed_path.specs.queries.{is_a_dot, has_extension, first_stem_of, stem_of, extension_of, is_disallowed, kind_has_allowed_bytes}
use Rattle.typed_path.specs.scan.{body_from}
use Rattle.typed_path.specs.changes.{SeparatesDisallowed}
use Rattle.typed_path.proofs.lemmas.components.Segments.{pieces, later_part, later_parts, first_parts, body_parts, parts-body, parts-later_body}
use Rattle.typed_path.proofs.lemmas.lists.Options.{where-some}

-- A file name, its stem and its extension.

-- an element that passes, not the first, and the parts before and behind the last such element
record IsParted {X : Type 0} (p : X → Bool) (xs : List X) (d : X) : Type 0 where
  pub whole : xs ≡ before_last p xs ++ get_or xs (length xs - suffix_len (λ x. not (p x)) xs - 1) d ∷ after_last p xs
  pub passes : p (get_or xs (length xs - suffix_len (λ x. not (p x)) xs - 1) d) ≡ true
  pub behind : All (λ x. p x ≡ false) (after_last p xs)
  pub filled : 0 < length (before_last p xs)

module _ {X : Type 0} (p : X → Bool) (xs : List X) where
  -- no element behind the last one that passes does
  fails_behind : (k : ℕ) (d : X) → k < length xs → length xs ≤ k + suffix_len (λ x. not (p x)) xs → p (get_or xs k d) ≡ false
  fails_behind k d inside late =
      let place : length xs - 1 - (length xs - 1 - k) ≡ k = omega arith in
      let e = prefix_len_passes (λ x. not (p x)) (reverse xs) (length xs - 1 - k) d (omega arith) in
      not-true _ (rw (get_or-reverse xs (length xs - 1 - k) d (omega arith), place) at e)

  -- a list with an element that passes behind its first is parted at the last such element
  parted : (k : ℕ) (d : X) → 0 < k → k < length xs → p (get_or xs k d) ≡ true → IsParted p xs d
  parted k d later inside passes =
      let n = suffix_len (λ x. not (p x)) xs in
      let early : k + n < length xs = early_by (cases_lt (k + n) (length xs)) in
      let at : length xs - n - 1 + 1 ≡ length xs - n = omega arith in
      let place : length xs - 1 - n ≡ length xs - n - 1 = omega arith in
      record {
        whole = sym (take-append-drop (length xs - n) xs)
            ∙ ap (λ ys. ys ++ after_last p xs) (rw at at (take_more xs (length xs - n - 1) d (omega arith)))
            ∙ append_assoc (before_last p xs) (get_or xs (length xs - n - 1) d ∷ []) (after_last p xs);
        passes = not-false _ (rw (get_or-reverse xs n d (omega arith), place) at (prefix_len_stops (λ x. not (p x)) (reverse xs) d (rw (length-reverse xs) (omega arith))));
        behind = λ j e h. rw (get_or-drop (length xs - n) xs j e) (fails_behind (length xs - n + j) e (omega (arith, length-drop (length xs - n) xs)) (omega arith));
        filled = rw (length-take (length xs - n - 1) xs) (omega arith);
      }
    where
      early_by : (k + suffix_len (λ x. not (p x)) xs < length xs) ⊎ (length xs ≤ k + suffix_len (λ x. not (p x)) xs) → k + suffix_len (λ x. not (p x)) xs < length xs
      early_by h = grind (arith, both_ways, fails_behind)

-- a name with an extension is parted at its last dot
named : (name : List ℕ) → has_extension name ≡ true → IsParted is_a_dot name 0
named name has =
    let some = Any-from_list_any is_a_dot (drop 1 name) has in
    parted is_a_dot name (1 + some.0) 0 (omega arith) (omega (arith, some.2, length-drop 1 name))
    (ap is_a_dot (sym (get_or-drop 1 name some.0 0) ∙ get_or_default (drop 1 name) some.0 0 some.1 some.2 ∙ some.3) ∙ some.4)

-- a text is cut at its first dot, or is all that stands before one
pub before_dot_some : (text : List ℕ) (at : ℕ) → position is_a_dot text ≡ Some at → take at text ≡ before_first is_a_dot text
before_dot_some text at is = ap (λ n. take n text) (sym (where-some (nat_lt (position_or_len is_a_dot text) (length text)) (position_or_len is_a_dot text) at is).1)

pub before_dot_none : (text : List ℕ) → position is_a_dot text ≡ None → text ≡ before_first is_a_dot text
before_dot_none text is = grind (arith, take_all, ltb-false)

-- a name is its own first stem, or a dot stands behind that
pub first_stem_of-parted : (name : List ℕ) → (first_stem_of name ≡ name) ⊎ ((rest : List ℕ) × (name ≡ first_stem_of name ++ dot ∷ rest))
first_stem_of-parted [] = inl refl
first_stem_of-parted (b ∷ bs) = elim (cases_lt (position_or_len is_a_dot bs) (length bs)) [
  | inl inside ↦
      let a_dot = eqb-true (get_or bs (position_or_len is_a_dot bs) 0) dot (passes_at_first is_a_dot bs 0 inside) in
      inr (
        after_first is_a_dot bs,
        ap (λ cs. b ∷ cs) (split_at_first is_a_dot bs 0 inside ∙ ap (λ x. before_first is_a_dot bs ++ x ∷ after_first is_a_dot bs) a_dot),
      )
  | inr all ↦ inl (ap (λ cs. b ∷ cs) (take_all (position_or_len is_a_dot bs) bs all))
]

-- without an extension a name is its own stem
pub stem_of-whole : (name : List ℕ) → extension_of name ≡ None → stem_of name ≡ name
stem_of-whole name h = grind arith

-- with one it is its stem, a dot, and the extension, which holds no dot
pub stem_of-extension : (name e : List ℕ) → extension_of name ≡ Some e → (name ≡ stem_of name ++ dot ∷ e) × (list_any is_a_dot e ≡ false)
stem_of-extension name e some = by (has_extension name) refl some
  where
    by : (b : Bool) → has_extension name ≡ b → (if b then Some (after_last is_a_dot name) else None) ≡ Some e
        → (name ≡ (if b then before_last is_a_dot name else name) ++ dot ∷ e) × (list_any is_a_dot e ≡ false)
    by true has same =
        let is = named name has in
        let behind : after_last is_a_dot name ≡ e = cc in (
          is.whole ∙ ap (λ b. before_last is_a_dot name ++ b ∷ after_last is_a_dot name) (eqb-true _ dot is.passes) ∙ ap (λ rest. before_last is_a_dot name ++ dot ∷ rest) behind,
          ap (list_any is_a_dot) (sym behind) ∙ list_any_none is_a_dot (after_last is_a_dot name) is.behind,
        )
    by false has same = cc

-- a name has a stem
pub stem_of-filled : (name : List ℕ) → 0 < length name → 0 < length (stem_of name)
stem_of-filled name filled = cond_both (has_extension name) (before_last is_a_dot name) name (λ stem. 0 < length stem) (λ has. (named name has).filled) (λ none. filled)

-- The last dot of a name.

module _ (name : List ℕ) where
  -- no dot behind the first byte: no extension
  no_extension : Nowhere (Passes is_a_dot name) 1 (length name) → has_extension name ≡ false
  no_extension h = list_any_none is_a_dot (drop 1 name) (λ k d l.
      let size = length-drop 1 name in
      let within : 1 + k < length name = omega arith in
      ap is_a_dot (get_or-drop 1 name k d ∙ get_or_default name (1 + k) d 0 within) ∙ false_from_ne_true _ (h (1 + k) (omega arith) within))

  pub stem-whole : Nowhere (Passes is_a_dot name) 1 (length name) → stem_of name ≡ name
  stem-whole h = ap (λ b. cond b (before_last is_a_dot name) name) (no_extension h)

  pub extension-none : Nowhere (Passes is_a_dot name) 1 (length name) → extension_of name ≡ None
  extension-none h = ap (λ b. cond b (Some (after_last is_a_dot name)) None) (no_extension h)

  module _ (at : ℕ) (later : 0 < at) (last : NoneAfter (Passes is_a_dot name) 0 (length name) at) (is_dot : Passes is_a_dot name at) where
    some_extension : has_extension name ≡ true
    some_extension = grind (arith, list_any_at, get_or-drop)

    behind_last : suffix_len (λ b. not (is_a_dot b)) name ≡ length name - (at + 1)
    behind_last =
        let within = last.high in
        suffix_len_is (λ b. not (is_a_dot b)) name (at + 1) 0 (omega arith) (λ k low high. ap not (false_from_ne_true _ (last.after k low high)))
        (λ _. ap (λ i. not (is_a_dot (get_or name i 0))) (omega arith) ∙ ap not is_dot)

    pub stem-before : stem_of name ≡ take at name
    stem-before = grind (arith, behind_last, some_extension)

    pub extension-behind : extension_of name ≡ Some (drop (at + 1) name)
    extension-behind = grind (arith, behind_last, some_extension)

-- The names of a text in which each byte that no name may have is a separator.

-- each name of a list has allowed bytes
abbrev pub AllowsEach : Dialect → List Kind → Type 0
AllowsEach d ks = AllByRecursion (λ k. kind_has_allowed_bytes d k ≡ true) ks

-- no byte of a piece is one that no name may have
abbrev IsAllowed : Dialect → List ℕ → Type 0
IsAllowed d piece = list_any (is_disallowed d) piece ≡ false

-- the component of a piece is allowed
abbrev IsAllowedPart : Dialect → Part → Type 0
IsAllowedPart d p = kind_has_allowed_bytes d p.kind ≡ true

-- between two separators no such byte stands
pub allowed-pieces : (s : Separators) (d : Dialect) (text : List ℕ) → All (λ b. is_disallowed d b ≡ true → is_separator s b ≡ true) text → AllByRecursion (IsAllowed d) (pieces s text)
allowed-pieces s d [] h = (refl, tt)
allowed-pieces s d (x ∷ xs) h =
    by (is_separator s x) (is_disallowed d x) refl refl (All-head (λ b. is_disallowed d b ≡ true → is_separator s b ≡ true) x xs h) (slice_split (is_separator s) xs)
    (allowed-pieces s d xs (All-tail (λ b. is_disallowed d b ≡ true → is_separator s b ≡ true) x xs h))
  where
    by : (separates disallowed : Bool) → is_separator s x ≡ separates → is_disallowed d x ≡ disallowed → (is_disallowed d x ≡ true → is_separator s x ≡ true)
        → (ps : List (List ℕ)) → AllByRecursion (IsAllowed d) ps → AllByRecursion (IsAllowed d) (cond separates ([] ∷ ps) (onto_first x ps))
    by separates disallowed e f g ps all = grind arith

-- the component of a piece, by what the piece is
module _ (s : Separators) (d : Dialect) (piece : List ℕ) (allowed : IsAllowed d piece) where
  allowed-first : (empty dotted twice : Bool) → IsAllowedPart d (if empty then root_part (root_text s) else (if dotted then current_part else (if twice then parent_part else name_part piece)))
  allowed-first empty dotted twice = grind arith

  allowed-later : (empty dotted verbatim twice : Bool)
      → AllByRecursion (IsAllowedPart d) (if empty then [] else (if dotted then (if verbatim then current_part ∷ [] else []) else (if twice then parent_part else name_part piece) ∷ []))
  allowed-later empty dotted verbatim twice = grind arith

module _ (s : Separators) (d : Dialect) where
  allowed-later_parts : (ps : List (List ℕ)) → AllByRecursion (IsAllowed d) ps → AllByRecursion (IsAllowedPart d) (later_parts s ps)
  allowed-later_parts [] all = tt
  allowed-later_parts (p ∷ ps) all = grind (arith, common_steps, later_part, later_parts, allowed-later, allowed-later_parts ps all.1)

  pub allowed-first_parts : (ps : List (List ℕ)) → AllByRecursion (IsAllowed d) ps → AllByRecursion (IsAllowedPart d) (first_parts s ps)
  allowed-first_parts ps all = grind (arith, allowed-first, allowed-later_parts)

-- the kinds of such components
pub allowed-kinds : (d : Dialect) (ps : List Part) → AllByRecursion (IsAllowedPart d) ps → AllowsEach d (kinds ps)
allowed-kinds d [] all = tt
allowed-kinds d (p ∷ ps) all = (all.0, allowed-kinds d ps all.1)

-- the names of a text are allowed
pub allowed-body_from : (begin : Begin) (s : Separators) (at : ℕ) (text : List ℕ) → SeparatesDisallowed s text
    → AllowsEach (dialect_of s) (kinds (parts (body_from begin s at text)))
allowed-body_from Body s at [] h = tt
allowed-body_from Body s at (b ∷ bs) h =
    subst (λ ps. AllowsEach (dialect_of s) (kinds ps)) (sym (parts-body s at (b ∷ bs)))
    (allowed-kinds (dialect_of s) (body_parts s (b ∷ bs)) (allowed-first_parts s (dialect_of s) (pieces s (b ∷ bs)) (allowed-pieces s (dialect_of s) (b ∷ bs) h)))
allowed-body_from Inside s at text h =
    subst (λ ps. AllowsEach (dialect_of s) (kinds ps)) (sym (parts-later_body s at text))
    (allowed-kinds (dialect_of s) (later_parts s (pieces s text)) (allowed-later_parts s (dialect_of s) (pieces s text) (allowed-pieces s (dialect_of s) text h)))
