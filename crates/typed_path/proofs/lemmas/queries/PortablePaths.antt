-- What a portable path is: valid in both dialects, not refused, and read alike in the other one.
use Rattle.std.proofs.Common.{◌≡◌, ℕ, List, [], ◌∷◌, ◌++◌, Bool, true, false, ◌||◌, ◌&&◌, ◌==◌, not, if◌then◌else◌, length, Option, Some, None, refl, sym, ap, ◌∙◌, arith, cond, eqb-true}
use Rattle.std.specs.List.{list_any, list_all, onto_first}
use Rattle.std.specs.Option.{option_or}
use Rattle.std.proofs.lemmas.Bool.{not-true, or_parts, and_parts}
use Rattle.std.proofs.lemmas.List.{nil_from_length}
use Rattle.typed_path.specs.declared.errors.CheckedPathError.TheVariants.{InvalidFilename}
use Rattle.typed_path.specs.declared.scan.separators.Separators.TheVariants.{Slash, Either}
use Rattle.typed_path.specs.components.{Dialect, unix, windows, backslash, colon, Kind, prefix, root, current, parent, normal, is_parent, is_separator, is_dot, is_dot_dot, root_text, kinds, root_part, current_part, parent_part, name_part, parts_of, prefix_of, separators, Found}
use Rattle.typed_path.specs.queries.{is_valid, is_disallowed, is_root, begins_with_root, is_backslash, kind_may_be_device, kinds_fault, name_fault, portable_fault}
use Rattle.typed_path.specs.changes.{fault, fault_behind, begins_with_separator, has_second_colon}
use Rattle.typed_path.proofs.lemmas.lists.Options.{or-none, none-first}
use Rattle.typed_path.proofs.lemmas.lists.Lists.{slice_split-some}
use Rattle.typed_path.proofs.lemmas.components.Segments.{pieces, first_parts, later_parts, body_parts, parts_of-unix, parts_behind, dot-is, dot_dot-is}
use Rattle.typed_path.proofs.lemmas.components.PrefixCuts.{parts_of-none, parts_of-some}
use Rattle.typed_path.proofs.lemmas.queries.Portable.{portable, any-weaker, allowed-none, valid-name}

-- What a portable path is: valid in both dialects, not refused, and read alike in the other one.

-- ---- lists of kinds

pub portable_is_valid : (d : Dialect) (ks : List Kind) → kinds_fault ks ≡ None → is_valid d ks ≡ true
portable_is_valid d [] h = refl
portable_is_valid d (normal name ∷ ks) h =
    ap (λ b. b && is_valid d ks) (valid-name d name (none-first (name_fault name) (kinds_fault ks) h)) ∙ portable_is_valid d ks (or-none (name_fault name) (kinds_fault ks) h)
portable_is_valid d (prefix p ∷ ks) h = cc
portable_is_valid d (root ∷ ks) h = portable_is_valid d ks h
portable_is_valid d (current ∷ ks) h = portable_is_valid d ks h
portable_is_valid d (parent ∷ ks) h = portable_is_valid d ks h

-- none of its names may be a device
pub portable_is_no_device : (ks : List Kind) → kinds_fault ks ≡ None → list_any kind_may_be_device ks ≡ false
portable_is_no_device [] h = refl
portable_is_no_device (normal name ∷ ks) h =
    ap (λ b. b || list_any kind_may_be_device ks) (portable name (none-first (name_fault name) (kinds_fault ks) h)).device ∙ portable_is_no_device ks (or-none (name_fault name) (kinds_fault ks) h)
portable_is_no_device (prefix p ∷ ks) h = cc
portable_is_no_device (root ∷ ks) h = portable_is_no_device ks h
portable_is_no_device (current ∷ ks) h = portable_is_no_device ks h
portable_is_no_device (parent ∷ ks) h = portable_is_no_device ks h

-- a portable list without a root and a parent is refused nowhere
pub portable_is_unrefused : (d : Dialect) (before ks : List Kind) → kinds_fault ks ≡ None → list_any is_root ks ≡ false → list_any is_parent ks ≡ false → fault_behind d before ks ≡ None
portable_is_unrefused d before [] h rootless low = refl
portable_is_unrefused d before (normal name ∷ ks) h rootless low =
    ap (λ b. option_or (if b then None else Some InvalidFilename) (fault_behind d (before ++ normal name ∷ []) ks)) (valid-name d name (none-first (name_fault name) (kinds_fault ks) h))
    ∙ portable_is_unrefused d (before ++ normal name ∷ []) ks (or-none (name_fault name) (kinds_fault ks) h) rootless low
portable_is_unrefused d before (prefix p ∷ ks) h rootless low = cc
portable_is_unrefused d before (root ∷ ks) h rootless low = cc
portable_is_unrefused d before (current ∷ ks) h rootless low = portable_is_unrefused d (before ++ current ∷ []) ks h rootless low
portable_is_unrefused d before (parent ∷ ks) h rootless low = cc

-- ---- texts without a byte that only Windows takes for a mark

-- a piece that is no name, or a name without a fault, has no `\` and no `:`
abbrev is_mark : ℕ → Bool
is_mark b = b == backslash || b == colon

abbrev unmarked : List ℕ → Bool
unmarked piece = not (list_any is_mark piece)

name-unmarked : (name : List ℕ) → name_fault name ≡ None → unmarked name ≡ true
name-unmarked name h = ap not (any-weaker (is_disallowed windows) is_mark wider name (allowed-none name h))
  where
    wider : (b : ℕ) → is_mark b ≡ true → is_disallowed windows b ≡ true
    wider b is = grind arith

empty-unmarked : (piece : List ℕ) → (length piece == 0) ≡ true → unmarked piece ≡ true
empty-unmarked piece h = ap unmarked (nil_from_length piece (eqb-true _ 0 h))

dot-unmarked : (piece : List ℕ) → is_dot piece ≡ true → unmarked piece ≡ true
dot-unmarked piece h = ap unmarked (dot-is piece h)

dots-unmarked : (piece : List ℕ) → is_dot_dot piece ≡ true → unmarked piece ≡ true
dots-unmarked piece h = ap unmarked (dot_dot-is piece h)

later-unmarked : (ps : List (List ℕ)) → kinds_fault (kinds (later_parts Slash ps)) ≡ None → list_all unmarked ps ≡ true
later-unmarked [] h = refl
later-unmarked (p ∷ ps) h = by (length p == 0) refl (is_dot p) refl (is_dot_dot p) refl (later-unmarked ps) h
  where
    by : (empty : Bool) → (length p == 0) ≡ empty → (dotted : Bool) → is_dot p ≡ dotted → (twice : Bool) → is_dot_dot p ≡ twice
        → (kinds_fault (kinds (later_parts Slash ps)) ≡ None → list_all unmarked ps ≡ true)
        → kinds_fault (kinds ((if empty then [] else (if dotted then [] else (if twice then parent_part else name_part p) ∷ [])) ++ later_parts Slash ps)) ≡ None
        → list_all unmarked (p ∷ ps) ≡ true
    by true e dotted f twice g again h = ap (λ b. b && list_all unmarked ps) (empty-unmarked p e) ∙ again h
    by false e true f twice g again h = ap (λ b. b && list_all unmarked ps) (dot-unmarked p f) ∙ again h
    by false e false f true g again h = ap (λ b. b && list_all unmarked ps) (dots-unmarked p g) ∙ again h
    by false e false f false g again h =
        ap (λ b. b && list_all unmarked ps) (name-unmarked p (none-first (name_fault p) (kinds_fault (kinds (later_parts Slash ps))) h))
        ∙ again (or-none (name_fault p) (kinds_fault (kinds (later_parts Slash ps))) h)

first-unmarked : (ps : List (List ℕ)) → kinds_fault (kinds (first_parts Slash ps)) ≡ None → list_all unmarked ps ≡ true
first-unmarked [] h = refl
first-unmarked (p ∷ ps) h = by (length p == 0) refl (is_dot p) refl (is_dot_dot p) refl h
  where
    by : (empty : Bool) → (length p == 0) ≡ empty → (dotted : Bool) → is_dot p ≡ dotted → (twice : Bool) → is_dot_dot p ≡ twice
        → kinds_fault (kinds ((if empty then root_part (root_text Slash) else (if dotted then current_part else (if twice then parent_part else name_part p))) ∷ later_parts Slash ps)) ≡ None
        → list_all unmarked (p ∷ ps) ≡ true
    by true e dotted f twice g h = ap (λ b. b && list_all unmarked ps) (empty-unmarked p e) ∙ later-unmarked ps h
    by false e true f twice g h = ap (λ b. b && list_all unmarked ps) (dot-unmarked p f) ∙ later-unmarked ps h
    by false e false f true g h = ap (λ b. b && list_all unmarked ps) (dots-unmarked p g) ∙ later-unmarked ps h
    by false e false f false g h =
        ap (λ b. b && list_all unmarked ps) (name-unmarked p (none-first (name_fault p) (kinds_fault (kinds (later_parts Slash ps))) h))
        ∙ later-unmarked ps (or-none (name_fault p) (kinds_fault (kinds (later_parts Slash ps))) h)

-- a text has no mark where no piece of it has one
text-unmarked : (text : List ℕ) → list_all unmarked (pieces Slash text) ≡ true → list_any is_mark text ≡ false
text-unmarked [] h = refl
text-unmarked (x ∷ xs) h = by (is_separator Slash x) refl (pieces Slash xs) (slice_split-some (is_separator Slash) xs).2 (text-unmarked xs) h
  where
    plain : is_separator Slash x ≡ true → is_mark x ≡ false
    plain is = grind arith

    by : (separates : Bool) → is_separator Slash x ≡ separates → {piece : List ℕ} {more : List (List ℕ)} (ps : List (List ℕ)) → ps ≡ piece ∷ more
        → (list_all unmarked ps ≡ true → list_any is_mark xs ≡ false) → list_all unmarked (cond separates ([] ∷ ps) (onto_first x ps)) ≡ true → list_any is_mark (x ∷ xs) ≡ false
    by true is ps e again all = ap (λ b. b || list_any is_mark xs) (plain is) ∙ again all
    by false is ps e again all = grind (arith, and_parts, not-true, or_parts)

-- a text without `\` is cut alike on both systems
pieces-alike : (text : List ℕ) → list_any is_backslash text ≡ false → pieces Either text ≡ pieces Slash text
pieces-alike [] none = refl
pieces-alike (x ∷ xs) none =
    let both = or_parts (is_backslash x) (list_any is_backslash xs) none in
    ap (λ b. cond b ([] ∷ pieces Either xs) (onto_first x (pieces Either xs))) (alike both.0)
    ∙ ap (λ ps. cond (is_separator Slash x) ([] ∷ ps) (onto_first x ps)) (pieces-alike xs both.1)
  where
    alike : is_backslash x ≡ false → is_separator Either x ≡ is_separator Slash x
    alike h = grind arith

-- and read alike, where it does not begin with a root
first_parts-alike : (ps : List (List ℕ)) → begins_with_root (kinds (first_parts Slash ps)) ≡ false → first_parts Either ps ≡ first_parts Slash ps
first_parts-alike [] rootless = refl
first_parts-alike (p ∷ ps) rootless = by (length p == 0) rootless
  where
    by : (empty : Bool) → begins_with_root (kinds ((if empty then root_part (root_text Slash) else (if is_dot p then current_part else (if is_dot_dot p then parent_part else name_part p))) ∷ later_parts Slash ps)) ≡ false
        → (if empty then root_part (root_text Either) else (if is_dot p then current_part else (if is_dot_dot p then parent_part else name_part p))) ∷ later_parts Either ps
        ≡ (if empty then root_part (root_text Slash) else (if is_dot p then current_part else (if is_dot_dot p then parent_part else name_part p))) ∷ later_parts Slash ps
    by true h = cc
    by false h = refl

-- its kinds are the same in any case
first_kinds-alike : (ps : List (List ℕ)) → kinds (first_parts Either ps) ≡ kinds (first_parts Slash ps)
first_kinds-alike [] = refl
first_kinds-alike (p ∷ ps) = by (length p == 0)
  where
    by : (empty : Bool)
        → kinds ((if empty then root_part (root_text Either) else (if is_dot p then current_part else (if is_dot_dot p then parent_part else name_part p))) ∷ later_parts Either ps)
        ≡ kinds ((if empty then root_part (root_text Slash) else (if is_dot p then current_part else (if is_dot_dot p then parent_part else name_part p))) ∷ later_parts Slash ps)
    by true = refl
    by false = refl

body-alike : (text : List ℕ) → list_any is_backslash text ≡ false → begins_with_root (kinds (body_parts Slash text)) ≡ false → body_parts Either text ≡ body_parts Slash text
body-alike [] none rootless = refl
body-alike (b ∷ bs) none rootless = ap (first_parts Either) (pieces-alike (b ∷ bs) none) ∙ first_parts-alike (pieces Slash (b ∷ bs)) rootless

body_kinds-alike : (text : List ℕ) → list_any is_backslash text ≡ false → kinds (body_parts Either text) ≡ kinds (body_parts Slash text)
body_kinds-alike [] none = refl
body_kinds-alike (b ∷ bs) none = ap (λ ps. kinds (first_parts Either ps)) (pieces-alike (b ∷ bs) none) ∙ first_kinds-alike (pieces Slash (b ∷ bs))

-- ---- a portable path of Unix without a root, read on Windows

no_prefix : (text : List ℕ) → begins_with_separator text ≡ false → has_second_colon text ≡ false → prefix_of windows text ≡ None
no_prefix text apart free = grind arith

unmarked-apart : (text : List ℕ) → list_any is_mark text ≡ false → begins_with_root (kinds (body_parts Slash text)) ≡ false → begins_with_separator text ≡ false
unmarked-apart [] none rootless = refl
unmarked-apart (b ∷ bs) none rootless = by (is_separator Slash b) refl rootless
  where
    other : is_separator Slash b ≡ false → is_mark b ≡ false → is_separator Either b ≡ false
    other s m = grind arith

    by : (separates : Bool) → is_separator Slash b ≡ separates → begins_with_root (kinds (first_parts Slash (cond separates ([] ∷ pieces Slash bs) (onto_first b (pieces Slash bs))))) ≡ false → is_separator Either b ≡ false
    by true is h = cc
    by false is h = other is (or_parts (is_mark b) (list_any is_mark bs) none).0

unmarked-free : (text : List ℕ) → list_any is_mark text ≡ false → has_second_colon text ≡ false
unmarked-free [] none = refl
unmarked-free (a ∷ []) none = refl
unmarked-free (a ∷ b ∷ bs) none = (or_parts (b == backslash) (b == colon) (or_parts (is_mark b) (list_any is_mark bs) (or_parts (is_mark a) (list_any is_mark (b ∷ bs)) none).1).0).1

body-unmarked : (text : List ℕ) → kinds_fault (kinds (body_parts Slash text)) ≡ None → list_any is_mark text ≡ false
body-unmarked [] h = refl
body-unmarked (b ∷ bs) h = text-unmarked (b ∷ bs) (first-unmarked (pieces Slash (b ∷ bs)) h)

module _ (t : List ℕ) (h : portable_fault unix t ≡ None) where
  none_marked : list_any is_mark t ≡ false
  none_marked = body-unmarked t (ap (λ ps. kinds_fault (kinds ps)) (sym (parts_of-unix t)) ∙ h)

  -- it has no `\`
  pub portable_lacks : list_any is_backslash t ≡ false
  portable_lacks = any-weaker is_mark is_backslash (λ b is. ap (λ x. x || b == colon) is) t none_marked

  module _ (rootless : begins_with_root (kinds (parts_of unix t)) ≡ false) where
    no_root : begins_with_root (kinds (body_parts Slash t)) ≡ false
    no_root = ap (λ ps. begins_with_root (kinds ps)) (sym (parts_of-unix t)) ∙ rootless

    pub portable_reads_alike : parts_of windows t ≡ parts_of unix t
    portable_reads_alike =
        parts_of-none t (no_prefix t (unmarked-apart t none_marked no_root) (unmarked-free t none_marked))
        ∙ body-alike t portable_lacks no_root ∙ sym (parts_of-unix t)

rootless_front : (ks : List Kind) → list_any is_root ks ≡ false → begins_with_root ks ≡ false
rootless_front [] h = refl
rootless_front (root ∷ ks) h = cc
rootless_front (prefix p ∷ ks) h = refl
rootless_front (current ∷ ks) h = refl
rootless_front (parent ∷ ks) h = refl
rootless_front (normal name ∷ ks) h = refl

-- so the checks of both systems accept the text
pub portable_accepted : (t : List ℕ) → portable_fault unix t ≡ None → list_any is_root (kinds (parts_of unix t)) ≡ false → list_any is_parent (kinds (parts_of unix t)) ≡ false
    → (e : Dialect) → fault e t ≡ None
portable_accepted t h rootless low unix = portable_is_unrefused unix [] (kinds (parts_of unix t)) h rootless low
portable_accepted t h rootless low windows =
    ap (λ ps. fault_behind windows [] (kinds ps)) (portable_reads_alike t h (rootless_front (kinds (parts_of unix t)) rootless))
    ∙ portable_is_unrefused windows [] (kinds (parts_of unix t)) h rootless low

-- ---- a portable path of Windows, read on Unix

-- it has no prefix
pub portable-unprefixed : (t : List ℕ) → portable_fault windows t ≡ None → prefix_of windows t ≡ None
portable-unprefixed t h = by (prefix_of windows t) refl
  where
    by : (o : Option Found) → prefix_of windows t ≡ o → o ≡ None
    by None e = refl
    by (Some f) e = absurd (never (sym (ap (λ ps. kinds_fault (kinds ps)) (parts_of-some t f e)) ∙ h))
      where
        never : kinds_fault (kinds (parts_behind (separators windows t) t (Some f))) ≡ None → ⊥
        never n = cc

module _ (t : List ℕ) (h : portable_fault windows t ≡ None) (lacks : list_any is_backslash t ≡ false) where
  read : parts_of windows t ≡ body_parts Either t
  read = parts_of-none t (portable-unprefixed t h)

  -- without `\` it is read as the same kinds
  pub portable_kinds_on_unix : kinds (parts_of unix t) ≡ kinds (parts_of windows t)
  portable_kinds_on_unix = ap kinds (parts_of-unix t) ∙ sym (body_kinds-alike t lacks) ∙ sym (ap kinds read)

  -- so it is portable there
  pub portable_on_unix : portable_fault unix t ≡ None
  portable_on_unix = ap kinds_fault portable_kinds_on_unix ∙ h

  -- and without a root it is read as the same components
  pub portable_reads_alike_on_unix : begins_with_root (kinds (parts_of windows t)) ≡ false → parts_of unix t ≡ parts_of windows t
  portable_reads_alike_on_unix rootless = sym (portable_reads_alike t portable_on_unix (ap begins_with_root portable_kinds_on_unix ∙ rootless))

-- so the checks of both systems accept it
pub portable_accepted_on_unix : (t : List ℕ) → portable_fault windows t ≡ None → list_any is_backslash t ≡ false → list_any is_root (kinds (parts_of windows t)) ≡ false
    → list_any is_parent (kinds (parts_of windows t)) ≡ false → (e : Dialect) → fault e t ≡ None
portable_accepted_on_unix t h lacks rootless low e =
    let alike = portable_kinds_on_unix t h lacks in
    portable_accepted t (portable_on_unix t h lacks) (ap (list_any is_root) alike ∙ rootless) (ap (list_any is_parent) alike ∙ low) e
