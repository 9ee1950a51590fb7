-- A path judged component by component, and what holds of one that is not refused.
use Rattle.std.proofs.Common.{◌≡◌, ℕ, zero, suc, ◌+◌, Bool, true, false, if◌then◌else◌, List, [], ◌∷◌, ◌++◌, refl, sym, ap, arith, length, ◌==◌, not, ◌&&◌, ◌∙◌, ◌-◌, ◌<◌, ◌||◌, cond, slice_index, Some, None, Option, nat_eq, le-leb, ne_eqb, eq-eqb}
use Rattle.std.proofs.lemmas.Grind.{common_steps}
use Rattle.std.specs.List.{count_by, list_any, slice_split, onto_first, starts_with, AllByRecursion}
use Rattle.std.specs.Option.{option_or}
use Rattle.std.specs.Slice.Scan.{HoldsNowhere}
use Rattle.std.proofs.lemmas.Bool.{cases_lt, lt-leb, and_parts, or_parts, not-true, eqb-false}
use Rattle.std.proofs.lemmas.List.{get_or_past, map-append}
use Rattle.std.proofs.Math.Bool.{and-false, and-true}
use Rattle.typed_path.specs.declared.errors.CheckedPathError.{CheckedPathError}
use Rattle.typed_path.specs.declared.errors.CheckedPathError.TheVariants.{InvalidFilename}
use Rattle.typed_path.specs.declared.scan.separators.Separators.{Separators}
use Rattle.typed_path.specs.declared.scan.separators.Separators.TheVariants.{Either, Slash}
use Rattle.typed_path.specs.components.{Dialect, windows, dot, is_separator, root_text, separators, unix, slash, Kind, prefix, root, current, parent, normal, is_name, is_parent, Part, kinds, current_part, root_part, parent_part, name_part, Prefix, prefix_part, Found, prefix_of, parts_of, is_dot_dot}
use Rattle.typed_path.specs.scan.{TellsWhether}
use Rattle.typed_path.specs.queries.{is_valid_name, begins_with_root, has_prefix, has_any_verbatim_prefix, is_disallowed, is_disk}
use Rattle.typed_path.specs.changes.{fault_behind, fault_at, fault, offence, merged, spelled, ended_windows, push, begins_with_nul_or_dot_pair, has_no_nul_or_dot_pair, is_nul_or_dot_pair, nul_or_dot_pair_at}
use Rattle.typed_path.specs.places.{overdraws, stays, resolve, with_implied_root}
use Rattle.typed_path.proofs.lemmas.components.Segments.{pieces, later_parts, first_parts, body_parts, parts_behind, later_part, parts-body}
use Rattle.typed_path.proofs.lemmas.components.PrefixCuts.{parts_of-none, parts_of-some}
use Rattle.typed_path.proofs.lemmas.places.Resolving.{Alike, is_head, no_heads, resolve-append, first_parts-alike}
use Rattle.typed_path.proofs.lemmas.lists.Lists.{slice_split-some, count_by-push}

-- A path judged component by component, and what holds of one that is not refused.

-- so many more names than parents
abbrev IsBalance : List Kind → ℕ → Type 0
IsBalance before depth = count_by is_name before ≡ depth + count_by is_parent before

-- what stands before a list counts by its balance alone
pub fault_behind-at : (d : Dialect) (before : List Kind) (depth : ℕ) (ks : List Kind) → IsBalance before depth → fault_behind d before ks ≡ fault_at d depth ks
fault_behind-at d before depth [] e = refl
fault_behind-at d before depth (prefix p ∷ ks) e = refl
fault_behind-at d before depth (root ∷ ks) e = refl
fault_behind-at d before depth (current ∷ ks) e =
    fault_behind-at d (before ++ current ∷ []) depth ks (omega (arith, e, count_by-push is_name before current, count_by-push is_parent before current))
fault_behind-at d before zero (parent ∷ ks) e = rw (le-leb (count_by is_name before) (count_by is_parent before) (omega (arith, e))) refl
fault_behind-at d before (suc depth) (parent ∷ ks) e =
    rw (lt-leb (count_by is_name before) (count_by is_parent before) (omega (arith, e)))
    (fault_behind-at d (before ++ parent ∷ []) depth ks (omega (arith, e, count_by-push is_name before parent, count_by-push is_parent before parent)))
fault_behind-at d before depth (normal name ∷ ks) e =
    by (is_valid_name d name)
    (fault_behind-at d (before ++ normal name ∷ []) (suc depth) ks (omega (arith, e, count_by-push is_name before (normal name), count_by-push is_parent before (normal name))))
  where
    by : (b : Bool) → fault_behind d (before ++ normal name ∷ []) ks ≡ fault_at d (suc depth) ks
        → option_or (if b then None else Some InvalidFilename) (fault_behind d (before ++ normal name ∷ []) ks) ≡ (if b then fault_at d (suc depth) ks else Some InvalidFilename)
    by b h = grind arith

-- what stands behind a name is not refused where the name and it are not
named-more : (b : Bool) (o : Option CheckedPathError) → (if b then o else Some InvalidFilename) ≡ None → o ≡ None
named-more b o e = grind arith

-- a list that is not refused never holds more parents than names, and holds no prefix and no root
pub fault_at-closed : (d : Dialect) (depth : ℕ) (ks : List Kind) → fault_at d depth ks ≡ None → (overdraws depth ks ≡ false) × (no_heads ks ≡ true)
fault_at-closed d depth [] e = (refl, refl)
fault_at-closed d depth (prefix p ∷ ks) e = (cc, cc)
fault_at-closed d depth (root ∷ ks) e = (cc, cc)
fault_at-closed d depth (current ∷ ks) e = fault_at-closed d depth ks e
fault_at-closed d zero (parent ∷ ks) e = (cc, cc)
fault_at-closed d (suc depth) (parent ∷ ks) e = fault_at-closed d depth ks e
fault_at-closed d depth (normal name ∷ ks) e = fault_at-closed d (suc depth) ks (named-more (is_valid_name d name) (fault_at d (suc depth) ks) e)

-- A path of Windows that is not refused has no prefix and no root.

-- a list without a prefix and a root does not begin with a root
pub no_heads-relative : (ks : List Kind) → no_heads ks ≡ true → begins_with_root ks ≡ false
no_heads-relative ks e = grind arith

-- a path that is not refused: what is read of it, and what is not there
pub record IsFaultless (path : List ℕ) : Type 0 where
  pub no_prefix : prefix_of windows path ≡ None
  pub read : parts_of windows path ≡ body_parts Either path
  pub closed : overdraws zero (kinds (body_parts Either path)) ≡ false
  pub headless : no_heads (kinds (body_parts Either path)) ≡ true

-- a path that is not refused is faultless
pub faultless : (path : List ℕ) → fault windows path ≡ None → IsFaultless path
faultless path accepted = by (prefix_of windows path) refl
  where
    judged : fault_at windows zero (kinds (parts_of windows path)) ≡ None
    judged = sym (fault_behind-at windows [] zero (kinds (parts_of windows path)) refl) ∙ accepted

    refused : (f : Found) → fault_at windows zero (kinds (parts_behind (separators windows path) path (Some f))) ≡ None → ⊥
    refused f e = cc

    by : (o : Option Found) → prefix_of windows path ≡ o → IsFaultless path
    by None none = grind (arith, parts_of-none, judged, fault_at-closed, body_parts)
    by (Some f) some = absurd (refused f (ap (λ ps. fault_at windows zero (kinds ps)) (sym (parts_of-some path f some)) ∙ judged))

-- so does a text
pub body_parts-alike : (s : Separators) (text : List ℕ) → begins_with_root (kinds (body_parts s text)) ≡ false → Alike (body_parts s text) (later_parts s (pieces s text))
body_parts-alike s text relative = grind (arith, first_parts-alike, pieces)

-- a text that does not begin with a root does not begin with a separator
pub body_parts-relative : (s : Separators) (b : ℕ) (bs : List ℕ) → begins_with_root (kinds (body_parts s (b ∷ bs))) ≡ false → is_separator s b ≡ false
body_parts-relative s b bs relative = grind arith

-- what a list without prefixes and roots resolves to has none
pub no_heads-resolve : (ps : List Part) → no_heads (kinds ps) ≡ true → no_heads (kinds (resolve ps)) ≡ true
no_heads-resolve [] e = refl
no_heads-resolve (p ∷ ps) e = by (stays p.kind (kinds ps)) (and_parts _ _ e).0 (no_heads-resolve ps (and_parts (not (is_head p.kind)) _ e).1)
  where
    by : (b : Bool) → not (is_head p.kind) ≡ true → no_heads (kinds (resolve ps)) ≡ true → no_heads (kinds ((if b then p ∷ [] else []) ++ resolve ps)) ≡ true
    by b own rest = grind (arith, no_heads)

-- a faultless path neither replaces the base nor cuts it to its prefix
pub push-faultless : (base : List ℕ) (b : ℕ) (path : List ℕ) → IsFaultless (b ∷ path)
    → push windows base (b ∷ path) ≡ (if has_any_verbatim_prefix (kinds (parts_of windows base)) then spelled (merged (parts_of windows base) (parts_of windows (b ∷ path))) else ended_windows base ++ b ∷ path)
push-faultless base b path faultless =
    let headless = ap (λ ps. no_heads (kinds ps)) faultless.read ∙ faultless.headless in
    rw (no_heads-no_prefix (kinds (parts_of windows (b ∷ path))) headless, no_heads-relative (kinds (parts_of windows (b ∷ path))) headless) refl
  where
    no_heads-no_prefix : (ks : List Kind) → no_heads ks ≡ true → has_prefix ks ≡ false
    no_heads-no_prefix ks e = grind arith

-- A path of Unix in which neither NUL nor two dots side by side stand: none of its components offends.

-- ---- the search for them

-- of a byte behind which no dot stands it counts whether it is NUL
lone : (zeros dots : Bool) → zeros || dots && false ≡ zeros
lone zeros dots = grind arith

-- at the front of a text, its first place tells
front-place : (x : ℕ) (xs : List ℕ) → nul_or_dot_pair_at (x ∷ xs) 0 ≡ begins_with_nul_or_dot_pair (x ∷ xs)
front-place x xs = grind arith

-- and the later ones tell behind it
later-place : (x k : ℕ) (xs : List ℕ) → nul_or_dot_pair_at (x ∷ xs) (suc k) ≡ nul_or_dot_pair_at xs k
later-place x k xs = let on : suc k + 1 ≡ suc (k + 1) = omega arith in ap (λ j. is_nul_or_dot_pair (slice_index xs k) (slice_index (x ∷ xs) j)) on

-- such a byte stands nowhere in a text
no_pair-nowhere : (text : List ℕ) → HoldsNowhere (nul_or_dot_pair_at text) 0 (length text) → has_no_nul_or_dot_pair text ≡ true
no_pair-nowhere [] none = refl
no_pair-nowhere (x ∷ xs) none =
    ap (λ harm. not harm && has_no_nul_or_dot_pair xs) (sym (front-place x xs) ∙ none 0 (omega arith) (omega arith)) ∙ no_pair-nowhere xs (λ k low high. sym (later-place x k xs) ∙ none (suc k) (omega arith) (omega arith))

-- one stands at a place of it
no_pair-somewhere : (text : List ℕ) (k : ℕ) → k < length text → nul_or_dot_pair_at text k ≡ true → has_no_nul_or_dot_pair text ≡ false
no_pair-somewhere [] k within here = absurd (omega arith)
no_pair-somewhere (x ∷ xs) zero within here = ap (λ harm. not harm && has_no_nul_or_dot_pair xs) (sym (front-place x xs) ∙ here)
no_pair-somewhere (x ∷ xs) (suc k) within here = ap (λ rest. not (begins_with_nul_or_dot_pair (x ∷ xs)) && rest) (no_pair-somewhere xs k (omega arith) (sym (later-place x k xs) ∙ here)) ∙ and-false (not (begins_with_nul_or_dot_pair (x ∷ xs)))

module _ (text : List ℕ) (some : 0 < length text) where
  -- behind the last byte of a text stands no dot
  last-place : nul_or_dot_pair_at text (length text - 1) ≡ (slice_index text (length text - 1) == 0)
  last-place = grind (arith, get_or_past, lone)

  -- a text whose last byte is NUL
  pub no_pair-last : slice_index text (length text - 1) ≡ 0 → has_no_nul_or_dot_pair text ≡ false
  no_pair-last zeros = no_pair-somewhere text (length text - 1) (omega arith) (last-place ∙ eq-eqb (slice_index text (length text - 1)) 0 zeros)

  -- of any other, the places before the last byte tell
  pub no_pair-before : (told : Bool) → (slice_index text (length text - 1) ≡ 0 → ⊥) → TellsWhether (nul_or_dot_pair_at text) 0 (length text - 1) told → has_no_nul_or_dot_pair text ≡ not told
  no_pair-before told other pair = grind (arith, no_pair-somewhere, no_pair-nowhere, last-place, cases_lt)

-- ---- what they tell of the components

-- a piece that is not `..`, and has no byte that no name may have
abbrev IsHarmlessPiece : List ℕ → Type 0
IsHarmlessPiece piece = (is_dot_dot piece ≡ false) × (list_any (is_disallowed unix) piece ≡ false)

-- a byte put before a piece whose first byte, where it has one, is known
put : (x : ℕ) (piece : List ℕ) → is_disallowed unix x ≡ false → IsHarmlessPiece piece → is_dot_dot (x ∷ piece) ≡ false → IsHarmlessPiece (x ∷ piece)
put x piece allowed harmless apart = (apart, ap (λ b. b || list_any (is_disallowed unix) piece) allowed ∙ harmless.1)

-- the same of the first of many pieces, the text of which begins with a byte
put_onto : (x y : ℕ) (separates : Bool) (ps : List (List ℕ)) → is_disallowed unix x ≡ false → (x == dot && y == dot) ≡ false
    → AllByRecursion IsHarmlessPiece (cond separates ([] ∷ ps) (onto_first y ps)) → AllByRecursion IsHarmlessPiece (onto_first x (cond separates ([] ∷ ps) (onto_first y ps)))
put_onto x y separates ps allowed apart all = grind arith

harmless-pieces : (text : List ℕ) → has_no_nul_or_dot_pair text ≡ true → AllByRecursion IsHarmlessPiece (pieces Slash text)
harmless-pieces [] e = ((refl, refl), tt)
harmless-pieces (x ∷ []) e = by (x == slash) refl
  where
    by : (separates : Bool) → (x == slash) ≡ separates → AllByRecursion IsHarmlessPiece (cond separates ([] ∷ [] ∷ []) ((x ∷ []) ∷ []))
    by separates s = grind (arith, not-true, and_parts)
harmless-pieces (x ∷ y ∷ ys) e =
    let told = and_parts (not (begins_with_nul_or_dot_pair (x ∷ y ∷ ys))) (has_no_nul_or_dot_pair (y ∷ ys)) e in
    let front = or_parts (x == 0) (x == dot && y == dot) (not-true _ told.0) in
    by (x == slash) refl front.0 front.1 (harmless-pieces (y ∷ ys) told.1)
  where
    by : (separates : Bool) → (x == slash) ≡ separates → (x == 0) ≡ false → (x == dot && y == dot) ≡ false
        → AllByRecursion IsHarmlessPiece (pieces Slash (y ∷ ys)) → AllByRecursion IsHarmlessPiece (cond separates ([] ∷ pieces Slash (y ∷ ys)) (onto_first x (pieces Slash (y ∷ ys))))
    by separates s allowed apart all = grind (arith, put_onto, pieces)

-- a component that offends nowhere
abbrev IsHarmless : Kind → Type 0
IsHarmless k = (before : List Kind) → offence unix before k ≡ None

abbrev IsHarmlessPart : Part → Type 0
IsHarmlessPart p = IsHarmless p.kind

-- the component of such a piece, by what the piece is
module _ (piece : List ℕ) (harmless : IsHarmlessPiece piece) where
  later : (empty dotted twice : Bool) → is_dot_dot piece ≡ twice
      → AllByRecursion IsHarmlessPart (if empty then [] else (if dotted then [] else (if twice then parent_part else name_part piece) ∷ []))
  later empty dotted twice e = grind arith

  first : (empty dotted twice : Bool) → empty ≡ false → is_dot_dot piece ≡ twice
      → IsHarmlessPart (if empty then root_part (root_text Slash) else (if dotted then current_part else (if twice then parent_part else name_part piece)))
  first empty dotted twice filled e = grind arith

harmless-later : (ps : List (List ℕ)) → AllByRecursion IsHarmlessPiece ps → AllByRecursion IsHarmlessPart (later_parts Slash ps)
harmless-later [] all = tt
harmless-later (p ∷ ps) all = grind (arith, common_steps, later_part, later_parts, later, harmless-later ps all.1)

-- components that offend nowhere are not refused
none_refused : (before : List Kind) (ps : List Part) → AllByRecursion IsHarmlessPart ps → fault_behind unix before (kinds ps) ≡ None
none_refused before [] all = refl
none_refused before (p ∷ ps) all =
    ap (λ o. option_or o (fault_behind unix (before ++ p.kind ∷ []) (kinds ps))) (all.0 before) ∙ none_refused (before ++ p.kind ∷ []) ps all.1

-- a path that does not begin with a separator has something in its first piece
whole : (b : ℕ) (bs : List ℕ) → (b == slash) ≡ false → has_no_nul_or_dot_pair (b ∷ bs) ≡ true → AllByRecursion IsHarmlessPart (body_parts Slash (b ∷ bs))
whole b bs relative harmless = by (slice_split-some (is_separator Slash) bs) (harmless-pieces (b ∷ bs) harmless)
  where
    by : (some : (piece : List ℕ) × (rest : List (List ℕ)) × (slice_split (is_separator Slash) bs ≡ piece ∷ rest)) → AllByRecursion IsHarmlessPiece (pieces Slash (b ∷ bs)) → AllByRecursion IsHarmlessPart (first_parts Slash (pieces Slash (b ∷ bs)))
    by some all = grind (arith, pieces, first_parts, first, harmless-later)

not_first : (b : ℕ) (bs : List ℕ) → starts_with nat_eq (b ∷ bs) (slash ∷ []) ≡ false → (b == slash) ≡ false
not_first b bs e = ne_eqb b slash (λ h. eqb-false slash b (sym (and-true (slash == b)) ∙ e) (sym h))

-- a path without a root that does no harm is not refused
pub harmless : (path : List ℕ) → has_no_nul_or_dot_pair path ≡ true → starts_with nat_eq path (slash ∷ []) ≡ false → fault unix path ≡ None
harmless path e relative = grind (arith, common_steps, parts-body, none_refused, body_parts, whole, not_first)

-- The place of a list with more behind it.

-- where a list leads
abbrev pub place_of : List Part → List Kind
place_of ps = with_implied_root (kinds (resolve ps))

-- names behind a list change no root in it
with_implied_root-append : (ks ls : List Kind) → no_heads ls ≡ true → with_implied_root (ks ++ ls) ≡ with_implied_root ks ++ ls
with_implied_root-append ks ls headless = grind arith

-- what takes nothing away and has no prefix and no root is put behind a place
pub place_of-append : (ps qs : List Part) → overdraws zero (kinds qs) ≡ false → no_heads (kinds (resolve qs)) ≡ true → place_of (ps ++ qs) ≡ place_of ps ++ kinds (resolve qs)
place_of-append ps qs closed headless = grind (arith, resolve-append, map-append, with_implied_root-append)

-- behind a prefix that is no drive a root put in by hand changes no place
pub place_of-rooted : (p : Prefix) (raw text : List ℕ) (qs : List Part) → is_disk p ≡ false → no_heads (kinds (resolve qs)) ≡ true
    → place_of (prefix_part p raw ∷ root_part text ∷ qs) ≡ place_of (prefix_part p raw ∷ qs)
place_of-rooted p raw text qs no_drive headless = rw (no_drive, no_heads-relative (kinds (resolve qs)) headless) refl
