-- Texts of which looks at their bytes tell that all their pieces are names, and how such a text is merged and written.
use Rattle.std.proofs.Common.{◌≡◌, ℕ, zero, suc, ◌+◌, ◌-◌, ◌<◌, ◌≤◌, ◌==◌, Bool, true, false, not, ◌&&◌, ◌||◌, if◌then◌else◌, List, [], ◌∷◌, ◌++◌, map, length, take, drop, slice_index, refl, sym, ap, subst, ◌∙◌, append_assoc, append-nil, arith, ne_eqb, eq-eqb, eqb-true, ⊎_elim, length-append, length-drop}
use Rattle.std.proofs.lemmas.Grind.{common_steps}
use Rattle.std.specs.List.{list_all, slice_split, onto_first, AllByRecursion}
use Rattle.std.specs.Slice.Scan.{HoldsNowhere}
use Rattle.std.proofs.lemmas.Bool.{and_parts, or_parts, cases_lt}
use Rattle.std.proofs.lemmas.List.{drop-append-le, take_at, drop_at}
use Rattle.std.proofs.lemmas.List.Splits.{slice_split-cons_yes, slice_split-cons_no}
use Rattle.std.proofs.Math.Bool.{or_self}
use Rattle.typed_path.specs.declared.scan.separators.Separators.{Separators}
use Rattle.typed_path.specs.declared.scan.separators.Separators.TheVariants.{Backslash, Either}
use Rattle.typed_path.specs.components.{windows, dot, backslash, is_separator, is_verbatim, is_dot, is_dot_dot, is_empty, Part, parts, kinds, parent_part, name_part, parts_of, later_body}
use Rattle.typed_path.specs.queries.{has_prefix}
use Rattle.typed_path.specs.scan.{is_one_of, turned}
use Rattle.typed_path.specs.changes.{AreNamesBefore, begins_no_name, begins_no_name_at, is_component, is_name_piece, merged, names_behind, names_of, HoldsNames, IsStanding, Stands, jointed}
use Rattle.typed_path.proofs.lemmas.lists.Lists.{IsUnseparated, slice_split-some, slice_split-unseparated}
use Rattle.typed_path.proofs.lemmas.components.Segments.{pieces, first_part, later_part, first_parts, later_parts, parts-later_body}
use Rattle.typed_path.proofs.lemmas.components.PrefixCuts.{parts_of-none}
use Rattle.typed_path.proofs.lemmas.changes.WindowsPushes.{stands-more}
use Rattle.typed_path.proofs.lemmas.changes.MergedInPlace.{no-prefix}
use Rattle.typed_path.proofs.lemmas.components.FirmPrefixes.{filled-long}
use Rattle.typed_path.proofs.lemmas.components.Prefixes.{backslash-free}

-- ---- what the looks tell of the pieces
module _ (pair : ℕ × ℕ) where
  abbrev separates : ℕ → Bool
  separates b = is_one_of pair b

  -- no separator, and no dot with a separator or a dot behind it
  record IsOpened (a b : ℕ) : Type 0 where
    pub apart : separates a ≡ false
    pub undotted : (a == dot && (separates b || b == dot)) ≡ false

  opened : (a b : ℕ) → begins_no_name pair a b ≡ false → IsOpened a b
  opened a b e = let each = or_parts (separates a) (a == dot && (separates b || b == dot)) e in record { apart = each.0; undotted = each.1 }

  -- a piece with a byte is a name, where it is neither `.` nor `..`
  filled-name : (a : ℕ) (rest : List ℕ) → (is_dot (a ∷ rest) || is_dot_dot (a ∷ rest)) ≡ false → is_name_piece (a ∷ rest) ≡ true
  filled-name a rest e = ap (λ x. not (x || is_dot (a ∷ rest) || is_dot_dot (a ∷ rest))) (ne_eqb (length (a ∷ rest)) 0 (λ none. omega (arith, none))) ∙ ap not e

  -- a byte that is neither a separator nor a dot is a name
  alone-name : (a : ℕ) → begins_no_name pair a a ≡ false → (separates a ≡ false) × (is_name_piece (a ∷ []) ≡ true)
  alone-name a e = grind arith

  -- the first piece of a text that is so opened is a name
  first-name : (a b : ℕ) (bs : List ℕ) → begins_no_name pair a b ≡ false → (piece : List ℕ) × (pieces : List (List ℕ)) × (slice_split separates (a ∷ b ∷ bs) ≡ piece ∷ pieces) × (is_name_piece piece ≡ true)
  first-name a b bs e = by (separates b) refl
    where
      h : IsOpened a b
      h = opened a b e

      lone : (d : Bool) → (d && true) ≡ false → (d || false) ≡ false
      lone d i = grind arith

      two : (more : List ℕ) → (a == dot && b == dot) ≡ false → (is_dot (a ∷ b ∷ more) || is_dot_dot (a ∷ b ∷ more)) ≡ false
      two more i = grind arith

      by : (s : Bool) → separates b ≡ s → (piece : List ℕ) × (pieces : List (List ℕ)) × (slice_split separates (a ∷ b ∷ bs) ≡ piece ∷ pieces) × (is_name_piece piece ≡ true)
      by true is = (
        a ∷ [],
        slice_split separates bs,
        slice_split-cons_no separates a (b ∷ bs) h.apart ∙ ap (onto_first a) (slice_split-cons_yes separates b bs is),
        filled-name a [] (lone (a == dot) (ap (λ s. a == dot && (s || b == dot)) (sym is) ∙ h.undotted)),
      )
      by false is =
          let some = slice_split-some separates bs in (
            a ∷ b ∷ some.0,
            some.1,
            slice_split-cons_no separates a (b ∷ bs) h.apart ∙ ap (onto_first a) (slice_split-cons_no separates b bs is ∙ ap (onto_first b) some.2),
            filled-name a (b ∷ some.0) (two some.0 (ap (λ s. a == dot && (s || b == dot)) (sym is) ∙ h.undotted)),
          )

  -- with the names behind it, all are
  all-names : (split : List (List ℕ)) (piece : List ℕ) (pieces : List (List ℕ)) → split ≡ piece ∷ pieces → is_name_piece piece ≡ true → list_all is_name_piece (drop 1 split) ≡ true → list_all is_name_piece split ≡ true
  all-names split piece pieces is name later = grind arith

  -- what a place of a text tells is told behind its first byte
  place-behind : (b k : ℕ) (bs : List ℕ) → begins_no_name_at pair (b ∷ bs) (suc k) ≡ begins_no_name_at pair bs k
  place-behind b k bs = grind arith

  -- the last byte of a text is no separator, and no piece of its own that is no name
  record IsClosed (before last : ℕ) : Type 0 where
    pub apart : separates last ≡ false
    pub filled : (separates before && begins_no_name pair last last) ≡ false

  -- so all pieces but the first are names
  later-names : (b : ℕ) (bs : List ℕ) (before last : ℕ) → HoldsNowhere (begins_no_name_at pair (b ∷ bs)) 0 (length (b ∷ bs) - 2) → slice_index (b ∷ bs) (length bs - 1) ≡ before → slice_index (b ∷ bs) (length bs) ≡ last → IsClosed before last
      → list_all is_name_piece (drop 1 (slice_split separates (b ∷ bs))) ≡ true
  later-names b [] before last none at is end =
      ap (λ ps. list_all is_name_piece (drop 1 ps)) (slice_split-cons_no separates b [] (ap separates is ∙ end.apart))
  later-names b (c ∷ []) before last none at is end = by (separates b) refl
    where
      closed : separates c ≡ false
      closed = ap separates is ∙ end.apart

      by : (s : Bool) → separates b ≡ s → list_all is_name_piece (drop 1 (slice_split separates (b ∷ c ∷ []))) ≡ true
      by s e = grind (arith, alone-name, slice_split-cons_yes, slice_split-cons_no, closed)
  later-names b (c ∷ d ∷ ds) before last none at is end =
      let size : length (c ∷ d ∷ ds) - 1 ≡ suc (length (d ∷ ds) - 1) = omega arith in
      by (separates b) refl (later-names c (d ∷ ds) before last (λ k low high. sym (place-behind b k (c ∷ d ∷ ds)) ∙ none (suc k) (omega arith) (omega (arith, high))) (ap (slice_index (b ∷ c ∷ d ∷ ds)) (sym size) ∙ at) is end)
    where
      by : (s : Bool) → separates b ≡ s → list_all is_name_piece (drop 1 (slice_split separates (c ∷ d ∷ ds))) ≡ true → list_all is_name_piece (drop 1 (slice_split separates (b ∷ c ∷ d ∷ ds))) ≡ true
      by true e later =
          let named = first-name c d ds (ap (λ s. s && begins_no_name pair c d) (sym e) ∙ none 0 (omega arith) (omega arith)) in
          ap (λ ps. list_all is_name_piece (drop 1 ps)) (slice_split-cons_yes separates b (c ∷ d ∷ ds) e)
          ∙ all-names (slice_split separates (c ∷ d ∷ ds)) named.0 named.1 named.2 named.3 later
      by false e later =
          let some = slice_split-some separates (c ∷ d ∷ ds) in
          ap (λ ps. list_all is_name_piece (drop 1 ps)) (slice_split-cons_no separates b (c ∷ d ∷ ds) e ∙ ap (onto_first b) some.2)
          ∙ ap (λ ps. list_all is_name_piece (drop 1 ps)) (sym some.2)
          ∙ later

  -- and all are, where the text is opened as one is
  pub names-told : (text : List ℕ) (first second before last : ℕ) → 1 < length text → slice_index text 0 ≡ first → slice_index text 1 ≡ second → slice_index text (length text - 2) ≡ before → slice_index text (length text - 1) ≡ last
      → begins_no_name pair first second ≡ false → separates last ≡ false → (separates before && begins_no_name pair last last) ≡ false → HoldsNowhere (begins_no_name_at pair text) 0 (length text - 2) → list_all is_name_piece (slice_split separates text) ≡ true
  names-told [] first second before last long is it at end begin apart filled none = absurd (omega (arith, long))
  names-told (a ∷ []) first second before last long is it at end begin apart filled none = absurd (omega (arith, long))
  names-told (a ∷ b ∷ bs) first second before last long is it at end begin apart filled none =
      let named = first-name a b bs ((λ i. begins_no_name pair (is i) (it i)) ∙ begin) in
      let size : length (a ∷ b ∷ bs) - 1 ≡ length (b ∷ bs) = omega arith in
      let less : length (a ∷ b ∷ bs) - 2 ≡ length (b ∷ bs) - 1 = omega arith in
      all-names (slice_split separates (a ∷ b ∷ bs)) named.0 named.1 named.2 named.3
      (later-names a (b ∷ bs) before last none (ap (slice_index (a ∷ b ∷ bs)) (sym less) ∙ at) (ap (slice_index (a ∷ b ∷ bs)) (sym size) ∙ end) (record { apart = apart; filled = filled }))

  -- the pieces before a separator, of which all but the first are names
  record AreLed (text : List ℕ) (at : ℕ) : Type 0 where
    pub first : List ℕ
    pub names : List (List ℕ)
    pub named : list_all is_name_piece names ≡ true
    pub parted : slice_split separates text ≡ first ∷ (names ++ slice_split separates (drop (suc at) text))

  -- the first piece of a text that a separator ends is a name, where the text is opened as one is
  front-name : (b : ℕ) (bs : List ℕ) (at : ℕ) → at < length (b ∷ bs) → separates (slice_index (b ∷ bs) at) ≡ true → begins_no_name pair b (slice_index (b ∷ bs) 1) ≡ false
      → (piece : List ℕ) × (pieces : List (List ℕ)) × (slice_split separates (b ∷ bs) ≡ piece ∷ pieces) × (is_name_piece piece ≡ true)
  front-name b [] at within is begin = grind (arith, common_steps, opened)
  front-name b (c ∷ cs) at within is begin = first-name b c cs begin

  -- one list has one first piece
  same-name : {piece other : List ℕ} {pieces others ps : List (List ℕ)} → ps ≡ piece ∷ pieces → ps ≡ other ∷ others → is_name_piece other ≡ true → is_name_piece piece ≡ true
  same-name {piece} {other} {pieces} {others} is it name = let same : piece ≡ other = cc in ap is_name_piece same ∙ name

  -- before the first place that tells of no name they are
  led : (text : List ℕ) (at : ℕ) → at < length text → separates (slice_index text at) ≡ true → HoldsNowhere (begins_no_name_at pair text) 0 at → AreLed text at
  led [] at within is none = absurd (omega arith)
  led (b ∷ bs) zero within is none = record { first = []; names = []; named = refl; parted = slice_split-cons_yes separates b bs is }
  led (b ∷ []) (suc at) within is none = absurd (omega (arith, within))
  led (b ∷ c ∷ cs) (suc at) within is none =
      let later = led (c ∷ cs) at (omega (arith, within)) is (λ k low high. sym (place-behind b k (c ∷ cs)) ∙ none (suc k) (omega arith) (omega (arith, high))) in
      by (separates b) refl later
    where
      by : (s : Bool) → separates b ≡ s → AreLed (c ∷ cs) at → AreLed (b ∷ c ∷ cs) (suc at)
      by true e later =
          let front = front-name c cs at (omega (arith, within)) is (ap (λ s. s && begins_no_name pair c (slice_index (c ∷ cs) 1)) (sym e) ∙ none 0 (omega arith) (omega arith)) in
          let own : is_name_piece later.first ≡ true = same-name later.parted front.2 front.3 in
          record {
            first = [];
            names = later.first ∷ later.names;
            named = ap (λ x. x && list_all is_name_piece later.names) own ∙ later.named;
            parted = slice_split-cons_yes separates b (c ∷ cs) e ∙ ap (λ ps. [] ∷ ps) later.parted;
          }
      by false e later = record {
        first = b ∷ later.first;
        names = later.names;
        named = later.named;
        parted = slice_split-cons_no separates b (c ∷ cs) e ∙ ap (onto_first b) later.parted;
      }

  -- and all are, where the text is opened as one is
  pub names-before : (text : List ℕ) (first second at : ℕ) → at < length text → slice_index text 0 ≡ first → slice_index text 1 ≡ second → begins_no_name pair first second ≡ false
      → separates (slice_index text at) ≡ true → HoldsNowhere (begins_no_name_at pair text) 0 at → AreNamesBefore pair text (at + 1)
  names-before [] first second at within is it begin ends none = absurd (omega (arith, within))
  names-before (b ∷ bs) first second at within is it begin ends none =
      let text = b ∷ bs in
      let on : suc at ≡ at + 1 = omega arith in
      let later = led text at within ends none in
      let front = front-name b bs at within ends ((λ i. begins_no_name pair (is i) (it i)) ∙ begin) in
      record {
        names = later.first ∷ later.names;
        within = omega arith;
        named = ap (λ x. x && list_all is_name_piece later.names) (same-name later.parted front.2 front.3) ∙ later.named;
        parted = later.parted ∙ ap (λ k. (later.first ∷ later.names) ++ slice_split separates (drop k text)) on;
      }

  -- so are those of a text that ends with a separator
  pub names-ended : (text : List ℕ) (first second : ℕ) → 1 < length text → slice_index text 0 ≡ first → slice_index text 1 ≡ second → begins_no_name pair first second ≡ false
      → separates (slice_index text (length text - 2 + 1)) ≡ true → (separates (slice_index text (length text - 2)) && begins_no_name pair (slice_index text (length text - 2 + 1)) (slice_index text (length text - 2 + 1))) ≡ false
      → HoldsNowhere (begins_no_name_at pair text) 0 (length text - 2) → AreNamesBefore pair text (length text - 2 + 2)
  names-ended text first second long is it begin ends filled none =
      let to = length text - 2 in
      let two : to + 1 + 1 ≡ to + 2 = omega arith in
      subst (AreNamesBefore pair text) two
      (names-before text first second (to + 1) (omega (arith, long)) is it begin ends
      (λ k low high. ⊎_elim (none k low) (λ l. let here : k ≡ to = omega (arith, l, high) in ap (begins_no_name_at pair text) here ∙ by _ _ (separates (slice_index text to)) (separates (slice_index text (to + 1))) ends filled) (cases_lt k to)))
    where
      by : (x y before last : Bool) → last ≡ true → (before && (last || x)) ≡ false → (before && (last || y)) ≡ false
      by x y before last e h = grind arith

-- names are components
pub names-components : (s : Separators) (text : List ℕ) → list_all is_name_piece (slice_split (is_one_of (backslash, backslash)) text) ≡ true → true ≡ list_all (is_component s) (slice_split (is_separator Backslash) text)
names-components s text e = sym (ap (λ p. list_all (is_component s) (slice_split p text)) (λ i b. sym (or_self (b == backslash)) i) ∙ each (slice_split (is_one_of (backslash, backslash)) text) e)
  where
    one : (empty dotted twice verbatim : Bool) → not (empty || dotted || twice) ≡ true → not (empty || (dotted && not verbatim)) ≡ true
    one empty dotted twice verbatim h = grind arith

    each : (ps : List (List ℕ)) → list_all is_name_piece ps ≡ true → list_all (is_component s) ps ≡ true
    each [] h = refl
    each (p ∷ ps) h =
        let all = and_parts (is_name_piece p) (list_all is_name_piece ps) h in
        ap (λ x. x && list_all (is_component s) ps) (one (is_empty p) (is_dot p) (is_dot_dot p) (is_verbatim s) all.0) ∙ each ps all.1

-- ---- such a path, merged into what stands behind a prefix

-- a `.` in front of other pieces vanishes as they are merged
later-dot : (mark : ℕ) (rest : List ℕ) → is_separator Either mark ≡ true → parts (later_body Either 0 rest) ≡ parts (later_body Either 0 (dot ∷ mark ∷ rest))
later-dot mark rest is = grind (arith, parts-later_body, later_parts)

pub dot-cut : (path : List ℕ) → 2 ≤ length path → (slice_index path 0 == dot && is_separator Either (slice_index path 1)) ≡ true → parts (later_body Either 0 (take (length path - 2) (drop 2 path))) ≡ parts (later_body Either 0 path)
dot-cut path long is = grind (arith, common_steps, and_parts, later-dot, eqb-true)

-- a first piece that is not empty is merged as a later one
merged-first : (ps qs : List Part) (piece : List ℕ) → (length piece == 0) ≡ false → merged ps (first_part Either piece ∷ qs) ≡ merged ps (later_part Either piece ++ qs)
merged-first ps qs piece filled = grind arith

-- so is each of a path without a prefix and a root
merged-later : (b : ℕ) (bs : List ℕ) (ps : List Part) → has_prefix (kinds (parts_of windows (b ∷ bs))) ≡ false → is_separator Either b ≡ false
    → merged ps (parts_of windows (b ∷ bs)) ≡ merged ps (parts (later_body Either 0 (b ∷ bs)))
merged-later b bs ps no_prefix apart =
    let some = slice_split-some (is_separator Either) bs in
    let cut : pieces Either (b ∷ bs) ≡ (b ∷ some.0) ∷ some.1 = slice_split-cons_no (is_separator Either) b bs apart ∙ ap (onto_first b) some.2 in
    ap (merged ps) (parts_of-none (b ∷ bs) (no-prefix (b ∷ bs) no_prefix) ∙ ap (first_parts Either) cut)
    ∙ merged-first ps (later_parts Either some.1) (b ∷ some.0) (ne_eqb (length (b ∷ some.0)) 0 (λ none. omega (arith, none)))
    ∙ ap (merged ps) (sym (parts-later_body Either 0 (b ∷ bs) ∙ ap (later_parts Either) cut))

-- pieces that are names, as later ones
named-later : (ns : List (List ℕ)) → list_all is_name_piece ns ≡ true → later_parts Either ns ≡ map name_part ns
named-later [] e = refl
named-later (n ∷ ns) e =
    let all = and_parts (is_name_piece n) (list_all is_name_piece ns) e in
    (λ i. one (is_empty n) (is_dot n) (is_dot_dot n) all.0 i ++ named-later ns all.1 i)
  where
    one : (empty dotted twice : Bool) → not (empty || dotted || twice) ≡ true → (if empty then [] else (if dotted then [] else (if twice then parent_part else name_part n) ∷ [])) ≡ name_part n ∷ []
    one empty dotted twice h = grind arith

-- names are put behind as they are merged
merged-named : (ps : List Part) (ns : List (List ℕ)) → merged ps (map name_part ns) ≡ ps ++ map name_part ns
merged-named ps [] = sym (append-nil ps)
merged-named ps (n ∷ ns) = merged-named (ps ++ name_part n ∷ []) ns ∙ append_assoc ps (name_part n ∷ []) (map name_part ns)

-- a path that comes to names
pub merged-names : (path : List ℕ) (b : ℕ) (bs names : List ℕ) (ps : List Part) → path ≡ b ∷ bs → has_prefix (kinds (parts_of windows path)) ≡ false → is_separator Either b ≡ false
    → parts (later_body Either 0 names) ≡ parts (later_body Either 0 path) → HoldsNames names → merged ps (parts_of windows path) ≡ ps ++ names_of names
merged-names path b bs names ps is no_prefix apart same named =
    ap (λ t. merged ps (parts_of windows t)) is
    ∙ merged-later b bs ps (subst (λ t. has_prefix (kinds (parts_of windows t)) ≡ false) is no_prefix) apart
    ∙ ap (λ t. merged ps (parts (later_body Either 0 t))) (sym is)
    ∙ ap (merged ps) (sym same ∙ parts-later_body Either 0 names ∙ named-later (slice_split (is_separator Either) names) named)
    ∙ merged-named ps (slice_split (is_separator Either) names)

-- ---- names as they stand, and as they are written

-- each name stands
named-standing : (ns : List (List ℕ)) → list_all is_name_piece ns ≡ true → AllByRecursion (IsUnseparated (is_separator Either)) ns → AllByRecursion IsStanding (map name_part ns)
named-standing [] e free = tt
named-standing (n ∷ ns) e free =
    let all = and_parts (is_name_piece n) (list_all is_name_piece ns) e in (
      record { unprefixed = refl; relative = refl; filled = some (is_empty n) (is_dot n) (is_dot_dot n) all.0; unseparated = backslash-free Either refl n free.0; named = sym all.0 },
      named-standing ns all.1 free.1,
    )
  where
    some : (empty dotted twice : Bool) → not (empty || dotted || twice) ≡ true → empty ≡ false
    some empty dotted twice h = grind arith

-- names with `\` between them are the text with its separators turned
written-names : (text : List ℕ) → names_behind false (names_of text) ≡ turned Either backslash text
written-names [] = refl
written-names (b ∷ bs) = by (is_separator Either b) refl (slice_split-some (is_separator Either) bs) (written-names bs)
  where
    by : (s : Bool) → is_separator Either b ≡ s → (piece : List ℕ) × (others : List (List ℕ)) × (slice_split (is_separator Either) bs ≡ piece ∷ others) → names_behind false (names_of bs) ≡ turned Either backslash bs
        → names_behind false (names_of (b ∷ bs)) ≡ turned Either backslash (b ∷ bs)
    by s is h rest = grind (arith, slice_split-cons_yes, slice_split-cons_no)

-- more components behind what is longer than a root
stands-others : (parted : Bool) (ps qs : List Part) (text : List ℕ) → Stands parted ps text → 1 < length text → AllByRecursion IsStanding qs → Stands parted (ps ++ qs) (text ++ names_behind true qs)
stands-others parted ps [] text h long all = subst (λ rs. Stands parted rs (text ++ [])) (sym (append-nil ps)) (subst (Stands parted ps) (sym (append-nil text)) h)
stands-others parted ps (q ∷ qs) text h long all =
    let apart = text ++ backslash ∷ [] in
    let next = stands-more parted ps q text apart (apart ++ q.text) q.text h all.0 refl (λ one. absurd (omega (arith, one, long))) (λ other. refl) refl in
    let size : 1 < length (apart ++ q.text) = omega (arith, long, length-append apart q.text, length-append text (backslash ∷ [])) in
    subst (λ rs. Stands parted rs (text ++ names_behind true (q ∷ qs))) (append_assoc ps (q ∷ []) qs)
    (subst (Stands parted ((ps ++ q ∷ []) ++ qs)) (append_assoc apart q.text (names_behind true qs) ∙ append_assoc text (backslash ∷ []) (q.text ++ names_behind true qs))
    (stands-others parted (ps ++ q ∷ []) qs (apart ++ q.text) next size all.1))

-- names are put behind `\`, or at once behind a root alone
pub stands-names : (parted : Bool) (ps : List Part) (old middle new names : List ℕ) → Stands parted ps old → HoldsNames names → (length old ≡ 1 → middle ≡ old) → ((length old ≡ 1 → ⊥) → middle ≡ old ++ backslash ∷ [])
    → new ≡ middle ++ turned Either backslash names → Stands parted (ps ++ names_of names) new
stands-names parted ps old middle new names h named joined apart put =
    let some = slice_split-some (is_separator Either) names in
    let piece = some.0 in
    let others = map name_part some.1 in
    let list : names_of names ≡ name_part piece ∷ others = ap (map name_part) some.2 in
    let all : AllByRecursion IsStanding (name_part piece ∷ others) =
    subst (AllByRecursion IsStanding) list (named-standing (slice_split (is_separator Either) names) named (slice_split-unseparated (is_separator Either) names)) in
    let first = stands-more parted ps (name_part piece) old middle (middle ++ piece) piece h all.0 refl joined apart refl in
    let size : 1 < length (middle ++ piece) = omega (arith, length-append middle piece, filled-long piece all.0.filled, some-middle) in
    subst (λ rs. Stands parted (ps ++ rs) new) (sym list)
    (subst (λ rs. Stands parted rs new) (append_assoc ps (name_part piece ∷ []) others)
    (subst (Stands parted ((ps ++ name_part piece ∷ []) ++ others)) (append_assoc middle piece (names_behind true others) ∙ ap (λ t. middle ++ t) (ap (names_behind false) (sym list) ∙ written-names names) ∙ sym put)
    (stands-others parted (ps ++ name_part piece ∷ []) others (middle ++ piece) first size all.1)))
  where
    some-middle : 0 < length middle
    some-middle = by (length old == 1) refl
      where
        by : (b : Bool) → (length old == 1) ≡ b → 0 < length middle
        by b e = grind (arith, eqb-true, eq-eqb, length-append)

-- a text with `\` behind it, unless one byte stands behind its head
pub jointed-joined : (head : ℕ) (text : List ℕ) → head ≤ length text → length (drop head text) ≡ 1 → drop head (jointed head text) ≡ drop head text
jointed-joined head text within one = ap (λ b. drop head (if b then text else text ++ backslash ∷ [])) (eq-eqb (length text) (head + 1) (omega (arith, one, within, length-drop head text)))

pub jointed-apart : (head : ℕ) (text : List ℕ) → head ≤ length text → (length (drop head text) ≡ 1 → ⊥) → drop head (jointed head text) ≡ drop head text ++ backslash ∷ []
jointed-apart head text within other = grind (arith, length-drop, drop-append-le)

pub jointed-long : (head : ℕ) (text : List ℕ) → head ≤ length text → head ≤ length (jointed head text)
jointed-long head text within = grind (arith, length-append)

-- the last bytes of a text, with their separators turned
pub turned-end : (front names items new : List ℕ) (from : ℕ) → items ≡ front ++ names → from + length names ≡ length items → new ≡ take from items ++ turned Either backslash (drop from items)
    → new ≡ front ++ turned Either backslash names
turned-end front names items new from is size turns = grind (arith, length-append, take_at, drop_at)
