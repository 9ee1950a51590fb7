-- The parents and names that are kept of a path, put behind a head segment by segment.
use Rattle.std.proofs.Common.{◌≡◌, ℕ, ◌+◌, ◌-◌, ◌<◌, ◌≤◌, ◌==◌, ◌||◌, Bool, true, false, cond, List, [], ◌∷◌, ◌++◌, map, replicate, fold, length, take, refl, sym, ap, ap₂, ◌∙◌, append_assoc, append-nil, arith, subst, length-append, length-take, drop}
use Rattle.std.specs.List.{AllByRecursion, list_all, slice_split}
use Rattle.std.proofs.lemmas.Bool.{and_parts, or_parts, not-true, both_ways}
use Rattle.std.proofs.lemmas.List.{map-append, replicate_more, length-replicate}
use Rattle.typed_path.specs.declared.scan.names.Leading.TheVariants.{Whole, First}
use Rattle.typed_path.specs.declared.scan.separators.Separators.{Separators}
use Rattle.typed_path.specs.components.{dot, is_separator, root_text, Kind, current, parent, normal, Part, root_part, current_part, parent_part, name_part, parts, kinds, is_dot, is_dot_dot, component, first, body}
use Rattle.typed_path.specs.changes.{is_name_piece}
use Rattle.typed_path.specs.places.{unmet, kept_names, row_end, rows_of, settled, AreRowsOf, ArePut, AreKept, TellsNamesOf, dots, kept_segments, segment_kind, segment_kinds}
use Rattle.typed_path.proofs.lemmas.lists.Lists.{IsUnseparated, slice_split-some, slice_split-unseparated, AllByRecursion-append, all-front, take-ended}
use Rattle.typed_path.proofs.lemmas.components.Segments.{pieces, later_parts, first_parts, body_parts, parts-body}
use Rattle.typed_path.proofs.lemmas.places.KeptNames.{AlikeKept, kept_names-append, unmet-names, kept-names}
use Rattle.typed_path.proofs.lemmas.places.KeptFromBack.{alike-append, alike-cons, met-alike}
use Rattle.typed_path.proofs.lemmas.places.UnixRows.{Ended, none, some, ended, rows-append, rows-more, told-by_kind}

-- What is kept of names and of segments behind them.

-- lists that begin with the same names, and go on alike
names-alike : (names : List (List ℕ)) (ks ls : List Kind) → AlikeKept ks ls → AlikeKept (map normal names ++ ks) (map normal names ++ ls)
names-alike names ks ls h = alike-append (map normal names) ks ls h

-- what counts for nothing
passed-alike : (ks : List Kind) → AlikeKept (current ∷ ks) ks
passed-alike ks = record { unmet = refl; names = refl }

-- one name more
names-more : (names : List (List ℕ)) (name : List ℕ) (ks : List Kind) → map normal (names ++ name ∷ []) ++ ks ≡ map normal names ++ normal name ∷ ks
names-more names name ks = ap (λ js. js ++ ks) (map-append normal names (name ∷ [])) ∙ append_assoc (map normal names) (normal name ∷ []) ks

-- a parent behind a name takes it away
names-met : (names : List (List ℕ)) (name : List ℕ) (ks : List Kind) → AlikeKept (map normal (names ++ name ∷ []) ++ parent ∷ ks) (map normal names ++ ks)
names-met names name ks =
    let h = names-alike names (normal name ∷ parent ∷ ks) ks (met-alike name ks) in
    let e = names-more names name (parent ∷ ks) in
    record { unmet = ap unmet e ∙ h.unmet; names = ap kept_names e ∙ h.names }

-- segments settle into the names that are kept
settled-step : (names : List (List ℕ)) (segment : List ℕ) (ks : List Kind) → kept_names (map normal (settled names segment) ++ ks) ≡ kept_names (map normal names ++ segment_kind segment ∷ ks)
settled-step names segment ks = by (length segment == 0) (is_dot segment) (is_dot_dot segment)
  where
    parent_ends : (ns : List (List ℕ)) → Ended ns → kept_names (map normal (take (length ns - 1) ns) ++ ks) ≡ kept_names (map normal ns ++ parent ∷ ks)
    parent_ends ns h = grind (arith, none, some, take-ended, names-met)

    by : (empty dotted twice : Bool)
        → kept_names (map normal (cond (empty || dotted) names (cond twice (take (length names - 1) names) (names ++ segment ∷ []))) ++ ks)
        ≡ kept_names (map normal names ++ cond (empty || dotted) current (cond twice parent (normal segment)) ∷ ks)
    by true dotted twice = sym (names-alike names (current ∷ ks) ks (passed-alike ks)).names
    by false true twice = sym (names-alike names (current ∷ ks) ks (passed-alike ks)).names
    by false false true = parent_ends names (ended names)
    by false false false = ap kept_names (names-more names segment ks)

pub settled-kept : (segments : List (List ℕ)) (names : List (List ℕ)) → fold settled names segments ≡ kept_names (map normal names ++ map segment_kind segments)
settled-kept [] names = sym (ap kept_names (append-nil (map normal names)) ∙ kept-names names)
settled-kept (segment ∷ segments) names = settled-kept segments (settled names segment) ∙ settled-step names segment (map segment_kind segments)

-- so what settles alike behind all names is kept alike
pub alike-settled : (ss ts : List (List ℕ)) → ((names : List (List ℕ)) → fold settled names ss ≡ fold settled names ts) → AlikeKept (map segment_kind ss) (map segment_kind ts)
alike-settled ss ts same = record {
  unmet = omega (arith, counts ss, counts ts, ap length (same names), ap length (same []), ap length (settled-kept ss []), ap length (settled-kept ts []));
  names = sym (settled-kept ss []) ∙ same [] ∙ settled-kept ts [];
}
  where
    n : ℕ
    n = unmet (map segment_kind ss) + unmet (map segment_kind ts)

    names : List (List ℕ)
    names = replicate n []

    counts : (us : List (List ℕ)) → length (fold settled names us) ≡ (n - unmet (map segment_kind us)) + length (kept_names (map segment_kind us))
    counts us = grind (arith, names, n, kept-names, length-replicate, settled-kept, kept_names-append, length-append, length-take)

-- The components of a body are kept as its segments are.

later-alike : (s : Separators) (ps : List (List ℕ)) → AlikeKept (kinds (later_parts s ps)) (map segment_kind ps)
later-alike s [] = grind arith
later-alike s (p ∷ ps) = grind (arith, later_parts, alike-cons, later-alike s ps)

first-alike : (s : Separators) (p : List ℕ) (ps : List (List ℕ)) → AlikeKept (kinds (first_parts s (p ∷ ps))) (map segment_kind (p ∷ ps))
first-alike s p ps = by (length p == 0) (is_dot p) (is_dot_dot p)
  where
    rest : AlikeKept (kinds (later_parts s ps)) (map segment_kind ps)
    rest = later-alike s ps

    by : (empty dotted twice : Bool)
        → AlikeKept (kinds (cond empty (root_part (root_text s)) (cond dotted current_part (cond twice parent_part (name_part p))) ∷ later_parts s ps))
        (cond (empty || dotted) current (cond twice parent (normal p)) ∷ map segment_kind ps)
    by empty dotted twice = grind (arith, rest, alike-cons)

pub body-alike : (s : Separators) (at : ℕ) (text : List ℕ) → AlikeKept (kinds (parts (body s at text))) (segment_kinds s text)
body-alike s at text = subst (λ ps. AlikeKept (kinds ps) (segment_kinds s text)) (sym (parts-body s at text)) (by text)
  where
    by : (t : List ℕ) → AlikeKept (kinds (body_parts s t)) (segment_kinds s t)
    by [] = record { unmet = refl; names = refl }
    by (b ∷ bs) =
        let pieces_some = slice_split-some (is_separator s) (b ∷ bs) in
        subst (λ ps. AlikeKept (kinds (first_parts s ps)) (map segment_kind ps)) (sym pieces_some.2) (first-alike s pieces_some.0 pieces_some.1)

-- What a segment is, by the component that it is as a first one.

abbrev pub kind_by : List ℕ → Kind → Kind
kind_by segment parent = parent
kind_by segment (normal name) = normal segment
kind_by segment k = current

pub segment-kind : (s : Separators) (segment : List ℕ) (p : Part) → first s (record { text = segment; start = 0 }) ≡ component p 0 → segment_kind segment ≡ kind_by segment p.kind
segment-kind s segment p e = told-by_kind (kind_by segment) s segment p refl e

-- a parent is written as two dots
pub parent-dots : (segment : List ℕ) → segment_kind segment ≡ parent → segment ≡ dot ∷ dot ∷ []
parent-dots segment e = grind arith

-- names are kinds of their own
piece-kinds : (names : List (List ℕ)) → list_all is_name_piece names ≡ true → map segment_kind names ≡ map normal names
piece-kinds [] all = refl
piece-kinds (name ∷ names) all =
    let both = and_parts (is_name_piece name) (list_all is_name_piece names) all in
    ap₂ (λ k ks. k ∷ ks) (own (not-true _ both.0)) (piece-kinds names both.1)
  where
    own : ((length name == 0) || is_dot name || is_dot_dot name) ≡ false → segment_kind name ≡ normal name
    own e = let last = or_parts ((length name == 0) || is_dot name) (is_dot_dot name) e in rw (last.0, last.1) refl

-- Parents and names behind a head, as more segments come.

module _ (s : Separators) (anchored : Bool) (head : List ℕ) where
  -- nothing is put yet
  pub kept-start : (text : List ℕ) (floor : ℕ) (whole : List Kind) → text ≡ head → floor ≡ length head → AreKept s anchored head text floor whole whole
  kept-start text floor whole e size = grind (arith, append-nil)

  module _ (text : List ℕ) (floor : ℕ) (whole : List Kind) where
    -- what is to come may be read otherwise
    pub kept-alike : (rest other : List Kind) → AlikeKept rest other → AreKept s anchored head text floor rest whole → AreKept s anchored head text floor other whole
    kept-alike rest other alike are =
        let h = names-alike are.names rest other alike in
        record {
          over = are.over;
          names = are.names;
          rows = are.rows;
          begin = are.begin;
          fixed = are.fixed;
          left = sym h.names ∙ are.left;
          rises = λ f. ap (λ n. are.over + n) (sym h.unmet) ∙ are.rises f;
        }

    -- a segment that counts for nothing
    pub kept-passed : (rest : List Kind) → AreKept s anchored head text floor (current ∷ rest) whole → AreKept s anchored head text floor rest whole
    kept-passed rest are = kept-alike (current ∷ rest) rest (passed-alike rest) are

    -- a name
    pub kept-name : (new name : List ℕ) (rest : List Kind) → new ≡ (text ++ name) ++ row_end s ∷ [] → IsUnseparated (is_separator s) name
        → AreKept s anchored head text floor (normal name ∷ rest) whole → AreKept s anchored head new floor rest whole
    kept-name new name rest e unseparated are =
        let front = head ++ rows_of s (dots are.over) in
        let same = names-more are.names name rest in
        record {
          over = are.over;
          names = are.names ++ name ∷ [];
          rows = record {
            unseparated = AllByRecursion-append (IsUnseparated (is_separator s)) are.names (name ∷ []) are.rows.unseparated (unseparated, tt);
            is = e ∙ ap (λ t. (t ++ name) ++ row_end s ∷ []) are.rows.is ∙ sym (rows-more s front are.names name);
          };
          begin = are.begin;
          fixed = are.fixed;
          left = ap kept_names same ∙ are.left;
          rises = λ f. ap (λ ks. are.over + unmet ks) same ∙ are.rises f;
        }

    -- names that are put at once
    pub kept-put : (new : List ℕ) (rest later : List (List ℕ)) → AllByRecursion (IsUnseparated (is_separator s)) rest → ArePut s text new rest later
        → AreKept s anchored head text floor (map segment_kind rest) whole → AreKept s anchored head new floor (map segment_kind later) whole
    kept-put new rest later segmented put are =
        let front = head ++ rows_of s (dots are.over) in
        let own : map segment_kind rest ≡ map normal put.names ++ map segment_kind later =
        ap (map segment_kind) put.parted ∙ map-append segment_kind put.names later ∙ ap (λ ks. ks ++ map segment_kind later) (piece-kinds put.names put.named) in
        let same : map normal (are.names ++ put.names) ++ map segment_kind later ≡ map normal are.names ++ map segment_kind rest =
        ap (λ ks. ks ++ map segment_kind later) (map-append normal are.names put.names)
        ∙ append_assoc (map normal are.names) (map normal put.names) (map segment_kind later)
        ∙ ap (λ ks. map normal are.names ++ ks) (sym own) in
        record {
          over = are.over;
          names = are.names ++ put.names;
          rows = record {
            unseparated =
                AllByRecursion-append (IsUnseparated (is_separator s)) are.names put.names are.rows.unseparated
                (all-front (IsUnseparated (is_separator s)) put.names later (subst (AllByRecursion (IsUnseparated (is_separator s))) put.parted segmented));
            is =
                put.is
                ∙ ap (λ t. t ++ rows_of s put.names) are.rows.is
                ∙ append_assoc front (rows_of s are.names) (rows_of s put.names)
                ∙ ap (λ t. front ++ t) (sym (rows-append s are.names put.names));
          };
          begin = are.begin;
          fixed = are.fixed;
          left = ap kept_names same ∙ are.left;
          rises = λ f. ap (λ ks. are.over + unmet ks) same ∙ are.rises f;
        }

    -- a parent takes the last name away; where none is there, it is passed over, which is so of anchored paths alone
    pub kept-parent : (new : List ℕ) (rest : List Kind)
        → ((front : List ℕ) (names : List (List ℕ)) → length front ≡ floor → AreRowsOf s text front names → new ≡ front ++ rows_of s (take (length names - 1) names))
        → (anchored ≡ false → floor < length text) → AreKept s anchored head text floor (parent ∷ rest) whole → AreKept s anchored head new floor rest whole
    kept-parent new rest dropped filled are = by are.names (ended are.names) are.rows are.left are.rises
      where
        front : List ℕ
        front = head ++ rows_of s (dots are.over)

        by : (ns : List (List ℕ)) → Ended ns → AreRowsOf s text front ns → kept_names (map normal ns ++ parent ∷ rest) ≡ kept_names whole
            → (anchored ≡ false → are.over + unmet (map normal ns ++ parent ∷ rest) ≡ unmet whole) → AreKept s anchored head new floor rest whole
        by _ none rows left rises = grind (arith, none, front, append-nil)
        by _ (some ns n) rows left rises = grind (arith, some, names-met, all-front, front, take-ended)

    -- a parent that finds no name is kept, where the path is not anchored
    pub kept-over : (new : List ℕ) (next : ℕ) (rest : List Kind) → anchored ≡ false → length text ≤ floor → new ≡ (text ++ dot ∷ dot ∷ []) ++ row_end s ∷ [] → next ≡ length new
        → AreKept s anchored head text floor (parent ∷ rest) whole → AreKept s anchored head new next rest whole
    kept-over new next rest loose alone e size are = by are.names (ended are.names) are.rows.is are.left are.rises
      where
        front : ℕ → List ℕ
        front n = head ++ rows_of s (dots n)

        by : (ns : List (List ℕ)) → Ended ns → text ≡ front are.over ++ rows_of s ns → kept_names (map normal ns ++ parent ∷ rest) ≡ kept_names whole
            → (anchored ≡ false → are.over + unmet (map normal ns ++ parent ∷ rest) ≡ unmet whole) → AreKept s anchored head new next rest whole
        by _ none is left rises =
            let more : new ≡ front (are.over + 1) =
            e
            ∙ ap (λ t. (t ++ dot ∷ dot ∷ []) ++ row_end s ∷ []) (is ∙ append-nil (front are.over))
            ∙ sym (rows-more s head (dots are.over) (dot ∷ dot ∷ []))
            ∙ ap (λ ds. head ++ rows_of s ds) (replicate_more are.over (dot ∷ dot ∷ [])) in
            record {
              over = are.over + 1;
              names = [];
              rows = record { unseparated = tt; is = more ∙ sym (append-nil (front (are.over + 1))) };
              begin = size ∙ ap length more;
              fixed = λ f. absurd (both_ways anchored loose f);
              left = left;
              rises = λ f. omega (arith, rises f);
            }
        by _ (some ns n) is left rises = absurd (omega (
          arith,
          alone,
          are.begin,
          ap length (is ∙ rows-more s (front are.over) ns n),
          length-append ((front are.over ++ rows_of s ns) ++ n) (row_end s ∷ []),
          length-append (front are.over ++ rows_of s ns) n,
          length-append (front are.over) (rows_of s ns),
        ))

    -- nothing is left
    pub kept-end : AreKept s anchored head text floor [] whole → text ≡ head ++ rows_of s (kept_segments anchored whole)
    kept-end are = grind (arith, append_assoc, rows-append, kept-names, append-nil, unmet-names)

  -- one segment more of a text, and what is to come behind it, which may be read from further on
  pub kept-next : (text new : List ℕ) (floor next : ℕ) (whole : List Kind) (rest segment behind later : List ℕ) → pieces s rest ≡ segment ∷ pieces s behind
      → ((left : List Kind) → AreKept s anchored head text floor (segment_kind segment ∷ left) whole → AreKept s anchored head new next left whole)
      → ((names : List (List ℕ)) → fold settled names (pieces s behind) ≡ fold settled names (pieces s later))
      → AreKept s anchored head text floor (segment_kinds s rest) whole → AreKept s anchored head new next (segment_kinds s later) whole
  kept-next text new floor next whole rest segment behind later split settles same are =
      kept-alike new next whole (segment_kinds s behind) (segment_kinds s later) (alike-settled (pieces s behind) (pieces s later) same)
      (settles (segment_kinds s behind) (subst (λ ps. AreKept s anchored head text floor (map segment_kind ps) whole) split are))

  -- the last segment of a text
  pub kept-last : (text new : List ℕ) (floor next : ℕ) (whole : List Kind) (rest : List ℕ) → pieces s rest ≡ rest ∷ []
      → ((left : List Kind) → AreKept s anchored head text floor (segment_kind rest ∷ left) whole → AreKept s anchored head new next left whole)
      → AreKept s anchored head text floor (segment_kinds s rest) whole → new ≡ head ++ rows_of s (kept_segments anchored whole)
  kept-last text new floor next whole rest split settles are =
      kept-end new next whole (settles [] (subst (λ ps. AreKept s anchored head text floor (map segment_kind ps) whole) split are))

  -- the names at the front of a text
  pub kept-names_put : (text new : List ℕ) (floor : ℕ) (whole : List Kind) (rest : List ℕ) (later : List (List ℕ)) → ArePut s text new (pieces s rest) later
      → AreKept s anchored head text floor (segment_kinds s rest) whole → AreKept s anchored head new floor (map segment_kind later) whole
  kept-names_put text new floor whole rest later put are = kept-put text floor whole new (pieces s rest) later (slice_split-unseparated (is_separator s) rest) put are

-- what looks tell of the names at the front of a text
module _ (s : Separators) (path : List ℕ) where
  pub told-whole : TellsNamesOf s path Whole → list_all is_name_piece (pieces s path) ≡ true
  told-whole told = subst (λ p. list_all is_name_piece (slice_split p path) ≡ true) (λ i b. sym (told.1 b) i) told.2

  pub record Told (place : ℕ) : Type 0 where
    pub names : List (List ℕ)
    pub named : list_all is_name_piece names ≡ true
    pub parted : pieces s path ≡ names ++ pieces s (drop place path)

  pub told-before : (place : ℕ) → TellsNamesOf s path (First place) → Told place
  told-before place told = grind arith
