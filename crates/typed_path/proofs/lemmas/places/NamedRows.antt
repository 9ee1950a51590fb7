-- The rows of names that stand side by side in a text: its bytes there, put behind what is settled.
use Rattle.std.proofs.Common.{◌≡◌, ℕ, ◌==◌, ◌||◌, true, false, if◌then◌else◌, List, [], ◌∷◌, ◌++◌, take, drop, fold, refl, sym, ap, ◌∙◌, subst, append_assoc, append-nil, length}
use Rattle.std.specs.List.{list_all, list_any, AllByRecursion}
use Rattle.std.proofs.lemmas.Bool.{and_parts, or_parts, not-true}
use Rattle.std.proofs.lemmas.List.{append_cancel_right, take-append-drop, map-append}
use Rattle.std.proofs.lemmas.List.Sums.{fold-append}
use Rattle.typed_path.specs.declared.scan.separators.Separators.{Separators}
use Rattle.typed_path.specs.declared.scan.separators.Separators.TheVariants.{Either}
use Rattle.typed_path.specs.components.{colon, is_separator, is_dot, is_dot_dot}
use Rattle.typed_path.specs.changes.{is_name_piece}
use Rattle.typed_path.specs.scan.{is_one_of, turned}
use Rattle.typed_path.specs.places.{row_end, rows_of, settled, names_left_of, AreRowsOf, ArePut, HaveNoDisks}
use Rattle.typed_path.proofs.lemmas.lists.Lists.{IsUnseparated, slice_split-unseparated, AllByRecursion-append, AllByRecursion-weaker, all-front}
use Rattle.typed_path.proofs.lemmas.components.Segments.{pieces}
use Rattle.typed_path.proofs.lemmas.conversions.TurnedPaths.{pieces-turned, pieces-free, undriven}
use Rattle.typed_path.proofs.lemmas.places.UnixRows.{Standing, rows-append}

-- names settle one behind the other
settled-names : (names ps : List (List ℕ)) → list_all is_name_piece ps ≡ true → fold settled names ps ≡ names ++ ps
settled-names names [] all = sym (append-nil names)
settled-names names (p ∷ ps) all =
    let both = and_parts (is_name_piece p) (list_all is_name_piece ps) all in
    ap (λ ns. fold settled ns ps) (own (not-true _ both.0)) ∙ settled-names (names ++ p ∷ []) ps both.1 ∙ append_assoc names (p ∷ []) ps
  where
    own : ((length p == 0) || is_dot p || is_dot_dot p) ≡ false → settled names p ≡ names ++ p ∷ []
    own e = let last = or_parts ((length p == 0) || is_dot p) (is_dot_dot p) e in rw (last.0, last.1) refl

-- the rows of the pieces before a place are the bytes there
front-rows : (s : Separators) (text : List ℕ) (place : ℕ) (names : List (List ℕ)) → pieces s text ≡ names ++ pieces s (drop place text) → turned s (row_end s) (take place text) ≡ rows_of s names
front-rows s text place names parted =
    let e = row_end s in
    let front = turned s e (take place text) in
    let rest = drop place text in
    append_cancel_right front (rows_of s names) (rows_of s (pieces s rest))
    (ap (λ t. front ++ t) (pieces-turned s e rest)
    ∙ sym (append_assoc front (turned s e rest) (e ∷ []))
    ∙ ap (λ t. t ++ e ∷ []) (sym (map-append (λ c. if is_separator s c then e else c) (take place text) rest) ∙ ap (turned s e) (take-append-drop place text))
    ∙ sym (pieces-turned s e text)
    ∙ ap (rows_of s) parted
    ∙ rows-append s names (pieces s rest))

module _ (s : Separators) (old new path : List ℕ) where
  -- so are names before a place put
  pub put-before : (place : ℕ) (names : List (List ℕ)) → list_all is_name_piece names ≡ true → pieces s path ≡ names ++ pieces s (drop place path) → new ≡ old ++ turned s (row_end s) (take place path)
      → ArePut s old new (pieces s path) (pieces s (drop place path))
  put-before place names named parted put = record { names = names; named = named; parted = parted; is = put ∙ ap (λ t. old ++ t) (front-rows s path place names parted) }

  -- and a text that holds names alone, with a separator behind it
  pub put-whole : list_all is_name_piece (pieces s path) ≡ true → new ≡ (old ++ turned s (row_end s) path) ++ row_end s ∷ [] → ArePut s old new (pieces s path) []
  put-whole named put = record {
    names = pieces s path;
    named = named;
    parted = sym (append-nil (pieces s path));
    is = put ∙ append_assoc old (turned s (row_end s) path) (row_end s ∷ []) ∙ ap (λ t. old ++ t) (sym (pieces-turned s (row_end s) path));
  }

module _ (s : Separators) (P : List ℕ → Type 0) (text new head rest whole : List ℕ) (later : List (List ℕ))
    (every : AllByRecursion P (pieces s rest)) (put : ArePut s text new (pieces s rest) later) (stands : Standing s P text head rest whole) where
  -- the names that stand once more of them are put
  abbrev more-names : List (List ℕ)
  more-names = stands.names ++ put.names

  more-rows : AreRowsOf s new head more-names
  more-rows = record {
    unseparated =
        AllByRecursion-append (IsUnseparated (is_separator s)) stands.names put.names stands.rows.unseparated
        (all-front (IsUnseparated (is_separator s)) put.names later (subst (AllByRecursion (IsUnseparated (is_separator s))) put.parted (slice_split-unseparated (is_separator s) rest)));
    is =
        put.is
        ∙ ap (λ t. t ++ rows_of s put.names) stands.rows.is
        ∙ append_assoc head (rows_of s stands.names) (rows_of s put.names)
        ∙ ap (λ t. head ++ t) (sym (rows-append s stands.names put.names));
  }

  more-each : AllByRecursion P more-names
  more-each = AllByRecursion-append P stands.names put.names stands.each (all-front P put.names later (subst (AllByRecursion P) put.parted every))

  more-left : names_left_of s whole ≡ fold settled more-names later
  more-left =
      stands.left
      ∙ ap (fold settled stands.names) put.parted
      ∙ fold-append settled stands.names put.names later
      ∙ ap (λ ns. fold settled ns later) (settled-names stands.names put.names put.named)

module _ (s : Separators) (P : List ℕ → Type 0) (text new head rest whole : List ℕ) (every : AllByRecursion P (pieces s rest)) (stands : Standing s P text head rest whole) where
  -- where more is to come, they stand before it
  pub standing-put : (behind : List ℕ) → ArePut s text new (pieces s rest) (pieces s behind) → Standing s P new head behind whole
  standing-put behind put = record {
    names = more-names s P text new head rest whole (pieces s behind) every put stands;
    rows = more-rows s P text new head rest whole (pieces s behind) every put stands;
    each = more-each s P text new head rest whole (pieces s behind) every put stands;
    left = more-left s P text new head rest whole (pieces s behind) every put stands;
  }

  -- where nothing is, they are all that are left
  pub standing-whole : ArePut s text new (pieces s rest) [] → new ≡ head ++ rows_of s (names_left_of s whole)
  standing-whole put = let rows = more-rows s P text new head rest whole [] every put stands in rows.is ∙ ap (λ ns. head ++ rows_of s ns) (sym (more-left s P text new head rest whole [] every put stands))

  pub whole-each : ArePut s text new (pieces s rest) [] → AllByRecursion P (names_left_of s whole)
  whole-each put = subst (AllByRecursion P) (sym (more-left s P text new head rest whole [] every put stands)) (more-each s P text new head rest whole [] every put stands)

-- no piece of a text begins with a drive in which no colon stands
pub free-pieces : (text : List ℕ) → list_any (is_one_of (colon, colon)) text ≡ false → HaveNoDisks (pieces Either text)
free-pieces text free = AllByRecursion-weaker _ _ (λ piece none. undriven colon piece none) (pieces Either text) (pieces-free Either (is_one_of (colon, colon)) text free)

-- what is still to come of a path in which none does begins with none
pub put-drives : (old new : List ℕ) (ps later : List (List ℕ)) → ArePut Either old new ps later → HaveNoDisks ps → HaveNoDisks later
put-drives old new ps later put none = by put.names (subst HaveNoDisks put.parted none)
  where
    by : (names : List (List ℕ)) → HaveNoDisks (names ++ later) → HaveNoDisks later
    by [] each = each
    by (name ∷ names) each = by names each.1
