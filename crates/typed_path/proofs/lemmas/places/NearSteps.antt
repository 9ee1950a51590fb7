-- Two texts that go on with names alone behind the components that both begin with: the steps from one to the other, and how they are written.
-- Names that are read between separators of which `/` is one hold none.
use Rattle.std.proofs.Common.{◌≡◌, ℕ, zero, suc, ◌+◌, ◌-◌, ◌==◌, Bool, true, false, cond, List, [], ◌∷◌, ◌++◌, map, if◌then◌else◌, length, take, drop, refl, sym, ap, ap₂, subst, ◌∙◌, append_assoc, append-nil, arith, length-append, add-one, Ordering}
use Rattle.std.proofs.lemmas.Grind.{common_steps}
use Rattle.std.specs.List.{AllByRecursion, list_all, before_first}
use Rattle.std.specs.Ordering.{is_ne}
use Rattle.std.specs.Cmp.Lexicographic.{bytes_decides}
use Rattle.std.proofs.lemmas.Bool.{and_parts, eq-eqb}
use Rattle.std.proofs.lemmas.List.{append_cancel_right, drop_at, map-append, take_rest}
use Rattle.typed_path.specs.declared.scan.separators.Separators.{Separators}
use Rattle.typed_path.specs.components.{Dialect, unix, windows, dot, is_separator, is_verbatim, is_dot, is_dot_dot, Kind, normal, Part, Placed, kinds, parts, body, later_body, current_part, parent_part, name_part, slash}
use Rattle.typed_path.specs.changes.{is_name_piece}
use Rattle.typed_path.specs.order.{bytes_cmp}
use Rattle.typed_path.specs.scan.{IsParting, turned, body_from}
use Rattle.typed_path.specs.places.{AreAlone, AreNearSteps, PartInNames, PartInto, bare_separators, can_stand, dots, is_anchored, kept_names, met_count, names_down, rising, row_end, rows_of, same_heads, shared_count, unmet}
use Rattle.typed_path.proofs.lemmas.lists.Lists.{IsUnseparated, slice_split-unseparated, AllByRecursion-weaker, all-front, pieces-first}
use Rattle.typed_path.proofs.lemmas.components.Segments.{first_parts, later_part, later_parts, parts-body, parts-later_body, pieces, IsCleanName, IsLaterPart, IsWritten-later, IsWrittenPart, body_parts, body_parts-read, each-written, later_parts-later}
use Rattle.typed_path.proofs.lemmas.conversions.TurnedPaths.{pieces-turned}
use Rattle.typed_path.proofs.lemmas.order.SharedNames.{AreInOrder, ends-order, other-at, own-at, unlike}
use Rattle.typed_path.proofs.lemmas.places.KeptNames.{kept_names-append, unmet-append, kept-names, unmet-names}
use Rattle.typed_path.proofs.lemmas.places.UnixRows.{rows-append}
use Rattle.std.proofs.lemmas.List.Folds.{list_any_none}
use Rattle.typed_path.specs.declared.scan.cursor.Begin.{Begin}
use Rattle.typed_path.specs.declared.scan.cursor.Begin.TheVariants.{Body, Inside}
use Rattle.typed_path.specs.declared.scan.cursor.Body.{Body as Reading}
use Rattle.typed_path.specs.views.BodyViews.{body_items, body_slice}
use Rattle.typed_path.proofs.lemmas.promises.CleanRead.{names-clean}
use Rattle.typed_path.proofs.lemmas.promises.StepsBack.{clean-drop}

-- a byte that does not separate is no `/`
other-byte : (s : Separators) (b : ℕ) → is_verbatim s ≡ false → is_separator s b ≡ false → (b == slash) ≡ false
other-byte s b plain e = grind arith

pub open-stand : (s : Separators) (names : List (List ℕ)) → is_verbatim s ≡ false → AllByRecursion (IsUnseparated (is_separator s)) names → can_stand names ≡ true
open-stand s [] plain each = refl
open-stand s (name ∷ names) plain each = grind (arith, common_steps, list_any_none, other-byte, open-stand s names plain each.1)

-- the components of a reading are written as their kinds tell
written : (begin : Begin) (s : Separators) (at : ℕ) (text : List ℕ) → AllByRecursion (IsWrittenPart s) (parts (body_from begin s at text))
written Body s at text = subst (AllByRecursion (IsWrittenPart s)) (sym (parts-body s at text)) (each-written s (body_parts s text) (body_parts-read s text))
written Inside s at text =
    subst (AllByRecursion (IsWrittenPart s)) (sym (parts-later_body s at text))
    (AllByRecursion-weaker (IsLaterPart s) (IsWrittenPart s) (λ p. IsWritten-later s p.kind p.text) _ (later_parts-later s (pieces s text) (slice_split-unseparated (is_separator s) text)))

-- so the last names that are kept of one can stand
pub plain_stand : (b : Reading) (n : ℕ) → is_verbatim b.separators ≡ false → can_stand (drop n (kept_names (kinds (parts (body_items b))))) ≡ true
plain_stand b n plain =
    let names = kept_names (kinds (parts (body_items b))) in
    let clean = clean-drop b.separators n names (names-clean b.separators (parts (body_items b)) (written b.begin b.separators b.from (body_slice b))) in
    open-stand b.separators (drop n names) plain (AllByRecursion-weaker (IsCleanName b.separators) (IsUnseparated (is_separator b.separators)) (λ name c. c.unseparated) (drop n names) clean)

-- A text that is names alone.

named-later : (s : Separators) (piece : List ℕ) → is_name_piece piece ≡ true → later_part s piece ≡ name_part piece ∷ []
named-later s piece h = grind arith

named-first : (s : Separators) (piece : List ℕ) (rooting : Part) → is_name_piece piece ≡ true → cond (length piece == 0) rooting (cond (is_dot piece) current_part (cond (is_dot_dot piece) parent_part (name_part piece))) ≡ name_part piece
named-first s piece rooting h = grind arith

-- the piece behind a separator at the end
abbrev ending : Bool → List (List ℕ)
ending ended = if ended then [] ∷ [] else []

none-ending : (s : Separators) (ended : Bool) → later_parts s (ending ended) ≡ []
none-ending s ended = grind arith

later-names : (s : Separators) (ended : Bool) (names : List (List ℕ)) → list_all is_name_piece names ≡ true → kinds (later_parts s (names ++ ending ended)) ≡ map normal names
later-names s ended [] named = ap kinds (none-ending s ended)
later-names s ended (name ∷ names) named =
    let both = and_parts (is_name_piece name) (list_all is_name_piece names) named in
    ap (λ ps. kinds (ps ++ later_parts s (names ++ ending ended))) (named-later s name both.0) ∙ ap (λ ks. normal name ∷ ks) (later-names s ended names both.1)

pub alone-later : (s : Separators) (at : ℕ) (text : List ℕ) (ended : Bool) (names : List (List ℕ)) → AreAlone s text ended names → kinds (parts (later_body s at text)) ≡ map normal names
alone-later s at text ended names alone = ap kinds (parts-later_body s at text ∙ ap (later_parts s) alone.1) ∙ later-names s ended names alone.0

-- a text of no name is empty
no-name : (s : Separators) (b : ℕ) (bs : List ℕ) (ended : Bool) → pieces s (b ∷ bs) ≡ ending ended → ⊥
no-name s b bs ended e = by ended e (pieces-turned s (row_end s) (b ∷ bs))
  where
    by : (ended : Bool) → pieces s (b ∷ bs) ≡ ending ended → rows_of s (pieces s (b ∷ bs)) ≡ turned s (row_end s) (b ∷ bs) ++ row_end s ∷ [] → ⊥
    by true e rows = omega (arith, ap length rows, ap (λ ps. length (rows_of s ps)) e, length-append (turned s (row_end s) (b ∷ bs)) (row_end s ∷ []))
    by false e rows = omega (arith, ap length rows, ap (λ ps. length (rows_of s ps)) e, length-append (turned s (row_end s) (b ∷ bs)) (row_end s ∷ []))

pub none-alone : (s : Separators) (ended : Bool) (names : List (List ℕ)) → AreAlone s [] ended names → names ≡ []
none-alone s ended [] alone = grind arith
none-alone s true (name ∷ []) alone = grind arith
none-alone s true (name ∷ more ∷ names) alone = grind arith
none-alone s false (name ∷ []) alone = grind (arith, and_parts)
none-alone s false (name ∷ more ∷ names) alone = grind arith

pub alone-body : (s : Separators) (text : List ℕ) (ended : Bool) (names : List (List ℕ)) → AreAlone s text ended names → kinds (parts (body s 0 text)) ≡ map normal names
alone-body s [] ended names alone = ap (map normal) (sym (none-alone s ended names alone))
alone-body s (b ∷ bs) ended [] alone = absurd (no-name s b bs ended alone.1)
alone-body s (b ∷ bs) ended (name ∷ names) alone =
    let both = and_parts (is_name_piece name) (list_all is_name_piece names) alone.0 in
    ap kinds (parts-body s 0 (b ∷ bs) ∙ ap (first_parts s) alone.1)
    ∙ ap (λ p. p.kind ∷ kinds (later_parts s (names ++ ending ended))) (named-first s name _ both.0)
    ∙ ap (λ ks. normal name ∷ ks) (later-names s ended names both.1)

-- What two texts share.

first-is : (s : Separators) (text : List ℕ) (ended : Bool) (name : List ℕ) (names : List (List ℕ)) → AreAlone s text ended (name ∷ names) → name ≡ before_first (is_separator s) text
first-is s text ended name names alone = let first = pieces-first (is_separator s) text in let e : name ∷ names ++ ending ended ≡ before_first (is_separator s) text ∷ first.0 = sym alone.1 ∙ first.1 in cc

names-apart : (s : Separators) (v w : List ℕ) (o : Ordering) → bytes_cmp (before_first (is_separator s) v) (before_first (is_separator s) w) ≡ o → is_ne o ≡ true
    → (ended more : Bool) (names others : List (List ℕ)) → AreAlone s v ended names → AreAlone s w more others → shared_count names others ≡ 0
names-apart s v w o is differ ended more [] others own other = grind arith
names-apart s v w o is differ ended more (x ∷ xs) [] own other = grind arith
names-apart s v w o is differ ended more (x ∷ xs) (y ∷ ys) own other = grind (arith, first-is, unlike)

pub none-shared : (names : List (List ℕ)) → shared_count names [] ≡ 0
none-shared [] = refl
none-shared (name ∷ names) = refl

behind-front : (cs : List Placed) (ds : List Placed) (names : List (List ℕ)) → kinds (parts ds) ≡ map normal names → kinds (parts (cs ++ ds)) ≡ kinds (parts cs) ++ map normal names
behind-front cs ds names is = ap kinds (map-append (λ c. c.part) cs ds) ∙ map-append (λ p. p.kind) (parts cs) (parts ds) ∙ ap (λ ks. kinds (parts cs) ++ ks) is

-- two texts that part in segments that differ
pub parted-into : (s : Separators) (t u : List ℕ) (k n : ℕ) (o : Ordering) → IsParting s t u k n → AreInOrder s t u k o → is_ne o ≡ true
    → PartInto s t u (take (length t - n) (drop n t)) (take (length u - n) (drop n u))
parted-into s t u k n o parted is differ =
    subst (λ v. PartInto s t u v (take (length u - n) (drop n u))) (sym (take_rest t n)) (subst (PartInto s t u (drop n t)) (sym (take_rest u n)) (by n refl))
  where
    apart : (ended more : Bool) (names others : List (List ℕ)) → AreAlone s (drop n t) ended names → AreAlone s (drop n u) more others → shared_count names others ≡ 0
    apart = names-apart s (drop n t) (drop n u) o (ends-order s t u k n parted o is) differ

    by : (m : ℕ) → n ≡ m → PartInto s t u (drop n t) (drop n u)
    by zero e = record {
      front = [];
      own = λ ended names alone. alone-body s t ended names (subst (λ i. AreAlone s (drop i t) ended names) e alone);
      others = λ ended names alone. alone-body s u ended names (subst (λ i. AreAlone s (drop i u) ended names) e alone);
      apart = apart;
    }
    by (suc j) e = record {
      front = kinds (parts (body s 0 (take n t)));
      own = λ ended names alone.
          ap (λ cs. kinds (parts cs)) (own-at s t u k n parted j e) ∙ behind-front (body s 0 (take n t)) (later_body s n (drop n t)) names (alone-later s n (drop n t) ended names alone);
      others = λ ended names alone.
          ap (λ cs. kinds (parts cs)) (other-at s t u k n parted j e) ∙ behind-front (body s 0 (take n t)) (later_body s n (drop n u)) names (alone-later s n (drop n u) ended names alone);
      apart = apart;
    }

-- a text that begins with another, behind which it goes on
module _ (s : Separators) (t beginning : List ℕ) (n : ℕ) (is : body s 0 t ≡ body s 0 beginning ++ later_body s (0 + n) (drop n t)) where
  longer-own : (ended : Bool) (names : List (List ℕ)) → AreAlone s (drop n t) ended names → kinds (parts (body s 0 t)) ≡ kinds (parts (body s 0 beginning)) ++ map normal names
  longer-own ended names alone = grind (arith, behind-front, alone-later)

  shorter-own : (ended : Bool) (names : List (List ℕ)) → AreAlone s [] ended names → kinds (parts (body s 0 beginning)) ≡ kinds (parts (body s 0 beginning)) ++ map normal names
  shorter-own ended names alone = sym (ap (λ ns. kinds (parts (body s 0 beginning)) ++ map normal ns) (none-alone s ended names alone) ∙ append-nil (kinds (parts (body s 0 beginning))))

  pub longer-into : PartInto s t beginning (take (length t - n) (drop n t)) []
  longer-into = subst (λ v. PartInto s t beginning v []) (sym (take_rest t n)) (record {
    front = kinds (parts (body s 0 beginning));
    own = longer-own;
    others = shorter-own;
    apart = λ ended more names others own other. ap (shared_count names) (none-alone s more others other) ∙ none-shared names;
  })

  pub shorter-into : PartInto s beginning t [] (take (length t - n) (drop n t))
  shorter-into = subst (PartInto s beginning t []) (sym (take_rest t n)) (record {
    front = kinds (parts (body s 0 beginning));
    own = shorter-own;
    others = longer-own;
    apart = λ ended more names others own other. ap (λ ns. shared_count ns others) (none-alone s ended names own);
  })

-- The steps.

shared-behind : (front xs ys : List (List ℕ)) → shared_count (front ++ xs) (front ++ ys) ≡ length front + shared_count xs ys
shared-behind [] xs ys = omega arith
shared-behind (name ∷ front) xs ys =
    let same : shared_count (name ∷ front ++ xs) (name ∷ front ++ ys) ≡ suc (shared_count (front ++ xs) (front ++ ys)) =
    ap (λ b. if b then suc (shared_count (front ++ xs) (front ++ ys)) else 0) ((bytes_decides name name).1 refl) in
    omega (arith, same, shared-behind front xs ys)

unmet-front : (front : List Kind) (names : List (List ℕ)) → unmet (front ++ map normal names) ≡ unmet front
unmet-front front names = omega (arith, unmet-append front (map normal names), unmet-names names)

kept-front : (front : List Kind) (names : List (List ℕ)) → kept_names (front ++ map normal names) ≡ kept_names front ++ names
kept-front front names = grind (arith, common_steps, kept_names-append, unmet-names, kept-names)

module _ (s : Separators) (ks ls kbs lbs : List Kind) (ups : ℕ) (rest : List ℕ) (ended : Bool) (plain : is_verbatim s ≡ false)
    (heads : same_heads ks ls ≡ true) (own_names : kept_names kbs ≡ kept_names ks) (other_names : kept_names lbs ≡ kept_names ls) (own_unmet : unmet kbs ≡ unmet ks) (other_unmet : unmet lbs ≡ unmet ls)
    (part : PartInNames s kbs lbs ups rest ended) where
  abbrev front : List (List ℕ)
  front = kept_names part.front

  own-kept : kept_names ks ≡ front ++ part.names
  own-kept = sym own_names ∙ ap kept_names part.own ∙ kept-front part.front part.names

  other-kept : kept_names ls ≡ front ++ part.others
  other-kept = sym other_names ∙ ap kept_names part.other ∙ kept-front part.front part.others

  anchored : is_anchored ks ≡ is_anchored ls
  anchored = grind arith

  same-rising : rising ks ≡ rising ls
  same-rising = grind (arith, anchored, unmet-front)

  met : met_count ks ls ≡ length front
  met = grind (arith, same-rising, eq-eqb, own-kept, other-kept, shared-behind)

  down : names_down ks ls ≡ part.names
  down = ap₂ drop met own-kept ∙ drop_at front part.names (length front) refl

  stands : can_stand (names_down ks ls) ≡ true
  stands =
      ap can_stand down
      ∙ open-stand s part.names plain
      (all-front (IsUnseparated (is_separator s)) part.names (ending ended) (subst (AllByRecursion (IsUnseparated (is_separator s))) part.alone.1 (slice_split-unseparated (is_separator s) rest)))

  pub near-steps : AreNearSteps s ks ls ups rest ended
  near-steps = grind (arith, common_steps, same-rising, stands, met, other-kept, length-append, down)

-- How they are written.

pub alone-rows : (s : Separators) (text : List ℕ) (ended : Bool) (names : List (List ℕ)) → AreAlone s text ended names → turned s (row_end s) text ++ (if ended then [] else row_end s ∷ []) ≡ rows_of s names
alone-rows s text true names alone =
    let e = row_end s in
    let whole : rows_of s names ++ e ∷ [] ≡ turned s e text ++ e ∷ [] = sym (rows-append s names ([] ∷ [])) ∙ ap (rows_of s) (sym alone.1) ∙ pieces-turned s e text in
    append-nil (turned s e text) ∙ append_cancel_right (turned s e text) (rows_of s names) (e ∷ []) (sym whole)
alone-rows s text false names alone = sym (pieces-turned s (row_end s) text) ∙ ap (rows_of s) (alone.1 ∙ append-nil names)

pub alone-shut : (s : Separators) (old new text : List ℕ) (ended : Bool) (names : List (List ℕ)) → new ≡ old ++ turned s (row_end s) text → ended ≡ true → AreAlone s text ended names → new ≡ old ++ rows_of s names
alone-shut s old new text ended names is e alone =
    is ∙ ap (λ t. old ++ t) (sym (append-nil (turned s (row_end s) text)) ∙ ap (λ b. turned s (row_end s) text ++ (if b then [] else row_end s ∷ [])) (sym e) ∙ alone-rows s text ended names alone)

pub alone-open : (s : Separators) (old new text : List ℕ) (ended : Bool) (names : List (List ℕ)) → new ≡ (old ++ turned s (row_end s) text) ++ row_end s ∷ [] → ended ≡ false → AreAlone s text ended names
    → new ≡ old ++ rows_of s names
alone-open s old new text ended names is e alone =
    is ∙ append_assoc old (turned s (row_end s) text) (row_end s ∷ [])
    ∙ ap (λ t. old ++ t) (ap (λ b. turned s (row_end s) text ++ (if b then [] else row_end s ∷ [])) (sym e) ∙ alone-rows s text ended names alone)

-- one parent more behind others
dots-behind : (s : Separators) (n : ℕ) → rows_of s (dots n) ++ dot ∷ dot ∷ row_end s ∷ [] ≡ rows_of s (dots (suc n))
dots-behind s n = grind (arith, common_steps)

pub ups-more : (s : Separators) (n : ℕ) (old : List ℕ) → ((old ++ rows_of s (dots n)) ++ dot ∷ dot ∷ []) ++ row_end s ∷ [] ≡ old ++ rows_of s (dots (n + 1))
ups-more s n old = grind (arith, append_assoc, dots-behind, add-one)

-- how many names there are, by the pieces
pub alone-count : (s : Separators) (text : List ℕ) (ended b : Bool) (names : List (List ℕ)) (ends : ℕ) → ended ≡ b → AreAlone s text ended names → ends + 1 ≡ length (pieces s text) → (if b then ends else ends + 1) ≡ length names
alone-count s text ended b names ends is alone size = grind (arith, length-append)

-- what is written leads there
pub bare-plain : (d : Dialect) → is_verbatim (bare_separators d) ≡ false
bare-plain unix = refl
bare-plain windows = refl
