-- Readings that are kept as numbers: the one that stands at them, and the numbers of one.
use Rattle.std.proofs.Common.{◌≡◌, ℕ, zero, suc, ◌+◌, ◌-◌, ◌≤◌, ◌==◌, ◌&&◌, nat_le, Bool, true, List, [], ◌∷◌, ◌++◌, length, take, drop, slice_range, Option, Some, None, IfSome, option_map, refl, sym, ap, ap₂, ◌∙◌, subst, arith, le_refl, le-leb, take-take, take_all, length-take-le, length-drop}
use Rattle.std.specs.List.{slice_split}
use Rattle.std.proofs.lemmas.Bool.{and_parts, leb-true}
use Rattle.typed_path.specs.declared.scan.cursor.Begin.{Begin}
use Rattle.typed_path.specs.declared.scan.cursor.Begin.TheVariants.{Body, Inside}
use Rattle.typed_path.specs.declared.scan.cursor.Cursor.{Cursor}
use Rattle.typed_path.specs.declared.scan.prefix.Found.{Found}
use Rattle.typed_path.specs.declared.scan.separators.Separators.{Separators}
use Rattle.typed_path.specs.declared.scan.unread.PlacedPiece.{PlacedPiece}
use Rattle.typed_path.specs.declared.scan.unread.Unread.{Unread}
use Rattle.typed_path.specs.changes.{raw_length}
use Rattle.typed_path.specs.components.{Dialect, Part, Placed, end_of, component, prefix_of, prefix_part, separators, is_separator, body, later_body, comps}
use Rattle.typed_path.specs.components.Prefixes as definitions
use Rattle.typed_path.specs.components.Comps.{comps_behind}
use Rattle.typed_path.specs.scan.{AreInOrder, first_of, last_of, body_from, is_clean, pending, IsReading, is_unread, unread_items, unread_slice}
use Rattle.typed_path.specs.scan.Unread.{whole_to, unread_by, fits_by}
use Rattle.typed_path.specs.views.CursorViews.{start_left, prefix_left, slice_left, items_left}
use Rattle.typed_path.specs.views.PieceViews.{found_of, prefix_view}
use Rattle.typed_path.specs.views.UnreadViews.{IsPending, IsReadingOf, numbers_by, numbers_of, placed_of}
use Rattle.typed_path.proofs.lemmas.components.Cuts.{body_in_order, laid_in_order}
use Rattle.typed_path.proofs.lemmas.components.Prefixes.{prefix-fits}
use Rattle.typed_path.proofs.lemmas.lists.Lists.{width-slice_split}
use Rattle.typed_path.proofs.lemmas.scan.Steps.{last_of-behind}

-- A component at its place.

-- none is there where no part is
pub placed_none : (o : Option Placed) → None ≡ option_map (λ c. c.part) o → None ≡ o
placed_none None e = refl
placed_none (Some c) e = cc e

-- one that ends at a place is there
pub placed_to : (o : Option Placed) (p : Part) (end : ℕ) → Some p ≡ option_map (λ c. c.part) o → ((c : Placed) → o ≡ Some c → end ≡ end_of c)
    → Some (record { part = p; start = end - length p.text }) ≡ o
placed_to None p end e ends = cc e
placed_to (Some c) p end e ends =
    let same : p ≡ c.part = cc e in
    ap₂ (λ part start. Some (record { part = part; start = start })) same (omega (arith, ends c refl, ap (λ q. length q.text) same))

-- and has no more bytes than stand before that place
pub placed_fits : (o : Option Placed) (p : Part) (end : ℕ) → Some p ≡ option_map (λ c. c.part) o → ((c : Placed) → o ≡ Some c → end ≡ end_of c) → length p.text ≤ end
placed_fits None p end e ends = cc e
placed_fits (Some c) p end e ends =
    let same : p ≡ c.part = cc e in
    omega (arith, ends c refl, ap (λ q. length q.text) same)

-- A path of which nothing was taken from the front.

-- how many bytes the prefix takes that was looked up
pub whole_fits : (d : Dialect) (t : List ℕ) (o : Option Found) → option_map found_of o ≡ prefix_of d t → raw_length (prefix_of d t) ≡ pending o
whole_fits d t None e = ap raw_length (sym e)
whole_fits d t (Some f) e = ap raw_length (sym e)

-- where the slice left begins
pub whole_starts : (o : Option Found) → start_left o (pending o) ≡ 0
whole_starts None = refl
whole_starts (Some f) = omega arith

-- the components that are left
pub whole_left : (d : Dialect) (t : List ℕ) (to : ℕ) (s : Separators) (o : Option Found) → s ≡ separators d t → option_map found_of o ≡ prefix_of d t
    → pending o ≤ to → to ≤ length t
    → prefix_left o (start_left o (pending o)) (slice_range t (start_left o (pending o)) to) (body_from Body s (pending o) (slice_range t (pending o) to)) ≡ whole_to d t to (prefix_of d t)
whole_left d t to s None same e fits in_range = ap (λ q. body q 0 (slice_range t 0 to)) same ∙ ap (whole_to d t to) e
whole_left d t to s (Some f) same e fits in_range =
    let short : f.length ≤ to = fits in
    let front : take f.length (slice_range t 0 to) ≡ take f.length t = take-take f.length (to - 0) t (omega (arith, short)) in
    ap (λ n. component (prefix_part (prefix_view f.kind) (take f.length (slice_range t n to))) n ++ body s f.length (slice_range t f.length to)) (whole_starts (Some f))
    ∙ ap₂ (λ text q. component (prefix_part (prefix_view f.kind) text) 0 ++ body q f.length (slice_range t f.length to)) front same
    ∙ ap (whole_to d t to) e

-- a slice up to the end is what stands from its beginning on
to-end : (t : List ℕ) (n : ℕ) → slice_range t n (length t) ≡ drop n t
to-end t n = take_all (length t - n) (drop n t) (omega (arith, length-drop n t))

module _ (d : Dialect) (t : List ℕ) where
  prefix-within : (o : Option definitions.Found) → prefix_of d t ≡ o → raw_length o ≤ length t
  prefix-within None e = omega arith
  prefix-within (Some f) e = (prefix-fits d t f e).fits

  whole-comps : (o : Option definitions.Found) → whole_to d t (length t) o ≡ comps_behind (separators d t) t o
  whole-comps None = ap (body (separators d t) 0) (to-end t 0)
  whole-comps (Some f) = ap (λ rest. component (prefix_part f.prefix (take f.length t)) 0 ++ body (separators d t) f.length rest) (to-end t f.length)

  -- at first all components are left
  pub whole_unread : IsReading d t (record { from = 0; to = length t; stage = 0 }) (comps d t)
  whole_unread = (
    ap (λ b. b && nat_le (raw_length (prefix_of d t)) (length t)) (le-leb (length t) (length t) (le_refl (length t)))
        ∙ le-leb (raw_length (prefix_of d t)) (length t) (prefix-within (prefix_of d t) refl),
    whole-comps (prefix_of d t),
  )

  pub whole_slice : unread_slice t (record { from = 0; to = length t; stage = 0 }) ≡ t
  whole_slice = to-end t 0

-- The numbers of a reading.

module _ (d : Dialect) (t : List ℕ) (to : ℕ) (s : Separators) (same : s ≡ separators d t) (in_range : to ≤ length t) where
  -- what is left at the numbers of a reading is what is left of it, and a reading may stand there
  abbrev AreRight : Option Found → Begin → ℕ → Type 0
  AreRight o begin from =
      IsReading d t (numbers_by o begin from to) (prefix_left o (start_left o from) (slice_range t (start_left o from) to) (body_from begin s from (slice_range t from to)))
      × (unread_slice t (numbers_by o begin from to) ≡ slice_range t (start_left o from) to)

  ends-within : (b : Bool) → (nat_le to (length t) && b) ≡ b
  ends-within b = ap (λ c. c && b) (le-leb to (length t) in_range)

  at-prefix : (f : Found) → Some (found_of f) ≡ prefix_of d t → f.length ≤ to → AreRight (Some f) Body f.length
  at-prefix f e fits = (
    (ends-within (nat_le (raw_length (prefix_of d t)) to) ∙ ap (λ o. nat_le (raw_length o) to) (sym e) ∙ le-leb f.length to fits, sym (whole_left d t to s (Some f) same e fits in_range)),
    ap (λ n. slice_range t n to) (sym (whole_starts (Some f))),
  )

  right : (o : Option Found) (begin : Begin) (from : ℕ) → IsPending d t o begin from → from ≤ to → is_clean begin s (slice_range t from to) ≡ true → AreRight o begin from
  right (Some f) begin from (e, starts, whole) ordered clean =
      subst (λ b. AreRight (Some f) b from) (sym whole) (subst (AreRight (Some f) Body) (sym starts) (at-prefix f e (subst (λ n. n ≤ to) starts ordered)))
  right None Body from pending ordered clean =
      ((ends-within (nat_le from to) ∙ le-leb from to ordered, ap (λ q. body q from (slice_range t from to)) (sym same)), refl)
  right None Inside from pending ordered clean = (
    (
      ends-within (nat_le from to && is_clean Inside (separators d t) (slice_range t from to))
          ∙ ap (λ b. b && is_clean Inside (separators d t) (slice_range t from to)) (le-leb from to ordered)
          ∙ ap (λ q. is_clean Inside q (slice_range t from to)) (sym same) ∙ clean,
      ap (λ q. later_body q from (slice_range t from to)) (sym same),
    ),
    refl,
  )

-- those of a cursor
pub numbers_right : (d : Dialect) (t : List ℕ) (c : Cursor) → IsReadingOf d t c → IsReading d t (numbers_of c) (items_left c) × (unread_slice t (numbers_of c) ≡ slice_left c)
numbers_right d t c (text, same, pending) =
    subst (λ x. IsReading d t (numbers_of c) (prefix_left c.prefix (start_left c.prefix c.from) (slice_range x (start_left c.prefix c.from) c.to) (body_from c.begin c.separators c.from (slice_range x c.from c.to)))
    × (unread_slice t (numbers_of c) ≡ slice_range x (start_left c.prefix c.from) c.to)) (sym text)
    (right d t c.to c.separators same (subst (λ x. c.to ≤ length x) text c.in_range) c.prefix c.begin c.from pending c.ordered
    (subst (λ x. is_clean c.begin c.separators (slice_range x c.from c.to) ≡ true) text c.starts_clean))

-- What is left lies within the path.

-- what stands in order does so between places further out
wider : (at low end high : ℕ) (cs : List Placed) → low ≤ at → end ≤ high → AreInOrder at end cs → AreInOrder low high cs
wider at low end high [] l h order = omega (arith, order)
wider at low end high (c ∷ cs) l h order = (omega (arith, order.0), wider (end_of c) (end_of c) end high cs (le_refl (end_of c)) h order.1)

later_in_order : (s : Separators) (at : ℕ) (text : List ℕ) → AreInOrder at (at + length text) (later_body s at text)
later_in_order s at text =
    laid_in_order s at (at + length text) at (slice_split (is_separator s) text) (le_refl at) (omega arith) (omega (arith, width-slice_split (is_separator s) text))

-- between places of a path that are in order
module _ (d : Dialect) (t : List ℕ) (from to : ℕ) (in_range : to ≤ length t) where
  long : (start : ℕ) → start ≤ to → start + length (slice_range t start to) ≡ to
  long start h = omega (arith, length-take-le (to - start) (drop start t) (omega (arith, length-drop start t, in_range)), h)

  body-within : (start : ℕ) → start ≤ to → AreInOrder start (length t) (body (separators d t) start (slice_range t start to))
  body-within start h = wider start start (start + length (slice_range t start to)) (length t) _ (le_refl start) (omega (arith, long start h, in_range)) (body_in_order (separators d t) start (slice_range t start to))

  later-within : (start : ℕ) → start ≤ to → AreInOrder start (length t) (later_body (separators d t) start (slice_range t start to))
  later-within start h = wider start start (start + length (slice_range t start to)) (length t) _ (le_refl start) (omega (arith, long start h, in_range)) (later_in_order (separators d t) start (slice_range t start to))

  whole-within : (o : Option definitions.Found) → raw_length o ≤ to → AreInOrder 0 (length t) (whole_to d t to o)
  whole-within None fits = body-within 0 (omega arith)
  whole-within (Some f) fits =
      let size : 0 + length (take f.length t) ≡ f.length = omega (arith, length-take-le f.length t (omega (arith, fits, in_range))) in
      (omega arith, subst (λ n. AreInOrder n (length t) (body (separators d t) f.length (slice_range t f.length to))) (sym size) (body-within f.length fits))

  -- the components that are left are in order
  by-stage : (stage : ℕ) → fits_by d t from to stage ≡ true → AreInOrder 0 (length t) (unread_by d t from to stage)
  by-stage zero fits = whole-within (prefix_of d t) (leb-true _ _ (and_parts (from == 0) (nat_le (raw_length (prefix_of d t)) to) fits).1)
  by-stage (suc zero) fits = wider from 0 (length t) (length t) _ (omega arith) (le_refl (length t)) (body-within from (leb-true _ _ fits))
  by-stage (suc (suc zero)) fits =
      wider from 0 (length t) (length t) _ (omega arith) (le_refl (length t))
      (later-within from (leb-true _ _ (and_parts (nat_le from to) (is_clean Inside (separators d t) (slice_range t from to)) fits).0))
  by-stage (suc (suc (suc n))) fits = cc fits

unread-within : (d : Dialect) (t : List ℕ) (u : Unread) → is_unread d t u ≡ true → AreInOrder 0 (length t) (unread_items d t u)
unread-within d t u fits =
    let both = and_parts (nat_le u.to (length t)) (fits_by d t u.from u.to u.stage) fits in
    by-stage d t u.from u.to (leb-true _ _ both.0) u.stage both.1

-- a list in order ends within its text
order-ends : (at end : ℕ) (cs : List Placed) → AreInOrder at end cs → at ≤ end
order-ends at end [] order = order
order-ends at end (c ∷ cs) order = omega (arith, order.0, order-ends (end_of c) end cs order.1)

first-ends : (at end : ℕ) (cs : List Placed) (c : Placed) → AreInOrder at end cs → Some c ≡ first_of cs → end_of c ≤ end
first-ends at end [] c order e = cc e
first-ends at end (x ∷ cs) c order e =
    let same : x ≡ c = cc e in
    subst (λ y. end_of y ≤ end) same (order-ends (end_of x) end cs order.1)

last-ends : (at end : ℕ) (cs : List Placed) (c : Placed) → AreInOrder at end cs → Some c ≡ last_of cs → end_of c ≤ end
last-ends at end [] c order e = cc e
last-ends at end (x ∷ []) c order e = first-ends at end (x ∷ []) c order e
last-ends at end (x ∷ y ∷ cs) c order e = last-ends (end_of x) end (y ∷ cs) c order.1 (e ∙ last_of-behind x y cs)

-- so what a step takes ends within the path
module _ (d : Dialect) (t : List ℕ) (u : Unread) (right : is_unread d t u ≡ true) where
  pub first_unread-ends : (o : Option PlacedPiece) → option_map placed_of o ≡ first_of (unread_items d t u) → IfSome o (λ c. end_of (placed_of c) ≤ length t)
  first_unread-ends None e = tt
  first_unread-ends (Some c) e = first-ends 0 (length t) (unread_items d t u) (placed_of c) (unread-within d t u right) e

  pub last_unread-ends : (o : Option PlacedPiece) → option_map placed_of o ≡ last_of (unread_items d t u) → IfSome o (λ c. end_of (placed_of c) ≤ length t)
  last_unread-ends None e = tt
  last_unread-ends (Some c) e = last-ends 0 (length t) (unread_items d t u) (placed_of c) (unread-within d t u right) e
