-- Where the components of a text begin and end, how many they are, and what is read before and behind such a place.
use Rattle.std.proofs.Common.{◌≡◌, ℕ, zero, suc, ◌+◌, ◌<◌, ◌≤◌, ◌==◌, false, List, [], ◌∷◌, ◌++◌, ◌⊎◌, inl, inr, length, take, drop, flat_map, refl, sym, ap, ap₂, ◌∙◌, add-zero, arith, ◌-◌, true, le_refl, min, length-take, Option, Some, None, zero-add, zero-le, length-take-le, length-drop, length-append, append_assoc}
use Rattle.std.proofs.lemmas.Grind.{common_steps}
use Rattle.std.specs.List.{slice_split}
use Rattle.std.proofs.lemmas.Bool.{eqb-false}
use Rattle.std.proofs.lemmas.List.{length-map}
use Rattle.typed_path.specs.declared.scan.separators.Separators.{Separators}
use Rattle.typed_path.specs.declared.scan.cursor.Begin.{Begin}
use Rattle.typed_path.specs.declared.scan.cursor.Begin.TheVariants.{Body, Inside}
use Rattle.typed_path.specs.components.{root_text, is_separator, Dialect, separators, windows, Part, Placed, root_part, end_of, parts, Segment, placed, later, first, component, body_of, body, later_body, comps, comps_behind, parts_of, Found, prefix_of}
use Rattle.typed_path.specs.scan.{start_at, end_at, AreInOrder, IsLaidOut, body_from}
use Rattle.typed_path.proofs.lemmas.components.Segments.{pieces, later_part, later_parts, first_parts, parts-body, parts-later_body, later_body-separator, body_from-append, body_from-separator}
use Rattle.typed_path.proofs.lemmas.lists.Lists.{width, slice_split-some, width-slice_split, slice_split-take, slice_split-drop}
use Rattle.typed_path.proofs.lemmas.components.Prefixes.{FoundFits, prefix-fits}

-- Where the components of a text begin and end, and what is read of the text before or behind such a place.

-- the components of later pieces
abbrev pub laid : Separators → ℕ → List (List ℕ) → List Placed
laid s at pieces = flat_map (later s) (placed at pieces)

-- a component that takes its whole segment, which is not empty
pub record TakesSegment (g : Segment) (cs : List Placed) : Type 0 where
  pub part : Part
  pub is : cs ≡ component part g.start
  pub size : length part.text ≡ length g.text
  pub filled : (length g.text == 0) ≡ false

-- a later segment is no component, or one that takes the whole segment
later_takes : (s : Separators) (g : Segment) → (later s g ≡ []) ⊎ TakesSegment g (later s g)
later_takes s g = grind arith

-- a first segment is one component, which takes the whole segment, or is the root in place of an empty one
pub first_takes : (s : Separators) (g : Segment) → TakesSegment g (first s g) ⊎ ((length g.text ≡ 0) × (first s g ≡ component (root_part (root_text s)) g.start))
first_takes s g = grind arith

-- the root is one byte
pub root_text-length : (s : Separators) → length (root_text s) ≡ 1
root_text-length s = grind arith

-- later components stand in order
pub laid_in_order : (s : Separators) (at end from : ℕ) (pieces : List (List ℕ)) → from ≤ at → from ≤ end → at + width pieces ≤ end + 1 → AreInOrder from end (laid s at pieces)
laid_in_order s at end from [] low fits within = fits
laid_in_order s at end from (piece ∷ pieces) low fits within =
    let g : Segment = record { text = piece; start = at } in
    by (later s g) (later_takes s g) (λ begin l f. laid_in_order s (at + length piece + 1) end begin pieces l f (omega arith))
  where
    by : (own : List Placed) → (own ≡ []) ⊎ TakesSegment (record { text = piece; start = at }) own
        → ((begin : ℕ) → begin ≤ at + length piece + 1 → begin ≤ end → AreInOrder begin end (laid s (at + length piece + 1) pieces)) → AreInOrder from end (own ++ laid s (at + length piece + 1) pieces)
    by own h others = grind arith

-- where component k begins, and what is read from there on
pub record StartCut (s : Separators) (at : ℕ) (pieces : List (List ℕ)) (cs : List Placed) (k : ℕ) : Type 0 where
  pub before : List (List ℕ)
  pub piece : List ℕ
  pub behind : List (List ℕ)
  pub whole : pieces ≡ before ++ piece ∷ behind
  pub filled : (length piece == 0) ≡ false
  pub place : start_at cs k ≡ at + width before
  pub rest : laid s (at + width before) (piece ∷ behind) ≡ drop k cs

-- the same with a piece more before it
start_cut-more : (s : Separators) (at : ℕ) (piece : List ℕ) (pieces : List (List ℕ)) (cs ds : List Placed) (k j : ℕ) → start_at ds j ≡ start_at cs k → drop k cs ≡ drop j ds
    → StartCut s (at + length piece + 1) pieces cs k → StartCut s at (piece ∷ pieces) ds j
start_cut-more s at piece pieces cs ds k j starts rest cut =
    let far : at + width (piece ∷ cut.before) ≡ at + length piece + 1 + width cut.before = omega arith in
    record {
      before = piece ∷ cut.before;
      piece = cut.piece;
      behind = cut.behind;
      filled = cut.filled;
      whole = ap (λ ps. piece ∷ ps) cut.whole;
      place = starts ∙ cut.place ∙ sym far;
      rest = ap (λ n. laid s n (cut.piece ∷ cut.behind)) far ∙ cut.rest ∙ rest;
    }

-- each component begins at such a cut
pub start_cut : (s : Separators) (at : ℕ) (pieces : List (List ℕ)) (cs : List Placed) (k : ℕ) → cs ≡ laid s at pieces → k < length cs → StartCut s at pieces cs k
start_cut s at [] cs k e h = absurd (omega (arith, ap length e))
start_cut s at (piece ∷ pieces) cs k e h = by (later_takes s g) (λ ds j. start_cut s (at + length piece + 1) pieces ds j) cs k e h
  where
    g : Segment
    g = record { text = piece; start = at }

    by : (later s g ≡ []) ⊎ TakesSegment g (later s g)
        → ((ds : List Placed) (j : ℕ) → ds ≡ laid s (at + length piece + 1) pieces → j < length ds → StartCut s (at + length piece + 1) pieces ds j)
        → (cs : List Placed) (k : ℕ) → cs ≡ laid s at (piece ∷ pieces) → k < length cs → StartCut s at (piece ∷ pieces) cs k
    by (inl none) others cs k e h =
        start_cut-more s at piece pieces cs cs k k refl refl (others cs k (e ∙ ap (λ ds. ds ++ laid s (at + length piece + 1) pieces) none) h)
    by (inr one) others [] k e h = absurd (omega arith)
    by (inr one) others (c ∷ cs) zero e h = record {
      before = [];
      piece = piece;
      behind = pieces;
      whole = refl;
      filled = one.filled;
      place = ap (λ ds. start_at ds 0) (e ∙ ap (λ ds. ds ++ laid s (at + length piece + 1) pieces) one.is) ∙ omega arith;
      rest = ap (λ n. laid s n (piece ∷ pieces)) (add-zero at) ∙ sym e;
    }
    by (inr one) others (c ∷ cs) (suc k) e h =
        let same = e ∙ ap (λ ds. ds ++ laid s (at + length piece + 1) pieces) one.is in
        start_cut-more s at piece pieces cs (c ∷ cs) k (suc k) refl refl (others cs k (ap (drop 1) same) (omega arith))

-- where component k ends, and what is read before that place
pub record EndCut (s : Separators) (at : ℕ) (pieces : List (List ℕ)) (cs : List Placed) (k : ℕ) : Type 0 where
  pub piece : List ℕ
  pub before : List (List ℕ)
  pub behind : List (List ℕ)
  pub whole : pieces ≡ piece ∷ before ++ behind
  pub place : end_at cs k ≡ at + (length piece + width before)
  pub front : laid s at (piece ∷ before) ≡ take (suc k) cs

-- each component ends at such a cut
pub end_cut : (s : Separators) (at : ℕ) (pieces : List (List ℕ)) (cs : List Placed) (k : ℕ) → cs ≡ laid s at pieces → k < length cs → EndCut s at pieces cs k
end_cut s at [] cs k e h = absurd (omega (arith, ap length e))
end_cut s at (piece ∷ pieces) cs k e h = by (later_takes s g) (λ ds j. end_cut s (at + length piece + 1) pieces ds j) cs k e h
  where
    g : Segment
    g = record { text = piece; start = at }

    by : (later s g ≡ []) ⊎ TakesSegment g (later s g)
        → ((ds : List Placed) (j : ℕ) → ds ≡ laid s (at + length piece + 1) pieces → j < length ds → EndCut s (at + length piece + 1) pieces ds j)
        → (cs : List Placed) (k : ℕ) → cs ≡ laid s at (piece ∷ pieces) → k < length cs → EndCut s at (piece ∷ pieces) cs k
    by (inl none) others cs k e h =
        let cut = others cs k (e ∙ ap (λ ds. ds ++ laid s (at + length piece + 1) pieces) none) h in
        record {
          piece = piece;
          before = cut.piece ∷ cut.before;
          behind = cut.behind;
          whole = ap (λ ps. piece ∷ ps) cut.whole;
          place = cut.place ∙ omega arith;
          front = ap (λ ds. ds ++ laid s (at + length piece + 1) (cut.piece ∷ cut.before)) none ∙ cut.front;
        }
    by (inr one) others [] k e h = absurd (omega arith)
    by (inr one) others (c ∷ cs) zero e h =
        let same = e ∙ ap (λ ds. ds ++ laid s (at + length piece + 1) pieces) one.is in
        record {
          piece = piece;
          before = [];
          behind = pieces;
          whole = refl;
          place = ap (λ ds. end_at ds 0) same ∙ omega (arith, one.size);
          front = ap (λ ds. ds ++ []) one.is ∙ ap (λ ds. take 1 ds) (sym same);
        }
    by (inr one) others (c ∷ cs) (suc k) e h =
        let same = e ∙ ap (λ ds. ds ++ laid s (at + length piece + 1) pieces) one.is in
        let cut = others cs k (ap (drop 1) same) (omega arith) in
        let head : record { part = one.part; start = at } ≡ c = cc in
        record {
          piece = piece;
          before = cut.piece ∷ cut.before;
          behind = cut.behind;
          whole = ap (λ ps. piece ∷ ps) cut.whole;
          place = cut.place ∙ omega arith;
          front = ap (λ ds. ds ++ laid s (at + length piece + 1) (cut.piece ∷ cut.before)) one.is
              ∙ ap₂ ◌∷◌ head cut.front;
        }

-- The components of a text without a prefix: their order, and what is read of the text before or behind one of them.

-- an empty first piece stands before a separator
pub empty_first : (s : Separators) (b : ℕ) (bs piece : List ℕ) (pieces : List (List ℕ)) → slice_split (is_separator s) (b ∷ bs) ≡ piece ∷ pieces → length piece ≡ 0 → is_separator s b ≡ true
empty_first s b bs piece pieces split h = grind arith

-- the first component of a text, its piece, and the pieces behind it
record Beginning (s : Separators) (at b : ℕ) (bs : List ℕ) : Type 0 where
  pub piece : List ℕ
  pub pieces : List (List ℕ)
  pub split : slice_split (is_separator s) (b ∷ bs) ≡ piece ∷ pieces
  pub part : Part
  pub is : first s (record { text = piece; start = at }) ≡ component part at
  pub size : ((length part.text ≡ length piece) × (0 < length piece)) ⊎ ((length part.text ≡ 1) × (length piece ≡ 0) × (is_separator s b ≡ true))

-- each text that is not empty has such a beginning
beginning : (s : Separators) (at b : ℕ) (bs : List ℕ) → Beginning s at b bs
beginning s at b bs =
    let some = slice_split-some (is_separator s) (b ∷ bs) in
    by some.0 some.1 some.2 (first_takes s (record { text = some.0; start = at }))
  where
    by : (piece : List ℕ) (pieces : List (List ℕ)) → slice_split (is_separator s) (b ∷ bs) ≡ piece ∷ pieces
        → TakesSegment (record { text = piece; start = at }) (first s (record { text = piece; start = at })) ⊎ ((length piece ≡ 0) × (first s (record { text = piece; start = at }) ≡ component (root_part (root_text s)) at))
        → Beginning s at b bs
    by piece pieces split h = grind (arith, pieces, eqb-false, root_text-length, empty_first)

-- the first component, and then those of the pieces behind it
body-beginning : (s : Separators) (at b : ℕ) (bs : List ℕ) (start : Beginning s at b bs) → body s at (b ∷ bs) ≡ record { part = start.part; start = at } ∷ laid s (at + length start.piece + 1) start.pieces
body-beginning s at b bs start = ap (λ pieces. body_of s (placed at pieces)) start.split ∙ ap (λ cs. cs ++ laid s (at + length start.piece + 1) start.pieces) start.is

-- a text that is not empty has a component
pub body-filled : (s : Separators) (at : ℕ) (text : List ℕ) → 0 < length text → 0 < length (body s at text)
body-filled s at text some = grind arith

-- the first component begins where the text does
pub body-starts : (s : Separators) (at b : ℕ) (bs : List ℕ) → start_at (body s at (b ∷ bs)) 0 ≡ at
body-starts s at b bs = ap (λ cs. start_at cs 0) (body-beginning s at b bs (beginning s at b bs))

-- the components of a text without a prefix stand in order
pub body_in_order : (s : Separators) (at : ℕ) (text : List ℕ) → AreInOrder at (at + length text) (body s at text)
body_in_order s at [] = omega arith
body_in_order s at (b ∷ bs) =
    let start = beginning s at b bs in
    let own = start.size in
    let all = sym (ap width start.split) ∙ width-slice_split (is_separator s) (b ∷ bs) in
    rw (body-beginning s at b bs start)
    (le_refl at, laid_in_order s (at + length start.piece + 1) (at + length (b ∷ bs)) (at + length start.part.text) start.pieces (omega arith) (omega arith) (omega arith))

-- the first pieces of a text, read alone
body-pieces : (s : Separators) (at : ℕ) (text piece : List ℕ) (pieces : List (List ℕ)) → 0 < length text → slice_split (is_separator s) text ≡ piece ∷ pieces → body s at text ≡ body_of s (placed at (piece ∷ pieces))
body-pieces s at text piece pieces filled split = grind arith

-- the front of a text, as long as its first pieces are, is read as their components
body-front : (s : Separators) (at b : ℕ) (bs : List ℕ) (start : Beginning s at b bs) (n : ℕ) (before behind : List (List ℕ)) → start.pieces ≡ before ++ behind → 0 < n → n ≡ length start.piece + width before
    → body s at (take n (b ∷ bs)) ≡ record { part = start.part; start = at } ∷ laid s (at + length start.piece + 1) before
body-front s at b bs start n before behind whole some size =
    let shown : length (take n (b ∷ bs)) ≡ min n (length (b ∷ bs)) = length-take n (b ∷ bs) in
    let split = slice_split-take (is_separator s) (b ∷ bs) start.piece before behind (start.split ∙ ap (λ pieces. start.piece ∷ pieces) whole) in
    body-pieces s at (take n (b ∷ bs)) start.piece before (omega arith) (ap (λ m. slice_split (is_separator s) (take m (b ∷ bs))) size ∙ split)
    ∙ ap (λ cs. cs ++ laid s (at + length start.piece + 1) before) start.is

-- a root alone
body-root : (s : Separators) (at b : ℕ) (part : Part) (piece : List ℕ) → is_separator s b ≡ true → length piece ≡ 0 → first s (record { text = piece; start = at }) ≡ component part at
    → body s at (b ∷ []) ≡ component part at
body-root s at b part piece separates h is = grind arith

-- a text cut where its component k ends is read as the components up to that one
pub body-take : (s : Separators) (at : ℕ) (text : List ℕ) (k : ℕ) → k < length (body s at text) → body s at (take (end_at (body s at text) k - at) text) ≡ take (suc k) (body s at text)
body-take s at [] k h = absurd (omega arith)
body-take s at (b ∷ bs) k h = let start = beginning s at b bs in by start (body s at (b ∷ bs)) (body-beginning s at b bs start) start.size k h
  where
    by : (start : Beginning s at b bs) (cs : List Placed) → cs ≡ record { part = start.part; start = at } ∷ laid s (at + length start.piece + 1) start.pieces
        → ((length start.part.text ≡ length start.piece) × (0 < length start.piece)) ⊎ ((length start.part.text ≡ 1) × (length start.piece ≡ 0) × (is_separator s b ≡ true))
        → (k : ℕ) → k < length cs → body s at (take (end_at cs k - at) (b ∷ bs)) ≡ take (suc k) cs
    by start [] e size k h = absurd (omega arith)
    by start (c ∷ cs) e (inl size) zero h =
        let ends = ap (λ ds. end_at ds 0) e in
        body-front s at b bs start (end_at (c ∷ cs) 0 - at) [] start.pieces refl (omega arith) (omega arith) ∙ ap (take 1) (sym e)
    by start (c ∷ cs) e (inr size) zero h =
        let ends = ap (λ ds. end_at ds 0) e in
        let one : end_at (c ∷ cs) 0 - at ≡ 1 = omega arith in
        ap (λ n. body s at (take n (b ∷ bs))) one ∙ body-root s at b start.part start.piece size.2 size.1 start.is ∙ ap (take 1) (sym e)
    by start (c ∷ cs) e size (suc k) h =
        let cut = end_cut s (at + length start.piece + 1) start.pieces cs k (ap (drop 1) e) (omega arith) in
        let place = cut.place in
        body-front s at b bs start (end_at cs k - at) (cut.piece ∷ cut.before) cut.behind cut.whole (omega arith) (omega arith)
        ∙ ap (λ ds. record { part = start.part; start = at } ∷ ds) cut.front
        ∙ ap (λ ds. take 1 ds ++ take (suc k) cs) (sym e)

-- what begins with component k + 1 is read as the components from that one on, as later ones
pub record Tail (s : Separators) (at : ℕ) (text : List ℕ) (cs : List Placed) (k : ℕ) : Type 0 where
  pub head : List ℕ
  pub others : List (List ℕ)
  pub split : slice_split (is_separator s) (drop (start_at cs (suc k) - at) text) ≡ head ∷ others
  pub filled : (length head == 0) ≡ false
  pub rest : later_body s (start_at cs (suc k)) (drop (start_at cs (suc k) - at) text) ≡ drop (suc k) cs

-- each component but the first has such a tail
pub tail : (s : Separators) (at : ℕ) (text : List ℕ) (k : ℕ) → suc k < length (body s at text) → Tail s at text (body s at text) k
tail s at [] k h = absurd (omega arith)
tail s at (b ∷ bs) k h = let start = beginning s at b bs in by start (body s at (b ∷ bs)) (body-beginning s at b bs start) h
  where
    by : (start : Beginning s at b bs) (cs : List Placed) → cs ≡ record { part = start.part; start = at } ∷ laid s (at + length start.piece + 1) start.pieces
        → suc k < length cs → Tail s at (b ∷ bs) cs k
    by start [] e h = absurd (omega arith)
    by start (c ∷ cs) e h =
        let cut = start_cut s (at + length start.piece + 1) start.pieces cs k (ap (drop 1) e) (omega arith) in
        let place = cut.place in
        let size : start_at cs k - at ≡ width (start.piece ∷ cut.before) = omega arith in
        let split = ap (λ n. slice_split (is_separator s) (drop n (b ∷ bs))) size
        ∙ slice_split-drop (is_separator s) (b ∷ bs) (start.piece ∷ cut.before) cut.piece cut.behind (start.split ∙ ap (λ pieces. start.piece ∷ pieces) cut.whole) in
        record {
          head = cut.piece;
          others = cut.behind;
          split = split;
          filled = cut.filled;
          rest = ap₂ (laid s) place split ∙ cut.rest;
        }

-- The places of the components of a text.

-- the components of a text without a prefix
body-laid_out : (s : Separators) (text : List ℕ) → IsLaidOut (body s 0 text) text
body-laid_out s [] = record { from_start = refl; in_order = zero-le }
body-laid_out s (b ∷ bs) = record { from_start = body-starts s 0 b bs; in_order = rw zero-add at (body_in_order s 0 (b ∷ bs)) }

-- the components of a text with a prefix
behind-laid_out : (s : Separators) (text : List ℕ) (f : Found) → FoundFits text f → IsLaidOut (comps_behind s text (Some f)) text
behind-laid_out s text f found =
    let long : 0 + length (take f.length text) ≡ f.length = omega (arith, length-take-le f.length text found.fits) in
    let whole : f.length + length (drop f.length text) ≡ length text = omega (arith, length-drop f.length text, found.fits) in
    record {
      from_start = refl;
      in_order = (zero-le, rw (long, ← whole) (body_in_order s f.length (drop f.length text)));
    }

-- the components of every text stand in order within it
pub comps-laid_out : (d : Dialect) (text : List ℕ) → IsLaidOut (comps d text) text
comps-laid_out d text = by (prefix_of d text) (prefix-fits d text)
  where
    by : (o : Option Found) → ((f : Found) → o ≡ Some f → FoundFits text f) → IsLaidOut (comps_behind (separators d text) text o) text
    by None fits = body-laid_out (separators d text) text
    by (Some f) fits = behind-laid_out (separators d text) text f (fits f refl)

-- what stands in order from a place on begins there or behind it, and ends within the text
order-fits : (at end : ℕ) (cs : List Placed) → AreInOrder at end cs → at ≤ end
order-fits at end [] order = order
order-fits at end (c ∷ cs) order = omega (arith, order.0, order-fits (end_of c) end cs order.1)

-- each component begins at or behind that place
starts-behind : (at end : ℕ) (cs : List Placed) (k : ℕ) → AreInOrder at end cs → k < length cs → at ≤ start_at cs k
starts-behind at end [] k order h = absurd (omega arith)
starts-behind at end (c ∷ cs) zero order h = order.0
starts-behind at end (c ∷ cs) (suc k) order h = omega (arith, order.0, starts-behind (end_of c) end cs k order.1 (omega arith))

-- each component ends within the text
pub ends-within : (at end : ℕ) (cs : List Placed) (k : ℕ) → AreInOrder at end cs → k < length cs → end_at cs k ≤ end
ends-within at end [] k order h = absurd (omega arith)
ends-within at end (c ∷ cs) zero order h = order-fits (end_of c) end cs order.1
ends-within at end (c ∷ cs) (suc k) order h = ends-within (end_of c) end cs k order.1 (omega arith)

-- each component ends at or behind the place where it begins, and before the next one begins
pub start-end : (cs : List Placed) (k : ℕ) → start_at cs k ≤ end_at cs k
start-end cs k = grind arith

-- each component ends before a later one begins
pub end-start : (at end : ℕ) (cs : List Placed) (j k : ℕ) → AreInOrder at end cs → j < k → k < length cs → end_at cs j ≤ start_at cs k
end-start at end [] j k order less h = absurd (omega arith)
end-start at end (c ∷ cs) j zero order less h = absurd (omega arith)
end-start at end (c ∷ cs) zero (suc k) order less h = starts-behind (end_of c) end cs k order.1 (omega arith)
end-start at end (c ∷ cs) (suc j) (suc k) order less h = end-start (end_of c) end cs j k order.1 (omega arith) (omega arith)

-- A text has no more components than bytes.

-- a later piece is one component at most, and none where it is empty
later_part-count : (s : Separators) (piece : List ℕ) → length (later_part s piece) ≤ length piece
later_part-count s piece = grind arith

-- later pieces have no more components than bytes
later_parts-count : (s : Separators) (some : List (List ℕ)) → length (later_parts s some) + length some ≤ width some
later_parts-count s [] = zero-le
later_parts-count s (piece ∷ some) = grind (arith, common_steps, later_part-count, length-append, later_part, later_parts, later_parts-count s some)

-- so it is with all pieces of a text that is not empty
first_parts-count : (s : Separators) (piece : List ℕ) (some : List (List ℕ)) (size : ℕ) → 0 < size → width (piece ∷ some) ≡ size + 1 → length (first_parts s (piece ∷ some)) ≤ size
first_parts-count s piece some size filled e = grind (arith, common_steps, later_parts-count)

length-parts : (cs : List Placed) → length (parts cs) ≡ length cs
length-parts cs = length-map cs (λ c. c.part)

-- a text has no more components than bytes
pub body-count : (s : Separators) (at : ℕ) (text : List ℕ) → length (body s at text) ≤ length text
body-count s at [] = zero-le
body-count s at (b ∷ bs) =
    let some = slice_split-some (is_separator s) (b ∷ bs) in
    let counted : length (first_parts s (some.0 ∷ some.1)) ≤ length (b ∷ bs) = first_parts-count s some.0 some.1 (length (b ∷ bs)) (omega arith) (ap width (sym some.2) ∙ width-slice_split (is_separator s) (b ∷ bs)) in
    omega (arith, counted, length-parts (body s at (b ∷ bs)), ap length (parts-body s at (b ∷ bs)), ap (λ ps. length (first_parts s ps)) some.2)

-- so has one that does not stand at the beginning
pub later_body-count : (s : Separators) (at : ℕ) (text : List ℕ) → length (later_body s at text) ≤ length text
later_body-count s at text =
    let some = slice_split-some (is_separator s) text in
    let filled : 0 < length (pieces s text) = omega (arith, ap length some.2) in
    omega (arith, filled, later_parts-count s (pieces s text), width-slice_split (is_separator s) text, length-parts (later_body s at text), ap length (parts-later_body s at text))

pub body_from-count : (begin : Begin) (s : Separators) (at : ℕ) (text : List ℕ) → length (body_from begin s at text) ≤ length text
body_from-count Body s at text = body-count s at text
body_from-count Inside s at text = later_body-count s at text

-- so has a whole one, with its prefix
pub comps-count : (d : Dialect) (t : List ℕ) → length (comps d t) ≤ length t
comps-count d t = by (prefix_of d t) refl
  where
    by : (o : Option Found) → prefix_of d t ≡ o → length (comps_behind (separators d t) t o) ≤ length t
    by None e = body-count (separators d t) 0 t
    by (Some f) e =
        let fits = prefix-fits d t f e in
        omega (arith, body-count (separators d t) f.length (drop f.length t), length-drop f.length t, fits.filled, fits.fits)

-- where more stands behind the prefix, there is another component
filled-count : (s : Separators) (at : ℕ) (text : List ℕ) → 0 < length text → 0 < length (parts (body s at text))
filled-count s at text filled = grind arith

pub behind-count : (text : List ℕ) (f : Found) → Some f ≡ prefix_of windows text → f.length < length text → 1 < length (parts_of windows text)
behind-count text f found less = grind (arith, filled-count, length-drop)

-- Two texts put behind one another, where no component reaches over the border between them.

-- the first ends with a separator
pub body-ended : (s : Separators) (at : ℕ) (before us rest : List ℕ) (x : ℕ) → before ≡ us ++ x ∷ [] → is_separator s x ≡ true
    → body s at (before ++ rest) ≡ body s at before ++ later_body s (at + length before) rest
body-ended s at before us rest x e separates =
    ap (λ t. body s at (t ++ rest)) e
    ∙ ap (body s at) (append_assoc us (x ∷ []) rest)
    ∙ body_from-append s at x separates Body us rest
    ∙ ap (λ t. body s at t ++ later_body s (at + length us + 1) rest) (sym e)
    ∙ ap (λ n. body s at before ++ later_body s n rest) (omega (arith, ap length e, length-append us (x ∷ [])))

-- or the second begins with one
pub body-begun : (s : Separators) (at : ℕ) (before rest more : List ℕ) (x : ℕ) → 0 < length before → rest ≡ x ∷ more → is_separator s x ≡ true
    → body s at (before ++ rest) ≡ body s at before ++ later_body s (at + length before) rest
body-begun s at [] rest more x some e separates = absurd (omega arith)
body-begun s at (u ∷ us) rest more x some e separates =
    ap (λ r. body s at (u ∷ us ++ r)) e
    ∙ body_from-append s at x separates Body (u ∷ us) more
    ∙ ap (λ cs. cs ++ later_body s (at + length (u ∷ us) + 1) more) (body_from-separator s at x separates Body u us)
    ∙ ap (λ cs. body s at (u ∷ us) ++ cs) (sym (later_body-separator s (at + length (u ∷ us)) x more separates))
    ∙ ap (λ r. body s at (u ∷ us) ++ later_body s (at + length (u ∷ us)) r) (sym e)
