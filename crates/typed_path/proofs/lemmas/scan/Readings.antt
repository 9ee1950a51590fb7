-- A reading from both ends, step by step, and the slice that it leaves.
use Rattle.std.proofs.Common.{◌≡◌, ℕ, ◌+◌, ◌-◌, ◌<◌, ◌≤◌, List, [], ◌∷◌, ◌++◌, length, reverse, take, drop, get_or, slice_get, Some, None, refl, sym, ap, ap₂, ◌∙◌, append_assoc, add-zero, zero-add, add_assoc, inl, inr, nat_lt, take-take, take_all, arith, ◌==◌, ◌&&◌, if◌then◌else◌, slice_range, ne_eqb, zero, suc, option_map, le_of_eq, unwrap_or, map, Option, length-drop, length-take, take-append-drop, drop-drop, get_or-take, get_or-drop, lt-ltb, le-ltb, eq-eqb}
use Rattle.std.proofs.lemmas.Grind.{common_steps}
use Rattle.std.proofs.lemmas.List.{length-reverse, get_or-reverse, nil_from_length, drop-take, take_rest, drop_more, map-append}
use Rattle.std.proofs.lemmas.Bool.{cases_lt, cond-true, cond-false, and_left, and_from}
use Rattle.std.proofs.lemmas.Option.{slice_get-get_or}
use Rattle.typed_path.specs.declared.scan.step.Piece.{Piece}
use Rattle.typed_path.specs.declared.script.run.End.{End}
use Rattle.typed_path.specs.declared.script.run.End.TheVariants.{Front}
use Rattle.typed_path.specs.components.{Placed, current_part, end_of}
use Rattle.typed_path.specs.scan.{Side, front, back, first_of, last_of, but_last, items_between, answer, reads_after, reads, left, start_at, end_at, slice_after_front, slice_after_back, cut_to, end_before_last, answers_after, items_after, fronts, backs, IsWhole, items_behind, slice_behind, slice_after, IsLaidOut, answer_of, side_of, sides, taken_parts}
use Rattle.typed_path.specs.views.PieceViews.{part_of}
use Rattle.typed_path.proofs.lemmas.components.Cuts.{ends-within, start-end, end-start}
use Rattle.typed_path.proofs.lemmas.lists.Lists.{reverse-take-reverse}

-- A reading from both ends, step by step, and its closed forms.

-- what was taken from the front, what is left, and what was taken from the back are together the list
pub is_whole : (cs : List Placed) (i j : ℕ) → IsWhole cs i j
is_whole cs i j h =
    let m = length cs - j - i in
    let back : reverse (take j (reverse cs)) ≡ drop m (drop i cs) =
    reverse-take-reverse cs j (omega arith) ∙ ap (λ n. drop n cs) (omega arith) ∙ sym (drop-drop m i cs) in
    append_assoc (take i cs) (take m (drop i cs)) (reverse (take j (reverse cs)))
    ∙ ap (λ ys. take i cs ++ (take m (drop i cs) ++ ys)) back
    ∙ ap (λ ys. take i cs ++ ys) (take-append-drop m (drop i cs))
    ∙ take-append-drop i cs

-- a component to read past the end of a list
pub nowhere : Placed
nowhere = record { part = current_part; start = 0 }

-- the first component of a list that is not empty
first_of-get : (cs : List Placed) → 0 < length cs → first_of cs ≡ Some (get_or cs 0 nowhere)
first_of-get cs h = grind arith

module _ (cs : List Placed) (i j : ℕ) where
  -- how many components are left
  pub between-length : length (items_between cs i j) ≡ length cs - j - i
  between-length = length-take (length cs - j - i) (drop i cs) ∙ omega (arith, length-drop i cs)

  -- none are left once all are taken
  pub between-none : length cs ≤ i + j → items_between cs i j ≡ []
  between-none h = nil_from_length (items_between cs i j) (between-length ∙ omega arith)

  -- component k of those left
  pub between-get : (k : ℕ) → i + j + k < length cs → get_or (items_between cs i j) k nowhere ≡ get_or cs (i + k) nowhere
  between-get k h = get_or-take (length cs - j - i) (drop i cs) k nowhere (omega arith) ∙ get_or-drop i cs k nowhere

  -- the first of the components left is the answer from the front
  between-first : first_of (items_between cs i j) ≡ answer cs i j front
  between-first = grind (arith, cases_lt, first_of-get, between-length, between-get, nowhere, add-zero, cond-true, lt-ltb, slice_get-get_or, between-none)

  -- the last of them is the answer from the back
  pub between-last : last_of (items_between cs i j) ≡ answer cs i j back
  between-last = grind (arith, cases_lt, between-length, first_of-get, length-reverse, get_or-reverse, nowhere, between-get, cond-true, lt-ltb, slice_get-get_or)

-- a step from the front leaves one component less
pub between-front : (cs : List Placed) (i j : ℕ) → drop 1 (items_between cs i j) ≡ items_between cs (i + 1) j
between-front cs i j = elim (cases_lt (i + j) (length cs)) [
  | inl some ↦
      let size : length cs - j - i ≡ 1 + (length cs - j - (i + 1)) = omega arith in
      ap (λ n. drop 1 (take n (drop i cs))) size ∙ drop-take 1 (length cs - j - (i + 1)) (drop i cs) ∙ ap (take (length cs - j - (i + 1))) (drop-drop 1 i cs)
  | inr none ↦ ap (drop 1) (between-none cs i j none) ∙ sym (between-none cs (i + 1) j (omega arith))
]

-- so does a step from the back
pub between-back : (cs : List Placed) (i j : ℕ) → but_last (items_between cs i j) ≡ items_between cs i (j + 1)
between-back cs i j = grind (arith, between-length, take-take)

-- the answers of the steps are those by counts
answers_between : (cs : List Placed) (i j : ℕ) (sides : List Side) → answers_after (items_between cs i j) sides ≡ reads_after cs i j sides
answers_between cs i j [] = refl
answers_between cs i j (front ∷ sides) = ap₂ ◌∷◌ (between-first cs i j) (ap (λ ds. answers_after ds sides) (between-front cs i j) ∙ answers_between cs (i + 1) j sides)
answers_between cs i j (back ∷ sides) = ap₂ ◌∷◌ (between-last cs i j) (ap (λ ds. answers_after ds sides) (between-back cs i j) ∙ answers_between cs i (j + 1) sides)

-- the list that the steps leave is the one by counts
items_after-between : (cs : List Placed) (i j : ℕ) (sides : List Side) → items_after (items_between cs i j) sides ≡ items_between cs (i + fronts sides) (j + backs sides)
items_after-between cs i j [] = ap₂ (items_between cs) (omega arith) (omega arith)
items_after-between cs i j (front ∷ sides) = grind (arith, common_steps, between-front, items_after-between cs (i + 1) j sides)
items_after-between cs i j (back ∷ sides) = grind (arith, common_steps, between-back, items_after-between cs i (j + 1) sides)

-- before the first step all components are left
pub between-all : (cs : List Placed) → items_between cs 0 0 ≡ cs
between-all cs = take_all (length cs - 0 - 0) cs (omega arith)

-- the steps answer what counting them tells
pub stepwise_answers : (cs : List Placed) (sides : List Side) → answers_after cs sides ≡ reads cs sides
stepwise_answers cs sides = ap (λ ds. answers_after ds sides) (sym (between-all cs)) ∙ answers_between cs 0 0 sides

-- the steps leave the list that counting them tells
pub stepwise_items : (cs : List Placed) (sides : List Side) → items_after cs sides ≡ items_between cs (fronts sides) (backs sides)
stepwise_items cs sides = ap (λ ds. items_after ds sides) (sym (between-all cs)) ∙ items_after-between cs 0 0 sides ∙ ap₂ (items_between cs) (zero-add (fronts sides)) (zero-add (backs sides))

-- once all components are taken the steps leave none
pub stepwise_none : (cs : List Placed) (sides : List Side) → length cs ≤ fronts sides + backs sides → items_after cs sides ≡ []
stepwise_none cs sides all = stepwise_items cs sides ∙ between-none cs (fronts sides) (backs sides) all

-- The slice left of a reading, by how many components were taken.

module _ (cs : List Placed) (text : List ℕ) (i j : ℕ) where
  -- where the slice left begins
  abbrev pub left_start : ℕ
  left_start = if i == 0 then 0 else start_at cs i

  -- where it ends
  abbrev pub left_end : ℕ
  left_end = if j == 0 then length text else end_at cs (length cs - j - 1)

  -- once all components are taken nothing is left
  pub left-taken : i + j ≡ length cs → 0 < length cs → left cs text i j ≡ []
  left-taken all some = cond-true ((i + j == length cs) && nat_lt 0 (length cs)) [] (slice_range text left_start left_end) (and_from _ _ (eq-eqb (i + j) (length cs) all) (lt-ltb 0 (length cs) some))

  -- before that the slice reaches from the first component left to the last
  pub left-inside : i + j < length cs → left cs text i j ≡ slice_range text left_start left_end
  left-inside some = cond-false ((i + j == length cs) && nat_lt 0 (length cs)) [] (slice_range text left_start left_end) (and_left _ _ (ne_eqb (i + j) (length cs) (λ e. omega arith)))

-- of no components all is left
left-none : (text : List ℕ) → left [] text 0 0 ≡ text
left-none text = take_all (length text - 0) text (omega arith)

-- nothing taken, all is left
pub left-all : (cs : List Placed) (text : List ℕ) → left cs text 0 0 ≡ text
left-all cs text = grind (arith, left-none, left-inside)

-- where only the front was taken, the slice left begins with the next component
pub left-front : (cs : List Placed) (text : List ℕ) (i : ℕ) → 0 < i → i < length cs → left cs text i 0 ≡ drop (start_at cs i) text
left-front cs text i h inside = grind (arith, cond-false, take_rest)

-- where only the last was taken, it ends with the one before
pub left-parent : (cs : List Placed) (text : List ℕ) → 1 < length cs → left cs text 0 1 ≡ take (end_at cs (length cs - 1 - 1)) text
left-parent cs text some = left-inside cs text 0 1 (omega arith) ∙ ap (λ n. take n text) (omega arith)

-- The slice that a reading step by step leaves, by how many components were taken.

-- a step from the front to the end
front-one : (ds : List Placed) (slice : List ℕ) → length ds ≡ 1 → slice_after_front ds slice ≡ []
front-one ds slice h = grind arith

-- a step from the front, with more behind it
front-more : (ds : List Placed) (slice : List ℕ) → 1 < length ds → slice_after_front ds slice ≡ drop (start_at ds 1 - start_at ds 0) slice
front-more ds slice h = grind arith

-- a step from the back
back-filled : (ds : List Placed) (slice : List ℕ) → 0 < length ds → slice_after_back ds slice ≡ cut_to (start_at ds 0) slice (end_before_last ds)
back-filled ds slice h = grind arith

-- without components a step leaves the slice
slice_behind-nil : (slice : List ℕ) (side : Side) → slice_behind [] slice side ≡ slice
slice_behind-nil slice front = refl
slice_behind-nil slice back = refl

-- and the list
items_behind-nil : (side : Side) → items_behind [] side ≡ []
items_behind-nil front = refl
items_behind-nil back = refl

-- so do all steps
pub slice_after-nil : (slice : List ℕ) (sides : List Side) → slice_after [] slice sides ≡ slice
slice_after-nil slice [] = refl
slice_after-nil slice (side ∷ sides) = rw (items_behind-nil side, slice_behind-nil slice side) (slice_after-nil slice sides)

module _ (cs : List Placed) (text : List ℕ) (laid : IsLaidOut cs text) where
  -- where the slice left begins
  starts : (i j : ℕ) → left_start cs text i j ≡ start_at cs i
  starts i j = grind arith

  -- where component k of those left begins
  between-start : (i j k : ℕ) → i + j + k < length cs → start_at (items_between cs i j) k ≡ start_at cs (i + k)
  between-start i j k h =
      let here : slice_get (items_between cs i j) k ≡ Some (get_or (items_between cs i j) k nowhere) = slice_get-get_or (items_between cs i j) k nowhere (rw between-length (omega arith)) in
      let there : slice_get cs (i + k) ≡ Some (get_or cs (i + k) nowhere) = slice_get-get_or cs (i + k) nowhere (omega arith) in
      ap (λ o. unwrap_or (option_map (λ c. c.start) o) 0) (here ∙ ap Some (between-get cs i j k h) ∙ sym there)

  -- where the slice left ends: no component left ends behind it
  end-bound : (i j k : ℕ) → k + j < length cs → end_at cs k ≤ left_end cs text i j
  end-bound i zero k h = ends-within 0 (length text) cs k laid.in_order (omega arith)
  end-bound i (suc j) k h =
      let m = length cs - suc j - 1 in
      rw (cond-false (suc j == 0) (length text) (end_at cs m) (ne_eqb (suc j) 0 (λ e. omega arith)))
      (elim (cases_lt k m) [ inl less ↦ omega (arith, end-start 0 (length text) cs k m laid.in_order less (omega arith), start-end cs m) | inr most ↦ le_of_eq (ap (end_at cs) (omega arith)) ])

  -- a step from the front leaves what is left of one component more
  front_step : (i j : ℕ) → i + j < length cs → slice_after_front (items_between cs i j) (left cs text i j) ≡ left cs text (i + 1) j
  front_step i j some = elim (cases_lt (i + j + 1) (length cs)) [
    | inl more ↦
        let S = start_at cs i in
        let T = start_at cs (i + 1) in
        let E = left_end cs text i j in
        let rise : S ≤ T = omega (arith, start-end cs i, end-start 0 (length text) cs i (i + 1) laid.in_order (omega arith) (omega arith)) in
        let low : T ≤ E = omega (arith, start-end cs (i + 1), end-bound i j (i + 1) (omega arith)) in
        let size : E - S ≡ (T - S) + (E - T) = omega arith in
        let place : S + (T - S) ≡ T = omega arith in
        front-more (items_between cs i j) (left cs text i j) (rw between-length (omega arith))
        ∙ ap₂ drop (ap₂ ◌-◌ (between-start i j 1 more) (between-start i j 0 (omega arith) ∙ ap (start_at cs) (add-zero i))) (left-inside cs text i j some ∙ ap (λ n. slice_range text n E) (starts i j))
        ∙ ap (λ n. drop (T - S) (take n (drop S text))) size
        ∙ drop-take (T - S) (E - T) (drop S text)
        ∙ ap (take (E - T)) (drop-drop (T - S) S text ∙ ap (λ n. drop n text) place)
        ∙ sym (left-inside cs text (i + 1) j (omega arith) ∙ ap (λ n. slice_range text n E) (starts (i + 1) j))
    | inr last ↦
        front-one (items_between cs i j) (left cs text i j) (between-length cs i j ∙ omega arith) ∙ sym (left-taken cs text (i + 1) j (omega arith) (omega arith))
  ]

  -- where the last component but one ends
  before_last-end : (i j : ℕ) → end_before_last (items_between cs i j) ≡ option_map end_of (answer cs i (j + 1) back)
  before_last-end i j = ap (option_map end_of) (ap last_of (between-back cs i j) ∙ between-last cs i (j + 1))

  -- so does a step from the back
  back_step : (i j : ℕ) → i + j < length cs → slice_after_back (items_between cs i j) (left cs text i j) ≡ left cs text i (j + 1)
  back_step i j some =
      let start : start_at (items_between cs i j) 0 ≡ start_at cs i = between-start i j 0 (omega arith) ∙ ap (start_at cs) (add-zero i) in
      back-filled (items_between cs i j) (left cs text i j) (rw between-length (omega arith))
      ∙ ap₂ (λ n o. cut_to n (left cs text i j) o) start (before_last-end i j)
      ∙ elim (cases_lt (i + (j + 1)) (length cs)) [
        | inl more ↦
            let m = length cs - (j + 1) - 1 in
            let S = start_at cs i in
            let E = left_end cs text i j in
            let x = get_or cs m nowhere in
            let here : slice_get cs m ≡ Some x = slice_get-get_or cs m nowhere (omega arith) in
            let last : answer cs i (j + 1) back ≡ Some x = cond-true (nat_lt (i + (j + 1)) (length cs)) (slice_get cs m) None (lt-ltb (i + (j + 1)) (length cs) more) ∙ here in
            let ends : end_of x ≡ end_at cs m = ap (λ o. unwrap_or (option_map end_of o) 0) (sym here) in
            let low : end_at cs m ≤ E = end-bound i j m (omega arith) in
            ap (λ o. cut_to S (left cs text i j) (option_map end_of o)) last
            ∙ ap₂ (λ e slice. take (e - S) slice) ends (left-inside cs text i j some ∙ ap (λ n. slice_range text n E) (starts i j))
            ∙ take-take (end_at cs m - S) (E - S) (drop S text) (omega arith)
            ∙ sym (left-inside cs text i (j + 1) more ∙ ap₂ (slice_range text) (starts i (j + 1)) (cond-false (j + 1 == 0) (length text) (end_at cs m) (ne_eqb (j + 1) 0 (λ e. omega arith))))
        | inr all ↦
            ap (λ o. cut_to (start_at cs i) (left cs text i j) (option_map end_of o)) (cond-false (nat_lt (i + (j + 1)) (length cs)) (slice_get cs (length cs - (j + 1) - 1)) None (le-ltb (i + (j + 1)) (length cs) all))
            ∙ sym (left-taken cs text i (j + 1) (omega arith) (omega arith))
      ]

  -- while the steps take components only, they leave what is left of as many
  pub slice_after-left : (i j : ℕ) (sides : List Side) → i + fronts sides + (j + backs sides) ≤ length cs → slice_after (items_between cs i j) (left cs text i j) sides ≡ left cs text (i + fronts sides) (j + backs sides)
  slice_after-left i j [] fits = ap₂ (left cs text) (sym (add-zero i)) (sym (add-zero j))
  slice_after-left i j (front ∷ sides) fits =
      ap₂ (λ ds slice. slice_after ds slice sides) (between-front cs i j) (front_step i j (omega arith))
      ∙ slice_after-left (i + 1) j sides (omega arith) ∙ ap (λ n. left cs text n (j + backs sides)) (add_assoc i 1 (fronts sides))
  slice_after-left i j (back ∷ sides) fits =
      ap₂ (λ ds slice. slice_after ds slice sides) (between-back cs i j) (back_step i j (omega arith))
      ∙ slice_after-left i (j + 1) sides (omega arith) ∙ ap (left cs text (i + fronts sides)) (add_assoc j 1 (backs sides))

  -- with no component left the steps leave nothing
  none_stays : (i j : ℕ) (sides : List Side) → i + j ≡ length cs → 0 < length cs → slice_after (items_between cs i j) (left cs text i j) sides ≡ []
  none_stays i j sides all some = ap₂ (λ ds slice. slice_after ds slice sides) (between-none cs i j (omega arith)) (left-taken cs text i j all some) ∙ slice_after-nil [] sides

  -- steps that take all components leave nothing
  slice_after-taken : (i j : ℕ) (sides : List Side) → i + j ≤ length cs → 0 < length cs → length cs ≤ i + fronts sides + (j + backs sides) → slice_after (items_between cs i j) (left cs text i j) sides ≡ []
  slice_after-taken i j [] low some all = none_stays i j [] (omega arith) some
  slice_after-taken i j (front ∷ sides) low some all = elim (cases_lt (i + j) (length cs)) [
    | inl more ↦ ap₂ (λ ds slice. slice_after ds slice sides) (between-front cs i j) (front_step i j more) ∙ slice_after-taken (i + 1) j sides (omega arith) some (omega arith)
    | inr none ↦ none_stays i j (front ∷ sides) (omega arith) some
  ]
  slice_after-taken i j (back ∷ sides) low some all = elim (cases_lt (i + j) (length cs)) [
    | inl more ↦ ap₂ (λ ds slice. slice_after ds slice sides) (between-back cs i j) (back_step i j more) ∙ slice_after-taken i (j + 1) sides (omega arith) some (omega arith)
    | inr none ↦ none_stays i j (back ∷ sides) (omega arith) some
  ]

-- the steps leave what is left of as many components as they take
pub stepwise_slices : (cs : List Placed) (text : List ℕ) (sides : List Side) → IsLaidOut cs text → fronts sides + backs sides ≤ length cs → slice_after cs text sides ≡ left cs text (fronts sides) (backs sides)
stepwise_slices cs text sides laid fits =
    ap₂ (λ ds slice. slice_after ds slice sides) (sym (between-all cs)) (sym (left-all cs text))
    ∙ slice_after-left cs text laid 0 0 sides (omega arith)
    ∙ ap₂ (left cs text) (zero-add (fronts sides)) (zero-add (backs sides))

-- and nothing once all are taken
pub stepwise_end : (cs : List Placed) (text : List ℕ) (sides : List Side) → IsLaidOut cs text → 0 < length cs → length cs ≤ fronts sides + backs sides → slice_after cs text sides ≡ []
stepwise_end cs text sides laid some all =
    ap₂ (λ ds slice. slice_after ds slice sides) (sym (between-all cs)) (sym (left-all cs text))
    ∙ slice_after-taken cs text laid 0 0 sides (omega arith) some (omega arith)

-- One more request of a list of them.

module _ (ends : List End) (i : ℕ) (more : i < length ends) (end : End) (at : get_or ends i Front ≡ end) (cs ds : List Placed) (items : ds ≡ items_behind cs (side_of end)) where
  split : drop i ends ≡ end ∷ drop (i + 1) ends
  split = drop_more ends i Front more ∙ ap (λ e. e ∷ drop (i + 1) ends) at

  pub items-step : items_after ds (sides (drop (i + 1) ends)) ≡ items_after cs (sides (drop i ends))
  items-step = ap (λ xs. items_after xs (sides (drop (i + 1) ends))) items ∙ ap (λ es. items_after cs (sides es)) (sym split)

  pub slice-step : (before after : List ℕ) → after ≡ slice_behind cs before (side_of end)
      → slice_after ds after (sides (drop (i + 1) ends)) ≡ slice_after cs before (sides (drop i ends))
  slice-step before after slice = grind (arith, split)

  pub answers-step : (before after : List (Option Piece)) (answer : Option Piece) → after ≡ before ++ answer ∷ [] → option_map part_of answer ≡ option_map (λ c. c.part) (answer_of cs (side_of end))
      → map (option_map part_of) after ++ taken_parts (answers_after ds (sides (drop (i + 1) ends))) ≡ map (option_map part_of) before ++ taken_parts (answers_after cs (sides (drop i ends)))
  answers-step before after answer pushed taken = grind (arith, map-append, append_assoc, split)
