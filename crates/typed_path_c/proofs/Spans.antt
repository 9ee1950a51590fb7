-- Where the last component stands, and where each one does that is read from the front.
use Rattle.std.proofs.Common.{true≢false, is_some, map, ◌≡◌, ℕ, suc, ◌+◌, ◌-◌, ◌<◌, ◌≤◌, List, [], ◌∷◌, ◌++◌, length, drop, set, Option, Some, None, option_map, refl, sym, ap, ap₂, ◌∙◌, arith, append_assoc, append-nil}
use Rattle.std.proofs.lemmas.List.{drop-drop, drop_at, length-drop, length-append, length-map, map-append}
use Rattle.typed_path.specs.components.{Dialect, Part, Placed, end_of, comps}
use Rattle.typed_path.specs.scan.{AreInOrder, first_of, slice_after_front, start_at}
use Rattle.typed_path.proofs.lemmas.components.Cuts.{comps-laid_out, comps-count}
use Rattle.typed_path_c.specs.declared.parts.Component.{Component}
use Rattle.typed_path_c.specs.Parts.{IsBehind, over, told, kind_number}

-- a list in order goes on behind the component that came
in-order : (at end : ℕ) (seen : List Placed) (c d : Placed) (cs : List Placed) → AreInOrder at end (seen ++ c ∷ d ∷ cs) → c.start ≤ d.start
in-order at end [] c d cs order = omega (arith, order.1.0)
in-order at end (x ∷ seen) c d cs order = in-order (end_of x) end seen c d cs order.1

-- a list in order ends behind its begin
ends-within : (at end : ℕ) (cs : List Placed) → AreInOrder at end cs → at ≤ end
ends-within at end [] order = order
ends-within at end (c ∷ cs) order = omega (arith, order.0, ends-within (end_of c) end cs order.1)

-- and begins within the text
starts-within : (at end : ℕ) (seen : List Placed) (c : Placed) (cs : List Placed) → AreInOrder at end (seen ++ c ∷ cs) → c.start ≤ end
starts-within at end [] c cs order = omega (arith, ends-within (end_of c) end cs order.1)
starts-within at end (x ∷ seen) c cs order = starts-within (end_of x) end seen c cs order.1

module _ (d : Dialect) (path : List ℕ) where
  -- at first nothing was seen
  pub behind-starts : IsBehind d path [] (comps d path) path
  behind-starts = (refl, λ c first. by (comps d path) (comps-laid_out d path).from_start c first)
    where
      by : (cs : List Placed) → start_at cs 0 ≡ 0 → (c : Placed) → first_of cs ≡ Some c → path ≡ drop c.start path
      by [] start c first = cc first
      by (x ∷ cs) start c first = let same : x ≡ c = cc first in ap (λ n. drop n path) (sym start ∙ ap (λ p. p.start) same)

  pub starts : (items : List Placed) (left : List ℕ) → items ≡ comps d path → left ≡ path → IsBehind d path [] items left
  starts items left e f = (sym e, λ c first. f ∙ behind-starts.1 c (ap first_of (sym e) ∙ first))

  -- what is left behind so many components is the end of the list
  pub left-behind : (seen items : List Placed) (left : List ℕ) (n : ℕ) → IsBehind d path seen items left → length seen ≡ n → drop n (comps d path) ≡ items
  left-behind seen items left n behind long = ap (drop n) behind.0 ∙ drop_at seen items n long

  -- where none is left, all were seen
  pub all-seen : (seen items : List Placed) (left : List ℕ) → IsBehind d path seen items left → None ≡ option_map told (first_of items) → comps d path ≡ seen
  all-seen seen [] left behind none = behind.0 ∙ append-nil seen
  all-seen seen (c ∷ items) left behind none = cc none

  -- one step from the front
  pub behind_front : (seen items : List Placed) (left : List ℕ) (c : Placed) → first_of items ≡ Some c → IsBehind d path seen items left
      → IsBehind d path (seen ++ c ∷ []) (drop 1 items) (slice_after_front items left)
  behind_front seen [] left c first behind = cc first
  behind_front seen (x ∷ []) left c first (whole, begins) =
      let same : x ≡ c = cc first in
      (whole ∙ ap (λ p. seen ++ p ∷ []) same ∙ sym (append-nil (seen ++ c ∷ [])), λ e none. cc none)
  behind_front seen (x ∷ y ∷ items) left c first (whole, begins) =
      let same : x ≡ c = cc first in
      let ordered : x.start ≤ y.start = in-order 0 (length path) seen x y items (rw (← whole) (comps-laid_out d path).in_order) in (
        whole ∙ ap (λ p. seen ++ p ∷ y ∷ items) same ∙ sym (append_assoc seen (c ∷ []) (y ∷ items)),
        λ e next.
            let is : y ≡ e = cc next in
            ap (drop (y.start - x.start)) (begins x refl)
            ∙ drop-drop (y.start - x.start) x.start path
            ∙ ap (λ n. drop n path) (omega (arith, ordered))
            ∙ ap (λ p. drop p.start path) is,
      )

-- one item more in the place of those of a list
pub over_item : {A : Type 0} (items old : List A) (item : A) → length items < length old → over (items ++ item ∷ []) old ≡ set (over items old) (length items) item
over_item [] [] item less = absurd (omega (arith, less))
over_item [] (o ∷ old) item less = refl
over_item (x ∷ items) [] item less = absurd (omega (arith, less))
over_item (x ∷ items) (o ∷ old) item less = ap (λ xs. x ∷ xs) (over_item items old item (omega (arith, less)))

-- of which there is no more room
pub over_full : {A : Type 0} (items old : List A) (item : A) → length old ≤ length items → over (items ++ item ∷ []) old ≡ over items old
over_full [] [] item full = refl
over_full [] (o ∷ old) item full = absurd (omega (arith, full))
over_full (x ∷ items) [] item full = refl
over_full (x ∷ items) (o ∷ old) item full = ap (λ xs. x ∷ xs) (over_full items old item (omega (arith, full)))

pub over_length : {A : Type 0} (items old : List A) → length (over items old) ≡ length old
over_length [] old = refl
over_length (x ∷ items) [] = refl
over_length (x ∷ items) (o ∷ old) = ap suc (over_length items old)

-- a component that was told is one that is there
pub first-told : (o : Option Placed) (x : Component) → Some x ≡ option_map told o → (c : Placed) × (o ≡ Some c) × (x ≡ told c)
first-told None x e = absurd (true≢false (ap is_some e))
first-told (Some c) x e = (c, refl, cc e)

-- the components that were seen stand in an array, and one more
pub over-told : (seen : List Placed) (c : Placed) (x : Component) → x ≡ told c → map told seen ++ x ∷ [] ≡ map told (seen ++ c ∷ [])
over-told seen c x e = ap (λ y. map told seen ++ y ∷ []) e ∙ sym (map-append told seen (c ∷ []))

pub length-told : (seen : List Placed) → length (map told seen) ≡ length seen
length-told seen = length-map seen told

pub length-more : (seen : List Placed) (c : Placed) (n : ℕ) → length seen ≡ n → length (seen ++ c ∷ []) ≡ n + 1
length-more seen c n e = omega (arith, e, length-append seen (c ∷ []))

-- the component that a step gives, as it is told
pub next-told : (d : Dialect) (path : List ℕ) (seen items : List Placed) (left : List ℕ) (p : Part) (start kind : ℕ)
    → IsBehind d path seen items left → Some p ≡ option_map (λ c. c.part) (first_of items)
    → start ≡ length path - length left → kind ≡ kind_number p.kind
    → Some (record { start = start; length = length p.text; kind = kind }) ≡ option_map told (first_of items)
next-told d path seen [] left p start kind behind taken from is = cc taken
next-told d path seen (c ∷ items) left p start kind behind taken from is =
    let same : p ≡ c.part = cc taken in
    let begins : length left ≡ length path - c.start = ap length (behind.1 c refl) ∙ length-drop c.start path in
    let within : c.start ≤ length path = starts-within 0 (length path) seen c items (rw (← behind.0) (comps-laid_out d path).in_order) in
    let at : start ≡ c.start = omega (arith, from, begins, within) in
    ap₂ (λ n q. Some (record { start = n; length = length q.text; kind = kind })) at same
    ∙ ap (λ k. Some (record { start = c.start; length = length c.part.text; kind = k })) (is ∙ ap (λ q. kind_number q.kind) same)

-- a step takes one component
pub shorter : (items new : List Placed) (c : Placed) → first_of items ≡ Some c → new ≡ drop 1 items → length new < length items
shorter [] new c first e = absurd (true≢false (sym (ap is_some first)))
shorter (x ∷ items) new c first e = omega (arith, ap length e)

-- while one is left, fewer were seen than the path has bytes
pub seen-within : (d : Dialect) (path : List ℕ) (seen items : List Placed) (c : Placed) → first_of items ≡ Some c → comps d path ≡ seen ++ items → length seen < length path
seen-within d path seen [] c first e = absurd (true≢false (sym (ap is_some first)))
seen-within d path seen (x ∷ items) c first e = omega (arith, comps-count d path, ap length e, length-append seen (x ∷ items))
