-- A step from either end, of a list, an iterator and a cursor.
use Rattle.std.proofs.Common.{◌≡◌, ℕ, ◌+◌, ◌-◌, ◌≤◌, List, [], ◌∷◌, ◌++◌, length, map, take, drop, get_or, le_refl, slice_range, Option, Some, None, option_map, true, refl, sym, ap, subst, ◌∙◌, arith, ◌<◌, ap₂, length-append, take_at, take_all, take-take, length-drop, length-take-le}
use Rattle.std.proofs.lemmas.Grind.{common_steps}
use Rattle.std.specs.Prelude.{⊤}
use Rattle.std.specs.Option.{option_to_list}
use Rattle.std.proofs.lemmas.List.{reverse-append, length-map, take_more, map-append, drop-take}
use Rattle.std.specs.Iterator.{MakesProgress, YieldsFirstBy, YieldsLastBy, item_count}
use Rattle.std.proofs.lemmas.Option.{same_Some}
use Rattle.typed_path.specs.declared.scan.separators.Separators.{Separators}
use Rattle.typed_path.specs.declared.scan.cursor.Begin.{Begin}
use Rattle.typed_path.specs.declared.scan.cursor.Begin.TheVariants.{Body as WholeBody, Inside}
use Rattle.typed_path.specs.declared.scan.cursor.Cursor.{Cursor}
use Rattle.typed_path.specs.declared.scan.cursor.Body.{Body}
use Rattle.typed_path.specs.declared.scan.prefix.Found.{Found}
use Rattle.typed_path.specs.components.{Placed, end_of, Part, parts, kinds, prefix_part, component}
use Rattle.typed_path.specs.scan.{first_of, last_of, but_last, slice_after_back, slice_after_front, body_from, is_clean, end_from, last_part, first_part, pending}
use Rattle.typed_path.specs.queries.{prefix_among, behind_prefix}
use Rattle.typed_path.specs.views.PieceViews.{prefix_view}
use Rattle.typed_path.specs.views.Shown.{Shown}
use Rattle.typed_path.specs.views.BodyViews.{body_items, body_slice}
use Rattle.typed_path.specs.views.CursorViews.{body_of, start_left, prefix_left, slice_left, items_left}
use Rattle.typed_path.proofs.lemmas.components.Segments.{parts-body, parts-later_body, slice_after_front-first}
use Rattle.typed_path.proofs.lemmas.lists.Lists.{slice_range-later}

-- What is left of a list and of its slice once the last component is taken.

-- the last component of a list that ends with one
pub last_of-push : (cs : List Placed) (c : Placed) → last_of (cs ++ c ∷ []) ≡ Some c
last_of-push cs c = ap first_of (reverse-append cs (c ∷ []))

-- the same, without its place
pub last_part-push : (cs : List Placed) (c : Placed) → last_part (cs ++ c ∷ []) ≡ Some c.part
last_part-push cs c = ap (option_map (λ d. d.part)) (last_of-push cs c)

-- and the components before it
pub but_last-push : (cs : List Placed) (c : Placed) → but_last (cs ++ c ∷ []) ≡ cs
but_last-push cs c = take_at cs (c ∷ []) (length (cs ++ c ∷ []) - 1) (omega (arith, length-append cs (c ∷ [])))

-- a list that is not empty ends with one
pub last_pushed : (c : Placed) (cs : List Placed) → (d : Placed) × (c ∷ cs ≡ but_last (c ∷ cs) ++ d ∷ [])
last_pushed c cs =
    let n = length (c ∷ cs) in
    let whole : n - 1 + 1 ≡ n = omega arith in
    (get_or (c ∷ cs) (n - 1) c, sym (take_all n (c ∷ cs) (le_refl n)) ∙ (rw whole at (take_more (c ∷ cs) (n - 1) c (omega arith))))

-- the first component, if there is one, stands at the place
abbrev StartsAt : ℕ → List Placed → Type 0
StartsAt at [] = ⊤
StartsAt at (c ∷ cs) = c.start ≡ at

-- the components of a clean text start where it does
pub starts-body_from : (begin : Begin) (s : Separators) (at : ℕ) (text : List ℕ) → is_clean begin s text ≡ true → StartsAt at (body_from begin s at text)
starts-body_from begin s at text clean = grind (arith, common_steps)

-- so the first one does
first-starts : (at : ℕ) (cs : List Placed) (c : Placed) → StartsAt at cs → first_of cs ≡ Some c → at ≡ c.start
first-starts at [] c starts e = cc e
first-starts at (x ∷ cs) c starts e = sym starts ∙ ap (λ p. p.start) (same_Some x c e)

-- the slice left before the last component ends where the one before it does
pub slice_after_back-push : (at k : ℕ) (slice : List ℕ) (cs : List Placed) (c : Placed) → StartsAt at cs → end_from at cs ≡ at + k → slice_after_back (cs ++ c ∷ []) slice ≡ take k slice
slice_after_back-push at k slice cs c starts ends = grind (arith, common_steps)

-- A step from either end, as the step of an iterator; and the prefix taken before all steps.

-- what is left of a list behind its first component
pub parts-rest : (cs : List Placed) → parts (drop 1 cs) ≡ drop 1 (parts cs)
parts-rest cs = grind arith

-- a component taken from the front is one fewer
pub fewer : (p : Part) (cs ds : List Placed) → Some p ≡ first_part cs → ds ≡ drop 1 cs → length ds < length cs
fewer p cs ds taken items = grind arith

-- the first component of a list, and what stands behind it
pub taken-first : (cs : List Placed) (p : Part) → Some p ≡ first_part cs → (kinds (parts cs) ≡ p.kind ∷ kinds (parts (drop 1 cs))) × (length cs ≡ 1 + length (drop 1 cs))
taken-first cs p e = grind arith

-- components are the prefix, where there is one, and those behind it
parts-split : (cs : List Placed) → parts cs ≡ option_to_list (prefix_among (parts cs)) ++ parts (behind_prefix cs)
parts-split cs = grind arith

-- so are those of a reading
pub parts-prefixed : (all cs ds : List Placed) (o : Option Part) → parts cs ≡ parts all → o ≡ prefix_among (parts cs) → ds ≡ behind_prefix cs → parts all ≡ option_to_list o ++ parts ds
parts-prefixed all cs ds o read first behind = sym read ∙ parts-split cs ∙ ap₂ (λ p bs. option_to_list p ++ parts bs) (sym first) (sym behind)

module _ {X : Type 0} (view : X → Part) where
  -- what a step from the front gives
  pub yields_first : (r : Option X) (old new : List Placed) → option_map view r ≡ first_part old → new ≡ drop 1 old → YieldsFirstBy view parts old r new
  yields_first r old new e f = grind arith

-- A step from either end, as the step of an iterator whose items show something of a component.

module _ {X K : Type 0} (seen : X → K) (seen_of : Part → K) where
  -- what is seen of a list of components
  abbrev pub seen_all : List Placed → List K
  seen_all cs = map seen_of (parts cs)

  -- what a step from the front gives
  pub seen_first : (r : Option X) (old new : List Placed) → option_map seen r ≡ option_map seen_of (first_part old) → new ≡ drop 1 old → YieldsFirstBy seen seen_all old r new
  seen_first r old new e f = grind arith

  -- an item, off the end of a list
  seen_pushed : (r : Option X) (old new : List Placed) (c : Placed) → option_map seen r ≡ Some (seen_of c.part) → new ≡ old → YieldsLastBy seen seen_all (old ++ c ∷ []) r new
  seen_pushed r old new c e f = grind (arith, map-append, same_Some)

  -- what a step from the back gives
  pub seen_last : (r : Option X) (old new : List Placed) → option_map seen r ≡ option_map seen_of (last_part old) → new ≡ but_last old → YieldsLastBy seen seen_all old r new
  seen_last None [] new e f = (refl, ap seen_all f)
  seen_last (Some x) [] new e f = cc
  seen_last r (c ∷ cs) new e f =
      let d = last_pushed c cs in
      subst (λ old. YieldsLastBy seen seen_all old r new) (sym d.1)
      (seen_pushed r (but_last (c ∷ cs)) new d.0 (e ∙ ap (option_map seen_of) (ap last_part d.1 ∙ last_part-push (but_last (c ∷ cs)) d.0)) f)

  -- so fewer are left
  pub progress_seen_first : {S : Type 0} (rest : S → List Part) (can : S → Type 0) → ((s : S) → can s) → (s t : S) (r : Option X)
      → YieldsFirstBy seen (λ u. map seen_of (rest u)) s r t → MakesProgress can (item_count rest) s r t
  progress_seen_first rest can all s t r h = grind (arith, length-map)

  pub progress_seen_last : {S : Type 0} (rest : S → List Part) (can : S → Type 0) → ((s : S) → can s) → (s t : S) (r : Option X)
      → YieldsLastBy seen (λ u. map seen_of (rest u)) s r t → MakesProgress can (item_count rest) s r t
  progress_seen_last rest can all s t r h = grind (arith, length-append, length-map)

-- the same, as what is shown of the components
module _ {X K : Type 0} (seen : X → K) (shown : Shown K) where
  abbrev pub shown_all : List Placed → List K
  shown_all cs = shown.of_list (parts cs)

  pub shown_first : (r : Option X) (old new : List Placed) → option_map seen r ≡ shown.of_option (first_part old) → new ≡ drop 1 old → YieldsFirstBy seen shown_all old r new
  shown_first r old new e f = grind arith

  pub shown_last : (r : Option X) (old new : List Placed) → option_map seen r ≡ shown.of_option (last_part old) → new ≡ but_last old → YieldsLastBy seen shown_all old r new
  shown_last None old new e f = let h = seen_last seen shown.of None old new (e ∙ shown.option-mapped _) f in (shown.list-mapped _ ∙ h.0, shown.list-mapped _ ∙ h.1)
  shown_last (Some x) old new e f =
      shown.list-mapped _ ∙ seen_last seen shown.of (Some x) old new (e ∙ shown.option-mapped _) f ∙ ap (λ ks. ks ++ seen x ∷ []) (sym (shown.list-mapped _))

-- so fewer are left
module _ {S X K : Type 0} (seen : X → K) (rest : S → List K) (can : S → Type 0) (all : (s : S) → can s) (s t : S) where
  pub progress_first : (r : Option X) → YieldsFirstBy seen rest s r t → MakesProgress can (item_count rest) s r t
  progress_first r h = grind arith

  pub progress_last : (r : Option X) → YieldsLastBy seen rest s r t → MakesProgress can (item_count rest) s r t
  progress_last r h = grind (arith, length-append)

-- Steps of a reading whose prefix is still to be taken.

-- a component before a list that is not empty: the last of the list stays the last
pub last_of-behind : (p c : Placed) (cs : List Placed) → last_of (p ∷ c ∷ cs) ≡ last_of (c ∷ cs)
last_of-behind p c cs =
    let d = last_pushed c cs in
    ap (λ ds. last_of (p ∷ ds)) d.1 ∙ last_of-push (p ∷ but_last (c ∷ cs)) d.0 ∙ sym (last_of-push (but_last (c ∷ cs)) d.0) ∙ ap last_of (sym d.1)

pub but_last-behind : (p c : Placed) (cs : List Placed) → but_last (p ∷ c ∷ cs) ≡ p ∷ but_last (c ∷ cs)
but_last-behind p c cs = grind arith

-- where the last of a prefix and a body ends
pub end_from-behind : (p : Placed) (from : ℕ) (cs : List Placed) (last : Placed) → end_of p ≡ from → last_of (p ∷ cs) ≡ Some last → end_from from cs ≡ end_of last
end_from-behind p from cs last e h = grind (arith, common_steps)

module _ (text : List ℕ) (from to len : ℕ) (pending : len ≤ from) (ordered : from ≤ to) (in_range : to ≤ length text) where
  -- the slice left while the prefix is still to be taken
  abbrev whole : List ℕ
  whole = slice_range text (from - len) to

  whole-length : length whole ≡ to - (from - len)
  whole-length = length-take-le (to - (from - len)) (drop (from - len) text) (omega (arith, length-drop (from - len) text))

  -- the body behind it
  pub body-behind : slice_range text from to ≡ drop len whole
  body-behind = grind (arith, slice_range-later, whole-length)

  -- the raw text of the prefix
  pub prefix-text : take len whole ≡ slice_range text (from - len) from
  prefix-text = take-take len (to - (from - len)) (drop (from - len) text) (omega arith) ∙ ap (λ n. take n (drop (from - len) text)) (omega arith)

  -- once the prefix is taken the body is left
  pub prefix_taken : (begin : Begin) (s : Separators) (p : Part) → is_clean begin s (slice_range text from to) ≡ true
      → slice_range text from to ≡ slice_after_front (component p (from - len) ++ body_from begin s from (slice_range text from to)) whole
  prefix_taken begin s p clean = grind (arith, body-behind, slice_after_front-first)

  -- a slice that ends earlier
  pub whole-earlier : (end : ℕ) → end ≤ to → from ≤ end → slice_range text (from - len) end ≡ take (end - (from - len)) whole
  whole-earlier end h low = sym (take-take (end - (from - len)) (to - (from - len)) (drop (from - len) text) (omega arith))

-- the slice left before the last component of a prefix and a body ends where the one before it does
pub slice_after_back-behind : (p c : Placed) (cs : List Placed) (from end : ℕ) (slice : List ℕ) → end_of p ≡ from → end ≡ end_from from (but_last (c ∷ cs))
    → slice_after_back (p ∷ c ∷ cs) slice ≡ take (end - p.start) slice
slice_after_back-behind p c cs from end slice e h = grind (arith, common_steps)

-- a list that has a last component is not empty
pub filled-last : (cs : List Placed) (p : Part) → Some p ≡ last_part cs → (c : Placed) × (ds : List Placed) × (cs ≡ c ∷ ds)
filled-last [] p h = cc
filled-last (c ∷ ds) p h = (c, ds, refl)

-- and one that has none is
pub empty-last : (cs : List Placed) → None ≡ last_part cs → cs ≡ []
empty-last [] h = refl
empty-last (c ∷ cs) h = grind (arith, common_steps, last_pushed, last_part-push)

pub empty-first : (cs : List Placed) → None ≡ first_part cs → cs ≡ []
empty-first cs h = grind arith

-- Steps of a cursor whose prefix is still to be taken.

-- the component that is the prefix, before a body that begins at a place
abbrev pub prefix_before : Found → List ℕ → ℕ → Placed
prefix_before f text from = record { part = prefix_part (prefix_view f.kind) (slice_range text (from - f.length) from); start = from - f.length }

module _ (c : Cursor) (f : Found) (e : c.prefix ≡ Some f) where
  pub pending-fits : f.length ≤ c.from
  pending-fits = let same : pending c.prefix ≡ f.length = ap pending e in omega (arith, c.fits)

  pub slice_left-pending : slice_left c ≡ slice_range c.text.now (c.from - f.length) c.to
  slice_left-pending = ap (λ p. slice_range c.text.now (start_left p c.from) c.to) e

  pub items_left-pending : items_left c ≡ prefix_before f c.text.now c.from ∷ body_items (body_of c)
  items_left-pending = grind (arith, prefix-text, pending-fits)

  -- the prefix ends where the body begins
  pub prefix_before-end : end_of (prefix_before f c.text.now c.from) ≡ c.from
  prefix_before-end = grind (arith, common_steps)

  -- once the prefix is taken the body is left
  pub slice_behind-prefix : body_slice (body_of c) ≡ slice_after_front (items_left c) (slice_left c)
  slice_behind-prefix = grind (arith, prefix_taken, pending-fits)

  -- where the last component ends
  pub last_end-pending : (last : Placed) → last_of (items_left c) ≡ Some last → end_from c.from (body_items (body_of c)) ≡ end_of last
  last_end-pending last h = end_from-behind (prefix_before f c.text.now c.from) c.from (body_items (body_of c)) last prefix_before-end (sym (ap last_of items_left-pending) ∙ h)

  -- no component of the body is left, so the prefix is the last
  pub back-none : (p : Part) → None ≡ last_part (body_items (body_of c)) → Some p ≡ first_part (items_left c) → Some p ≡ last_part (items_left c)
  back-none p h taken = grind (arith, items_left-pending, empty-last)

-- a cursor with another body, which begins where its own did
abbrev pub with_body : (c : Cursor) (b : Body) → b.from ≡ c.from → Cursor
with_body c b from = record {
  text = b.text;
  from = b.from;
  to = b.to;
  prefix = c.prefix;
  begin = b.begin;
  separators = b.separators;
  ordered = b.ordered;
  in_range = b.in_range;
  starts_clean = b.starts_clean;
  fits = omega (arith, c.fits, from);
}

-- a cursor, and the same once a step from the back was done behind its prefix
module _ (c m : Cursor) (f : Found) (e : c.prefix ≡ Some f) (g : m.prefix ≡ Some f) (text : m.text ≡ c.text) (from : m.from ≡ c.from) where
  same_prefix : prefix_before f m.text.now m.from ≡ prefix_before f c.text.now c.from
  same_prefix = ap₂ (λ t n. prefix_before f t.now n) text from

  -- the last component of the body was taken
  module _ (p : Part) (taken : Some p ≡ last_part (body_items (body_of c))) (items : body_items (body_of m) ≡ but_last (body_items (body_of c))) where
    pub back-items : items_left m ≡ but_last (items_left c)
    back-items =
        let filled = filled-last (body_items (body_of c)) p taken in
        items_left-pending m f g
        ∙ ap₂ ◌∷◌ same_prefix (items ∙ ap but_last filled.2)
        ∙ sym (but_last-behind (prefix_before f c.text.now c.from) filled.0 filled.1)
        ∙ ap but_last (sym (items_left-pending c f e ∙ ap (λ cs. prefix_before f c.text.now c.from ∷ cs) filled.2))

    pub back-slice : m.to ≤ c.to → m.to ≡ end_from c.from (but_last (body_items (body_of c))) → slice_left m ≡ slice_after_back (items_left c) (slice_left c)
    back-slice shorter end =
        let filled = filled-last (body_items (body_of c)) p taken in
        let fits = pending-fits c f e in
        let low : c.from ≤ m.to = omega (arith, from, m.ordered) in
        slice_left-pending m f g
        ∙ ap₂ (λ t n. slice_range t.now (n - f.length) m.to) text from
        ∙ whole-earlier c.text.now c.from c.to f.length fits c.ordered c.in_range m.to shorter low
        ∙ sym (slice_after_back-behind (prefix_before f c.text.now c.from) filled.0 filled.1 c.from m.to
        (slice_range c.text.now (c.from - f.length) c.to) (prefix_before-end c f e) (end ∙ ap (λ cs. end_from c.from (but_last cs)) filled.2))
        ∙ ap₂ slice_after_back (sym (items_left-pending c f e ∙ ap (λ cs. prefix_before f c.text.now c.from ∷ cs) filled.2)) (sym (slice_left-pending c f e))

-- a cursor with no prefix to take is its body
items_left-bare : (c : Cursor) → c.prefix ≡ None → items_left c ≡ body_items (body_of c)
items_left-bare c e = ap (λ q. prefix_left q (start_left q c.from) (slice_range c.text.now (start_left q c.from) c.to) (body_items (body_of c))) e

slice_left-bare : (c : Cursor) → c.prefix ≡ None → slice_left c ≡ body_slice (body_of c)
slice_left-bare c e = ap (λ q. slice_range c.text.now (start_left q c.from) c.to) e

-- where the first component of a cursor begins
pub first_left-starts : (c : Cursor) (first : Placed) → first_of (items_left c) ≡ Some first → start_left c.prefix c.from ≡ first.start
first_left-starts c first h = by c.prefix refl
  where
    by : (o : Option Found) → c.prefix ≡ o → start_left c.prefix c.from ≡ first.start
    by None e =
        ap (λ q. start_left q c.from) e
        ∙ first-starts c.from (body_items (body_of c)) first (starts-body_from c.begin c.separators c.from (body_slice (body_of c)) c.starts_clean) (sym (ap first_of (items_left-bare c e)) ∙ h)
    by (Some f) e = ap (λ q. start_left q c.from) e ∙ ap (λ p. p.start) (same_Some (prefix_before f c.text.now c.from) first (sym (ap first_of (items_left-pending c f e)) ∙ h))

-- the last component of the body was taken, whatever stands before it
module _ (c : Cursor) (b : Body) (from : b.from ≡ c.from) (text : b.text ≡ c.text) (p : Part) (taken : Some p ≡ last_part (body_items (body_of c))) (items : body_items b ≡ but_last (body_items (body_of c))) where
  pub step-items : items_left (with_body c b from) ≡ but_last (items_left c)
  step-items = by c.prefix refl
    where
      by : (o : Option Found) → c.prefix ≡ o → items_left (with_body c b from) ≡ but_last (items_left c)
      by None e = items_left-bare (with_body c b from) e ∙ items ∙ ap but_last (sym (items_left-bare c e))
      by (Some f) e = back-items c (with_body c b from) f e e text from p taken items

  pub step-slice : b.to ≤ c.to → b.to ≡ end_from c.from (but_last (body_items (body_of c))) → body_slice b ≡ slice_after_back (body_items (body_of c)) (body_slice (body_of c))
      → slice_left (with_body c b from) ≡ slice_after_back (items_left c) (slice_left c)
  step-slice shorter end slice = by c.prefix refl
    where
      by : (o : Option Found) → c.prefix ≡ o → slice_left (with_body c b from) ≡ slice_after_back (items_left c) (slice_left c)
      by None e = slice_left-bare (with_body c b from) e ∙ slice ∙ ap₂ slice_after_back (sym (items_left-bare c e)) (sym (slice_left-bare c e))
      by (Some f) e = back-slice c (with_body c b from) f e e text from p taken items shorter end

-- A cursor over a text that goes on.

-- components do not depend on where they stand
parts-anywhere : (begin : Begin) (s : Separators) (at bt : ℕ) (text : List ℕ) → parts (body_from begin s at text) ≡ parts (body_from begin s bt text)
parts-anywhere WholeBody s at bt text = parts-body s at text ∙ sym (parts-body s bt text)
parts-anywhere Inside s at bt text = parts-later_body s at text ∙ sym (parts-later_body s bt text)

parts-prefix_left : (o : Option Found) (begin : Begin) (s : Separators) (at bt from gone : ℕ) (slice left rest more : List ℕ) → slice ≡ left → rest ≡ more
    → parts (prefix_left o at slice (body_from begin s from rest)) ≡ parts (prefix_left o bt left (body_from begin s gone more))
parts-prefix_left o begin s at bt from gone slice left rest more e h = grind (arith, parts-anywhere)

start_left-pending : (o : Option Found) (from : ℕ) → start_left o from ≡ from - pending o
start_left-pending o from = grind arith

-- the slice left of a cursor is the front of a text
module _ (c : Cursor) (text : List ℕ) (len : ℕ) (within : len ≤ length text) (same : slice_left c ≡ take len text) where
  whole-left : slice_left c ≡ slice_range c.text.now (c.from - pending c.prefix) c.to
  whole-left = ap (λ n. slice_range c.text.now n c.to) (start_left-pending c.prefix c.from)

  pub within-fits : pending c.prefix ≤ len
  within-fits =
      let size = whole-length c.text.now c.from c.to (pending c.prefix) c.fits c.ordered c.in_range in
      omega (arith, c.fits, c.ordered, size, ap length (sym whole-left ∙ same), length-take-le len text within)

  -- what is left behind the prefix stands there too
  pub within-body : slice_range text (pending c.prefix) len ≡ slice_range c.text.now c.from c.to
  within-body =
      let fits = within-fits in
      let k = pending c.prefix in
      let parted : len ≡ k + (len - k) = omega arith in
      sym (drop-take k (len - k) text)
      ∙ ap (λ n. drop k (take n text)) (sym parted)
      ∙ ap (drop k) (sym same ∙ whole-left)
      ∙ sym (body-behind c.text.now c.from c.to k c.fits c.ordered c.in_range)

  -- and all that is left
  pub within-parts : parts (prefix_left c.prefix (start_left c.prefix (pending c.prefix)) (slice_range text (start_left c.prefix (pending c.prefix)) len)
      (body_from c.begin c.separators (pending c.prefix) (slice_range text (pending c.prefix) len))) ≡ parts (items_left c)
  within-parts = grind (arith, parts-prefix_left, start_left-pending, within-body)

-- A text that two steps from the front tell to be one component.

-- no component
pub no_component : (cs : List Placed) → None ≡ first_part cs → parts cs ≡ []
no_component cs h = grind arith

-- one component and no more
pub one_component : (cs : List Placed) (p : Part) → Some p ≡ first_part cs → None ≡ first_part (drop 1 cs) → parts cs ≡ p ∷ []
one_component cs p h h1 = grind arith

-- one component, and another
pub more_components : (cs : List Placed) (p q : Part) → Some p ≡ first_part cs → Some q ≡ first_part (drop 1 cs) → 1 < length (parts cs)
more_components cs p q h next = grind arith
