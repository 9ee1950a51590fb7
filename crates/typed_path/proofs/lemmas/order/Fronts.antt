-- Two texts of which one begins with a dot and the other with a name that begins later, or both with dots of another rank, in the order of these.
use Rattle.std.proofs.Common.{◌≡◌, ◌<◌, ℕ, ◌+◌, List, get_or-take, length-take-le, [], ◌∷◌, ◌++◌, drop, Bool, true, false, ◌&&◌, cond, length, ◌==◌, if◌then◌else◌, Greater, refl, sym, ap, ◌∙◌, arith, ne_eqb, eqb-true, ap₂, Ordering}
use Rattle.std.proofs.lemmas.Grind.{common_steps}
use Rattle.std.specs.List.{onto_first, before_first, position_or_len, starts_with}
use Rattle.std.specs.Str.{bytes_eq}
use Rattle.std.specs.Ordering.{nat_cmp, is_ne}
use Rattle.typed_path.specs.declared.scan.separators.Separators.{Separators}
use Rattle.typed_path.specs.declared.scan.cursor.Begin.TheVariants.{Body}
use Rattle.typed_path.specs.components.{dot, is_separator, root_text, is_empty, is_dot, is_dot_dot, Kind, current, parent, normal, kinds, parts, texts, Placed, component, body, later_body, root_part, current_part, parent_part, name_part}
use Rattle.typed_path.specs.scan.{dots_rank, IsParting}
use Rattle.typed_path.specs.order.{left_cmp, kinds_cmp}
use Rattle.typed_path.proofs.lemmas.components.Segments.{body_from-first, pieces, first_parts, later_parts, body_parts, parts-body}
use Rattle.typed_path.proofs.lemmas.lists.Lists.{slice_split-some, before_first-cons}
use Rattle.typed_path.proofs.lemmas.order.SharedNames.{AreInOrder, ends-order, same-byte, unlike}

-- what stands at the front of a text that begins with a byte that does not separate
data IsFront (b : ℕ) : Kind → Type 0 where
  current_in_front : b ≡ dot → IsFront b current
  parent_in_front : b ≡ dot → IsFront b parent
  name_in_front : (name : List ℕ) → IsFront b (normal (b ∷ name))

record Begins (s : Separators) (b : ℕ) (text : List ℕ) : Type 0 where
  head : Kind
  rest : List Kind
  is : kinds (body_parts s text) ≡ head ∷ rest
  front : IsFront b head

-- a segment that is a dot or two begins with one
dot-first : (b : ℕ) (p : List ℕ) → is_dot (b ∷ p) ≡ true → (b == dot) ≡ true
dot-first b p h = grind arith

dots-first : (b : ℕ) (p : List ℕ) → is_dot_dot (b ∷ p) ≡ true → (b == dot) ≡ true
dots-first b p h = grind arith

begins : (s : Separators) (b : ℕ) (bs : List ℕ) → is_separator s b ≡ false → Begins s b (b ∷ bs)
begins s b bs e =
    let some = slice_split-some (is_separator s) bs in
    let cut : pieces s (b ∷ bs) ≡ (b ∷ some.0) ∷ some.1 =
    ap (λ c. cond c ([] ∷ pieces s bs) (onto_first b (pieces s bs))) e ∙ ap (onto_first b) some.2 in
    by some.0 some.1 cut (length (b ∷ some.0) == 0) (is_dot (b ∷ some.0)) (is_dot_dot (b ∷ some.0)) refl refl refl (ne_eqb (length (b ∷ some.0)) 0 (λ h. omega arith))
  where
    by : (p : List ℕ) (ps : List (List ℕ)) → pieces s (b ∷ bs) ≡ (b ∷ p) ∷ ps → (empty dotted twice : Bool) → (length (b ∷ p) == 0) ≡ empty → is_dot (b ∷ p) ≡ dotted → is_dot_dot (b ∷ p) ≡ twice
        → (length (b ∷ p) == 0) ≡ false → Begins s b (b ∷ bs)
    by p ps cut true dotted twice i j k filled = let no = sym i ∙ filled in cc
    by p ps cut false true twice i j k filled = record {
      head = current;
      rest = kinds (later_parts s ps);
      is = ap (λ qs. kinds (first_parts s qs)) cut ∙ (λ n. kinds ((if i n then root_part (root_text s) else (if j n then current_part else (if is_dot_dot (b ∷ p) then parent_part else name_part (b ∷ p)))) ∷ later_parts s ps));
      front = current_in_front (eqb-true b dot (dot-first b p j));
    }
    by p ps cut false false true i j k filled = record {
      head = parent;
      rest = kinds (later_parts s ps);
      is = ap (λ qs. kinds (first_parts s qs)) cut ∙ (λ n. kinds ((if i n then root_part (root_text s) else (if j n then current_part else (if k n then parent_part else name_part (b ∷ p)))) ∷ later_parts s ps));
      front = parent_in_front (eqb-true b dot (dots-first b p k));
    }
    by p ps cut false false false i j k filled = record {
      head = normal (b ∷ p);
      rest = kinds (later_parts s ps);
      is = ap (λ qs. kinds (first_parts s qs)) cut ∙ (λ n. kinds ((if i n then root_part (root_text s) else (if j n then current_part else (if k n then parent_part else name_part (b ∷ p)))) ∷ later_parts s ps));
      front = name_in_front p;
    }

-- the order of two texts by what is read of them
read : (s : Separators) (t u : List ℕ) (ks ls : List Kind) → kinds (body_parts s t) ≡ ks → kinds (body_parts s u) ≡ ls → left_cmp (body s 0 t) (body s 0 u) ≡ kinds_cmp ks ls
read s t u ks ls e f = grind (arith, parts-body)

module _ (s : Separators) (a b : ℕ) (xs ys : List ℕ) (own : is_separator s a ≡ false) (other : is_separator s b ≡ false) where
  -- a dot in front comes before a greater byte, whatever it begins
  pub dot-greater : b ≡ dot → nat_cmp a b ≡ Greater → left_cmp (body s 0 (a ∷ xs)) (body s 0 (b ∷ ys)) ≡ Greater
  dot-greater dotted greater = grind (arith, common_steps)

-- two lists of which the first components are of two ranks are in the order of these
ranked : (d dd e ee : Bool) (p q : List ℕ) (cs ds : List Placed) (o : Ordering) → nat_cmp (cond d 0 (cond dd 1 2)) (cond e 0 (cond ee 1 2)) ≡ o → is_ne o ≡ true
    → left_cmp (cond d (component current_part 0) (cond dd (component parent_part 0) (component (name_part p) 0)) ++ cs)
    (cond e (component current_part 0) (cond ee (component parent_part 0) (component (name_part q) 0)) ++ ds) ≡ o
ranked d dd e ee p q cs ds o h n = grind arith

-- the first component of a list is written as its segment
first-text : (d dd : Bool) (p : List ℕ) (cs : List Placed) → is_dot p ≡ d → is_dot_dot p ≡ dd → texts (parts (cond d (component current_part 0) (cond dd (component parent_part 0) (component (name_part p) 0)) ++ cs)) ≡ p ∷ texts (parts cs)
first-text d dd p cs i j = grind arith

module _ (s : Separators) where
  -- a text that begins with a byte that does not separate has a first segment, and so a first component that is no root
  unrooted : (b : ℕ) (bs : List ℕ) → is_separator s b ≡ false → (cs : List Placed)
      × (let p = before_first (is_separator s) (b ∷ bs) in
      body s 0 (b ∷ bs) ≡ cond (is_dot p) (component current_part 0) (cond (is_dot_dot p) (component parent_part 0) (component (name_part p) 0)) ++ cs)
  unrooted b bs e =
      let p = before_first (is_separator s) (b ∷ bs) in
      let n = position_or_len (is_separator s) (b ∷ bs) in
      let rest = later_body s (0 + n) (drop n (b ∷ bs)) in
      let filled : is_empty p ≡ false = ap is_empty (before_first-cons (is_separator s) b bs e) ∙ ne_eqb (length (b ∷ before_first (is_separator s) bs)) 0 (λ h. omega arith) in (
        rest,
        body_from-first Body s 0 b bs refl
            ∙ ap (λ c. cond c (component (root_part (root_text s)) 0) (cond (is_dot p) (component current_part 0) (cond (is_dot_dot p) (component parent_part 0) (component (name_part p) 0))) ++ rest) filled,
      )

  -- so two such texts are in the order of the ranks of their first segments, where these differ
  pub ranks-order : (a b : ℕ) (xs ys : List ℕ) (o : Ordering) → is_separator s a ≡ false → is_separator s b ≡ false
      → nat_cmp (dots_rank (before_first (is_separator s) (a ∷ xs))) (dots_rank (before_first (is_separator s) (b ∷ ys))) ≡ o → is_ne o ≡ true
      → left_cmp (body s 0 (a ∷ xs)) (body s 0 (b ∷ ys)) ≡ o
  ranks-order a b xs ys o own other h n =
      let p = before_first (is_separator s) (a ∷ xs) in
      let q = before_first (is_separator s) (b ∷ ys) in
      let f = unrooted a xs own in
      let g = unrooted b ys other in
      ap₂ left_cmp f.1 g.1 ∙ ranked (is_dot p) (is_dot_dot p) (is_dot q) (is_dot_dot q) p q f.0 g.0 o h n

  -- two texts that part in their first segments do not begin with one component
  pub firsts-apart : (t u : List ℕ) (k : ℕ) (o : Ordering) → IsParting s t u k 0 → 0 < k → AreInOrder s t u k o → is_ne o ≡ true
      → starts_with bytes_eq (texts (parts (body s 0 t))) (texts (parts (body s 0 u))) ≡ false
  firsts-apart [] u k o parted some is ne = absurd (omega (arith, some, parted.0.high))
  firsts-apart (a ∷ xs) [] k o parted some is ne = absurd (omega (arith, some, parted.0.high))
  firsts-apart (a ∷ xs) (b ∷ ys) k o parted some is ne =
      let own : is_separator s a ≡ false = ap (is_separator s) (sym (get_or-take k (a ∷ xs) 0 0 some)) ∙ parted.1.0 0 0 (omega arith) (omega (arith, some, length-take-le k (a ∷ xs) (omega (arith, parted.0.high)))) in
      let other : is_separator s b ≡ false = ap (is_separator s) (sym (same-byte a b (parted.0.before 0 (omega arith) some))) ∙ own in
      let p = before_first (is_separator s) (a ∷ xs) in
      let q = before_first (is_separator s) (b ∷ ys) in
      let f = unrooted a xs own in
      let g = unrooted b ys other in
      ap₂ (λ cs ds. starts_with bytes_eq (texts (parts cs)) (texts (parts ds))) f.1 g.1
      ∙ ap₂ (starts_with bytes_eq) (first-text (is_dot p) (is_dot_dot p) p f.0 refl refl) (first-text (is_dot q) (is_dot_dot q) q g.0 refl refl)
      ∙ ap (λ r. r && starts_with bytes_eq (texts (parts f.0)) (texts (parts g.0))) (unlike p q o (ends-order s (a ∷ xs) (b ∷ ys) k 0 parted o is) ne).1
