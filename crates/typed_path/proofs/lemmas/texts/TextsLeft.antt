-- What is left of a text, and what it answers about itself, are texts.
use Rattle.std.proofs.Common.{◌≡◌, List, [], ◌∷◌, ◌++◌, drop, length, Option, Some, None, refl, ap, sym, subst, ◌∙◌, option_map, arith, ℕ, zero, suc, ◌+◌, ◌-◌, ◌==◌, ◌&&◌, true, nat_lt, take, inl, inr, Bool, if◌then◌else◌, is_some, option_and_then}
use Rattle.std.specs.List.{AllByRecursion}
use Rattle.std.specs.Str.{IsUtf8, is_utf8, IsCharBoundary}
use Rattle.std.proofs.lemmas.Bool.{cases_lt, cond_both, and_parts, and_from}
use Rattle.std.proofs.lemmas.Str.{IsUtf8-nil, IsCharBoundary-start, IsCharBoundary-end, IsUtf8-from_is_utf8, is_utf8-from_IsUtf8, IsUtf8-take}
use Rattle.std.proofs.Math.Bool.{Bool-set}
use Rattle.std.proofs.Math.Logic.{∥∥₁_elim, ∥∥₁_map}
use Rattle.typed_path.specs.components.{Part, Placed, parts, texts, Kind, Dialect, dot, comps, parts_of}
use Rattle.typed_path.specs.scan.{but_last, start_at, end_at, left, Side, front, back, last_of, slice_after_front, slice_after_back, first_part, last_part, items_after, slice_after, fronts, backs, items_behind, slice_behind}
use Rattle.typed_path.specs.texts.{are_texts, is_text_part, is_text_part_option, are_text_parts, is_text_option, is_text_kind, IsTextReading}
use Rattle.typed_path.specs.queries.{stem_of, first_stem_of, extension_of, is_root, parent_of, name_of, file_name_of, file_stem_of, file_prefix_of, extension, shared_count, shared_end, end_of_first, unless_empty, common_ancestor_of, path_starts_with, stripped, prefix_among, is_top, upwards_from, readings_above, readings_behind, ancestors_of}
use Rattle.typed_path.specs.changes.{popped, without_file_name}
use Rattle.typed_path.proofs.lemmas.scan.Steps.{last_part-push, last_pushed}
use Rattle.typed_path.proofs.lemmas.components.Cuts.{comps-laid_out}
use Rattle.typed_path.proofs.lemmas.scan.Readings.{slice_after-nil, stepwise_slices, stepwise_end}
use Rattle.typed_path.proofs.lemmas.lists.Lists.{AllByRecursion-weaker, AllByRecursion-tail, AllByRecursion-take, AllByRecursion-last}
use Rattle.typed_path.proofs.lemmas.texts.TextCuts.{range-utf8, IsCut, comps-cut, utf8-around}
use Rattle.typed_path.proofs.lemmas.queries.FileNames.{stem_of-whole, stem_of-extension, first_stem_of-parted}
use Rattle.typed_path.proofs.lemmas.queries.Parents.{ancestors-reading}

-- What is left of a text, and the components left, are texts.

module _ (t : List ℕ) (is : IsUtf8 t) where
  -- a text may be cut where a component begins
  start_at-cut : (cs : List Placed) (i : ℕ) → AllByRecursion (IsCut t) cs → IsCharBoundary t (start_at cs i)
  start_at-cut [] i each = IsCharBoundary-start t is
  start_at-cut (c ∷ cs) zero each = each.0.start
  start_at-cut (c ∷ cs) (suc i) each = start_at-cut cs i each.1

  -- and where one ends
  end_at-cut : (cs : List Placed) (i : ℕ) → AllByRecursion (IsCut t) cs → IsCharBoundary t (end_at cs i)
  end_at-cut [] i each = IsCharBoundary-start t is
  end_at-cut (c ∷ cs) zero each = each.0.end
  end_at-cut (c ∷ cs) (suc i) each = end_at-cut cs i each.1

  -- so what is left of it is a text
  left-cut : (cs : List Placed) (i j : ℕ) → AllByRecursion (IsCut t) cs → IsUtf8 (left cs t i j)
  left-cut cs i j each =
      let n = length cs - j - 1 in
      cond_both (i + j == length cs && nat_lt 0 (length cs)) [] _ IsUtf8 (λ none. IsUtf8-nil)
      (λ some. range-utf8 t _ _ is
      (cond_both (i == 0) 0 (start_at cs i) (IsCharBoundary t) (λ e. IsCharBoundary-start t is) (λ e. start_at-cut cs i each))
      (cond_both (j == 0) (length t) (end_at cs n) (IsCharBoundary t) (λ e. IsCharBoundary-end t) (λ e. end_at-cut cs n each)))

-- what is left of a text once some components were taken from either end is a text
pub left-utf8 : (d : Dialect) (t : List ℕ) (i j : ℕ) → IsUtf8 t → IsUtf8 (left (comps d t) t i j)
left-utf8 d t i j is = left-cut t is (comps d t) i j (comps-cut d t is)

-- so is what steps from either end leave
pub slice_after-utf8 : (d : Dialect) (t : List ℕ) (sides : List Side) → IsUtf8 t → IsUtf8 (slice_after (comps d t) t sides)
slice_after-utf8 d t sides is = by (comps d t) refl
  where
    taken : ℕ
    taken = fronts sides + backs sides

    by : (cs : List Placed) → comps d t ≡ cs → IsUtf8 (slice_after cs t sides)
    by [] e = rw (slice_after-nil t sides) is
    by (c ∷ cs) e =
        let laid = rw e at (comps-laid_out d t) in
        elim (cases_lt taken (length (c ∷ cs))) [
          | inl less ↦ rw (stepwise_slices (c ∷ cs) t sides laid (omega arith)) (rw e at (left-utf8 d t (fronts sides) (backs sides) is))
          | inr all ↦ rw (stepwise_end (c ∷ cs) t sides laid (omega arith) all) IsUtf8-nil
        ]

-- of each component that steps from either end leave
pub items_after-each : (P : Placed → Type 0) (cs : List Placed) (sides : List Side) → AllByRecursion P cs → AllByRecursion P (items_after cs sides)
items_after-each P cs [] each = each
items_after-each P cs (front ∷ sides) each = items_after-each P (drop 1 cs) sides (AllByRecursion-tail P cs each)
items_after-each P cs (back ∷ sides) each = items_after-each P (but_last cs) sides (AllByRecursion-take P (length cs - 1) cs each)

-- a component whose part is a text
abbrev pub IsTextPlaced : Placed → Type 0
IsTextPlaced c = is_text_part c.part ≡ true

-- the first and the last of such components
pub first_part-text : (cs : List Placed) → AllByRecursion IsTextPlaced cs → is_text_part_option (first_part cs) ≡ true
first_part-text cs each = grind arith

pub last_part-text : (cs : List Placed) → AllByRecursion IsTextPlaced cs → is_text_part_option (last_part cs) ≡ true
last_part-text [] each = refl
last_part-text (c ∷ cs) each =
    let last = last_pushed c cs in
    ap is_text_part_option (ap last_part last.1 ∙ last_part-push (but_last (c ∷ cs)) last.0)
    ∙ AllByRecursion-last IsTextPlaced (but_last (c ∷ cs)) last.0 (subst (AllByRecursion IsTextPlaced) last.1 each)

-- all of them
pub parts-text : (cs : List Placed) → AllByRecursion IsTextPlaced cs → are_text_parts (parts cs) ≡ true
parts-text [] each = refl
parts-text (c ∷ cs) each = and_from _ _ each.0 (parts-text cs each.1)

-- and their texts
pub texts-text : (ps : List Part) → are_text_parts ps ≡ true → are_texts (texts ps) ≡ true
texts-text [] each = refl
texts-text (p ∷ ps) each =
    let own = and_parts (is_text_part p) (are_text_parts ps) each in
    and_from _ _ (and_parts (is_utf8 p.text) _ own.0).0 (texts-text ps own.1)

-- the components of a text
pub comps-text : (d : Dialect) (t : List ℕ) → IsUtf8 t → AllByRecursion IsTextPlaced (comps d t)
comps-text d t is = AllByRecursion-weaker (IsCut t) IsTextPlaced (λ c cut. cut.part) (comps d t) (comps-cut d t is)

pub parts_of-text : (d : Dialect) (t : List ℕ) → IsUtf8 t → are_text_parts (parts_of d t) ≡ true
parts_of-text d t is = parts-text (comps d t) (comps-text d t is)

-- What a text answers about itself is a text.

-- a text that may be there, by its bytes
pub some_text : (o : Option (List ℕ)) (t : List ℕ) → o ≡ Some t → is_text_option o ≡ true → IsUtf8 t
some_text o t e is = IsUtf8-from_is_utf8 t (ap is_text_option (sym e) ∙ is)

-- one that is there where a test holds, or where it fails
where_text : (b : Bool) (t : List ℕ) → is_utf8 t ≡ true → is_text_option (if b then Some t else None) ≡ true
where_text b t is = grind arith

unless_text : (b : Bool) (t : List ℕ) → is_utf8 t ≡ true → is_text_option (if b then None else Some t) ≡ true
unless_text b t is = grind arith

-- one that is made of another
map_text : (f : List ℕ → List ℕ) → ((name : List ℕ) → is_utf8 name ≡ true → is_utf8 (f name) ≡ true) → (o : Option (List ℕ)) → is_text_option o ≡ true → is_text_option (option_map f o) ≡ true
map_text f each o e = grind arith

-- the name that a kind is
pub name_of-text : (k : Kind) → is_text_kind k ≡ true → is_text_option (name_of k) ≡ true
name_of-text k e = grind arith

-- a name without its extension
pub stem_of-text : (name : List ℕ) → is_utf8 name ≡ true → is_utf8 (stem_of name) ≡ true
stem_of-text name is = by (extension_of name) refl
  where
    by : (o : Option (List ℕ)) → extension_of name ≡ o → is_utf8 (stem_of name) ≡ true
    by None e = ap is_utf8 (stem_of-whole name e) ∙ is
    by (Some ext) e = is_utf8-from_IsUtf8 _ (utf8-around (stem_of name) ext dot (subst IsUtf8 (stem_of-extension name ext e).0 (IsUtf8-from_is_utf8 name is)) (omega arith)).0

-- a name up to its first dot
pub first_stem_of-text : (name : List ℕ) → is_utf8 name ≡ true → is_utf8 (first_stem_of name) ≡ true
first_stem_of-text name is = elim (first_stem_of-parted name) [
  | inl whole ↦ ap is_utf8 whole ∙ is
  | inr parted ↦ is_utf8-from_IsUtf8 _ (utf8-around (first_stem_of name) parted.0 dot (subst IsUtf8 parted.1 (IsUtf8-from_is_utf8 name is)) (omega arith)).0
]

-- its extension
pub extension_of-text : (name : List ℕ) → is_utf8 name ≡ true → is_text_option (extension_of name) ≡ true
extension_of-text name is = by (extension_of name) refl
  where
    by : (o : Option (List ℕ)) → extension_of name ≡ o → is_text_option o ≡ true
    by None e = refl
    by (Some ext) e = is_utf8-from_IsUtf8 _ (utf8-around (stem_of name) ext dot (subst IsUtf8 (stem_of-extension name ext e).0 (IsUtf8-from_is_utf8 name is)) (omega arith)).1

module _ (d : Dialect) (t : List ℕ) (is : is_utf8 t ≡ true) where
  text : IsUtf8 t
  text = IsUtf8-from_is_utf8 t is

  -- the components
  pub components-text : are_text_parts (parts_of d t) ≡ true
  components-text = parts_of-text d t text

  -- a single one
  pub single-text : (p : Part) → parts_of d t ≡ p ∷ [] → is_text_part p ≡ true
  single-text p e = (and_parts (is_text_part p) true (ap are_text_parts (sym e) ∙ components-text)).0

  -- the first one and the last one
  pub first-text : is_text_part_option (first_part (comps d t)) ≡ true
  first-text = first_part-text (comps d t) (comps-text d t text)

  pub last-text : is_text_part_option (last_part (comps d t)) ≡ true
  last-text = last_part-text (comps d t) (comps-text d t text)

  -- the parent
  pub parent-text : is_text_option (parent_of d t) ≡ true
  parent-text = by (last_of (comps d t))
    where
      by : (o : Option Placed) → is_text_option (option_and_then (λ last. if is_root last.part.kind then None else Some (left (comps d t) t 0 1)) o) ≡ true
      by None = refl
      by (Some last) = unless_text (is_root last.part.kind) _ (is_utf8-from_IsUtf8 _ (left-utf8 d t 0 1 text))

  -- the file name
  pub file_name-text : is_text_option (file_name_of d t) ≡ true
  file_name-text = grind (arith, last-text, name_of-text)

  -- its stem
  pub file_stem-text : is_text_option (file_stem_of d t) ≡ true
  file_stem-text = map_text stem_of stem_of-text (file_name_of d t) file_name-text

  -- its first stem
  pub file_prefix-text : is_text_option (file_prefix_of d t) ≡ true
  file_prefix-text = map_text first_stem_of first_stem_of-text (file_name_of d t) file_name-text

  -- and its extension
  pub extension-text : is_text_option (extension d t) ≡ true
  extension-text = grind (arith, file_name-text, extension_of-text)

  -- what is left behind a base
  pub stripped-text : (b : List ℕ) → is_text_option (stripped d t b) ≡ true
  stripped-text b = where_text (path_starts_with d t b) _ (is_utf8-from_IsUtf8 _ (left-utf8 d t (length (comps d b)) 0 text))

  -- what the path and another begin with
  pub common_ancestor-text : (u : List ℕ) → is_text_option (common_ancestor_of d t u) ≡ true
  common_ancestor-text u = unless (take (shared_end d t u) t) (is_utf8-from_IsUtf8 _ (IsUtf8-take t (shared_end d t u) text (cut (shared_count (texts (parts_of d t)) (texts (parts_of d u))))))
    where
      cut : (n : ℕ) → IsCharBoundary t (end_of_first (comps d t) n)
      cut zero = IsCharBoundary-start t text
      cut (suc k) = end_at-cut t text (comps d t) k (comps-cut d t text)

      unless : (v : List ℕ) → is_utf8 v ≡ true → is_text_option (unless_empty v) ≡ true
      unless v e = grind arith

  -- the path cut to its parent
  pub popped-text : is_utf8 (popped d t) ≡ true
  popped-text = grind (arith, parent-text)

  -- and without its file name
  pub without_file_name-text : is_utf8 (without_file_name d t) ≡ true
  without_file_name-text = cond_both (is_some (file_name_of d t)) (popped d t) t (λ bs. is_utf8 bs ≡ true) (λ named. popped-text) (λ none. is)

-- the prefix among components that are texts
pub prefix_among-text : (ps : List Part) → are_text_parts ps ≡ true → is_text_part_option (prefix_among ps) ≡ true
prefix_among-text ps all = grind arith

-- Readings of texts: what they leave is a text after every step.

-- one more step leaves one component less
items_after-more : (cs : List Placed) (sides : List Side) (side : Side) → items_after cs (sides ++ side ∷ []) ≡ items_behind (items_after cs sides) side
items_after-more cs [] side = refl
items_after-more cs (first ∷ sides) side = items_after-more (items_behind cs first) sides side

-- and the slice of that step
slice_after-more : (cs : List Placed) (slice : List ℕ) (sides : List Side) (side : Side) → slice_after cs slice (sides ++ side ∷ []) ≡ slice_behind (items_after cs sides) (slice_after cs slice sides) side
slice_after-more cs slice [] side = refl
slice_after-more cs slice (first ∷ sides) side = slice_after-more (items_behind cs first) (slice_behind cs slice first) sides side

-- a reading that begins
started : (d : Dialect) (t : List ℕ) → is_utf8 t ≡ true → IsTextReading (comps d t) t
started d t is = record { dialect = d; text = t; sides = []; is_text = is; items_left = refl; slice_left = refl }

module _ (cs : List Placed) (slice : List ℕ) (reading : IsTextReading cs slice) where
  -- a reading that takes a step
  stepped : (side : Side) → IsTextReading (items_behind cs side) (slice_behind cs slice side)
  stepped side =
      let ds = comps reading.dialect reading.text in
      let whole = slice_after ds reading.text reading.sides in record {
        dialect = reading.dialect;
        text = reading.text;
        sides = reading.sides ++ side ∷ [];
        is_text = reading.is_text;
        items_left = ap (λ es. items_behind es side) reading.items_left ∙ sym (items_after-more ds reading.sides side);
        slice_left = ap (λ es. slice_behind es slice side) reading.items_left ∙ ap (λ bs. slice_behind (items_after ds reading.sides) bs side) reading.slice_left
            ∙ sym (slice_after-more ds reading.text reading.sides side);
      }

  -- what it leaves is a text
  left_text : is_utf8 slice ≡ true
  left_text = ap is_utf8 reading.slice_left ∙ is_utf8-from_IsUtf8 _ (slice_after-utf8 reading.dialect reading.text reading.sides (IsUtf8-from_is_utf8 reading.text reading.is_text))

  -- and so is each component
  left_parts : AllByRecursion IsTextPlaced cs
  left_parts = grind (arith, items_after-each, text, comps-text)

-- so is all that is left as it goes on from the back
upwards_from-text : (n : ℕ) (cs : List Placed) (slice : List ℕ) → IsTextReading cs slice → are_texts (upwards_from n cs slice) ≡ true
upwards_from-text zero cs slice reading = and_from _ _ (left_text cs slice reading) refl
upwards_from-text (suc n) cs slice reading =
    and_from _ _ (left_text cs slice reading)
    (cond_both (is_top (last_of cs)) [] (upwards_from n (but_last cs) (slice_after_back cs slice)) (λ ts. are_texts ts ≡ true) (λ top. refl) (λ more. upwards_from-text n (but_last cs) (slice_after_back cs slice) (stepped cs slice reading back)))

-- a path and those above it are texts
pub ancestors-text : (d : Dialect) (t : List ℕ) → is_utf8 t ≡ true → are_texts (ancestors_of d t) ≡ true
ancestors-text d t is = rw (← ancestors-reading d t) (upwards_from-text (length (comps d t)) (comps d t) t (started d t is))

-- a text of which nothing is taken yet
pub reading-starts : (d : Dialect) (t : List ℕ) → is_utf8 t ≡ true → ∥ IsTextReading (comps d t) t ∥₁
reading-starts d t is = ∣ started d t is ∣₁

-- and of which a component is taken, from the front or from the back
pub reading-front : (cs : List Placed) (slice : List ℕ) → ∥ IsTextReading cs slice ∥₁ → ∥ IsTextReading (drop 1 cs) (slice_after_front cs slice) ∥₁
reading-front cs slice had = ∥∥₁_map had (λ reading. stepped cs slice reading front)

pub reading-back : (cs : List Placed) (slice : List ℕ) → ∥ IsTextReading cs slice ∥₁ → ∥ IsTextReading (but_last cs) (slice_after_back cs slice) ∥₁
reading-back cs slice had = ∥∥₁_map had (λ reading. stepped cs slice reading back)

module _ (cs : List Placed) (slice : List ℕ) (had : ∥ IsTextReading cs slice ∥₁) where
  -- what is left is a text
  pub reading-slice : is_utf8 slice ≡ true
  reading-slice = ∥∥₁_elim had (Bool-set _ _) (left_text cs slice)

  -- so are the components at both ends
  pub reading-first : is_text_part_option (first_part cs) ≡ true
  reading-first = ∥∥₁_elim had (Bool-set _ _) (λ reading. first_part-text cs (left_parts cs slice reading))

  pub reading-last : is_text_part_option (last_part cs) ≡ true
  reading-last = ∥∥₁_elim had (Bool-set _ _) (λ reading. last_part-text cs (left_parts cs slice reading))

  -- the same of one that was taken
  pub reading-first_some : (p : Part) → Some p ≡ first_part cs → is_text_part p ≡ true
  reading-first_some p e = ap is_text_part_option e ∙ reading-first

  pub reading-last_some : (p : Part) → Some p ≡ last_part cs → is_text_part p ≡ true
  reading-last_some p e = ap is_text_part_option e ∙ reading-last

  -- all components, and their texts
  pub reading-parts : are_text_parts (parts cs) ≡ true
  reading-parts = ∥∥₁_elim had (Bool-set _ _) (λ reading. parts-text cs (left_parts cs slice reading))

  pub reading-texts : are_texts (texts (parts cs)) ≡ true
  reading-texts = texts-text (parts cs) reading-parts

  -- and what is left as the reading goes on from the back
  pub reading-above : are_texts (readings_above cs slice) ≡ true
  reading-above = ∥∥₁_elim had (Bool-set _ _) (upwards_from-text (length cs) cs slice)

  pub reading-behind : are_texts (readings_behind cs slice) ≡ true
  reading-behind =
      ∥∥₁_elim had (Bool-set _ _) (λ reading.
      cond_both (is_top (last_of cs)) [] (upwards_from (length (but_last cs)) (but_last cs) (slice_after_back cs slice)) (λ ts. are_texts ts ≡ true) (λ top. refl)
      (λ more. upwards_from-text (length (but_last cs)) (but_last cs) (slice_after_back cs slice) (stepped cs slice reading back)))
