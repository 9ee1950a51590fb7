-- The end of a text: what belongs to no component, the last component, and the text before it.
use Rattle.std.proofs.Common.{◌≡◌, ℕ, ◌+◌, ◌-◌, ◌<◌, ◌≤◌, true, false, not, cond, ltb, List, [], ◌∷◌, ◌++◌, length, take, drop, refl, sym, ap, subst, ◌∙◌, append-nil, append_assoc, arith, inl, inr, ◌⊎◌, ltb-false, ltb-true, length-append, take_at, length-drop, take_all, slice_index}
use Rattle.std.proofs.lemmas.Grind.{common_steps}
use Rattle.std.specs.List.{after_last, suffix_len, position_or_len}
use Rattle.std.proofs.lemmas.Bool.{cases_lt, or_parts, not_from_true}
use Rattle.std.proofs.lemmas.List.{drop_all, nil_from_length, take_more}
use Rattle.std.proofs.lemmas.List.Concat.{flat_map-append}
use Rattle.std.proofs.lemmas.List.Splits.{slice_split_none}
use Rattle.std.proofs.lemmas.List.Sums.{position_or_len_is}
use Rattle.typed_path.specs.declared.scan.separators.Separators.{Separators}
use Rattle.typed_path.specs.declared.scan.cursor.Begin.{Begin}
use Rattle.typed_path.specs.components.{is_separator, Segment, later, later_body, first, parts}
use Rattle.typed_path.specs.scan.{body_from, is_clean, is_trimmed, counts, end_from}
use Rattle.typed_path.proofs.lemmas.lists.Lists.{IsUnseparated, last_place, after_last-drop, behind_last-unseparated, cut_last, IsLastPlace, slice_split-append}
use Rattle.typed_path.proofs.lemmas.components.Segments.{body_from-append, body_from-separator, is_clean-append, is_clean-separator, later_body-separator, later-first, body_from-empty, body_from-first, later_part, later_parts, parts-later_body}

-- The bytes at the end of a text that belong to no component.

-- what stands behind the last separator is one segment
pub later_body-last : (s : Separators) (at : ℕ) (vs : List ℕ) → IsUnseparated (is_separator s) vs → later_body s at vs ≡ later s (record { text = vs; start = at })
later_body-last s at vs unseparated = rw (slice_split_none (is_separator s) vs unseparated) (append-nil (later s (record { text = vs; start = at })))

-- a later segment that does not count is no component
later_none : (s : Separators) (g : Segment) → counts s g.text ≡ false → later s g ≡ []
later_none s g h = grind arith

-- a text, and what is left of it once bytes at its end are cut that belong to no component
pub record IsTrimOf (s : Separators) (kept text : List ℕ) : Type 0 where
  pub some : 0 < length kept
  pub same : (begin : Begin) (at : ℕ) → body_from begin s at kept ≡ body_from begin s at text
  pub clean : (begin : Begin) → is_clean begin s kept ≡ is_clean begin s text

-- a separator at the end belongs to none
trim-separator : (s : Separators) (us : List ℕ) (x : ℕ) → is_separator s x ≡ true → 0 < length us → IsTrimOf s us (us ++ x ∷ [])
trim-separator s us x separates h = grind (arith, body_from-separator, is_clean-separator)

-- a last segment that does not count belongs to none
trim-segment : (s : Separators) (us : List ℕ) (x : ℕ) (vs : List ℕ) → is_separator s x ≡ true → IsUnseparated (is_separator s) vs → counts s vs ≡ false
    → IsTrimOf s (us ++ x ∷ []) (us ++ x ∷ vs)
trim-segment s us x vs separates unseparated blank = grind (arith, common_steps, length-append, body_from-append, later_body-last, later_none, append-nil, is_clean-append)

-- two bytes or more count
counts-long : (s : Separators) (vs : List ℕ) → 1 < length vs → counts s vs ≡ true
counts-long s vs long = grind arith

-- without its last byte
trim-behind : (s : Separators) (us : List ℕ) (x : ℕ) (vs : List ℕ) → is_separator s x ≡ true → IsUnseparated (is_separator s) vs → counts s vs ≡ false → 1 < length (us ++ x ∷ vs)
    → IsTrimOf s (take (length (us ++ x ∷ vs) - 1) (us ++ x ∷ vs)) (us ++ x ∷ vs)
trim-behind s us x [] separates unseparated blank long =
    let size = length-append us (x ∷ []) in
    subst (λ kept. IsTrimOf s kept (us ++ x ∷ [])) (sym (take_at us (x ∷ []) (length (us ++ x ∷ []) - 1) (omega arith))) (trim-separator s us x separates (omega arith))
trim-behind s us x (v ∷ []) separates unseparated blank long =
    let size = length-append us (x ∷ []) in
    let sizes = length-append us (x ∷ v ∷ []) in
    let n = length (us ++ x ∷ v ∷ []) - 1 in
    let same = ap (take n) (sym (append_assoc us (x ∷ []) (v ∷ []))) ∙ take_at (us ++ x ∷ []) (v ∷ []) n (omega arith) in
    subst (λ kept. IsTrimOf s kept (us ++ x ∷ v ∷ [])) (sym same) (trim-segment s us x (v ∷ []) separates unseparated blank)
trim-behind s us x (v ∷ w ∷ vs) separates unseparated blank long = let counted = counts-long s (v ∷ w ∷ vs) (omega arith) in cc

-- a text that ends with no component, without its last byte
pub trim_once : (s : Separators) (text : List ℕ) → is_trimmed s text ≡ false → IsTrimOf s (take (length text - 1) text) text
trim_once s text h =
    let start = length text - suffix_len (λ b. not (is_separator s b)) text in
    let place = last_place (is_separator s) text in
    let tests = or_parts (ltb (length text) 2) (counts s (after_last (is_separator s) text)) h in
    let long = ltb-false (length text) 2 tests.0 in
    let blank = rw (after_last-drop (is_separator s) text start 0 place) at tests.1 in
    elim (cases_lt 0 start) [
      | inl some ↦
          let cut = cut_last (is_separator s) text start 0 place some in
          let size = ap length cut.whole in
          subst (λ t. IsTrimOf s (take (length t - 1) t) t) (sym cut.whole)
          (trim-behind s cut.before cut.mark (drop start text) cut.passes (behind_last-unseparated (is_separator s) text start place) blank (omega arith))
      | inr none ↦
          let counted = counts-long s text long in
          let zero : start ≡ 0 = omega arith in
          let all : drop start text ≡ text = ap (λ n. drop n text) zero in
          cc
    ]

-- a separator at the end adds no later component
later-end : (s : Separators) (mark : ℕ) (rest : List ℕ) → is_separator s mark ≡ true → parts (later_body s 0 rest) ≡ parts (later_body s 0 (rest ++ mark ∷ []))
later-end s mark rest is = grind (arith, parts-later_body, later_parts, slice_split-append, flat_map-append, later_part, append-nil)

pub end-cut : (s : Separators) (path : List ℕ) → 1 ≤ length path → is_separator s (slice_index path (length path - 1)) ≡ true → parts (later_body s 0 (take (length path - 1) path)) ≡ parts (later_body s 0 path)
end-cut s path long is = grind (arith, common_steps, later-end, take_more)

-- The last component of a text, and the text before it.

-- how long the component of a segment is: the root is one byte long
abbrev width : List ℕ → ℕ
width [] = 1
width (b ∷ bs) = length (b ∷ bs)

-- the last component of a text: what the segment gives at the place, behind those of the text kept
pub record IsLast (begin : Begin) (s : Separators) (at : ℕ) (text kept segment : List ℕ) : Type 0 where
  pub place : ℕ
  pub items : body_from begin s at text ≡ body_from begin s at kept ++ first s (record { text = segment; start = place })
  pub ends : place + width segment ≡ at + length text

-- a text with nothing behind its first segment is the component of that
body_from-alone : (begin : Begin) (s : Separators) (at b : ℕ) (bs : List ℕ) (n : ℕ) → is_clean begin s (b ∷ bs) ≡ true → position_or_len (is_separator s) (b ∷ bs) ≡ n
    → later_body s (at + n) (drop n (b ∷ bs)) ≡ [] → body_from begin s at (b ∷ bs) ≡ body_from begin s at [] ++ first s (record { text = take n (b ∷ bs); start = at })
body_from-alone begin s at b bs n clean e h = grind (arith, body_from-first)

-- a separator alone is the root
last-root : (begin : Begin) (s : Separators) (at x : ℕ) → is_separator s x ≡ true → is_clean begin s (x ∷ []) ≡ true → IsLast begin s at (x ∷ []) [] []
last-root begin s at x separates clean = record {
  place = at;
  items = body_from-alone begin s at x [] 0 clean (ap (λ b. cond b (1 + 0) 0) (not_from_true _ separates)) (later_body-separator s (at + 0) x [] separates);
  ends = refl;
}

-- a text with no separator is one component
last-single : (begin : Begin) (s : Separators) (at : ℕ) (text : List ℕ) → 0 < length text → IsUnseparated (is_separator s) text → is_clean begin s text ≡ true → IsLast begin s at text [] text
last-single begin s at [] some unseparated clean = absurd (omega arith)
last-single begin s at (b ∷ bs) some unseparated clean =
    let n = length (b ∷ bs) in
    record {
      place = at;
      items =
          body_from-alone begin s at b bs n clean
          (position_or_len_is (is_separator s) (b ∷ bs) n 0 (omega arith) (λ k low. unseparated k 0 low) (λ low. absurd (omega arith)))
          (ap (later_body s (at + n)) (drop_all n (b ∷ bs) (omega arith)))
          ∙ ap (λ t. body_from begin s at [] ++ first s (record { text = t; start = at })) (take_all n (b ∷ bs) (omega arith));
      ends = refl;
    }

-- a segment that is not empty is as wide as it is long
width-some : (segment : List ℕ) → 0 < length segment → width segment ≡ length segment
width-some segment h = grind arith

-- a segment that counts behind the last separator is the last component
last-behind : (begin : Begin) (s : Separators) (at : ℕ) (us : List ℕ) (x : ℕ) (vs : List ℕ) → is_separator s x ≡ true → IsUnseparated (is_separator s) vs → counts s vs ≡ true → 0 < length vs
    → IsLast begin s at (us ++ x ∷ vs) (us ++ x ∷ []) vs
last-behind begin s at us x vs separates unseparated counted some =
    let place = at + length us + 1 in
    let g : Segment = record { text = vs; start = place } in
    record {
      place = place;
      items = body_from-append s at x separates begin us vs ∙ ap (λ cs. body_from begin s at (us ++ x ∷ []) ++ cs) (later_body-last s place vs unseparated ∙ later-first s g counted);
      ends = omega (arith, width-some vs some, length-append us (x ∷ vs));
    }

-- a text that ends with a component, by the place behind its last separator
module _ (begin : Begin) (s : Separators) (at : ℕ) (text : List ℕ) (start : ℕ) (some : 0 < length text) (place : IsLastPlace (is_separator s) text start)
    (trimmed : is_trimmed s text ≡ true) (clean : is_clean begin s text ≡ true) where
  -- its last segment counts, or it is one byte long
  counted_or_short : (length text < 2) ⊎ (counts s (drop start text) ≡ true)
  counted_or_short = grind (arith, ltb-true, after_last-drop)

  -- where that is the end, the text is the root alone
  pub last-at_end : start ≡ length text → IsLast begin s at text [] (drop start text)
  last-at_end e =
      let none : drop start text ≡ [] = drop_all start text (omega arith) in
      let short : length text < 2 = elim counted_or_short [ inl short ↦ short | inr counted ↦ absurd (empty_counts (rw none at counted)) ] in
      let cut = cut_last (is_separator s) text start 0 place (omega arith) in
      let size = cut.counted in
      let whole : text ≡ cut.mark ∷ [] = cut.whole ∙ ap (λ us. us ++ cut.mark ∷ drop start text) (nil_from_length cut.before (omega arith)) ∙ ap (λ vs. cut.mark ∷ vs) none in
      subst (λ vs. IsLast begin s at text [] vs) (sym none)
      (subst (λ t. IsLast begin s at t [] []) (sym whole) (last-root begin s at cut.mark cut.passes (subst (λ t. is_clean begin s t ≡ true) whole clean)))
    where
      empty_counts : counts s [] ≡ true → ⊥
      empty_counts h = cc

  -- elsewhere the last segment is a component
  pub last-before_end : start < length text → IsLast begin s at text (take start text) (drop start text)
  last-before_end low = elim (cases_lt 0 start) [
    | inl behind ↦
        let counted : counts s (drop start text) ≡ true = elim counted_or_short [ inl short ↦ absurd (omega arith) | inr counted ↦ counted ] in
        let cut = cut_last (is_separator s) text start 0 place behind in
        subst (λ kept. IsLast begin s at text kept (drop start text)) (sym cut.front)
        (subst (λ t. IsLast begin s at t (cut.before ++ cut.mark ∷ []) (drop start text)) (sym cut.whole)
        (last-behind begin s at cut.before cut.mark (drop start text) cut.passes (behind_last-unseparated (is_separator s) text start place) counted (omega (arith, length-drop start text))))
    | inr none ↦
        let zero : start ≡ 0 = omega arith in
        subst (λ n. IsLast begin s at text (take n text) (drop n text)) (sym zero)
        (last-single begin s at text some (behind_last-unseparated (is_separator s) text 0 (subst (IsLastPlace (is_separator s) text) zero place)) clean)
  ]

-- the text kept begins as the text does
pub is_clean-kept : (begin : Begin) (s : Separators) (text : List ℕ) (start : ℕ) → IsLastPlace (is_separator s) text start → is_clean begin s text ≡ true → is_clean begin s (take start text) ≡ true
is_clean-kept begin s text start place clean = elim (cases_lt 0 start) [
  | inl behind ↦
      let cut = cut_last (is_separator s) text start 0 place behind in
      ap (is_clean begin s) cut.front ∙ sym (is_clean-append s cut.mark cut.passes begin cut.before (drop start text)) ∙ ap (is_clean begin s) (sym cut.whole) ∙ clean
  | inr none ↦
      let zero : start ≡ 0 = omega arith in
      ap (λ n. is_clean begin s (take n text)) zero ∙ empty_is_clean begin
]
  where
    empty_is_clean : (b : Begin) → is_clean b s [] ≡ true
    empty_is_clean b = grind arith

-- the components end where the text does
end_from-segment : {begin : Begin} {s : Separators} {at : ℕ} {text kept segment : List ℕ} → IsLast begin s at text kept segment → end_from at (body_from begin s at text) ≡ at + length text
end_from-segment {begin} {s} {at} {text} {kept} {segment} h = grind (arith, common_steps)

-- so does each text that ends with a component
pub end_from-trimmed : (begin : Begin) (s : Separators) (at : ℕ) (text : List ℕ) → is_trimmed s text ≡ true → is_clean begin s text ≡ true → end_from at (body_from begin s at text) ≡ at + length text
end_from-trimmed begin s at [] trimmed clean = ap (end_from at) (body_from-empty begin s at) ∙ omega arith
end_from-trimmed begin s at (b ∷ bs) trimmed clean =
    let text = b ∷ bs in
    let start = length text - suffix_len (λ c. not (is_separator s c)) text in
    let place = last_place (is_separator s) text in
    let within = place.within in
    elim (cases_lt start (length text)) [
      | inl low ↦ end_from-segment (last-before_end begin s at text start (omega arith) place trimmed clean low)
      | inr high ↦ end_from-segment (last-at_end begin s at text start (omega arith) place trimmed clean (omega arith))
    ]
