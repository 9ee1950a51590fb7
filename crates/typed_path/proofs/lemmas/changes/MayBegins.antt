-- Marks of separators behind which a device may stand: what the bytes behind them tell, and the search by such marks.
use Rattle.std.proofs.Common.{◌≡◌, ℕ, zero, suc, ◌+◌, ◌-◌, ◌*◌, ◌^◌, ◌/◌, ◌≤◌, ◌<◌, List, [], ◌∷◌, true, false, ◌&&◌, ◌||◌, ◌==◌, min, max, length, drop, get_or, refl, sym, ap, ◌∙◌, arith, bit_or, bit_and, subst, true≢false, inl, inr, get_or-drop, length-drop}
use Rattle.std.specs.Int.{bit_at}
use Rattle.std.specs.List.{before_first}
use Rattle.std.proofs.lemmas.Bool.{and_parts, false_from_ne_true, cases_lt, or_cases}
use Rattle.std.proofs.lemmas.List.{drop_more}
use Rattle.std.proofs.lemmas.Nat.Bits.{bit_at-zero, bit_at_or, bit_at_and, bit_at-lt, bit_at_mask_above, bit_at_mask_inside}
use Rattle.typed_path.specs.declared.scan.separators.Separators.TheVariants.{Either}
use Rattle.typed_path.specs.declared.scan.separators.TheConstants.{FIRSTS, SECONDS}
use Rattle.typed_path.specs.components.{dot, slash, backslash, is_separator}
use Rattle.typed_path.specs.scan.{IsMask, stands_at}
use Rattle.typed_path.specs.changes.{dot_pair_at, AreMayBegins, BeginsNone, TellsBegins, is_letter_of, ends_stem, may_end_stem, begins_with_device, has_device_behind}
use Rattle.typed_path.proofs.lemmas.queries.ValidNames.{reserved-device}
use Rattle.typed_path.proofs.lemmas.changes.ValidPaths.{device-front, stem-ends}
use Rattle.typed_path.proofs.lemmas.scan.Blanks.{shifted}
use Rattle.typed_path.proofs.lemmas.scan.Searches.{of-set, set-of}

-- Marks of separators behind which a device may stand: what the bytes behind them tell, and the search by such marks.

-- ---- marks

-- marks put together
pub marks-together : (separators firsts seconds ends : ℕ) → AreMayBegins separators firsts seconds ends (bit_and separators (bit_and (firsts / 2) (bit_and (seconds / 4) (bit_or (ends / 16) (ends / 32)))))
marks-together separators firsts seconds ends k =
    let e = bit_or (ends / 16) (ends / 32) in
    let c = bit_and (seconds / 4) e in
    bit_at_and separators (bit_and (firsts / 2) c) k
    ∙ ap (min (bit_at separators k))
    (bit_at_and (firsts / 2) c k
    ∙ (λ i. min (shifted firsts 1 k i) (bit_at c k))
    ∙ ap (min (bit_at firsts (1 + k)))
    (bit_at_and (seconds / 4) e k
    ∙ (λ i. min (shifted seconds 2 k i) (bit_at e k))
    ∙ ap (min (bit_at seconds (2 + k))) (bit_at_or (ends / 16) (ends / 32) k ∙ (λ i. max (shifted ends 4 k i) (shifted ends 5 k i)))))

-- fewer marks, from a later place on
pub tells-later : (text : List ℕ) (from n s mask : ℕ) → TellsBegins text from (s + n) mask → TellsBegins text (from + s) n (mask / 2 ^ s)
tells-later text from n s mask told = record {
  separates = λ k set.
      let own = told.separates (s + k) (sym (shifted mask s k) ∙ set) in
      let same : from + (s + k) ≡ from + s + k = omega arith in
      (omega (arith, own.0), ap (λ j. is_separator Either (get_or text j 0)) (sym same) ∙ own.1);
  none = λ k low clear.
      let same : from + (s + k) ≡ from + s + k = omega arith in
      subst (BeginsNone text) same (told.none (s + k) (omega (arith, low)) (sym (shifted mask s k) ∙ clear));
}

-- ---- a block of 32 bytes, by its marks

module _ (text : List ℕ) (at separators firsts seconds dots behind mask : ℕ)
    (separated : IsMask (λ k. stands_at (slash, backslash) text (at + k)) 32 separators) (dotted : IsMask (λ k. stands_at (dot, dot) text (at + k)) 32 dots)
    (first : IsMask (λ k. is_letter_of FIRSTS (get_or text (at + k) 0)) 32 firsts) (second : IsMask (λ k. is_letter_of SECONDS (get_or text (at + k) 0)) 32 seconds)
    (together : AreMayBegins separators firsts seconds (bit_or (bit_or separators dots) behind) mask) where
  abbrev ends : ℕ
  ends = bit_or (bit_or separators dots) behind

  -- a mark is one of a separator
  pub block-separates : (k : ℕ) → bit_at mask k ≡ 1 → (k < 32) × (is_separator Either (get_or text (at + k) 0) ≡ true)
  block-separates k set = of-set _ 32 separators k separated (omega (arith, together k, set, bit_at-lt separators k))

  -- what ends a stem is marked
  end-set : (k : ℕ) → k < 32 → ends_stem (get_or text (at + k) 0) ≡ true → bit_at ends k ≡ 1
  end-set k l h =
      elim (or_cases (get_or text (at + k) 0 == dot) (is_separator Either (get_or text (at + k) 0)) h) [
        | inl d ↦ omega (arith, bit_at_or (bit_or separators dots) behind k, bit_at_or separators dots k, set-of _ 32 dots k dotted l (ap (λ b. b || b) d), bit_at-lt separators k, bit_at-lt behind k)
        | inr s ↦ omega (arith, bit_at_or (bit_or separators dots) behind k, bit_at_or separators dots k, set-of _ 32 separators k separated l s, bit_at-lt dots k, bit_at-lt behind k)
      ]

  -- a separator with no mark has none behind it, where the bytes that tell are those of the block, or the text ends
  module _ (k : ℕ) (inside : k < 32) (short : (j : ℕ) → j ≤ 5 + k → at + j < length text → j < 32) (ended : (j : ℕ) → j ≤ 5 + k → length text ≤ at + j → bit_at ends j ≡ 1) where
    -- a byte of what stands behind
    byte : (i j : ℕ) → at + k + 1 + i ≡ at + j → get_or (drop (at + k + 1) text) i 0 ≡ get_or text (at + j) 0
    byte i j same = get_or-drop (at + k + 1) text i 0 ∙ ap (λ n. get_or text n 0) same

    long : length (drop (at + k + 1) text) ≡ length text - (at + k + 1)
    long = length-drop (at + k + 1) text

    -- a byte behind which the text goes on stands in the block
    within : (i : ℕ) → i < 5 → i < length (drop (at + k + 1) text) → 1 + i + k < 32
    within i low l = short (1 + i + k) (omega (arith, low)) (omega (arith, l, long))

    -- what stands behind a place of it, or the end
    past : (i : ℕ) → i < 5 → length (drop (at + k + 1) text) ≤ i → bit_at ends (1 + i + k) ≡ 1
    past i low l = ended (1 + i + k) (omega (arith, low)) (omega (arith, l, long))

    -- the letters of a device, and the end of a stem
    made : bit_at separators k ≡ 1 → (is_letter_of FIRSTS (get_or (drop (at + k + 1) text) 0 0) && is_letter_of SECONDS (get_or (drop (at + k + 1) text) 1 0)) ≡ true
        → may_end_stem (drop (at + k + 1) text) ≡ true → bit_at mask k ≡ 1
    made own letters stem =
        let both = and_parts _ _ letters in
        let some : 2 ≤ length (drop (at + k + 1) text) = elim (cases_lt 1 (length (drop (at + k + 1) text))) [
          | inl l ↦ omega (arith, l)
          | inr h ↦ absurd (true≢false (sym both.1 ∙ ap (is_letter_of SECONDS) (get_or-past (drop (at + k + 1) text) 1 h)))
        ] in
        let one = set-of _ 32 firsts (1 + k) first (within 0 (omega arith) (omega (arith, some))) (ap (is_letter_of FIRSTS) (sym (byte 0 (1 + k) (omega arith))) ∙ both.0) in
        let two = set-of _ 32 seconds (2 + k) second (within 1 (omega arith) (omega (arith, some))) (ap (is_letter_of SECONDS) (sym (byte 1 (2 + k) (omega arith))) ∙ both.1) in
        omega (arith, together k, own, one, two, ending (drop (at + k + 1) text) refl stem, bit_at-lt ends (4 + k), bit_at-lt ends (5 + k))
      where
        get_or-past : (t : List ℕ) (i : ℕ) → length t ≤ i → get_or t i 0 ≡ 0
        get_or-past [] i h = refl
        get_or-past (x ∷ t) zero h = absurd (omega (arith, h))
        get_or-past (x ∷ t) (suc i) h = get_or-past t i (omega (arith, h))

        ending : (t : List ℕ) → t ≡ drop (at + k + 1) text → may_end_stem t ≡ true → 1 ≤ bit_at ends (4 + k) + bit_at ends (5 + k)
        ending [] e stem = omega (arith, past 4 (omega arith) (omega (arith, ap length e)))
        ending (a ∷ []) e stem = omega (arith, past 4 (omega arith) (omega (arith, ap length e)))
        ending (a ∷ b ∷ []) e stem = omega (arith, past 4 (omega arith) (omega (arith, ap length e)))
        ending (a ∷ b ∷ c ∷ []) e stem = omega (arith, past 4 (omega arith) (omega (arith, ap length e)))
        ending (a ∷ b ∷ c ∷ d ∷ []) e stem = omega (arith, past 4 (omega arith) (omega (arith, ap length e)))
        ending (a ∷ b ∷ c ∷ d ∷ f ∷ rest) e stem =
            let of = λ (i j : ℕ) (same : at + k + 1 + i ≡ at + j). ap (λ t. get_or t i 0) e ∙ byte i j same in
            elim (or_cases (ends_stem d) (ends_stem f) stem) [
              | inl h ↦ omega (arith, end-set (4 + k) (within 3 (omega arith) (omega (arith, ap length e))) (ap ends_stem (sym (of 3 (4 + k) (omega arith))) ∙ h))
              | inr h ↦ omega (arith, end-set (5 + k) (within 4 (omega arith) (omega (arith, ap length e))) (ap ends_stem (sym (of 4 (5 + k) (omega arith))) ∙ h))
            ]

    block-none : bit_at mask k ≡ 0 → BeginsNone text (at + k)
    block-none clear = false_from_ne_true _ (λ h.
        let each = and_parts (is_separator Either (get_or text (at + k) 0)) (begins_with_device (drop (at + k + 1) text)) h in
        let letters = device-front (is_letter_of FIRSTS) (is_letter_of SECONDS) refl refl refl refl (drop (at + k + 1) text) (reserved-device (before_first (is_separator Either) (drop (at + k + 1) text)) each.1) in
        absurd (omega (arith, clear, made (set-of _ 32 separators k separated inside each.0) letters (stem-ends (drop (at + k + 1) text) each.1))))

  -- all places of a block but the last five
  pub block-passed : at + 32 ≤ length text → (k : ℕ) → k < 27 → bit_at mask k ≡ 0 → BeginsNone text (at + k)
  block-passed fits k inside = block-none k (omega arith) (λ j bound l. omega arith) (λ j bound past. absurd (omega arith))

  -- all places of the last block
  pub block-last : at + 32 ≡ length text → behind ≡ 31 * 2 ^ 32 → (k : ℕ) → k < 32 → bit_at mask k ≡ 0 → BeginsNone text (at + k)
  block-last whole is k inside =
      block-none k inside (λ j bound l. omega (arith, whole))
      (λ j bound past. omega (arith, bit_at_or (bit_or separators dots) behind j, ap (λ n. bit_at n j) is, bit_at_mask_inside 32 37 j (omega (arith, whole)) (omega arith), bit_at-lt (bit_or separators dots) j))

-- no two dots stand side by side in a block of which no two marks do
pub block-unpaired : (text : List ℕ) (at dots : ℕ) → IsMask (λ k. stands_at (dot, dot) text (at + k)) 32 dots → bit_and dots (dots / 2) ≡ 0 → (k : ℕ) → at ≤ k → k < at + 31 → dot_pair_at text k ≡ false
block-unpaired text at dots marks none k low high = false_from_ne_true _ (λ h.
    let each = and_parts (get_or text k 0 == dot) (get_or text (k + 1) 0 == dot) h in
    let own : at + (k - at) ≡ k = omega (arith, low) in
    let next : at + (1 + (k - at)) ≡ k + 1 = omega (arith, low) in
    let one = set-of _ 32 dots (k - at) marks (omega (arith, low, high)) (ap (λ n. stands_at (dot, dot) text n) own ∙ ap (λ b. b || b) each.0) in
    let two = set-of _ 32 dots (1 + (k - at)) marks (omega (arith, low, high)) (ap (λ n. stands_at (dot, dot) text n) next ∙ ap (λ b. b || b) each.1) in
    absurd (omega (arith, bit_at_and dots (dots / 2) (k - at), ap (λ m. bit_at m (k - at)) none, bit_at-zero (k - at), shifted dots 1 (k - at), one, two)))

-- ---- the search by marks

-- places behind which none begins tell nothing
free-range : (n at : ℕ) (text : List ℕ) → at + n ≤ length text → ((k : ℕ) → k < n → BeginsNone text (at + k)) → has_device_behind (drop at text) ≡ has_device_behind (drop (at + n) text)
free-range zero at text within free = let here : at ≡ at + zero = omega arith in ap (λ k. has_device_behind (drop k text)) here
free-range (suc n) at text within free =
    let on : at + 1 + n ≡ at + suc n = omega arith in
    let here : at + 0 ≡ at = omega arith in
    ap has_device_behind (drop_more text at 0 (omega arith))
    ∙ ap (λ s. s || has_device_behind (drop (at + 1) text)) (subst (BeginsNone text) here (free 0 (omega arith)))
    ∙ free-range n (at + 1) text (omega arith) (λ k l. let same : at + suc k ≡ at + 1 + k = omega arith in subst (BeginsNone text) same (free (suc k) (omega arith)))
    ∙ ap (λ k. has_device_behind (drop k text)) on

-- marks of a range: the lowest tells of the segment behind its separator, and those that are left of the others
module _ (text : List ℕ) (at to left lowest : ℕ) (ordered : at ≤ to) (within : to ≤ length text) (marks : TellsBegins text at (to - at) left)
    (set : bit_at left lowest ≡ 1) (below : (k : ℕ) → k < lowest → bit_at left k ≡ 0) where
  pub lowest-within : at + (lowest + 1) ≤ to
  lowest-within = omega (arith, (marks.separates lowest set).0, ordered)

  pub lowest-separator : has_device_behind (drop at text)
      ≡ (begins_with_device (drop (at + (lowest + 1)) text) || has_device_behind (drop (at + (lowest + 1)) text))
  lowest-separator =
      let own = marks.separates lowest set in
      let behind : at + lowest + 1 ≡ at + (lowest + 1) = omega arith in
      free-range lowest at text (omega (arith, own.0, ordered, within)) (λ k l. marks.none k (omega (arith, l, own.0)) (below k l))
      ∙ ap has_device_behind (drop_more text (at + lowest) 0 (omega (arith, own.0, ordered, within)))
      ∙ ap (λ s. (s && begins_with_device (drop (at + lowest + 1) text)) || has_device_behind (drop (at + lowest + 1) text)) own.1
      ∙ ap (λ k. begins_with_device (drop k text) || has_device_behind (drop k text)) behind

  pub marks-behind : TellsBegins text (at + (lowest + 1)) (to - (at + (lowest + 1))) (left / 2 ^ (lowest + 1))
  marks-behind = grind (arith, tells-later)

-- a range without marks tells nothing
pub unmarked : (text : List ℕ) (at to left : ℕ) → at ≤ to → to ≤ length text → TellsBegins text at (to - at) left → left ≡ 0
    → has_device_behind (drop at text) ≡ has_device_behind (drop to text)
unmarked text at to left ordered within marks none =
    let there : at + (to - at) ≡ to = omega (arith, ordered) in
    free-range (to - at) at text (omega (arith, ordered, within)) (λ k l. marks.none k l (ap (λ m. bit_at m k) none ∙ bit_at-zero k))
    ∙ ap (λ k. has_device_behind (drop k text)) there

-- the first 27 marks of a block
pub block-front : (text : List ℕ) (at mask : ℕ) → ((k : ℕ) → bit_at mask k ≡ 1 → (k < 32) × (is_separator Either (get_or text (at + k) 0) ≡ true))
    → ((k : ℕ) → k < 27 → bit_at mask k ≡ 0 → BeginsNone text (at + k)) → TellsBegins text at 27 (bit_and mask 134217727)
block-front text at mask separates none = record {
  separates = λ k set. elim (cases_lt k 27) [
    | inl l ↦ (l, (separates k (omega (arith, bit_at_and mask 134217727 k, set, bit_at-lt mask k, bit_at-lt 134217727 k))).1)
    | inr h ↦ absurd (omega (arith, bit_at_and mask 134217727 k, set, bit_at_mask_above 0 27 k h, bit_at-lt mask k))
  ];
  none = λ k l clear. none k l (omega (arith, bit_at_and mask 134217727 k, clear, bit_at_mask_inside 0 27 k (omega arith) l, bit_at-lt mask k));
}
