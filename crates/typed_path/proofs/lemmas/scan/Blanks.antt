-- Segments that count for nothing behind others: how marks tell that there is none, and what that tells of the pieces of a text.
use Rattle.std.proofs.Common.{◌≡◌, ℕ, suc, ◌+◌, ◌-◌, ◌*◌, ◌^◌, ◌/◌, ◌%◌, ◌≤◌, ◌<◌, List, [], ◌∷◌, Bool, true, false, cond, ◌&&◌, ◌||◌, ◌==◌, w64, length, take, take_all, drop, ◌++◌, slice_index, refl, sym, ap, ◌∙◌, arith, bit_or, bit_and, shr-shr, true≢false, drop-drop, inl, inr}
use Rattle.std.specs.Int.{bit_at}
use Rattle.std.specs.List.{before_first, list_any, onto_first, AllByRecursion}
use Rattle.std.proofs.lemmas.Bool.{and_parts, false_from_ne_true, cases_lt, or_parts}
use Rattle.std.proofs.lemmas.List.{drop_more, drop_all, take_more}
use Rattle.std.proofs.lemmas.Nat.Bits.{bit_at-zero, bit_at_or, bit_at_and, bit_at-lt, bit_at_set_same}
use Rattle.typed_path.specs.declared.scan.separators.Separators.{Separators}
use Rattle.typed_path.specs.components.{dot, is_separator, body, is_dot}
use Rattle.typed_path.specs.declared.scan.cursor.Begin.TheVariants.{Body}
use Rattle.typed_path.proofs.lemmas.components.Segments.{body_from-separator, segment-byte, pieces}
use Rattle.typed_path.specs.scan.{IsMask, stands_at, is_one_of, MarksNoBlank, begins_blank, has_blank_behind, is_blank}
use Rattle.typed_path.proofs.lemmas.scan.Searches.{set-of}

-- ---- marks

-- a bit of a mask without its lowest bits
pub shifted : (mask s k : ℕ) → bit_at (mask / 2 ^ s) k ≡ bit_at mask (s + k)
shifted mask s k = ap (λ x. x % 2) (shr-shr mask s k)

-- where no mark is left, none stands before a blank segment
pub tells_none : (separators ends dots : ℕ) → bit_and separators (bit_or (ends / 2) (bit_and (dots / 2) (ends / 4))) ≡ 0 → MarksNoBlank separators ends dots
tells_none separators ends dots none k set =
    let behind = bit_and (dots / 2) (ends / 4) in
    let all = bit_at_and separators (bit_or (ends / 2) behind) k in
    let empty = ap (λ m. bit_at m k) none ∙ bit_at-zero k in
    let either = bit_at_or (ends / 2) behind k in
    let both = bit_at_and (dots / 2) (ends / 4) k in (
      omega (arith, all, empty, either, set, shifted ends 1 k),
      λ d. omega (arith, all, empty, either, both, set, d, shifted dots 1 k, shifted ends 2 k, bit_at-lt ends (2 + k)),
    )

-- ---- what the first bytes of a text tell of its first segment

-- a text is empty, or begins with a separator
abbrev pub ends_segment : Separators → List ℕ → Bool
ends_segment s [] = true
ends_segment s (b ∷ bs) = is_separator s b

-- a text begins with a dot
abbrev pub begins_with_dot : List ℕ → Bool
begins_with_dot [] = false
begins_with_dot (b ∷ bs) = b == dot

-- a text is its first segment, and the pieces behind that, of which a search tells that tests what stands behind each separator
module _ (s : Separators) (test behind : List ℕ → Bool) (none : behind [] ≡ false)
    (one : (b : ℕ) (bs : List ℕ) → behind (b ∷ bs) ≡ ((is_separator s b && test (before_first (is_separator s) bs)) || behind bs)) where
  pub record Split (text : List ℕ) : Type 0 where
    pub more : List (List ℕ)
    pub cut : pieces s text ≡ before_first (is_separator s) text ∷ more
    pub told : list_any test more ≡ behind text

  pub split : (text : List ℕ) → Split text
  split [] = record { more = []; cut = refl; told = sym none }
  split (x ∷ xs) = by (is_separator s x) refl (split xs)
    where
      by : (separates : Bool) → is_separator s x ≡ separates → Split xs → Split (x ∷ xs)
      by true e rest = record {
        more = pieces s xs;
        cut = ap (λ b. cond b ([] ∷ pieces s xs) (onto_first x (pieces s xs))) e ∙ ap (λ t. t ∷ pieces s xs) (sym (segment-byte s x xs ∙ ap (λ b. cond b [] (x ∷ before_first (is_separator s) xs)) e));
        told =
            ap (list_any test) rest.cut
            ∙ ap (λ b. test (before_first (is_separator s) xs) || b) rest.told
            ∙ sym (one x xs ∙ ap (λ b. (b && test (before_first (is_separator s) xs)) || behind xs) e);
      }
      by false e rest = record {
        more = rest.more;
        cut =
            ap (λ b. cond b ([] ∷ pieces s xs) (onto_first x (pieces s xs))) e
            ∙ ap (onto_first x) rest.cut
            ∙ ap (λ t. t ∷ rest.more) (sym (segment-byte s x xs ∙ ap (λ b. cond b [] (x ∷ before_first (is_separator s) xs)) e));
        told = rest.told ∙ sym (one x xs ∙ ap (λ b. (b && test (before_first (is_separator s) xs)) || behind xs) e);
      }

-- the first segment is no blank one where it ends neither at once nor behind a dot
unblank : (s : Separators) (text : List ℕ) → ends_segment s text ≡ false → (begins_with_dot text ≡ true → ends_segment s (drop 1 text) ≡ false) → begins_blank s text ≡ false
unblank s text e f = grind (arith, segment-byte, false_from_ne_true)

-- where no separator stands before a blank segment, no segment behind the first is one
pub nowhere : (s : Separators) (text : List ℕ) → ((k : ℕ) → k < length text → (is_separator s (slice_index text k) && begins_blank s (drop (suc k) text)) ≡ false) → has_blank_behind s text ≡ false
nowhere s [] none = refl
nowhere s (b ∷ bs) none = ap (λ x. x || has_blank_behind s bs) (none 0 (omega arith)) ∙ nowhere s bs (λ k l. none (suc k) (omega arith))

-- ---- a block of a text

-- what stands at a place of a text, by what begins there
module _ (text : List ℕ) (j : ℕ) where
  ends-at : (s : Separators) → j < length text → ends_segment s (drop j text) ≡ is_separator s (slice_index text j)
  ends-at s within = ap (ends_segment s) (drop_more text j 0 within)

  dot-at : j < length text → begins_with_dot (drop j text) ≡ (slice_index text j == dot)
  dot-at within = ap begins_with_dot (drop_more text j 0 within)

  dot-within : begins_with_dot (drop j text) ≡ true → j < length text
  dot-within d = elim (cases_lt j (length text)) [ inl low ↦ low | inr high ↦ absurd (true≢false (sym d ∙ ap begins_with_dot (drop_all j text high))) ]

-- places of a block, where its marks name no separator before a blank segment: those of ends and of dots tell of places below a bound
module _ (s : Separators) (text : List ℕ) (at n bound separators ends dots : ℕ) (none : MarksNoBlank separators ends dots)
    (separated : (k : ℕ) → k < n → is_separator s (slice_index text (at + k)) ≡ true → bit_at separators k ≡ 1)
    (ended : (k : ℕ) → k < bound → ends_segment s (drop (at + k) text) ≡ true → bit_at ends k ≡ 1)
    (dotted : (k : ℕ) → k < bound → begins_with_dot (drop (at + k) text) ≡ true → bit_at dots k ≡ 1) where
  block-place : (k : ℕ) → k < n → 1 + k < bound → (begins_with_dot (drop (at + (1 + k)) text) ≡ true → 2 + k < bound)
      → (is_separator s (slice_index text (at + k)) && begins_blank s (drop (suc (at + k)) text)) ≡ false
  block-place k low one two = false_from_ne_true _ (λ h. let each = and_parts (is_separator s (slice_index text (at + k))) _ h in true≢false (sym each.1 ∙ clean each.0))
    where
      at_one : drop (suc (at + k)) text ≡ drop (at + (1 + k)) text
      at_one = let same : suc (at + k) ≡ at + (1 + k) = omega arith in ap (λ m. drop m text) same

      at_two : drop 1 (drop (suc (at + k)) text) ≡ drop (at + (2 + k)) text
      at_two = let same : suc (at + k) + 1 ≡ at + (2 + k) = omega arith in drop-drop 1 (suc (at + k)) text ∙ ap (λ m. drop m text) same

      unended : (m : ℕ) (t : List ℕ) → t ≡ drop (at + m) text → m < bound → bit_at ends m ≡ 0 → ends_segment s t ≡ false
      unended m t is within unset = false_from_ne_true _ (λ e. let set = ended m within (ap (ends_segment s) (sym is) ∙ e) in absurd (omega (arith, set, unset)))

      clean : is_separator s (slice_index text (at + k)) ≡ true → begins_blank s (drop (suc (at + k)) text) ≡ false
      clean separates = grind (arith, unblank, unended, at_one, at_two)

-- a block of n bytes, by the marks of its separators and dots
module _ (s : Separators) (pair : ℕ × ℕ) (paired : (b : ℕ) → is_separator s b ≡ is_one_of pair b) (text : List ℕ) (at n marks dots : ℕ) (fits : at + n ≤ length text)
    (separates : IsMask (λ k. stands_at pair text (at + k)) n marks) (dotted : IsMask (λ k. stands_at (dot, dot) text (at + k)) n dots) where
  separated : (k : ℕ) → k < n → is_separator s (slice_index text (at + k)) ≡ true → bit_at marks k ≡ 1
  separated k low h = set-of _ n marks k separates low (sym (paired (slice_index text (at + k))) ∙ h)

  ended : (k : ℕ) → k < n → ends_segment s (drop (at + k) text) ≡ true → bit_at marks k ≡ 1
  ended k low h = separated k low (sym (ends-at text (at + k) s (omega (arith, fits))) ∙ h)

  dot-set : (k : ℕ) → k < n → begins_with_dot (drop (at + k) text) ≡ true → bit_at dots k ≡ 1
  dot-set k low h = set-of _ n dots k dotted low (ap (λ b. b || b) (sym (dot-at text (at + k) (omega (arith, fits))) ∙ h))

  -- its places but the last two
  pub block-passed : MarksNoBlank marks marks dots → (k : ℕ) → k + 2 < n
      → (is_separator s (slice_index text (at + k)) && begins_blank s (drop (suc (at + k)) text)) ≡ false
  block-passed none k low = block-place s text at n n marks marks dots none separated ended dot-set k (omega arith) (omega arith) (λ d. omega arith)

  -- all of the last block, behind which the text ends
  module _ (whole : at + n ≡ length text) (short : n < 64) where
    last-ended : (k : ℕ) → k < 1 + n → ends_segment s (drop (at + k) text) ≡ true → bit_at (bit_or marks (1 * 2 ^ n % 2 ^ 64)) k ≡ 1
    last-ended k low h = elim (cases_lt k n) [
      | inl inside ↦ omega (arith, bit_at_or marks (1 * 2 ^ n % 2 ^ 64) k, ended k inside h, bit_at-lt (1 * 2 ^ n % 2 ^ 64) k)
      | inr past ↦ let same : k ≡ n = omega arith in ap (bit_at (bit_or marks (1 * 2 ^ n % 2 ^ 64))) same ∙ bit_at_set_same w64 marks n short
    ]

    last-dotted : (k : ℕ) → k < 1 + n → begins_with_dot (drop (at + k) text) ≡ true → bit_at dots k ≡ 1
    last-dotted k low h = let within = dot-within text (at + k) h in dot-set k (omega (arith, within, whole)) h

    pub block-last : MarksNoBlank marks (bit_or marks (1 * 2 ^ n % 2 ^ 64)) dots → (k : ℕ) → k < n
        → (is_separator s (slice_index text (at + k)) && begins_blank s (drop (suc (at + k)) text)) ≡ false
    block-last none k low =
        block-place s text at n (1 + n) marks _ dots none separated last-ended last-dotted k low (omega arith)
        (λ d. let within = dot-within text (at + (1 + k)) d in omega (arith, within, whole))

-- a separator at the end of a text belongs to no component, where it stands behind other bytes
pub last-separator : (s : Separators) (at : ℕ) (text : List ℕ) → 1 ≤ length text → is_separator s (slice_index text (length text - 1)) ≡ true → (length (take (length text - 1) text) == 0) ≡ false
    → body s at text ≡ body s at (take (length text - 1) text)
last-separator s at text some separates filled = by (take (length text - 1) text) refl
  where
    last : ℕ
    last = slice_index text (length text - 1)

    size : length text - 1 + 1 ≡ length text
    size = omega (arith, some)

    whole : text ≡ take (length text - 1) text ++ last ∷ []
    whole = sym (take_all (length text) text (omega arith)) ∙ ap (λ n. take n text) (sym size) ∙ take_more text (length text - 1) 0 (omega (arith, some))

    by : (front : List ℕ) → take (length text - 1) text ≡ front → body s at text ≡ body s at front
    by [] e = absurd (true≢false (sym (ap (λ t. length t == 0) e) ∙ filled))
    by (u ∷ us) e = ap (body s at) (whole ∙ ap (λ t. t ++ last ∷ []) e) ∙ body_from-separator s at last separates Body u us

-- a piece that is not blank is no `.`, and not empty
pub filled : (piece : List ℕ) → is_blank piece ≡ false → ((length piece == 0) ≡ false) × (is_dot piece ≡ false)
filled piece e = grind arith

-- pieces that are not blank are not empty
pub pieces-filled : (ps : List (List ℕ)) → list_any is_blank ps ≡ false → AllByRecursion (λ p. (length p == 0) ≡ false) ps
pieces-filled [] none = tt
pieces-filled (p ∷ ps) none = let own = or_parts (is_blank p) (list_any is_blank ps) none in ((filled p own.0).0, pieces-filled ps own.1)
