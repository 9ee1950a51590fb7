-- Bytes that are a text and bytes that are none, a text cut beside a byte of ASCII, and the segments, prefixes and components that are texts.
use Rattle.std.proofs.Common.{◌≡◌, ℕ, ◌+◌, ◌-◌, ◌<◌, ◌==◌, Bool, true, false, List, [], ◌∷◌, ◌++◌, length, take, drop, get_or, slice_range, inl, inr, refl, sym, ap, subst, ◌∙◌, append_assoc, eqb-true, arith, cond, ◌&&◌, not, nat_lt, Option, Some, flat_map, None, take-append-drop, length-take-le, ltb-true, get_or-append-add, take_at, drop_at, length-append, take_all, if◌then◌else◌, Bor, Result, MatchResult, option_copied}
use Rattle.std.proofs.lemmas.Grind.{common_steps}
use Rattle.std.specs.Str.{IsUtf8, IsCharBoundary, is_utf8}
use Rattle.std.proofs.lemmas.Bool.{cases_lt, cond_both, and_parts, and_from, not-false}
use Rattle.std.proofs.lemmas.List.{get_or_at, get_or_append_left, drop_all}
use Rattle.std.proofs.lemmas.Str.{IsUtf8-nil, IsUtf8-take, IsUtf8-drop, IsUtf8-between, IsCharBoundary-before_ascii, IsCharBoundary-after_ascii, IsCharBoundary-end, is_utf8-from_IsUtf8, IsCharBoundary-from_take, IsCharBoundary-from_rest, IsUtf8-from_ascii, IsUtf8-append, IsCharBoundary-start, IsUtf8-from_is_utf8}
use Rattle.std.specs.Prelude.{⊤}
use Rattle.std.specs.List.{slice_split, onto_first, AllByRecursion, position_or_len, after_first}
use Rattle.std.proofs.lemmas.List.Sums.{prefix_len_stops, prefix_len-le-length}
use Rattle.std.proofs.lemmas.Str.Ascii.{IsAscii-nil, IsAscii-cons}
use Rattle.typed_path.specs.declared.scan.separators.Separators.{Separators}
use Rattle.typed_path.specs.declared.scan.separators.Separators.TheVariants.{Slash, Backslash, Either}
use Rattle.typed_path.specs.components.{slash, backslash, is_separator, Dialect, unix, windows, separators, question, dot, colon, root_text, Segment, placed, segments, component, later, first, body, comps_behind, comps, Found, drive, after_two, after_four, after_mark, after_unc, name, second_name, names_length, is_drive_letter, prefix_of, Part, Placed, end_of, current_part, parent_part, name_part, root_part}
use Rattle.typed_path.specs.texts.{is_text_prefix, is_text_part}
use Rattle.typed_path.specs.queries.{name_of, text_of_bytes}
use Rattle.typed_path.proofs.lemmas.lists.Lists.{slice_split-some, AllByRecursion-append}
use Rattle.typed_path.proofs.lemmas.components.Prefixes.{after_mark-reads, after_unc-reads, after_two-reads, both-read, Read, IsBehindMark, of_verbatim_unc, of_verbatim_disk, of_verbatim, of_device, of_unc, of_disk, prefix-read, prefix-fits}
use Rattle.typed_path.proofs.lemmas.components.PrefixCuts.{name-length, names-take}
use Rattle.typed_path.proofs.lemmas.components.Segments.{Seen, empty, passed_dot, kept_dot, dot_dot, word, seen}
use Rattle.typed_path.proofs.lemmas.components.Cuts.{empty_first}
use Rattle.typed_path.proofs.lemmas.lists.Options.{and_then-some, where-some}
use Rattle.std.specs.Result.{result_ok}

-- A text cut beside a byte of ASCII.

-- each separator is a byte of ASCII
pub separator-ascii : (s : Separators) (b : ℕ) → is_separator s b ≡ true → b < 128
separator-ascii s b h = grind arith

-- a text may be cut before a byte of ASCII, and behind it
pub ascii-cuts : (t u v : List ℕ) (x : ℕ) → IsUtf8 t → t ≡ u ++ x ∷ v → x < 128 → IsCharBoundary t (length u) × IsCharBoundary t (length u + 1)
ascii-cuts t u v x is whole low =
    let here : get_or t (length u) 0 ≡ x = ap (λ bs. get_or bs (length u) 0) whole ∙ get_or_at u x v 0 (length u) refl in
    let inside : length u < length t = omega (arith, ap length whole, length-append u (x ∷ v)) in
    (IsCharBoundary-before_ascii t (length u) inside (omega arith), IsCharBoundary-after_ascii t (length u) is inside (omega arith))

-- what stands before it and what stands behind it are texts
pub utf8-around : (u v : List ℕ) (x : ℕ) → IsUtf8 (u ++ x ∷ v) → x < 128 → IsUtf8 u × IsUtf8 v
utf8-around u v x is low =
    let t = u ++ x ∷ v in
    let cuts = ascii-cuts t u v x is refl low in
    let behind : drop (length u + 1) t ≡ v = ap (drop (length u + 1)) (sym (append_assoc u (x ∷ []) v)) ∙ drop_at (u ++ x ∷ []) v (length u + 1) (length-append u (x ∷ [])) in (
      subst IsUtf8 (take_at u (x ∷ v) (length u) refl) (IsUtf8-take t (length u) is cuts.0),
      subst IsUtf8 behind (IsUtf8-drop t (length u + 1) is cuts.1),
    )

-- what stands between two places where a text may be cut is a text
pub range-utf8 : (t : List ℕ) (i j : ℕ) → IsUtf8 t → IsCharBoundary t i → IsCharBoundary t j → IsUtf8 (slice_range t i j)
range-utf8 t i j is start end = elim (cases_lt j i) [
  | inl less ↦ let none : 0 ≡ j - i = omega arith in subst (λ n. IsUtf8 (take n (drop i t))) none IsUtf8-nil
  | inr fits ↦ IsUtf8-between t i j is fits start end
]

-- so is a part of it, by its length
pub part-utf8 : (t front part rest : List ℕ) → IsUtf8 t → t ≡ front ++ (part ++ rest) → IsCharBoundary t (length front) → IsCharBoundary t (length front + length part) → IsUtf8 part
part-utf8 t front part rest is whole start end =
    let size : length front + length part - length front ≡ length part = omega arith in
    let behind : drop (length front) t ≡ part ++ rest = ap (drop (length front)) whole ∙ drop_at front (part ++ rest) (length front) refl in
    subst IsUtf8 (ap (λ n. take n (drop (length front) t)) size ∙ ap (take (length part)) behind ∙ take_at part rest (length part) refl)
    (range-utf8 t (length front) (length front + length part) is start end)

-- where a part of a text may be cut, the text may be
pub inside-cut : (t front part rest : List ℕ) (n : ℕ) → t ≡ front ++ (part ++ rest) → IsCharBoundary t (length front + length part) → IsCharBoundary part n → IsCharBoundary t (length front + n)
inside-cut t front part rest n whole end cut = grind (arith, cases_lt, get_or-append-add, get_or_append_left, length-append)

-- The segments of a text begin and end where it may be cut.

-- a segment that begins and ends where the whole text may be cut, is a text, and may be cut where that may be
pub record IsTextSegment (t : List ℕ) (g : Segment) : Type 0 where
  pub start : IsCharBoundary t g.start
  pub end : IsCharBoundary t (g.start + length g.text)
  pub text : IsUtf8 g.text
  pub inside : (n : ℕ) → IsCharBoundary g.text n → IsCharBoundary t (g.start + n)

-- the first segment of a part of the text: nothing is known of where it begins
record IsFront (t part : List ℕ) (g : Segment) : Type 0 where
  pub rest : List ℕ
  pub whole : part ≡ g.text ++ rest
  pub end : IsCharBoundary t (g.start + length g.text)

-- the first segment, and those behind it
abbrev AreCut : List ℕ → List ℕ → List Segment → Type 0
AreCut t part [] = ⊤
AreCut t part (g ∷ gs) = IsFront t part g × AllByRecursion (IsTextSegment t) gs

-- a place by another name
at_place : (t : List ℕ) (m n : ℕ) → m ≡ n → IsCharBoundary t m → IsCharBoundary t n
at_place t m n e cut = subst (IsCharBoundary t) e cut

module _ (s : Separators) (t : List ℕ) (is : IsUtf8 t) where
  -- a first segment that begins where the text may be cut is one like the others
  opened : (front part : List ℕ) (g : Segment) → t ≡ front ++ part → g.start ≡ length front → IsCharBoundary t g.start → IsFront t part g → IsTextSegment t g
  opened front part g whole place start first = grind (arith, part-utf8, at_place, inside-cut)

  -- the segments of what stands behind a front of the text
  cut_behind : (front part : List ℕ) (at : ℕ) → t ≡ front ++ part → at ≡ length front → AreCut t part (segments s at part)
  cut_behind front [] at whole place =
      let end : length t ≡ at + 0 = omega (arith, ap length whole, length-append front []) in
      (record { rest = []; whole = refl; end = at_place t _ _ end (IsCharBoundary-end t) }, tt)
  cut_behind front (b ∷ part) at whole place =
      let some = slice_split-some (is_separator s) part in
      let behind : t ≡ (front ++ b ∷ []) ++ part = whole ∙ sym (append_assoc front (b ∷ []) part) in
      let size = length-append front (b ∷ []) in
      by (is_separator s b) refl some.0 some.1 some.2 behind size (λ n e. cut_behind (front ++ b ∷ []) part n behind (omega arith))
    where
      by : (parts : Bool) → is_separator s b ≡ parts → (piece : List ℕ) (pieces : List (List ℕ)) → slice_split (is_separator s) part ≡ piece ∷ pieces
          → t ≡ (front ++ b ∷ []) ++ part → length (front ++ b ∷ []) ≡ length front + 1
          → ((n : ℕ) → n ≡ length front + 1 → AreCut t part (segments s n part))
          → AreCut t (b ∷ part) (placed at (cond parts ([] ∷ slice_split (is_separator s) part) (onto_first b (slice_split (is_separator s) part))))
      by true e piece pieces split behind size again =
          let cuts = ascii-cuts t front part b is whole (separator-ascii s b e) in
          let others = subst (λ all. AreCut t part (placed (at + 0 + 1) all)) split (again (at + 0 + 1) (omega arith)) in
          let before : IsCharBoundary t (at + 0) = at_place t _ _ (omega arith) cuts.0 in
          let next : IsCharBoundary t (at + 0 + 1) = at_place t _ _ (omega arith) cuts.1 in
          rw split (
            record { rest = b ∷ part; whole = refl; end = before },
            (opened (front ++ b ∷ []) part (record { text = piece; start = at + 0 + 1 }) behind (omega arith) next others.0, others.1),
          )
      by false e piece pieces split behind size again =
          let others = subst (λ all. AreCut t part (placed (at + 1) all)) split (again (at + 1) (omega arith)) in
          let first = others.0 in
          let far : at + 1 + length piece ≡ at + length (b ∷ piece) = omega arith in
          rw split (
            record { rest = first.rest; whole = ap (λ bs. b ∷ bs) first.whole; end = at_place t _ _ far first.end },
            subst (λ n. AllByRecursion (IsTextSegment t) (placed (n + 1) pieces)) far others.1,
          )

  -- each segment of what stands behind a place where the text may be cut
  pub segments-cut : (front part : List ℕ) (at : ℕ) → t ≡ front ++ part → at ≡ length front → IsCharBoundary t at → AllByRecursion (IsTextSegment t) (segments s at part)
  segments-cut front part at whole place start =
      let some = slice_split-some (is_separator s) part in
      let all = subst (λ pieces. AreCut t part (placed at pieces)) some.2 (cut_behind front part at whole place) in
      rw some.2 (opened front part (record { text = some.0; start = at }) whole place start all.0, all.1)

-- The prefix of a text ends where the text may be cut, and its names are texts.

-- what stands behind four bytes is a text, where the last of them is ASCII
after_four-utf8 : (p q r s : ℕ → Bool) → ((b : ℕ) → s b ≡ true → b < 128) → (text rest : List ℕ) → IsUtf8 text → after_four p q r s text ≡ Some rest → IsUtf8 rest
after_four-utf8 p q r s low (a ∷ b ∷ c ∷ d ∷ text) rest is e =
    let has = where-some _ text rest e in
    subst IsUtf8 has.1 (utf8-around (a ∷ b ∷ c ∷ []) text d is (low d (and_parts _ (s d) has.0).1)).1
after_four-utf8 p q r s low text rest is e = cc

-- so is what stands behind a mark
pub after_mark-utf8 : (sign : ℕ) (text rest : List ℕ) → IsUtf8 text → after_mark sign text ≡ Some rest → IsUtf8 rest
after_mark-utf8 sign text rest is e = after_four-utf8 (is_separator Either) (is_separator Either) (λ b. b == sign) (is_separator Either) (separator-ascii Either) text rest is e

-- behind `UNC` and a separator
after_unc-utf8 : (s : Separators) (text rest : List ℕ) → IsUtf8 text → after_unc s text ≡ Some rest → IsUtf8 rest
after_unc-utf8 s text rest is e = after_four-utf8 (λ b. b == 85) (λ b. b == 78) (λ b. b == 67) (is_separator s) (separator-ascii s) text rest is e

-- and behind two separators
after_two-utf8 : (text rest : List ℕ) → IsUtf8 text → after_two text ≡ Some rest → IsUtf8 rest
after_two-utf8 (a ∷ b ∷ text) rest is e =
    let has = where-some _ text rest e in
    subst IsUtf8 has.1 (utf8-around (a ∷ []) text b is (separator-ascii Either b (and_parts _ (is_separator Either b) has.0).1)).1
after_two-utf8 text rest is e = cc

-- a text may be cut behind a drive
drive-cut : (text : List ℕ) (letter : ℕ) → IsUtf8 text → drive text ≡ Some letter → IsCharBoundary text 2
drive-cut (a ∷ b ∷ text) letter is e =
    let has = where-some (is_drive_letter a && b == colon) _ letter e in
    (ascii-cuts (a ∷ b ∷ text) (a ∷ []) text b is refl (omega (arith, eqb-true b colon (and_parts _ (b == colon) has.0).1))).1
drive-cut text letter is e = cc

module _ (s : Separators) where
  -- the two parts of a text that is cut at its first separator
  record AreTexts (text : List ℕ) : Type 0 where
    pub front : IsUtf8 (name s text)
    pub behind : IsUtf8 (after_first (is_separator s) text)

  -- they are texts
  parted : (text : List ℕ) → IsUtf8 text → AreTexts text
  parted text is =
      let n = position_or_len (is_separator s) text in
      elim (cases_lt n (length text)) [
        | inl less ↦
            let low : get_or text n 0 < 128 = separator-ascii s (get_or text n 0) (not-false _ (prefix_len_stops (λ b. not (is_separator s b)) text 0 less)) in
            record { front = IsUtf8-take text n is (IsCharBoundary-before_ascii text n less low); behind = IsUtf8-drop text (n + 1) is (IsCharBoundary-after_ascii text n is less low) }
        | inr most ↦ record { front = subst IsUtf8 (sym (take_all n text most)) is; behind = subst IsUtf8 (sym (drop_all (n + 1) text (omega arith))) IsUtf8-nil }
      ]

  -- so are the two names that it begins with
  names-utf8 : (text : List ℕ) → IsUtf8 text → IsUtf8 (second_name s text)
  names-utf8 text is = (parted (after_first (is_separator s) text) (parted text is).behind).front

  -- a text may be cut behind its name
  name-cut : (text : List ℕ) → IsUtf8 text → IsCharBoundary text (length (name s text))
  name-cut text is =
      let n = position_or_len (is_separator s) text in
      rw (name-length s text) (IsCharBoundary-from_take text n is (prefix_len-le-length (λ b. not (is_separator s b)) text) (parted text is).front)

  -- and behind both
  names-cut : (text : List ℕ) → IsUtf8 text → IsCharBoundary text (names_length s text)
  names-cut text is =
      let n = position_or_len (is_separator s) text in
      cond_both (nat_lt (length (name s text)) (length text)) (length (name s text) + 1 + length (second_name s text)) (length (name s text)) (IsCharBoundary text)
      (λ less. rw (name-length s text) (IsCharBoundary-from_rest text (n + 1) (length (second_name s text)) (omega (arith, ltb-true _ _ less, name-length s text)) (name-cut (after_first (is_separator s) text) (parted text is).behind)))
      (λ most. name-cut text is)

-- a place behind a mark
behind_mark : (k n : ℕ) (mark : Option (List ℕ)) (t rest : List ℕ) → IsBehindMark k mark t rest → IsCharBoundary rest n → IsCharBoundary t (k + n)
behind_mark k n mark t rest is cut = let size = is.size in IsCharBoundary-from_rest t k n (omega arith) (subst (λ bs. IsCharBoundary bs n) (sym is.dropped) cut)

-- where a text may be cut behind its prefix
read-end : (s : Separators) (t : List ℕ) (f : Found) → IsUtf8 t → Read s t f → IsCharBoundary t f.length
read-end s t _ is (of_verbatim_unc rest mark filled) =
    let inner = and_then-some (after_unc s) (after_mark question t) rest mark.marked in
    behind_mark 8 _ _ t rest mark (names-cut s rest (after_unc-utf8 s inner.0 rest (after_mark-utf8 question t inner.0 is inner.1) inner.2))
read-end s t _ is (of_verbatim_disk rest letter mark drives) = behind_mark 4 2 _ t rest mark (drive-cut rest letter (after_mark-utf8 question t rest is mark.marked) drives)
read-end s t _ is (of_verbatim rest mark filled no_unc no_drive) = behind_mark 4 _ _ t rest mark (name-cut s rest (after_mark-utf8 question t rest is mark.marked))
read-end s t _ is (of_device rest mark filled) = behind_mark 4 _ _ t rest mark (name-cut Either rest (after_mark-utf8 dot t rest is mark.marked))
read-end s t _ is (of_unc rest mark filled no_verbatim no_device) = behind_mark 2 _ _ t rest mark (names-cut Either rest (after_two-utf8 t rest is mark.marked))
read-end s t _ is (of_disk letter drives) = drive-cut t letter is drives

-- a name at the front of bytes is a text where it alone is, and two are where they are one with what parts them
one-text : (s : Separators) (rest : List ℕ) → IsUtf8 (take (length (name s rest)) rest) → is_utf8 (name s rest) ≡ true
one-text s rest is = grind (arith, common_steps, is_utf8-from_IsUtf8)

two-text : (s : Separators) (rest : List ℕ) → IsUtf8 (take (names_length s rest) rest) → is_utf8 (name s rest) && is_utf8 (second_name s rest) ≡ true
two-text s rest is =
    let n = names_length s rest in
    let same = names-take s n rest (omega arith) in
    and_from _ _ (is_utf8-from_IsUtf8 _ (subst IsUtf8 same.first (parted s (take n rest) is).front)) (is_utf8-from_IsUtf8 _ (subst IsUtf8 same.second (names-utf8 s (take n rest) is)))

-- so are those of a prefix whose raw text is one, in whatever text it stands
read-names : (s : Separators) (t : List ℕ) (f : Found) → IsUtf8 (take f.length t) → Read s t f → is_text_prefix f.prefix ≡ true
read-names s t _ is (of_verbatim_unc rest mark filled) =
    let n = names_length s rest in
    let raw = (both-read 4 4 (after_mark question) (after_unc s) (after_mark-reads question) (after_unc-reads s)).whole t rest n mark.marked in
    let inner = and_then-some (after_unc s) (after_mark question (take (8 + n) t)) (take n rest) raw in
    two-text s rest (after_unc-utf8 s inner.0 (take n rest) (after_mark-utf8 question _ inner.0 is inner.1) inner.2)
read-names s t _ is (of_verbatim_disk rest letter mark drives) = refl
read-names s t _ is (of_verbatim rest mark filled no_unc no_drive) =
    one-text s rest (after_mark-utf8 question _ _ is ((after_mark-reads question).whole t rest (length (name s rest)) mark.marked))
read-names s t _ is (of_device rest mark filled) =
    one-text Either rest (after_mark-utf8 dot _ _ is ((after_mark-reads dot).whole t rest (length (name Either rest)) mark.marked))
read-names s t _ is (of_unc rest mark filled no_verbatim no_device) =
    two-text Either rest (after_two-utf8 _ _ is (after_two-reads.whole t rest (names_length Either rest) mark.marked))
read-names s t _ is (of_disk letter drives) = refl

pub prefix-names : (t : List ℕ) (f : Found) → prefix_of windows t ≡ Some f → IsUtf8 (take f.length t) → is_text_prefix f.prefix ≡ true
prefix-names t f found is = read-names (separators windows t) t f is (prefix-read t f found)

-- a prefix that ends where the text may be cut, and whose names are texts
pub record IsTextFound (t : List ℕ) (f : Found) : Type 0 where
  pub end : IsCharBoundary t f.length
  pub names : is_text_prefix f.prefix ≡ true

-- each prefix of a text does
pub prefix-text : (d : Dialect) (t : List ℕ) (f : Found) → IsUtf8 t → prefix_of d t ≡ Some f → IsTextFound t f
prefix-text unix t f is found = cc
prefix-text windows t f is found =
    let end = read-end (separators windows t) t f is (prefix-read t f found) in
    record { end = end; names = prefix-names t f found (IsUtf8-take t f.length is end) }

-- The components of a text begin and end where it may be cut, and are texts.

-- a component that begins and ends where the text may be cut, and is a text; where it is a name, the text may be cut inside as that may be
pub record IsCut (t : List ℕ) (c : Placed) : Type 0 where
  pub start : IsCharBoundary t c.start
  pub end : IsCharBoundary t (end_of c)
  pub part : is_text_part c.part ≡ true
  pub inside : (name : List ℕ) (n : ℕ) → name_of c.part.kind ≡ Some name → IsCharBoundary name n → IsCharBoundary t (c.start + n)

-- a byte of ASCII is a text
pub byte-utf8 : (b : ℕ) → b < 128 → IsUtf8 (b ∷ [])
byte-utf8 b low = IsUtf8-from_ascii (b ∷ []) (IsAscii-cons b [] low IsAscii-nil)

-- so are the components that are always written alike
pub current-text : is_text_part current_part ≡ true
current-text = and_from _ _ (is_utf8-from_IsUtf8 _ (byte-utf8 dot (omega arith))) refl

pub parent-text : is_text_part parent_part ≡ true
parent-text = and_from _ _ (is_utf8-from_IsUtf8 _ (IsUtf8-append (dot ∷ []) (dot ∷ []) (byte-utf8 dot (omega arith)) (byte-utf8 dot (omega arith)))) refl

pub root-text : (s : Separators) → is_text_part (root_part (root_text s)) ≡ true
root-text Slash = and_from _ _ (is_utf8-from_IsUtf8 _ (byte-utf8 slash (omega arith))) refl
root-text Backslash = and_from _ _ (is_utf8-from_IsUtf8 _ (byte-utf8 backslash (omega arith))) refl
root-text Either = and_from _ _ (is_utf8-from_IsUtf8 _ (byte-utf8 backslash (omega arith))) refl

pub slash-text : is_text_part (root_part (slash ∷ [])) ≡ true
slash-text = root-text Slash

pub backslash-text : is_text_part (root_part (backslash ∷ [])) ≡ true
backslash-text = root-text Backslash

-- a name is where its bytes are
pub name-text : (name : List ℕ) → IsUtf8 name → is_text_part (name_part name) ≡ true
name-text name is = let text = is_utf8-from_IsUtf8 name is in and_from _ _ text text

-- a component that takes a whole segment
taken : (t : List ℕ) (g : Segment) (p : Part) → IsTextSegment t g → length g.text ≡ length p.text → is_text_part p ≡ true → ((name : List ℕ) → name_of p.kind ≡ Some name → g.text ≡ name) → AllByRecursion (IsCut t) (component p g.start)
taken t g p is size text named = grind arith

-- what is made of a later segment
later-cut : (s : Separators) (t : List ℕ) (g : Segment) → IsTextSegment t g → AllByRecursion (IsCut t) (later s g)
later-cut s t g is = by (later s g) (first s g) (seen s g)
  where
    by : (own front : List Placed) → Seen s g own front → AllByRecursion (IsCut t) own
    by own front h = grind (arith, empty, passed_dot, kept_dot, taken, current-text, dot_dot, parent-text, word, name-text)

-- what is made of the first one, where the text may be cut behind a root
first-cut : (s : Separators) (t : List ℕ) (g : Segment) → IsTextSegment t g → (length g.text ≡ 0 → IsCharBoundary t (g.start + 1)) → AllByRecursion (IsCut t) (first s g)
first-cut s t g is behind = by (later s g) (first s g) (seen s g)
  where
    root_cut : (r : Separators) → IsCharBoundary t (g.start + 1) → AllByRecursion (IsCut t) (component (root_part (root_text r)) g.start)
    root_cut r end = grind (arith, root-text)

    by : (own front : List Placed) → Seen s g own front → AllByRecursion (IsCut t) front
    by own front h = grind (arith, empty, root_cut, passed_dot, taken, current-text, kept_dot, dot_dot, parent-text, word, name-text)

-- what is made of all later segments
laters-cut : (s : Separators) (t : List ℕ) (gs : List Segment) → AllByRecursion (IsTextSegment t) gs → AllByRecursion (IsCut t) (flat_map (later s) gs)
laters-cut s t [] each = tt
laters-cut s t (g ∷ gs) each = AllByRecursion-append (IsCut t) (later s g) (flat_map (later s) gs) (later-cut s t g each.0) (laters-cut s t gs each.1)

-- the components of what stands behind a place where the text may be cut
body-cut : (s : Separators) (t front part : List ℕ) → IsUtf8 t → t ≡ front ++ part → IsCharBoundary t (length front) → AllByRecursion (IsCut t) (body s (length front) part)
body-cut s t front [] is whole start = tt
body-cut s t front (b ∷ bs) is whole start =
    let some = slice_split-some (is_separator s) (b ∷ bs) in
    let all = subst (λ pieces. AllByRecursion (IsTextSegment t) (placed (length front) pieces)) some.2 (segments-cut s t is front (b ∷ bs) (length front) whole refl start) in
    rw some.2 (AllByRecursion-append (IsCut t) _ _
    (first-cut s t (record { text = some.0; start = length front }) all.0 (λ none. (ascii-cuts t front bs b is whole (separator-ascii s b (empty_first s b bs some.0 some.1 some.2 none))).1))
    (laters-cut s t (placed (length front + length some.0 + 1) some.1) all.1))

-- the components of a text begin and end where it may be cut, and are texts
pub comps-cut : (d : Dialect) (t : List ℕ) → IsUtf8 t → AllByRecursion (IsCut t) (comps d t)
comps-cut d t is = by (prefix_of d t) refl
  where
    s : Separators
    s = separators d t

    by : (o : Option Found) → prefix_of d t ≡ o → AllByRecursion (IsCut t) (comps_behind s t o)
    by None e = body-cut s t [] t is refl (IsCharBoundary-start t is)
    by (Some f) e =
        let found = prefix-text d t f is e in
        let fits = prefix-fits d t f e in
        let size : length (take f.length t) ≡ f.length = length-take-le f.length t fits.fits in
        let far : f.length ≡ 0 + length (take f.length t) = omega arith in
        let raw = is_utf8-from_IsUtf8 _ (IsUtf8-take t f.length is found.end) in (
          record { start = IsCharBoundary-start t is; end = subst (IsCharBoundary t) far found.end; part = and_from _ _ raw found.names; inside = λ name n none cut. cc },
          subst (λ n. AllByRecursion (IsCut t) (body s n (drop f.length t))) size
              (body-cut s t (take f.length t) (drop f.length t) is (sym (take-append-drop f.length t)) (subst (IsCharBoundary t) (sym size) found.end)),
        )

-- Bytes that are a text, and bytes that are none.

pub text_of_bytes-some : (t : List ℕ) → IsUtf8 t → text_of_bytes t ≡ Some t
text_of_bytes-some t is = rw (is_utf8-from_IsUtf8 t is) refl

pub text_of_bytes-none : (t : List ℕ) → ¬ (IsUtf8 t) → text_of_bytes t ≡ None
text_of_bytes-none t isnt = by (is_utf8 t) refl
  where
    by : (b : Bool) → is_utf8 t ≡ b → (if b then Some t else None) ≡ None
    by true e = absurd (isnt (IsUtf8-from_is_utf8 t e))
    by false e = refl

-- a text found in bytes is all of them
pub text_of_bytes-is : (t u : List ℕ) → text_of_bytes t ≡ Some u → IsUtf8 t × (t ≡ u)
text_of_bytes-is t u = by (is_utf8 t) refl
  where
    by : (b : Bool) → is_utf8 t ≡ b → (if b then Some t else None) ≡ Some u → IsUtf8 t × (t ≡ u)
    by true e h = (IsUtf8-from_is_utf8 t e, cc)
    by false e h = cc

-- what reading bytes as a text gives
pub text_of_bytes-read : {E : Type 0} (P : E → Type 0) (r : Result (Bor (List ℕ)) E) (t : List ℕ) → MatchResult r (λ s. (s.now ≡ t) × IsUtf8 t) (λ e. ¬ (IsUtf8 t) × P e) → option_copied (result_ok r) ≡ text_of_bytes t
text_of_bytes-read P r t h = grind (arith, text_of_bytes-some, text_of_bytes-none)
