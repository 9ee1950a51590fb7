-- A path in lower case is read as the path is, each of its components in lower case.
use Rattle.std.proofs.Common.{◌≡◌, ℕ, zero, suc, ◌+◌, ◌≤◌, ◌==◌, Bool, true, false, not, ◌&&◌, ◌||◌, nat_lt, if◌then◌else◌, cond, List, [], ◌∷◌, ◌++◌, map, flat_map, length, take, drop, refl, sym, ap, ap₂, ◌∙◌, arith, Option, Some, None, option_map, option_and_then, nat_eq}
use Rattle.std.proofs.lemmas.Grind.{common_steps}
use Rattle.std.proofs.lemmas.Bool.Decides.{nat_tests}
use Rattle.std.proofs.lemmas.List.{length-map, take-map, drop-map, map-append}
use Rattle.std.specs.Char.{to_ascii_lowercase}
use Rattle.std.specs.Str.{str_to_ascii_lowercase}
use Rattle.std.specs.Option.{option_or}
use Rattle.std.specs.List.{slice_split, onto_first, after_first, position_or_len}
use Rattle.typed_path.specs.declared.scan.separators.Separators.{Separators}
use Rattle.typed_path.specs.declared.scan.separators.Separators.TheVariants.{Slash, Backslash, Either}
use Rattle.typed_path.specs.components.{Dialect, unix, windows, is_separator, separators, begins_verbatim, dot, colon, question, is_drive_letter, to_upper, Segment, placed, segments, component, is_dot, is_dot_dot, later, first, body_of, body, Found, found, Prefix, verbatim, verbatim_unc, verbatim_disk, device_ns, unc, disk, is_empty, name, second_name, names_length, drive, after_two, after_four, after_mark, after_unc, verbatim_unc_case, verbatim_disk_case, verbatim_case, device_case, unc_case, disk_case, prefix_of, backslash, comps, comps_behind, prefix_part}
use Rattle.typed_path.specs.order.{lowered, lowered_behind, lowered_placed, lowered_prefix, mark_before, mark_length}
use Rattle.std.specs.Cmp.Lexicographic.{pointwise}
use Rattle.typed_path.proofs.lemmas.components.Prefixes.{prefix_by}
use Rattle.typed_path.proofs.lemmas.lists.Options.{and_then-some, first-some, some_is, unless-some}

-- A byte in lower case: what is no letter of ASCII stays, and no byte becomes such.

slash-lowered : (b : ℕ) → (to_ascii_lowercase b == 47) ≡ (b == 47)
slash-lowered b = grind (arith, nat_tests)

backslash-lowered : (b : ℕ) → (to_ascii_lowercase b == 92) ≡ (b == 92)
backslash-lowered b = grind (arith, nat_tests)

dot-lowered : (b : ℕ) → (to_ascii_lowercase b == dot) ≡ (b == dot)
dot-lowered b = grind (arith, nat_tests)

colon-lowered : (b : ℕ) → (to_ascii_lowercase b == colon) ≡ (b == colon)
colon-lowered b = grind (arith, nat_tests)

question-lowered : (b : ℕ) → (to_ascii_lowercase b == question) ≡ (b == question)
question-lowered b = grind (arith, nat_tests)

-- no capital is left
capital-lowered : (b : ℕ) → (to_ascii_lowercase b == 85) ≡ false
capital-lowered b = grind (arith, nat_tests)

upper-lowered : (b : ℕ) → to_upper (to_ascii_lowercase b) ≡ to_upper b
upper-lowered b = grind (arith, nat_tests)

letter-lowered : (b : ℕ) → is_drive_letter (to_ascii_lowercase b) ≡ is_drive_letter b
letter-lowered b = grind (arith, nat_tests)

-- so the separators stay
pub separates-lowered : (s : Separators) (b : ℕ) → is_separator s (to_ascii_lowercase b) ≡ is_separator s b
separates-lowered Slash b = slash-lowered b
separates-lowered Backslash b = backslash-lowered b
separates-lowered Either b = ap₂ (λ x y. x || y) (slash-lowered b) (backslash-lowered b)

-- The components behind the prefix.

-- a text is cut at the same places
pub split-lowered : (s : Separators) (text : List ℕ) → slice_split (is_separator s) (str_to_ascii_lowercase text) ≡ map str_to_ascii_lowercase (slice_split (is_separator s) text)
split-lowered s [] = refl
split-lowered s (x ∷ xs) = rw (separates-lowered s x, split-lowered s xs) (by (is_separator s x) (slice_split (is_separator s) xs))
  where
    by : (b : Bool) (pieces : List (List ℕ)) → cond b ([] ∷ map str_to_ascii_lowercase pieces) (onto_first (to_ascii_lowercase x) (map str_to_ascii_lowercase pieces)) ≡ map str_to_ascii_lowercase (cond b ([] ∷ pieces) (onto_first x pieces))
    by true pieces = refl
    by false [] = refl
    by false (piece ∷ pieces) = refl

abbrev lowered_segment : Segment → Segment
lowered_segment g = record { text = str_to_ascii_lowercase g.text; start = g.start }

placed-lowered : (at : ℕ) (pieces : List (List ℕ)) → placed at (map str_to_ascii_lowercase pieces) ≡ map lowered_segment (placed at pieces)
placed-lowered at [] = refl
placed-lowered at (piece ∷ pieces) = grind (arith, common_steps, placed-lowered (at + length piece + 1) pieces)

dotted-lowered : (text : List ℕ) → is_dot (str_to_ascii_lowercase text) ≡ is_dot text
dotted-lowered [] = refl
dotted-lowered (a ∷ []) = dot-lowered a
dotted-lowered (a ∷ b ∷ text) = refl

twice-lowered : (text : List ℕ) → is_dot_dot (str_to_ascii_lowercase text) ≡ is_dot_dot text
twice-lowered [] = refl
twice-lowered (a ∷ []) = refl
twice-lowered (a ∷ b ∷ []) = ap₂ (λ x y. x && y) (dot-lowered a) (dot-lowered b)
twice-lowered (a ∷ b ∷ c ∷ text) = refl

empty-lowered : (text : List ℕ) → (length (str_to_ascii_lowercase text) == 0) ≡ (length text == 0)
empty-lowered text = ap (λ n. n == 0) (length-map text to_ascii_lowercase)

later-lowered : (s : Separators) (g : Segment) → later s (lowered_segment g) ≡ map lowered_placed (later s g)
later-lowered s g = grind (arith, dotted-lowered, twice-lowered, empty-lowered)

first-lowered : (s : Separators) (g : Segment) → first s (lowered_segment g) ≡ map lowered_placed (first s g)
first-lowered s g = grind (arith, dotted-lowered, twice-lowered, empty-lowered)

laters-lowered : (s : Separators) (gs : List Segment) → flat_map (later s) (map lowered_segment gs) ≡ map lowered_placed (flat_map (later s) gs)
laters-lowered s [] = refl
laters-lowered s (g ∷ gs) = ap₂ ◌++◌ (later-lowered s g) (laters-lowered s gs) ∙ sym (map-append lowered_placed (later s g) (flat_map (later s) gs))

segments-lowered : (s : Separators) (at : ℕ) (text : List ℕ) → segments s at (str_to_ascii_lowercase text) ≡ map lowered_segment (segments s at text)
segments-lowered s at text = ap (placed at) (split-lowered s text) ∙ placed-lowered at (slice_split (is_separator s) text)

body_of-lowered : (s : Separators) (gs : List Segment) → body_of s (map lowered_segment gs) ≡ map lowered_placed (body_of s gs)
body_of-lowered s [] = refl
body_of-lowered s (g ∷ gs) = ap₂ ◌++◌ (first-lowered s g) (laters-lowered s gs) ∙ sym (map-append lowered_placed (first s g) (flat_map (later s) gs))

pub body_lowered : (s : Separators) (at : ℕ) (text : List ℕ) → body s at (str_to_ascii_lowercase text) ≡ map lowered_placed (body s at text)
body_lowered s at [] = refl
body_lowered s at (b ∷ bs) = ap (body_of s) (segments-lowered s at (b ∷ bs)) ∙ body_of-lowered s (segments s at (b ∷ bs))

-- The prefix.

-- names end at the same places
position-lowered : (s : Separators) (text : List ℕ) → position_or_len (is_separator s) (str_to_ascii_lowercase text) ≡ position_or_len (is_separator s) text
position-lowered s [] = refl
position-lowered s (b ∷ bs) = ap₂ (λ x n. cond (not x) (1 + n) 0) (separates-lowered s b) (position-lowered s bs)

name-lowered : (s : Separators) (text : List ℕ) → name s (str_to_ascii_lowercase text) ≡ str_to_ascii_lowercase (name s text)
name-lowered s text = ap (λ n. take n (str_to_ascii_lowercase text)) (position-lowered s text) ∙ take-map to_ascii_lowercase (position_or_len (is_separator s) text) text

second-lowered : (s : Separators) (text : List ℕ) → second_name s (str_to_ascii_lowercase text) ≡ str_to_ascii_lowercase (second_name s text)
second-lowered s text =
    ap (λ n. name s (drop (n + 1) (str_to_ascii_lowercase text))) (position-lowered s text)
    ∙ ap (name s) (drop-map to_ascii_lowercase (position_or_len (is_separator s) text + 1) text)
    ∙ name-lowered s (after_first (is_separator s) text)

name_length-lowered : (s : Separators) (text : List ℕ) → length (name s (str_to_ascii_lowercase text)) ≡ length (name s text)
name_length-lowered s text = ap length (name-lowered s text) ∙ length-map (name s text) to_ascii_lowercase

second_length-lowered : (s : Separators) (text : List ℕ) → length (second_name s (str_to_ascii_lowercase text)) ≡ length (second_name s text)
second_length-lowered s text = ap length (second-lowered s text) ∙ length-map (second_name s text) to_ascii_lowercase

names_length-lowered : (s : Separators) (text : List ℕ) → names_length s (str_to_ascii_lowercase text) ≡ names_length s text
names_length-lowered s text =
    ap₂ (λ n m. if nat_lt n m then n + 1 + length (second_name s (str_to_ascii_lowercase text)) else n) (name_length-lowered s text) (length-map text to_ascii_lowercase)
    ∙ ap (λ k. if nat_lt (length (name s text)) (length text) then length (name s text) + 1 + k else length (name s text)) (second_length-lowered s text)

-- a prefix in lower case, of as many bytes
abbrev lowered_found : Found → Found
lowered_found f = found (lowered_prefix f.prefix) f.length

-- what stands behind four bytes, each of which passes its test in either case
four-lowered : (p q r s : ℕ → Bool) → ((b : ℕ) → p (to_ascii_lowercase b) ≡ p b) → ((b : ℕ) → q (to_ascii_lowercase b) ≡ q b) → ((b : ℕ) → r (to_ascii_lowercase b) ≡ r b) → ((b : ℕ) → s (to_ascii_lowercase b) ≡ s b)
    → (text : List ℕ) → after_four p q r s (str_to_ascii_lowercase text) ≡ option_map str_to_ascii_lowercase (after_four p q r s text)
four-lowered p q r s hp hq hr hs (a ∷ b ∷ c ∷ d ∷ text) = rw (hp a, hq b, hr c, hs d) (by (p a && q b && r c && s d))
  where
    by : (pass : Bool) → (if pass then Some (str_to_ascii_lowercase text) else None) ≡ option_map str_to_ascii_lowercase (if pass then Some text else None)
    by true = refl
    by false = refl
four-lowered p q r s hp hq hr hs [] = refl
four-lowered p q r s hp hq hr hs (a ∷ []) = refl
four-lowered p q r s hp hq hr hs (a ∷ b ∷ []) = refl
four-lowered p q r s hp hq hr hs (a ∷ b ∷ c ∷ []) = refl

-- the marks
module _ (sign : ℕ) (stays : (b : ℕ) → (to_ascii_lowercase b == sign) ≡ (b == sign)) where
  mark-lowered : (text : List ℕ) → after_mark sign (str_to_ascii_lowercase text) ≡ option_map str_to_ascii_lowercase (after_mark sign text)
  mark-lowered text = four-lowered (is_separator Either) (is_separator Either) (λ b. b == sign) (is_separator Either) (separates-lowered Either) (separates-lowered Either) stays (separates-lowered Either) text

two-lowered : (text : List ℕ) → after_two (str_to_ascii_lowercase text) ≡ option_map str_to_ascii_lowercase (after_two text)
two-lowered [] = refl
two-lowered (a ∷ []) = refl
two-lowered (a ∷ b ∷ text) = rw (separates-lowered Either a, separates-lowered Either b) (by (is_separator Either a && is_separator Either b))
  where
    by : (pass : Bool) → (if pass then Some (str_to_ascii_lowercase text) else None) ≡ option_map str_to_ascii_lowercase (if pass then Some text else None)
    by true = refl
    by false = refl

drive-lowered : (text : List ℕ) → drive (str_to_ascii_lowercase text) ≡ drive text
drive-lowered [] = refl
drive-lowered (a ∷ []) = refl
drive-lowered (a ∷ b ∷ text) = rw (letter-lowered a, colon-lowered b, upper-lowered a)

-- no text in lower case is marked by `UNC` in capitals
unmarked-lowered : (s : Separators) (text : List ℕ) → after_unc s (str_to_ascii_lowercase text) ≡ None
unmarked-lowered s [] = refl
unmarked-lowered s (a ∷ []) = refl
unmarked-lowered s (a ∷ b ∷ []) = refl
unmarked-lowered s (a ∷ b ∷ c ∷ []) = refl
unmarked-lowered s (a ∷ b ∷ c ∷ d ∷ text) = rw (capital-lowered a)

verbatim_unc-lowered : (s : Separators) (text : List ℕ) → verbatim_unc_case s (str_to_ascii_lowercase text) ≡ None
verbatim_unc-lowered s text = rw (mark-lowered question question-lowered text) (by (after_mark question text))
  where
    by : (o : Option (List ℕ)) → option_and_then (λ rest. if is_empty (name s rest) then None else Some (found (verbatim_unc (name s rest) (second_name s rest)) (8 + names_length s rest)))
        (option_and_then (after_unc s) (option_map str_to_ascii_lowercase o)) ≡ None
    by None = refl
    by (Some rest) = rw (unmarked-lowered s rest)

verbatim_disk-lowered : (text : List ℕ) → verbatim_disk_case (str_to_ascii_lowercase text) ≡ option_map lowered_found (verbatim_disk_case text)
verbatim_disk-lowered text = rw (mark-lowered question question-lowered text) (by (after_mark question text))
  where
    drives : (o : Option ℕ) → option_and_then (λ letter. Some (found (verbatim_disk letter) 6)) o ≡ option_map lowered_found (option_and_then (λ letter. Some (found (verbatim_disk letter) 6)) o)
    drives None = refl
    drives (Some letter) = refl

    by : (o : Option (List ℕ)) → option_and_then (λ letter. Some (found (verbatim_disk letter) 6)) (option_and_then drive (option_map str_to_ascii_lowercase o))
        ≡ option_map lowered_found (option_and_then (λ letter. Some (found (verbatim_disk letter) 6)) (option_and_then drive o))
    by None = refl
    by (Some rest) = rw (drive-lowered rest) (drives (drive rest))

disk-lowered : (text : List ℕ) → disk_case (str_to_ascii_lowercase text) ≡ option_map lowered_found (disk_case text)
disk-lowered text = rw (drive-lowered text) (by (drive text))
  where
    by : (o : Option ℕ) → option_and_then (λ letter. Some (found (disk letter) 2)) o ≡ option_map lowered_found (option_and_then (λ letter. Some (found (disk letter) 2)) o)
    by None = refl
    by (Some letter) = refl

-- a case that reads names behind its mark
marked-lowered : (test : List ℕ → Bool) (make : List ℕ → Found) → ((rest : List ℕ) → test (str_to_ascii_lowercase rest) ≡ test rest) → ((rest : List ℕ) → make (str_to_ascii_lowercase rest) ≡ lowered_found (make rest))
    → (o : Option (List ℕ)) → option_and_then (λ rest. if test rest then None else Some (make rest)) (option_map str_to_ascii_lowercase o) ≡ option_map lowered_found (option_and_then (λ rest. if test rest then None else Some (make rest)) o)
marked-lowered test make tests makes None = refl
marked-lowered test make tests makes (Some rest) = rw (tests rest, makes rest) (by (test rest))
  where
    by : (b : Bool) → (if b then None else Some (lowered_found (make rest))) ≡ option_map lowered_found (if b then None else Some (make rest))
    by true = refl
    by false = refl

empty_name-lowered : (s : Separators) (text : List ℕ) → is_empty (name s (str_to_ascii_lowercase text)) ≡ is_empty (name s text)
empty_name-lowered s text = ap (λ n. n == 0) (name_length-lowered s text)

verbatim-lowered : (s : Separators) (text : List ℕ) → verbatim_case s (str_to_ascii_lowercase text) ≡ option_map lowered_found (verbatim_case s text)
verbatim-lowered s text =
    ap (option_and_then (λ rest. if is_empty rest then None else Some (found (verbatim (name s rest)) (4 + length (name s rest))))) (mark-lowered question question-lowered text)
    ∙ marked-lowered is_empty (λ rest. found (verbatim (name s rest)) (4 + length (name s rest))) empty-lowered
    (λ rest. ap₂ (λ n k. found (verbatim n) (4 + k)) (name-lowered s rest) (name_length-lowered s rest)) (after_mark question text)

device-lowered : (text : List ℕ) → device_case (str_to_ascii_lowercase text) ≡ option_map lowered_found (device_case text)
device-lowered text =
    ap (option_and_then (λ rest. if is_empty (name Either rest) then None else Some (found (device_ns (name Either rest)) (4 + length (name Either rest))))) (mark-lowered dot dot-lowered text)
    ∙ marked-lowered (λ rest. is_empty (name Either rest)) (λ rest. found (device_ns (name Either rest)) (4 + length (name Either rest))) (empty_name-lowered Either)
    (λ rest. ap₂ (λ n k. found (device_ns n) (4 + k)) (name-lowered Either rest) (name_length-lowered Either rest)) (after_mark dot text)

-- two names in lower case, with the mark of a kind before them
names-lowered : (kind : List ℕ → List ℕ → Prefix) (k : ℕ) (s : Separators) → ((a b : List ℕ) → lowered_prefix (kind a b) ≡ kind (str_to_ascii_lowercase a) (str_to_ascii_lowercase b)) → (rest : List ℕ)
    → found (kind (name s (str_to_ascii_lowercase rest)) (second_name s (str_to_ascii_lowercase rest))) (k + names_length s (str_to_ascii_lowercase rest))
    ≡ lowered_found (found (kind (name s rest) (second_name s rest)) (k + names_length s rest))
names-lowered kind k s is rest =
    ap₂ (λ a b. found (kind a b) (k + names_length s (str_to_ascii_lowercase rest))) (name-lowered s rest) (second-lowered s rest)
    ∙ ap₂ (λ p n. found p (k + n)) (sym (is (name s rest) (second_name s rest))) (names_length-lowered s rest)

unc-lowered : (text : List ℕ) → unc_case (str_to_ascii_lowercase text) ≡ option_map lowered_found (unc_case text)
unc-lowered text =
    ap (option_and_then (λ rest. if is_empty (name Either rest) then None else Some (found (unc (name Either rest) (second_name Either rest)) (2 + names_length Either rest)))) (two-lowered text)
    ∙ marked-lowered (λ rest. is_empty (name Either rest)) (λ rest. found (unc (name Either rest) (second_name Either rest)) (2 + names_length Either rest)) (empty_name-lowered Either)
    (names-lowered unc 2 Either (λ a b. refl)) (after_two text)

-- the first of two cases
or-lowered : (o p q r : Option Found) → o ≡ option_map lowered_found p → q ≡ option_map lowered_found r → option_or o q ≡ option_map lowered_found (option_or p r)
or-lowered o None q r first others = ap₂ option_or first others
or-lowered o (Some f) q r first others = ap (λ x. option_or x q) first

-- a text that is no verbatim share has the same prefix, in lower case
plain-lowered : (s : Separators) (text : List ℕ) → verbatim_unc_case s text ≡ None → prefix_by s (str_to_ascii_lowercase text) ≡ option_map lowered_found (prefix_by s text)
plain-lowered s text none =
    or-lowered _ (verbatim_unc_case s text) _ _ (verbatim_unc-lowered s text ∙ ap (option_map lowered_found) (sym none))
    (or-lowered _ (verbatim_disk_case text) _ _ (verbatim_disk-lowered text)
    (or-lowered _ (verbatim_case s text) _ _ (verbatim-lowered s text)
    (or-lowered _ (device_case text) _ _ (device-lowered text)
    (or-lowered _ (unc_case text) _ (disk_case text) (unc-lowered text) (disk-lowered text)))))

-- a text in lower case is read verbatim where the text is
is_backslash-lowered : (b : ℕ) → (92 == to_ascii_lowercase b) ≡ (92 == b)
is_backslash-lowered b = grind (arith, nat_tests)

is_question-lowered : (b : ℕ) → (63 == to_ascii_lowercase b) ≡ (63 == b)
is_question-lowered b = grind (arith, nat_tests)

begins_verbatim-lowered : (text : List ℕ) → begins_verbatim (str_to_ascii_lowercase text) ≡ begins_verbatim text
begins_verbatim-lowered [] = refl
begins_verbatim-lowered (a ∷ []) = grind (arith, is_backslash-lowered)
begins_verbatim-lowered (a ∷ b ∷ []) = grind (arith, is_backslash-lowered)
begins_verbatim-lowered (a ∷ b ∷ c ∷ []) = grind (arith, is_backslash-lowered, is_question-lowered)
begins_verbatim-lowered (a ∷ b ∷ c ∷ d ∷ text) = grind (arith, is_backslash-lowered, is_question-lowered)

-- A path.

-- the first bytes of a text in lower case are those of the text, in lower case
take-lowered : (n k : ℕ) (text : List ℕ) → take n (lowered_behind k text) ≡ lowered_behind k (take n text)
take-lowered zero zero text = refl
take-lowered zero (suc k) text = refl
take-lowered (suc n) zero text = take-map to_ascii_lowercase (suc n) text
take-lowered (suc n) (suc k) [] = refl
take-lowered (suc n) (suc k) (b ∷ bs) = ap (λ xs. b ∷ xs) (take-lowered n k bs)

-- what stands behind those that stay is in lower case
drop-lowered : (n k : ℕ) (text : List ℕ) → k ≤ n → drop n (lowered_behind k text) ≡ str_to_ascii_lowercase (drop n text)
drop-lowered n zero text h = drop-map to_ascii_lowercase n text
drop-lowered zero (suc k) text h = absurd (omega arith)
drop-lowered (suc n) (suc k) [] h = refl
drop-lowered (suc n) (suc k) (b ∷ bs) h = drop-lowered n k bs (omega arith)

-- so do marks
module _ (p q r t : ℕ → Bool) where
  four-kept : (k : ℕ) (text : List ℕ) → after_four p q r t (lowered_behind (suc (suc (suc (suc k)))) text) ≡ option_map (lowered_behind k) (after_four p q r t text)
  four-kept k (a ∷ b ∷ c ∷ d ∷ text) = by (p a && q b && r c && t d)
    where
      by : (pass : Bool) → (if pass then Some (lowered_behind k text) else None) ≡ option_map (lowered_behind k) (if pass then Some text else None)
      by true = refl
      by false = refl
  four-kept k [] = refl
  four-kept k (a ∷ []) = refl
  four-kept k (a ∷ b ∷ []) = refl
  four-kept k (a ∷ b ∷ c ∷ []) = refl

share-kept : (s : Separators) (text : List ℕ) → option_and_then (after_unc s) (after_mark question (lowered_behind 8 text)) ≡ option_map str_to_ascii_lowercase (option_and_then (after_unc s) (after_mark question text))
share-kept s text =
    ap (option_and_then (after_unc s)) (four-kept (is_separator Either) (is_separator Either) (λ b. b == question) (is_separator Either) 4 text) ∙ by (after_mark question text)
  where
    by : (o : Option (List ℕ)) → option_and_then (after_unc s) (option_map (lowered_behind 4) o) ≡ option_map str_to_ascii_lowercase (option_and_then (after_unc s) o)
    by None = refl
    by (Some rest) = four-kept (λ b. b == 85) (λ b. b == 78) (λ b. b == 67) (is_separator s) 0 rest

verbatim_unc-kept : (s : Separators) (text : List ℕ) → verbatim_unc_case s (lowered_behind 8 text) ≡ option_map lowered_found (verbatim_unc_case s text)
verbatim_unc-kept s text =
    ap (option_and_then (λ rest. if is_empty (name s rest) then None else Some (found (verbatim_unc (name s rest) (second_name s rest)) (8 + names_length s rest)))) (share-kept s text)
    ∙ marked-lowered (λ rest. is_empty (name s rest)) (λ rest. found (verbatim_unc (name s rest) (second_name s rest)) (8 + names_length s rest)) (empty_name-lowered s)
    (names-lowered verbatim_unc 8 s (λ a b. refl)) (option_and_then (after_unc s) (after_mark question text))

four-first : (text : List ℕ) → take 4 (lowered_behind 8 text) ≡ take 4 text
four-first [] = refl
four-first (a ∷ []) = refl
four-first (a ∷ b ∷ []) = refl
four-first (a ∷ b ∷ c ∷ []) = refl
four-first (a ∷ b ∷ c ∷ d ∷ text) = refl

-- a verbatim share is marked, and no other prefix is
pub marked-share : (s : Separators) (text : List ℕ) (f : Found) → verbatim_unc_case s text ≡ Some f → (mark_length f.prefix ≡ 8) × (8 ≤ f.length)
marked-share s text f is =
    let outer = and_then-some _ (option_and_then (after_unc s) (after_mark question text)) f is in
    let made = unless-some (is_empty (name s outer.0)) _ f outer.2 in
    (ap (λ g. mark_length g.prefix) (sym made.1), omega (arith, ap (λ g. g.length) made.1))

unmarked-names : (test : List ℕ → Bool) (make : List ℕ → Found) → ((rest : List ℕ) → mark_length (make rest).prefix ≡ 0) → (o : Option (List ℕ)) → mark_before (option_and_then (λ rest. if test rest then None else Some (make rest)) o) ≡ 0
unmarked-names test make none None = refl
unmarked-names test make none (Some rest) = by (test rest)
  where
    by : (b : Bool) → mark_before (if b then None else Some (make rest)) ≡ 0
    by true = refl
    by false = none rest

unmarked-drive : (make : ℕ → Found) → ((letter : ℕ) → mark_length (make letter).prefix ≡ 0) → (o : Option ℕ) → mark_before (option_and_then (λ letter. Some (make letter)) o) ≡ 0
unmarked-drive make none None = refl
unmarked-drive make none (Some letter) = none letter

unmarked-or : (o p : Option Found) → mark_before o ≡ 0 → mark_before p ≡ 0 → mark_before (option_or o p) ≡ 0
unmarked-or None p first others = others
unmarked-or (Some f) p first others = first

pub unmarked-plain : (s : Separators) (text : List ℕ) → verbatim_unc_case s text ≡ None → mark_before (prefix_by s text) ≡ 0
unmarked-plain s text none =
    unmarked-or (verbatim_unc_case s text) _ (ap mark_before none)
    (unmarked-or (verbatim_disk_case text) _ (unmarked-drive (λ letter. found (verbatim_disk letter) 6) (λ letter. refl) (option_and_then drive (after_mark question text)))
    (unmarked-or (verbatim_case s text) _ (unmarked-names is_empty (λ rest. found (verbatim (name s rest)) (4 + length (name s rest))) (λ rest. refl) (after_mark question text))
    (unmarked-or (device_case text) _ (unmarked-names (λ rest. is_empty (name Either rest)) (λ rest. found (device_ns (name Either rest)) (4 + length (name Either rest))) (λ rest. refl) (after_mark dot text))
    (unmarked-or (unc_case text) (disk_case text) (unmarked-names (λ rest. is_empty (name Either rest)) (λ rest. found (unc (name Either rest) (second_name Either rest)) (2 + names_length Either rest)) (λ rest. refl) (after_two text))
    (unmarked-drive (λ letter. found (disk letter) 2) (λ letter. refl) (drive text))))))

-- how a path in lower case begins
pub record LoweredPrefix (text : List ℕ) : Type 0 where
  pub separators_stay : separators windows (lowered windows text) ≡ separators windows text
  pub prefix : prefix_of windows (lowered windows text) ≡ option_map lowered_found (prefix_of windows text)
  pub marked : (f : Found) → prefix_of windows text ≡ Some f → mark_length f.prefix ≤ f.length

pub share-first : (s : Separators) (text : List ℕ) (f : Found) → verbatim_unc_case s text ≡ Some f → prefix_by s text ≡ Some f
share-first s text f is =
    first-some (verbatim_unc_case s text) (option_or (verbatim_disk_case text) (option_or (verbatim_case s text) (option_or (device_case text) (option_or (unc_case text) (disk_case text))))) f is

prefix_with : (text : List ℕ) (o : Option Found) → verbatim_unc_case (separators windows text) text ≡ o → LoweredPrefix text
prefix_with text None none =
    let s = separators windows text in
    let unmarked = unmarked-plain s text none in
    let whole : lowered windows text ≡ str_to_ascii_lowercase text = ap (λ n. lowered_behind n text) unmarked in
    let same : separators windows (lowered windows text) ≡ s = ap (separators windows) whole ∙ ap (λ b. if b then Backslash else Either) (begins_verbatim-lowered text) in
    record {
      separators_stay = same;
      prefix = ap (λ t. prefix_by t (lowered windows text)) same ∙ ap (prefix_by s) whole ∙ plain-lowered s text none;
      marked = λ f is. omega (arith, sym (ap mark_before is) ∙ unmarked);
    }
prefix_with text (Some f) some =
    let s = separators windows text in
    let is : prefix_of windows text ≡ Some f = share-first s text f some in
    let share = marked-share s text f some in
    let whole : lowered windows text ≡ lowered_behind 8 text = ap (λ n. lowered_behind n text) (ap mark_before is ∙ share.0) in
    let same : separators windows (lowered windows text) ≡ s =
    ap (separators windows) whole ∙ ap (λ four. if pointwise nat_eq (backslash ∷ backslash ∷ question ∷ backslash ∷ []) four then Backslash else Either) (four-first text) in
    record {
      separators_stay = same;
      prefix = ap (λ t. prefix_by t (lowered windows text)) same ∙ ap (prefix_by s) whole ∙ share-first s (lowered_behind 8 text) (lowered_found f) (verbatim_unc-kept s text ∙ ap (option_map lowered_found) some) ∙ ap (option_map lowered_found) (sym is);
      marked = λ g again. omega (arith, ap (λ h. mark_length h.prefix) (some_is (sym is ∙ again)), share.0, share.1, ap (λ h. h.length) (some_is (sym is ∙ again)));
    }

pub prefix-lowered : (text : List ℕ) → LoweredPrefix text
prefix-lowered text = prefix_with text (verbatim_unc_case (separators windows text) text) refl

-- the components of a path in lower case are those of the path, each in lower case at its place
pub comps_lowered : (d : Dialect) (text : List ℕ) → comps d (lowered d text) ≡ map lowered_placed (comps d text)
comps_lowered unix text = body_lowered Slash 0 text
comps_lowered windows text = ap₂ (λ s o. comps_behind s (lowered windows text) o) own.separators_stay own.prefix ∙ by (prefix_of windows text) refl
  where
    own : LoweredPrefix text
    own = prefix-lowered text

    by : (o : Option Found) → prefix_of windows text ≡ o
        → comps_behind (separators windows text) (lowered_behind (mark_before (prefix_of windows text)) text) (option_map lowered_found o) ≡ map lowered_placed (comps_behind (separators windows text) text o)
    by None e = ap (λ n. body (separators windows text) 0 (lowered_behind n text)) (ap mark_before e) ∙ body_lowered (separators windows text) 0 text
    by (Some f) e =
        let n = mark_length f.prefix in
        ap (λ k. comps_behind (separators windows text) (lowered_behind k text) (Some (lowered_found f))) (ap mark_before e)
        ∙ ap₂ (λ raw rest. component (prefix_part (lowered_prefix f.prefix) raw) 0 ++ body (separators windows text) f.length rest) (take-lowered f.length n text) (drop-lowered f.length n text (own.marked f e))
        ∙ ap (λ cs. component (prefix_part (lowered_prefix f.prefix) (lowered_behind n (take f.length text))) 0 ++ cs) (body_lowered (separators windows text) f.length (drop f.length text))
