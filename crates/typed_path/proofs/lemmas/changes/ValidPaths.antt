-- Paths of Windows of which looks at their bytes tell what they are refused for: the search for devices and for two dots, and what it tells of the components.
use Rattle.std.proofs.Common.{◌≡◌, ℕ, zero, suc, ◌+◌, ◌-◌, ◌≤◌, ◌<◌, Bool, true, false, if◌then◌else◌, cond, not, ◌&&◌, ◌||◌, ◌==◌, List, [], ◌∷◌, ◌++◌, length, drop, get_or, refl, sym, ap, ◌∙◌, arith, Option, Some, None, true≢false, ◌⊎◌, inl, inr, append-nil}
use Rattle.std.proofs.lemmas.Grind.{common_steps}
use Rattle.std.specs.List.{list_any, list_all, before_first, onto_first}
use Rattle.std.specs.Option.{option_or}
use Rattle.std.specs.Char.{to_ascii_lowercase}
use Rattle.std.proofs.lemmas.Bool.{and_parts, or_parts, false_from_ne_true, not-true}
use Rattle.std.proofs.lemmas.List.{drop_more, drop_all}
use Rattle.typed_path.specs.declared.errors.CheckedPathError.{CheckedPathError}
use Rattle.typed_path.specs.declared.errors.CheckedPathError.TheVariants.{InvalidFilename}
use Rattle.typed_path.specs.declared.scan.cursor.Begin.TheVariants.{Body}
use Rattle.typed_path.specs.declared.scan.separators.Separators.TheVariants.{Either}
use Rattle.typed_path.specs.components.{windows, dot, slash, backslash, is_separator, is_dot, is_dot_dot, Kind, prefix, root, current, parent, normal, kinds, parts, body, later_body, parent_part, name_part, parts_of, prefix_of}
use Rattle.std.specs.Slice.Scan.{HoldsNowhere}
use Rattle.typed_path.specs.scan.{stands_at, IsFirstOf}
use Rattle.typed_path.specs.queries.{is_reserved, is_valid, is_valid_name}
use Rattle.typed_path.specs.changes.{is_in, fault, fault_behind, offence, is_bare_device, is_numbered_device, is_device, is_stray, begins_like_device, may_end_stem, begins_with_device, has_device_behind, has_device, dot_pair_at, has_dot_pair, is_forbidden_or, has_stray_of, stray_of_at, begins_with_separator, has_second_colon, begins_with_nul_or_dot_pair, has_no_nul_or_dot_pair}
use Rattle.typed_path.proofs.lemmas.components.Segments.{pieces, first_parts, later_parts, body_parts, parts-body, body_from-append, body_from-separator, segment-byte}
use Rattle.typed_path.proofs.lemmas.queries.ValidNames.{reserved-device, one_of_two, valid-found}
use Rattle.typed_path.proofs.lemmas.components.PrefixCuts.{parts_of-none}
use Rattle.typed_path.proofs.lemmas.scan.Searches.{any-told}
use Rattle.typed_path.proofs.lemmas.order.Comparisons.{kinds-append}
use Rattle.typed_path.proofs.lemmas.scan.Blanks.{split}
use Rattle.typed_path.proofs.lemmas.lists.Lists.{all-at}

-- ---- what devices begin with

-- a letter passes a test that it passes as a small one and as a capital
letter : (p : ℕ → Bool) (k b : ℕ) → (to_ascii_lowercase b == k) ≡ true → p k ≡ true → p (k - 32) ≡ true → p b ≡ true
letter p k b e small capital = grind arith

-- the letters with which devices begin, and those that stand second, each small and as a capital
abbrev pub first_letters : List ℕ
first_letters = 97 ∷ 65 ∷ 99 ∷ 67 ∷ 108 ∷ 76 ∷ 110 ∷ 78 ∷ 112 ∷ 80 ∷ []

abbrev pub second_letters : List ℕ
second_letters = 111 ∷ 79 ∷ 112 ∷ 80 ∷ 114 ∷ 82 ∷ 117 ∷ 85 ∷ []

-- the first two bytes of a device pass each two tests that these letters pass, and that 0 does not
module _ (p q : ℕ → Bool) (ps : list_all p first_letters ≡ true) (qs : list_all q second_letters ≡ true) (p0 : p 0 ≡ false) (q0 : q 0 ≡ false) where
  f : (i : ℕ) → i < 10 → p (get_or first_letters i 0) ≡ true
  f = all-at p first_letters ps

  letters_in : (k l a b : ℕ) (third : Bool) → p k ≡ true → p (k - 32) ≡ true → q l ≡ true → q (l - 32) ≡ true
      → ((to_ascii_lowercase a == k && to_ascii_lowercase b == l) && third) ≡ true → (p a && q b) ≡ true
  letters_in k l a b third small capital other_small other_capital e = grind arith

  bare_in : (a b c : ℕ) → is_bare_device (to_ascii_lowercase a) (to_ascii_lowercase b) c ≡ true → (p a && q b) ≡ true
  bare_in a b c e = grind (arith, one_of_two, letters_in)

  numbered_in : (a b c d : ℕ) → is_numbered_device (to_ascii_lowercase a) (to_ascii_lowercase b) c d ≡ true → (p a && q b) ≡ true
  numbered_in a b c d e = grind (arith, one_of_two, letters_in)

  device : (text : List ℕ) → is_device text ≡ true → (p (get_or text 0 0) && q (get_or text 1 0)) ≡ true
  device text h = grind (arith, bare_in, numbered_in)

  -- so do those of a text that such a segment stands in front of
  front : (text : List ℕ) → (p (get_or (before_first (is_separator Either) text) 0 0) && q (get_or (before_first (is_separator Either) text) 1 0)) ≡ true
      → (p (get_or text 0 0) && q (get_or text 1 0)) ≡ true
  front [] e = e
  front (a ∷ []) e = grind (arith, common_steps, segment-byte, and_parts)
  front (a ∷ b ∷ rest) e = grind (arith, common_steps, segment-byte, and_parts)

  pub device-front : (text : List ℕ) → is_device (before_first (is_separator Either) text) ≡ true → (p (get_or text 0 0) && q (get_or text 1 0)) ≡ true
  device-front text h = front text (device (before_first (is_separator Either) text) h)

-- a text that a device stands in front of begins as one
front-like : (text : List ℕ) → begins_with_device text ≡ true → begins_like_device text ≡ true
front-like text e = held text (device-front (is_in 86026) (is_in 2457600) refl refl refl refl text (reserved-device (before_first (is_separator Either) text) e))
  where
    held : (t : List ℕ) → (is_in 86026 (get_or t 0 0) && is_in 2457600 (get_or t 1 0)) ≡ true → begins_like_device t ≡ true
    held t h = grind (arith, and_parts)

-- a device of five bytes or more has a dot behind three bytes or four
long-stem : (a b c d e : ℕ) (more : List ℕ) → is_device (a ∷ b ∷ c ∷ d ∷ e ∷ more) ≡ true → ((d == dot) || (e == dot)) ≡ true
long-stem a b c d e more h = grind arith

-- so its stem may end where the first segment of a text is one
pub stem-ends : (text : List ℕ) → begins_with_device text ≡ true → may_end_stem text ≡ true
stem-ends [] h = refl
stem-ends (a ∷ []) h = refl
stem-ends (a ∷ b ∷ []) h = refl
stem-ends (a ∷ b ∷ c ∷ []) h = refl
stem-ends (a ∷ b ∷ c ∷ d ∷ []) h = refl
stem-ends (a ∷ b ∷ c ∷ d ∷ e ∷ rest) h =
    by (is_separator Either a) (is_separator Either b) (is_separator Either c) (is_separator Either d) (is_separator Either e) (before_first (is_separator Either) rest)
    (sym (ap is_device stem) ∙ reserved-device (before_first (is_separator Either) (a ∷ b ∷ c ∷ d ∷ e ∷ rest)) h)
  where
    stem : before_first (is_separator Either) (a ∷ b ∷ c ∷ d ∷ e ∷ rest)
        ≡ cond (is_separator Either a) [] (a ∷ cond (is_separator Either b) [] (b ∷ cond (is_separator Either c) [] (c ∷ cond (is_separator Either d) [] (d ∷ cond (is_separator Either e) [] (e ∷ before_first (is_separator Either) rest)))))
    stem =
        segment-byte Either a (b ∷ c ∷ d ∷ e ∷ rest)
        ∙ ap (λ t. cond (is_separator Either a) [] (a ∷ t)) (segment-byte Either b (c ∷ d ∷ e ∷ rest)
        ∙ ap (λ t. cond (is_separator Either b) [] (b ∷ t)) (segment-byte Either c (d ∷ e ∷ rest)
        ∙ ap (λ t. cond (is_separator Either c) [] (c ∷ t)) (segment-byte Either d (e ∷ rest)
        ∙ ap (λ t. cond (is_separator Either d) [] (d ∷ t)) (segment-byte Either e rest))))

    third : (x y : Bool) → ((x || true) || y) ≡ true
    third x y = grind arith

    whole : (x y s t : Bool) → (x || y) ≡ true → ((x || s) || (y || t)) ≡ true
    whole x y s t i = grind arith

    -- what is told of it, by which of its bytes separate
    by : (p q r s t : Bool) (more : List ℕ)
        → is_device (cond p [] (a ∷ cond q [] (b ∷ cond r [] (c ∷ cond s [] (d ∷ cond t [] (e ∷ more)))))) ≡ true
        → ((d == dot || s) || (e == dot || t)) ≡ true
    by true q r s t more i = cc
    by false true r s t more i = cc
    by false false true s t more i = cc
    by false false false true t more i = third (d == dot) (e == dot || t)
    by false false false false true more i = ended (d == dot) (e == dot)
      where
        ended : (x y : Bool) → ((x || false) || (y || true)) ≡ true
        ended x y = grind arith
    by false false false false false more i = whole (d == dot) (e == dot) false false (long-stem a b c d e more i)

-- a text whose first stem is longer has no device in front
pub unended-none : (text : List ℕ) → may_end_stem text ≡ false → begins_with_device text ≡ false
unended-none text unended = false_from_ne_true _ (λ is. true≢false (sym (stem-ends text is) ∙ unended))

-- nor has one that begins otherwise
pub unlike-none : (text : List ℕ) → begins_like_device text ≡ false → begins_with_device text ≡ false
unlike-none text unlike = false_from_ne_true _ (λ is. true≢false (sym (front-like text is) ∙ unlike))

-- ---- the search for them

-- what stands behind bytes that do not separate, tells
free-front : (n at : ℕ) (text : List ℕ) → at + n ≤ length text → ((k : ℕ) → at ≤ k → k < at + n → stands_at (slash, backslash) text k ≡ false)
    → has_device_behind (drop at text) ≡ has_device_behind (drop (at + n) text)
free-front zero at text within free = let here : at ≡ at + zero = omega arith in ap (λ k. has_device_behind (drop k text)) here
free-front (suc n) at text within free =
    let on : at + 1 + n ≡ at + suc n = omega arith in
    ap has_device_behind (drop_more text at 0 (omega arith))
    ∙ ap (λ s. (s && begins_with_device (drop (at + 1) text)) || has_device_behind (drop (at + 1) text)) (free at (omega arith) (omega arith))
    ∙ free-front n (at + 1) text (omega arith) (λ k low high. free k (omega arith) (omega arith))
    ∙ ap (λ k. has_device_behind (drop k text)) on

-- nothing stands behind the end
pub behind-end : (text : List ℕ) (at : ℕ) → length text ≤ at → has_device_behind (drop at text) ≡ false
behind-end text at past = ap has_device_behind (drop_all at text past)

-- a range without a separator tells nothing
pub behind-range : (text : List ℕ) (at to : ℕ) → at ≤ to → to ≤ length text → HoldsNowhere (stands_at (slash, backslash) text) at to → has_device_behind (drop at text) ≡ has_device_behind (drop to text)
behind-range text at to ordered within none =
    let there : at + (to - at) ≡ to = omega (arith, ordered) in
    free-front (to - at) at text (omega (arith, ordered, within)) (λ k low high. none k low (omega (arith, ordered, high)))
    ∙ ap (λ k. has_device_behind (drop k text)) there

module _ (text : List ℕ) (at to found : ℕ) (within : to ≤ length text) (first : IsFirstOf (slash, backslash) text at to found) where
  -- what stands before the first separator tells nothing
  pub behind-from : has_device_behind (drop at text) ≡ has_device_behind (drop found text)
  behind-from = behind-range text at found first.low (omega (arith, within, first.high)) first.before

  -- a separator tells of the segment behind it, and then of those behind that
  pub behind-separator : found < to → has_device_behind (drop at text)
      ≡ (begins_with_device (drop (found + 1) text) || has_device_behind (drop (found + 1) text))
  behind-separator short = grind (arith, behind-from, drop_more)

-- ---- what the search tells of the pieces

-- the search behind separators, and at the front, tells of all pieces
pub any-pieces : (text : List ℕ) → list_any (is_reserved windows) (pieces Either text) ≡ has_device text
any-pieces text = let s = split Either (is_reserved windows) has_device_behind refl (λ b bs. refl) text in ap (list_any (is_reserved windows)) s.cut ∙ ap (λ b. begins_with_device text || b) s.told

-- ---- texts without two dots side by side

-- where NUL and two dots are looked for, and neither is there, no two dots are
pub unpaired-dots : (text : List ℕ) → has_no_nul_or_dot_pair text ≡ true → has_dot_pair text ≡ false
unpaired-dots [] e = refl
unpaired-dots (a ∷ []) e = refl
unpaired-dots (a ∷ b ∷ bytes) e =
    let told = and_parts (not (begins_with_nul_or_dot_pair (a ∷ b ∷ bytes))) (has_no_nul_or_dot_pair (b ∷ bytes)) e in
    let front = or_parts (a == 0) (a == dot && b == dot) (not-true _ told.0) in
    ap (λ p. p || has_dot_pair (b ∷ bytes)) front.1 ∙ unpaired-dots (b ∷ bytes) told.1

-- nor where no place of a text holds them
pub nowhere-dots : (text : List ℕ) → HoldsNowhere (dot_pair_at text) 0 (length text - 1) → has_dot_pair text ≡ false
nowhere-dots [] none = refl
nowhere-dots (a ∷ []) none = refl
nowhere-dots (a ∷ b ∷ bytes) none =
    ap (λ p. p || has_dot_pair (b ∷ bytes)) (none 0 (omega arith) (omega arith))
    ∙ nowhere-dots (b ∷ bytes) (λ k low high.
    let next : suc (k + 1) ≡ suc k + 1 = omega arith in
    ap (λ n. get_or (b ∷ bytes) k 0 == dot && get_or (a ∷ b ∷ bytes) n 0 == dot) next ∙ none (suc k) (omega arith) (omega (arith, high)))

-- bytes that are looked for and stand nowhere are not in a text
pub nowhere-strays : (strays : Option (ℕ × ℕ)) (text : List ℕ) → HoldsNowhere (stray_of_at strays text) 0 (length text) → has_stray_of strays text ≡ false
nowhere-strays None text none = refl
nowhere-strays (Some pair) text none = sym (any-told (is_forbidden_or pair) text 0 (length text) false none (λ k below. absurd (omega (arith, below))) refl)

-- a byte put before the first of many pieces, the text of which begins with a byte
put_onto : (x y : ℕ) (separates : Bool) (ps : List (List ℕ)) → (x == dot && y == dot) ≡ false
    → list_any is_dot_dot (cond separates ([] ∷ ps) (onto_first y ps)) ≡ false → list_any is_dot_dot (onto_first x (cond separates ([] ∷ ps) (onto_first y ps))) ≡ false
put_onto x y separates ps apart h = grind arith

-- no piece of a text without two dots side by side is `..`
pub unpaired-pieces : (text : List ℕ) → has_dot_pair text ≡ false → list_any is_dot_dot (pieces Either text) ≡ false
unpaired-pieces [] e = refl
unpaired-pieces (x ∷ []) e = by (is_separator Either x)
  where
    by : (separates : Bool) → list_any is_dot_dot (cond separates ([] ∷ [] ∷ []) ((x ∷ []) ∷ [])) ≡ false
    by separates = grind arith
unpaired-pieces (x ∷ y ∷ ys) e =
    let told = or_parts (x == dot && y == dot) (has_dot_pair (y ∷ ys)) e in
    by (is_separator Either x) (unpaired-pieces (y ∷ ys) told.1) (put_onto x y (is_separator Either y) (pieces Either ys) told.0 (unpaired-pieces (y ∷ ys) told.1))
  where
    by : (separates : Bool) → list_any is_dot_dot (pieces Either (y ∷ ys)) ≡ false → list_any is_dot_dot (onto_first x (pieces Either (y ∷ ys))) ≡ false
        → list_any is_dot_dot (cond separates ([] ∷ pieces Either (y ∷ ys)) (onto_first x (pieces Either (y ∷ ys)))) ≡ false
    by separates later whole = grind arith

-- ---- what the pieces tell of the components

-- a `.` or a name
abbrev is_plain : Kind → Bool
is_plain current = true
is_plain (normal name) = true
is_plain k = false

-- valid names and `.` are not refused
none_refused : (before ks : List Kind) → is_valid windows ks ≡ true → list_all is_plain ks ≡ true → fault_behind windows before ks ≡ None
none_refused before [] valid plain = refl
none_refused before (current ∷ ks) valid plain = none_refused (before ++ current ∷ []) ks valid plain
none_refused before (normal name ∷ ks) valid plain =
    let own = and_parts (is_valid_name windows name) (is_valid windows ks) valid in
    ap (λ b. option_or (if b then None else Some InvalidFilename) (fault_behind windows (before ++ normal name ∷ []) ks)) own.0
    ∙ none_refused (before ++ normal name ∷ []) ks own.1 plain
none_refused before (prefix p ∷ ks) valid plain = cc
none_refused before (root ∷ ks) valid plain = cc
none_refused before (parent ∷ ks) valid plain = cc

-- a name that is not valid is what such a list is refused for
name_refused : (before ks : List Kind) → is_valid windows ks ≡ false → list_all is_plain ks ≡ true → fault_behind windows before ks ≡ Some InvalidFilename
name_refused before [] valid plain = cc
name_refused before (current ∷ ks) valid plain = name_refused (before ++ current ∷ []) ks valid plain
name_refused before (normal name ∷ ks) valid plain = by (is_valid_name windows name) valid (λ v. name_refused (before ++ normal name ∷ []) ks v plain)
  where
    by : (own : Bool) → (own && is_valid windows ks) ≡ false → (is_valid windows ks ≡ false → fault_behind windows (before ++ normal name ∷ []) ks ≡ Some InvalidFilename) → option_or (if own then None else Some InvalidFilename) (fault_behind windows (before ++ normal name ∷ []) ks) ≡ Some InvalidFilename
    by own v later = grind arith
name_refused before (prefix p ∷ ks) valid plain = cc
name_refused before (root ∷ ks) valid plain = cc
name_refused before (parent ∷ ks) valid plain = cc

-- later pieces that are no `..` give names
later_plain : (ps : List (List ℕ)) → list_any is_dot_dot ps ≡ false → list_all is_plain (kinds (later_parts Either ps)) ≡ true
later_plain [] e = refl
later_plain (p ∷ ps) e =
    let all = or_parts (is_dot_dot p) (list_any is_dot_dot ps) e in
    by (length p == 0) (is_dot p) (is_dot_dot p) all.0 (later_plain ps all.1)
  where
    by : (empty dotted twice : Bool) → twice ≡ false → list_all is_plain (kinds (later_parts Either ps)) ≡ true
        → list_all is_plain (kinds ((if empty then [] else (if dotted then [] else (if twice then parent_part else name_part p) ∷ [])) ++ later_parts Either ps)) ≡ true
    by empty dotted twice t rest = grind arith

-- so does the first one, where it is not empty
first_plain : (x : ℕ) (p : List ℕ) (ps : List (List ℕ)) → list_any is_dot_dot ((x ∷ p) ∷ ps) ≡ false → list_all is_plain (kinds (first_parts Either ((x ∷ p) ∷ ps))) ≡ true
first_plain x p ps e = grind (arith, later_plain, later_parts)

-- a text that does not begin with a separator gives names and `.` alone
body_plain : (text : List ℕ) → begins_with_separator text ≡ false → list_any is_dot_dot (pieces Either text) ≡ false → list_all is_plain (kinds (body_parts Either text)) ≡ true
body_plain text apart h = grind (arith, segment-byte, first_parts, first_plain)

-- ---- no prefix

-- so no prefix is read
no_prefix : (text : List ℕ) → begins_with_separator text ≡ false → has_second_colon text ≡ false → prefix_of windows text ≡ None
no_prefix text apart free = grind arith

-- a path without a prefix or a root, with no two dots side by side, is refused for a name where a byte strays or a segment is a device, and else not
module _ (path : List ℕ) (apart : begins_with_separator path ≡ false) (free : has_second_colon path ≡ false) (unpaired : has_dot_pair path ≡ false) where
  read : parts_of windows path ≡ body_parts Either path
  read = parts_of-none path (no_prefix path apart free)

  plain : list_all is_plain (kinds (body_parts Either path)) ≡ true
  plain = body_plain path apart (unpaired-pieces path unpaired)

  valid : is_valid windows (kinds (body_parts Either path)) ≡ (not (list_any (is_stray Either) path) && not (has_device path))
  valid =
      ap (λ ps. is_valid windows (kinds ps)) (sym (parts-body Either 0 path))
      ∙ valid-found Either 0 path _ _ refl refl
      ∙ ap (λ b. not (list_any (is_stray Either) path) && not b) (any-pieces path)

  pub looked-valid : list_any (is_stray Either) path ≡ false → has_device path ≡ false → fault windows path ≡ None
  looked-valid allowed h = grind (arith, read, none_refused, body_parts, valid, plain)

  pub looked-refused : (list_any (is_stray Either) path || has_device path) ≡ true → fault windows path ≡ Some InvalidFilename
  looked-refused told = grind (arith, read, name_refused, body_parts, valid, plain)

-- what a list is refused for is what it is refused for where more follows
fault-front : (before ks ls : List Kind) (e : CheckedPathError) → fault_behind windows before ks ≡ Some e → fault_behind windows before (ks ++ ls) ≡ Some e
fault-front before [] ls e is = cc
fault-front before (k ∷ ks) ls e is = by (offence windows before k) is (fault-front (before ++ k ∷ []) ks ls e)
  where
    by : (o : Option CheckedPathError) → option_or o (fault_behind windows (before ++ k ∷ []) ks) ≡ Some e → (fault_behind windows (before ++ k ∷ []) ks ≡ Some e → fault_behind windows (before ++ k ∷ []) (ks ++ ls) ≡ Some e)
        → option_or o (fault_behind windows (before ++ k ∷ []) (ks ++ ls)) ≡ Some e
    by o h later = grind (arith, f)

-- so a path without a prefix is refused for what the segments in front of it are
pub front-refused : (front rest : List ℕ) (e : CheckedPathError) → (rest ≡ []) ⊎ (begins_with_separator rest ≡ true) → begins_with_separator (front ++ rest) ≡ false → has_second_colon (front ++ rest) ≡ false
    → fault windows front ≡ Some e → fault windows (front ++ rest) ≡ Some e
front-refused front rest e (inl none) apart free is = ap (λ r. fault windows (front ++ r)) none ∙ ap (fault windows) (append-nil front) ∙ is
front-refused [] rest e (inr ended) apart free is = absurd (true≢false (sym ended ∙ apart))
front-refused (a ∷ front) [] e (inr ended) apart free is = cc
front-refused (a ∷ front) (x ∷ rest) e (inr ended) apart free is =
    let own = parts_of-none (a ∷ front) (no_prefix (a ∷ front) apart (shorter front free)) in
    let whole = parts_of-none (a ∷ front ++ x ∷ rest) (no_prefix (a ∷ front ++ x ∷ rest) apart free) in
    ap (λ ps. fault_behind windows [] (kinds ps)) (whole ∙ sym (parts-body Either 0 (a ∷ front ++ x ∷ rest)) ∙ ap parts split)
    ∙ ap (fault_behind windows []) (kinds-append (body Either 0 (a ∷ front)) (later_body Either (0 + length (a ∷ front) + 1) rest))
    ∙ fault-front [] (kinds (parts (body Either 0 (a ∷ front)))) _ e (ap (λ ps. fault_behind windows [] (kinds ps)) (parts-body Either 0 (a ∷ front) ∙ sym own) ∙ is)
  where
    shorter : (f : List ℕ) → has_second_colon (a ∷ f ++ x ∷ rest) ≡ false → has_second_colon (a ∷ f) ≡ false
    shorter h1 h = grind (arith, f)

    split : body Either 0 (a ∷ front ++ x ∷ rest) ≡ body Either 0 (a ∷ front) ++ later_body Either (0 + length (a ∷ front) + 1) rest
    split = body_from-append Either 0 x ended Body (a ∷ front) rest ∙ ap (λ cs. cs ++ later_body Either (0 + length (a ∷ front) + 1) rest) (body_from-separator Either 0 x ended Body a front)
