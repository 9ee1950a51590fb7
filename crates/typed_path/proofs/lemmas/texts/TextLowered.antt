-- A text in lower case is a text.
use Rattle.std.proofs.Common.{◌≡◌, ℕ, zero, suc, ◌<◌, ◌≤◌, ◌==◌, ◌&&◌, true, List, [], ◌∷◌, length, take, arith, refl, sym, ap, ap₂, ◌∙◌, subst, eqb-true, get_or, inl, inr, append-nil, Option, Some, None, option_and_then}
use Rattle.std.specs.Char.{to_ascii_lowercase}
use Rattle.std.specs.List.{AllByRecursion}
use Rattle.std.specs.Str.{IsUtf8, is_utf8, str_to_ascii_lowercase}
use Rattle.std.proofs.lemmas.Bool.{and_parts, cases_lt}
use Rattle.std.proofs.lemmas.Str.{IsUtf8-append, IsUtf8-from_is_utf8, is_utf8-from_IsUtf8}
use Rattle.std.proofs.lemmas.List.{map-append}
use Rattle.std.proofs.lemmas.Str.{IsUtf8-encode, IsUtf8-nil, inside_one}
use Rattle.std.proofs.lemmas.Str.Ascii.{encode_ascii, lowercase_ascii, lowercase_is}
use lib.Utf8.{scalar, scalars, encode, encodes}
use Rattle.typed_path.specs.declared.scan.separators.Separators.{Separators}
use Rattle.typed_path.specs.declared.scan.separators.Separators.TheVariants.{Either}
use Rattle.typed_path.specs.components.{Dialect, unix, windows, Found, after_mark, after_unc, is_separator, question, separators, verbatim_unc_case}
use Rattle.typed_path.specs.order.{lowered, lowered_behind, mark_before}
use Rattle.typed_path.proofs.lemmas.components.Prefixes.{after_mark-size, after_unc-size}
use Rattle.typed_path.proofs.lemmas.lists.Options.{and_then-some, where-some}
use Rattle.typed_path.proofs.lemmas.order.Lowered.{share-first, unmarked-plain, marked-share}
use Rattle.typed_path.proofs.lemmas.texts.TextCuts.{byte-utf8, separator-ascii, utf8-around}

-- bytes that are no ASCII stay as they are
high-stays : (bs : List ℕ) → ((k : ℕ) → k < length bs → 128 ≤ get_or bs k 0) → str_to_ascii_lowercase bs ≡ bs
high-stays [] high = refl
high-stays (b ∷ bs) high = ap₂ ◌∷◌ ((lowercase_is b).2 (omega (arith, high 0 (omega arith)))) (high-stays bs (λ k l. high (suc k) (omega arith)))

-- a character in lower case is one
letter-utf8 : (c : ℕ) → scalar c ≡ true → IsUtf8 (str_to_ascii_lowercase (encode c))
letter-utf8 c is = elim (cases_lt c 128) [
  | inl low ↦ subst (λ bs. IsUtf8 (str_to_ascii_lowercase bs)) (sym (encode_ascii c low)) (byte-utf8 (to_ascii_lowercase c) (lowercase_ascii c low))
  | inr high ↦ subst IsUtf8 (sym (high-stays (encode c) (each high))) (IsUtf8-encode c is)
]
  where
    each : 128 ≤ c → (k : ℕ) → k < length (encode c) → 128 ≤ get_or (encode c) k 0
    each high k l = elim (cases_lt (get_or (encode c) k 0) 128) [
      | inl small ↦ absurd (omega (arith, inside_one c [] (encode c) k (sym (append-nil (encode c))) l small))
      | inr large ↦ large
    ]

letters-utf8 : (cs : List ℕ) → scalars cs ≡ true → IsUtf8 (str_to_ascii_lowercase (encodes cs))
letters-utf8 [] is = IsUtf8-nil
letters-utf8 (c ∷ cs) is =
    let both = and_parts (scalar c) (scalars cs) is in
    subst IsUtf8 (sym (map-append to_ascii_lowercase (encode c) (encodes cs)))
    (IsUtf8-append (str_to_ascii_lowercase (encode c)) (str_to_ascii_lowercase (encodes cs)) (letter-utf8 c both.0) (letters-utf8 cs both.1))

-- so a text in lower case is a text
whole-utf8 : (text : List ℕ) → IsUtf8 text → IsUtf8 (str_to_ascii_lowercase text)
whole-utf8 text is = subst (λ bs. IsUtf8 (str_to_ascii_lowercase bs)) is.1.1 (letters-utf8 is.0 is.1.0)

-- so it is behind first bytes that are ASCII
behind-utf8 : (n : ℕ) (text : List ℕ) → IsUtf8 text → AllByRecursion (λ b. b < 128) (take n text) → IsUtf8 (lowered_behind n text)
behind-utf8 zero text is low = whole-utf8 text is
behind-utf8 (suc n) [] is low = is
behind-utf8 (suc n) (b ∷ bs) is low = IsUtf8-append (b ∷ []) (lowered_behind n bs) (byte-utf8 b low.0) (behind-utf8 n bs (utf8-around [] bs b is low.0).1 low.1)

is-low : (k b : ℕ) → (b == k) ≡ true → k < 128 → b < 128
is-low k b is low = omega (arith, eqb-true b k is)

-- the mark of a verbatim share is ASCII
mark-low : (s : Separators) (text rest : List ℕ) → 8 ≤ length text → option_and_then (after_unc s) (after_mark question text) ≡ Some rest → AllByRecursion (λ b. b < 128) (take 8 text)
mark-low s [] rest long is = absurd (omega arith)
mark-low s (a ∷ []) rest long is = absurd (omega arith)
mark-low s (a ∷ b ∷ []) rest long is = absurd (omega arith)
mark-low s (a ∷ b ∷ c ∷ []) rest long is = absurd (omega arith)
mark-low s (a ∷ b ∷ c ∷ d ∷ []) rest long is = absurd (omega arith)
mark-low s (a ∷ b ∷ c ∷ d ∷ e ∷ []) rest long is = absurd (omega arith)
mark-low s (a ∷ b ∷ c ∷ d ∷ e ∷ f ∷ []) rest long is = absurd (omega arith)
mark-low s (a ∷ b ∷ c ∷ d ∷ e ∷ f ∷ g ∷ []) rest long is = absurd (omega arith)
mark-low s (a ∷ b ∷ c ∷ d ∷ e ∷ f ∷ g ∷ h ∷ text) rest long is =
    let outer = and_then-some (after_unc s) (after_mark question (a ∷ b ∷ c ∷ d ∷ e ∷ f ∷ g ∷ h ∷ text)) rest is in
    let first = where-some (is_separator Either a && is_separator Either b && c == question && is_separator Either d) (e ∷ f ∷ g ∷ h ∷ text) outer.0 outer.1 in
    let second = where-some (e == 85 && f == 78 && g == 67 && is_separator s h) text rest (ap (after_unc s) first.1 ∙ outer.2) in
    let abc = and_parts (is_separator Either a && is_separator Either b && c == question) (is_separator Either d) first.0 in
    let ab = and_parts (is_separator Either a && is_separator Either b) (c == question) abc.0 in
    let a' = and_parts (is_separator Either a) (is_separator Either b) ab.0 in
    let efg = and_parts (e == 85 && f == 78 && g == 67) (is_separator s h) second.0 in
    let ef = and_parts (e == 85 && f == 78) (g == 67) efg.0 in
    let e' = and_parts (e == 85) (f == 78) ef.0 in (
      separator-ascii Either a a'.0,
      (separator-ascii Either b a'.1, (is-low question c ab.1 (omega arith), (separator-ascii Either d abc.1, (is-low 85 e e'.0 (omega arith), (is-low 78 f e'.1 (omega arith), (is-low 67 g ef.1 (omega arith), (separator-ascii s h efg.1, tt))))))),
    )

lowered-utf8 : (d : Dialect) (t : List ℕ) → IsUtf8 t → IsUtf8 (lowered d t)
lowered-utf8 unix t is = whole-utf8 t is
lowered-utf8 windows t is = by (verbatim_unc_case s t) refl
  where
    s : Separators
    s = separators windows t

    by : (o : Option Found) → verbatim_unc_case s t ≡ o → IsUtf8 (lowered windows t)
    by None none = subst (λ n. IsUtf8 (lowered_behind n t)) (sym (unmarked-plain s t none)) (whole-utf8 t is)
    by (Some f) some =
        let outer = and_then-some _ (option_and_then (after_unc s) (after_mark question t)) f some in
        let inner = and_then-some (after_unc s) (after_mark question t) outer.0 outer.1 in
        let long : 8 ≤ length t = omega (arith, after_mark-size question t inner.0 inner.1, after_unc-size s inner.0 outer.0 inner.2) in
        subst (λ n. IsUtf8 (lowered_behind n t)) (sym (ap mark_before (share-first s t f some) ∙ (marked-share s t f some).0)) (behind-utf8 8 t is (mark-low s t outer.0 long outer.1))

pub lowered-text : (d : Dialect) (t : List ℕ) → is_utf8 t ≡ true → is_utf8 (lowered d t) ≡ true
lowered-text d t is = is_utf8-from_IsUtf8 (lowered d t) (lowered-utf8 d t (IsUtf8-from_is_utf8 t is))

-- what the search is told of texts in lower case
pub ruleset lowered_laws = (lowered-text)
