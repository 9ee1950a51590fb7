-- A path in lower case is its own, and answers, is refused and lies as the path does.
use Rattle.std.proofs.Common.{◌≡◌, ◌↔◌, ℕ, zero, suc, ◌+◌, ◌-◌, ◌<◌, ◌==◌, Bool, true, false, not, ◌&&◌, ◌||◌, if◌then◌else◌, cond, List, [], ◌∷◌, map, length, take, drop, refl, sym, ap, ap₂, ◌∙◌, arith, Option, Some, None, option_map}
use Rattle.std.proofs.lemmas.Bool.{and_parts}
use Rattle.std.proofs.lemmas.Bool.Decides.{nat_tests}
use Rattle.std.proofs.lemmas.Cmp.{tied_itself}
use Rattle.std.proofs.lemmas.List.{length-map, map-append, take-map}
use Rattle.std.proofs.lemmas.Slice.Eq.{starts_is, bytes_eq-Decides}
use Rattle.std.proofs.lemmas.Str.Ascii.{lowercase-lowercase}
use Rattle.std.specs.Char.{to_ascii_lowercase}
use Rattle.std.specs.Cmp.{Equal-is}
use Rattle.std.specs.List.{before_first, list_any, position_or_len, starts_with}
use Rattle.std.specs.Ordering.{is_eq}
use Rattle.std.specs.Str.{bytes_eq, str_to_ascii_lowercase}
use Rattle.typed_path.specs.components.{Dialect, unix, windows, Prefix, verbatim, verbatim_unc, verbatim_disk, device_ns, unc, disk, Kind, prefix, root, current, parent, normal, Placed, parts, kinds, comps, parts_of, Found, found, prefix_of, is_empty}
use Rattle.typed_path.specs.queries.{begins_with_root, first_prefix, has_prefix, has_root, is_a_dot, is_absolute, is_disallowed, is_reserved, is_valid, is_valid_kind, is_valid_name, reserved_names}
use Rattle.typed_path.specs.changes.{fault, fault_at}
use Rattle.typed_path.specs.places.{holds_all, is_anchored, is_within, kept_names, leads_within, rising, same_heads, unmet}
use Rattle.typed_path.specs.order.{IsSame, are_same_prefixes, exact_kinds, is_same, kind_cmp, kind_cmp_total, lowered, lowered_behind, lowered_kind, lowered_kinds, lowered_placed, lowered_prefix, mark_before, mark_length}
use Rattle.typed_path.proofs.lemmas.changes.Faults.{fault_behind-at}
use Rattle.typed_path.proofs.lemmas.order.Comparisons.{kinds_cmp-is_eq}
use Rattle.typed_path.proofs.lemmas.order.Lowered.{comps_lowered, prefix-lowered}
use Rattle.typed_path.proofs.lemmas.order.LoweredLists.{length-lowered}

-- The kinds of a path in lower case.

kinds-placed : (cs : List Placed) → kinds (parts (map lowered_placed cs)) ≡ lowered_kinds (kinds (parts cs))
kinds-placed [] = refl
kinds-placed (c ∷ cs) = ap (λ ks. lowered_kind c.part.kind ∷ ks) (kinds-placed cs)

pub kinds-lowered : (d : Dialect) (t : List ℕ) → kinds (parts_of d (lowered d t)) ≡ lowered_kinds (kinds (parts_of d t))
kinds-lowered d t = ap (λ cs. kinds (parts cs)) (comps_lowered d t) ∙ kinds-placed (comps d t)

-- so two are equal exactly if their components are
pub same-lowered : (d : Dialect) (t u : List ℕ) → (is_same d (lowered d t) (lowered d u) ≡ true) ↔ (lowered_kinds (kinds (parts_of d t)) ≡ lowered_kinds (kinds (parts_of d u)))
same-lowered d t u =
    let told = kinds_cmp-is_eq (kinds (parts_of d (lowered d t))) (kinds (parts_of d (lowered d u))) in
    ((λ e. sym (kinds-lowered d t) ∙ told.0 e ∙ kinds-lowered d u), λ e. told.1 (kinds-lowered d t ∙ e ∙ sym (kinds-lowered d u)))

pub equal_lowered : (d : Dialect) (t u : List ℕ) → IsSame d t u → IsSame d (lowered d t) (lowered d u)
equal_lowered d t u same = kinds-lowered d t ∙ ap lowered_kinds same ∙ sym (kinds-lowered d u)

-- It is its own path in lower case.

twice : (text : List ℕ) → str_to_ascii_lowercase (str_to_ascii_lowercase text) ≡ str_to_ascii_lowercase text
twice [] = refl
twice (b ∷ bs) = ap₂ ◌∷◌ (lowercase-lowercase b) (twice bs)

twice-behind : (n : ℕ) (text : List ℕ) → lowered_behind n (lowered_behind n text) ≡ lowered_behind n text
twice-behind zero text = twice text
twice-behind (suc n) [] = refl
twice-behind (suc n) (b ∷ bs) = ap (λ xs. b ∷ xs) (twice-behind n bs)

same-mark : (p : Prefix) → mark_length (lowered_prefix p) ≡ mark_length p
same-mark (verbatim a) = refl
same-mark (verbatim_unc a b) = refl
same-mark (verbatim_disk a) = refl
same-mark (device_ns a) = refl
same-mark (unc a b) = refl
same-mark (disk a) = refl

pub lowered_again : (d : Dialect) (t : List ℕ) → lowered d (lowered d t) ≡ lowered d t
lowered_again unix t = twice-behind 0 t
lowered_again windows t =
    ap (λ n. lowered_behind n (lowered windows t)) (ap mark_before (prefix-lowered t).prefix ∙ by (prefix_of windows t)) ∙ twice-behind (mark_before (prefix_of windows t)) t
  where
    by : (o : Option Found) → mark_before (option_map (λ f. found (lowered_prefix f.prefix) f.length) o) ≡ mark_before o
    by None = refl
    by (Some f) = same-mark f.prefix

pub lowered_length : (d : Dialect) (t : List ℕ) → length (lowered d t) ≡ length t
lowered_length d t = length-lowered (mark_before (prefix_of d t)) t

-- Names are valid in lower case exactly if they are.

byte-disallowed : (d : Dialect) (b : ℕ) → is_disallowed d (to_ascii_lowercase b) ≡ is_disallowed d b
byte-disallowed unix b = grind (arith, nat_tests)
byte-disallowed windows b =
    let told : (k : ℕ) → ((k < 65) × (k < 97)) → (to_ascii_lowercase b == k) ≡ (b == k) = λ k low. low_byte k b low.0 in
    rw (told 47 (omega arith, omega arith), told 58 (omega arith, omega arith), told 63 (omega arith, omega arith), told 42 (omega arith, omega arith), told 34 (omega arith, omega arith), told 62 (omega arith, omega arith), told 60 (omega arith, omega arith), told 0 (omega arith, omega arith), slash_byte b, bar_byte b)
  where
    low_byte : (k a : ℕ) → k < 65 → (to_ascii_lowercase a == k) ≡ (a == k)
    low_byte k a low = grind (arith, nat_tests)

    slash_byte : (a : ℕ) → (to_ascii_lowercase a == 92) ≡ (a == 92)
    slash_byte a = grind (arith, nat_tests)

    bar_byte : (a : ℕ) → (to_ascii_lowercase a == 124) ≡ (a == 124)
    bar_byte a = grind (arith, nat_tests)

any-disallowed : (d : Dialect) (name : List ℕ) → list_any (is_disallowed d) (str_to_ascii_lowercase name) ≡ list_any (is_disallowed d) name
any-disallowed d [] = refl
any-disallowed d (b ∷ bs) = ap₂ (λ x y. x || y) (byte-disallowed d b) (any-disallowed d bs)

dot_byte : (b : ℕ) → is_a_dot (to_ascii_lowercase b) ≡ is_a_dot b
dot_byte b = grind (arith, nat_tests)

stem-place : (text : List ℕ) → position_or_len is_a_dot (str_to_ascii_lowercase text) ≡ position_or_len is_a_dot text
stem-place [] = refl
stem-place (b ∷ bs) = ap₂ (λ x n. cond (not x) (1 + n) 0) (dot_byte b) (stem-place bs)

stem-lowered : (text : List ℕ) → before_first is_a_dot (str_to_ascii_lowercase text) ≡ str_to_ascii_lowercase (before_first is_a_dot text)
stem-lowered text = ap (λ n. take n (str_to_ascii_lowercase text)) (stem-place text) ∙ take-map to_ascii_lowercase (position_or_len is_a_dot text) text

reserved-lowered : (d : Dialect) (name : List ℕ) → is_reserved d (str_to_ascii_lowercase name) ≡ is_reserved d name
reserved-lowered unix name = refl
reserved-lowered windows name = ap (λ small. list_any (λ device. bytes_eq small (str_to_ascii_lowercase device)) reserved_names) (ap str_to_ascii_lowercase (stem-lowered name) ∙ twice (before_first is_a_dot name))

valid-lowered : (d : Dialect) (name : List ℕ) → is_valid_name d (str_to_ascii_lowercase name) ≡ is_valid_name d name
valid-lowered d name = ap₂ (λ x y. not x && not y) (any-disallowed d name) (reserved-lowered d name)

valid_kind-lowered : (d : Dialect) (k : Kind) → is_valid_kind d (lowered_kind k) ≡ is_valid_kind d k
valid_kind-lowered d (prefix p) = refl
valid_kind-lowered d root = refl
valid_kind-lowered d current = refl
valid_kind-lowered d parent = refl
valid_kind-lowered d (normal name) = valid-lowered d name

all-valid : (d : Dialect) (ks : List Kind) → is_valid d (lowered_kinds ks) ≡ is_valid d ks
all-valid d [] = refl
all-valid d (k ∷ ks) = ap₂ (λ x y. x && y) (valid_kind-lowered d k) (all-valid d ks)

pub is_valid_lowered : (d : Dialect) (t : List ℕ) → is_valid d (kinds (parts_of d (lowered d t))) ≡ is_valid d (kinds (parts_of d t))
is_valid_lowered d t = ap (is_valid d) (kinds-lowered d t) ∙ all-valid d (kinds (parts_of d t))

-- A checked join refuses both for the same.

fault_at-lowered : (d : Dialect) (depth : ℕ) (ks : List Kind) → fault_at d depth (lowered_kinds ks) ≡ fault_at d depth ks
fault_at-lowered d depth [] = refl
fault_at-lowered d depth (prefix p ∷ ks) = refl
fault_at-lowered d depth (root ∷ ks) = refl
fault_at-lowered d depth (current ∷ ks) = fault_at-lowered d depth ks
fault_at-lowered d zero (parent ∷ ks) = refl
fault_at-lowered d (suc depth) (parent ∷ ks) = fault_at-lowered d depth ks
fault_at-lowered d depth (normal name ∷ ks) = rw (valid-lowered d name, fault_at-lowered d (suc depth) ks)

pub fault_lowered : (d : Dialect) (t : List ℕ) → fault d (lowered d t) ≡ fault d t
fault_lowered d t =
    fault_behind-at d [] 0 (kinds (parts_of d (lowered d t))) (omega arith)
    ∙ ap (fault_at d 0) (kinds-lowered d t)
    ∙ fault_at-lowered d 0 (kinds (parts_of d t))
    ∙ sym (fault_behind-at d [] 0 (kinds (parts_of d t)) (omega arith))

-- Both are absolute, and have a root, or neither.

root-lowered : (ks : List Kind) → begins_with_root (lowered_kinds ks) ≡ begins_with_root ks
root-lowered [] = refl
root-lowered (prefix p ∷ ks) = refl
root-lowered (root ∷ ks) = refl
root-lowered (current ∷ ks) = refl
root-lowered (parent ∷ ks) = refl
root-lowered (normal name ∷ ks) = refl

filled-lowered : (text : List ℕ) → not (is_empty (str_to_ascii_lowercase text)) ≡ not (is_empty text)
filled-lowered text = ap (λ n. not (n == 0)) (length-map text to_ascii_lowercase)

absolute-lowered : (d : Dialect) (ks : List Kind) → is_absolute d (lowered_kinds ks) ≡ is_absolute d ks
absolute-lowered unix ks = root-lowered ks
absolute-lowered windows [] = refl
absolute-lowered windows (prefix (verbatim a) ∷ ks) = root-lowered ks
absolute-lowered windows (prefix (verbatim_unc a b) ∷ ks) = filled-lowered b
absolute-lowered windows (prefix (verbatim_disk a) ∷ ks) = root-lowered ks
absolute-lowered windows (prefix (device_ns a) ∷ ks) = root-lowered ks
absolute-lowered windows (prefix (unc a b) ∷ ks) = filled-lowered b
absolute-lowered windows (prefix (disk a) ∷ ks) = root-lowered ks
absolute-lowered windows (root ∷ ks) = refl
absolute-lowered windows (current ∷ ks) = refl
absolute-lowered windows (parent ∷ ks) = refl
absolute-lowered windows (normal name ∷ ks) = refl

rooted-lowered : (d : Dialect) (ks : List Kind) → has_root d (lowered_kinds ks) ≡ has_root d ks
rooted-lowered unix ks = root-lowered ks
rooted-lowered windows [] = refl
rooted-lowered windows (prefix (verbatim a) ∷ ks) = refl
rooted-lowered windows (prefix (verbatim_unc a b) ∷ ks) = refl
rooted-lowered windows (prefix (verbatim_disk a) ∷ ks) = root-lowered ks
rooted-lowered windows (prefix (device_ns a) ∷ ks) = refl
rooted-lowered windows (prefix (unc a b) ∷ ks) = refl
rooted-lowered windows (prefix (disk a) ∷ ks) = root-lowered ks
rooted-lowered windows (root ∷ ks) = refl
rooted-lowered windows (current ∷ ks) = refl
rooted-lowered windows (parent ∷ ks) = refl
rooted-lowered windows (normal name ∷ ks) = refl

pub is_absolute_lowered : (d : Dialect) (t : List ℕ) → is_absolute d (kinds (parts_of d (lowered d t))) ≡ is_absolute d (kinds (parts_of d t))
is_absolute_lowered d t = ap (is_absolute d) (kinds-lowered d t) ∙ absolute-lowered d (kinds (parts_of d t))

pub has_root_lowered : (d : Dialect) (t : List ℕ) → has_root d (kinds (parts_of d (lowered d t))) ≡ has_root d (kinds (parts_of d t))
has_root_lowered d t = ap (has_root d) (kinds-lowered d t) ∙ rooted-lowered d (kinds (parts_of d t))

-- What lies within a base does so in lower case.

unmet-lowered : (ks : List Kind) → unmet (lowered_kinds ks) ≡ unmet ks
unmet-lowered [] = refl
unmet-lowered (prefix p ∷ ks) = unmet-lowered ks
unmet-lowered (root ∷ ks) = unmet-lowered ks
unmet-lowered (current ∷ ks) = unmet-lowered ks
unmet-lowered (parent ∷ ks) = ap suc (unmet-lowered ks)
unmet-lowered (normal name ∷ ks) = ap (λ n. n - 1) (unmet-lowered ks)

kept-lowered : (ks : List Kind) → kept_names (lowered_kinds ks) ≡ map str_to_ascii_lowercase (kept_names ks)
kept-lowered [] = refl
kept-lowered (prefix p ∷ ks) = kept-lowered ks
kept-lowered (root ∷ ks) = kept-lowered ks
kept-lowered (current ∷ ks) = kept-lowered ks
kept-lowered (parent ∷ ks) = kept-lowered ks
kept-lowered (normal name ∷ ks) = rw (unmet-lowered ks, kept-lowered ks) (by (unmet ks == 0))
  where
    by : (b : Bool) → (if b then str_to_ascii_lowercase name ∷ map str_to_ascii_lowercase (kept_names ks) else map str_to_ascii_lowercase (kept_names ks)) ≡ map str_to_ascii_lowercase (if b then name ∷ kept_names ks else kept_names ks)
    by true = refl
    by false = refl

first-lowered : (ks : List Kind) → first_prefix (lowered_kinds ks) ≡ option_map lowered_prefix (first_prefix ks)
first-lowered [] = refl
first-lowered (prefix p ∷ ks) = refl
first-lowered (root ∷ ks) = refl
first-lowered (current ∷ ks) = refl
first-lowered (parent ∷ ks) = refl
first-lowered (normal name ∷ ks) = refl

has_prefix-lowered : (ks : List Kind) → has_prefix (lowered_kinds ks) ≡ has_prefix ks
has_prefix-lowered [] = refl
has_prefix-lowered (prefix p ∷ ks) = refl
has_prefix-lowered (root ∷ ks) = refl
has_prefix-lowered (current ∷ ks) = refl
has_prefix-lowered (parent ∷ ks) = refl
has_prefix-lowered (normal name ∷ ks) = refl

anchored-lowered : (ks : List Kind) → is_anchored (lowered_kinds ks) ≡ is_anchored ks
anchored-lowered [] = refl
anchored-lowered (prefix (verbatim a) ∷ ks) = refl
anchored-lowered (prefix (verbatim_unc a b) ∷ ks) = refl
anchored-lowered (prefix (verbatim_disk a) ∷ ks) = refl
anchored-lowered (prefix (device_ns a) ∷ ks) = refl
anchored-lowered (prefix (unc a b) ∷ ks) = refl
anchored-lowered (prefix (disk a) ∷ ks) = root-lowered ks
anchored-lowered (root ∷ ks) = refl
anchored-lowered (current ∷ ks) = refl
anchored-lowered (parent ∷ ks) = refl
anchored-lowered (normal name ∷ ks) = refl

same-prefixes-lowered : (o r : Option Prefix) → are_same_prefixes o r ≡ true → are_same_prefixes (option_map lowered_prefix o) (option_map lowered_prefix r) ≡ true
same-prefixes-lowered None None same = refl
same-prefixes-lowered None (Some q) same = cc
same-prefixes-lowered (Some p) None same = cc
same-prefixes-lowered (Some p) (Some q) same =
    let one : prefix p ≡ prefix q = exact_kinds (prefix p) (prefix q) ((Equal-is (kind_cmp (prefix p) (prefix q))).0 same) in
    ap (λ k. is_eq (kind_cmp (lowered_kind (prefix p)) (lowered_kind k))) (sym one) ∙ ap is_eq (tied_itself kind_cmp_total (lowered_kind (prefix p)))

names-begin : (names base : List (List ℕ)) → starts_with bytes_eq names base ≡ true → starts_with bytes_eq (map str_to_ascii_lowercase names) (map str_to_ascii_lowercase base) ≡ true
names-begin names base begins =
    (starts_is bytes_eq-Decides (map str_to_ascii_lowercase names) (map str_to_ascii_lowercase base) (starts_with bytes_eq (map str_to_ascii_lowercase names) (map str_to_ascii_lowercase base)) refl).1
    (map str_to_ascii_lowercase (drop (length base) names))
    (ap (map str_to_ascii_lowercase) ((starts_is bytes_eq-Decides names base true (sym begins)).0 refl) ∙ map-append str_to_ascii_lowercase base (drop (length base) names))

module _ (ks ls : List Kind) where
  prefixes-lowered : are_same_prefixes (first_prefix ks) (first_prefix ls) ≡ true → are_same_prefixes (first_prefix (lowered_kinds ks)) (first_prefix (lowered_kinds ls)) ≡ true
  prefixes-lowered same = ap₂ are_same_prefixes (first-lowered ks) (first-lowered ls) ∙ same-prefixes-lowered (first_prefix ks) (first_prefix ls) same

  heads-lowered : same_heads ks ls ≡ true → same_heads (lowered_kinds ks) (lowered_kinds ls) ≡ true
  heads-lowered same =
      let both = and_parts (are_same_prefixes (first_prefix ks) (first_prefix ls)) _ same in
      ap₂ (λ x y. x && y) (prefixes-lowered both.0) (ap₂ (λ a b. if a then b else not b) (anchored-lowered ks) (anchored-lowered ls) ∙ both.1)

  leads-lowered : leads_within ks ls ≡ true → leads_within (lowered_kinds ks) (lowered_kinds ls) ≡ true
  leads-lowered leads =
      let outer = and_parts (same_heads ks ls && (rising ks == rising ls)) (starts_with bytes_eq (kept_names ks) (kept_names ls)) leads in
      let inner = and_parts (same_heads ks ls) (rising ks == rising ls) outer.0 in
      ap₂ (λ x y. x && y)
      (ap₂ (λ x y. x && y) (heads-lowered inner.0) (ap₂ ◌==◌ (rising-lowered ks) (rising-lowered ls) ∙ inner.1))
      (ap₂ (starts_with bytes_eq) (kept-lowered ks) (kept-lowered ls) ∙ names-begin (kept_names ks) (kept_names ls) outer.1)
    where
      rising-lowered : (ms : List Kind) → rising (lowered_kinds ms) ≡ rising ms
      rising-lowered ms = ap₂ (λ b n. if b then 0 else n) (anchored-lowered ms) (unmet-lowered ms)

  holds-lowered : holds_all ks ls ≡ true → holds_all (lowered_kinds ks) (lowered_kinds ls) ≡ true
  holds-lowered holds =
      let outer = and_parts (are_same_prefixes (first_prefix ks) (first_prefix ls) && (length (kept_names ls) == 0)) _ holds in
      let inner = and_parts (are_same_prefixes (first_prefix ks) (first_prefix ls)) (length (kept_names ls) == 0) outer.0 in
      ap₂ (λ x y. x && y)
      (ap₂ (λ x y. x && y) (prefixes-lowered inner.0) (ap (λ n. n == 0) (ap length (kept-lowered ls) ∙ length-map (kept_names ls) str_to_ascii_lowercase) ∙ inner.1))
      (rw (anchored-lowered ks, anchored-lowered ls, has_prefix-lowered ls, unmet-lowered ks, unmet-lowered ls) outer.1)

  within-lowered : (leads_within ks ls || holds_all ks ls) ≡ true → (leads_within (lowered_kinds ks) (lowered_kinds ls) || holds_all (lowered_kinds ks) (lowered_kinds ls)) ≡ true
  within-lowered h = by (leads_within ks ls) (holds_all ks ls) (leads_within (lowered_kinds ks) (lowered_kinds ls)) (holds_all (lowered_kinds ks) (lowered_kinds ls)) leads-lowered holds-lowered h
    where
      by : (a b x y : Bool) → (a ≡ true → x ≡ true) → (b ≡ true → y ≡ true) → (a || b) ≡ true → (x || y) ≡ true
      by a b x y f g e = grind arith

pub is_within_lowered : (d : Dialect) (t b : List ℕ) → is_within d t b ≡ true → is_within d (lowered d t) (lowered d b) ≡ true
is_within_lowered d t b within =
    ap₂ (λ ks ls. leads_within ks ls || holds_all ks ls) (kinds-lowered d t) (kinds-lowered d b) ∙ within-lowered (kinds (parts_of d t)) (kinds (parts_of d b)) within
