-- Names are valid where no byte strays and none stands for a device.
use Rattle.std.proofs.Common.{◌≡◌, ◌≤◌, ◌<◌, nat_le, ℕ, zero, suc, Bool, true, false, ◌||◌, ◌&&◌, ◌==◌, cond, not, List, [], ◌∷◌, ◌+◌, length, arith, refl, sym, ap, ◌∙◌, ◌++◌, drop, slice_index, Option, Some, None, is_some, eqb-true}
use Rattle.std.proofs.lemmas.Grind.{common_steps}
use Rattle.std.specs.List.{list_any, before_first, AllByRecursion, list_all}
use Rattle.std.specs.Str.{bytes_eq, str_eq_ignore_ascii_case, str_to_ascii_lowercase}
use Rattle.std.specs.Char.{to_ascii_lowercase}
use Rattle.std.proofs.lemmas.Slice.Eq.{bytes_eq-Decides}
use Rattle.std.proofs.lemmas.Bool.{false_from_ne_true, and_parts, leb-true, eqb-false}
use Rattle.std.proofs.lemmas.List.{get_or_default}
use Rattle.memchr.specs.Find.{IsFirstByte, is_byte}
use Rattle.std.proofs.lemmas.List.Folds.{list_any_at, list_any_none}
use Rattle.typed_path.specs.declared.scan.separators.Separators.{Separators}
use Rattle.typed_path.specs.declared.scan.separators.Separators.TheVariants.{Slash}
use Rattle.typed_path.specs.components.{windows, dot, Dialect, unix, dialect_of, separators, is_separator, Part, kinds, parts, Found, prefix_of, is_dot, is_dot_dot, body, comps_behind, parts_of}
use Rattle.typed_path.specs.queries.{is_a_dot, reserved_names, is_reserved, has_allowed_bytes, is_valid_name, is_valid_kind, is_valid}
use Rattle.typed_path.specs.changes.{is_bare_device, is_numbered_device, is_device, is_stray, raw_length}
use Rattle.typed_path.proofs.lemmas.components.Segments.{pieces, first_part, first_parts, later_part, later_parts, body_parts, parts-body}
use Rattle.typed_path.proofs.lemmas.components.Prefixes.{separators-windows}
use Rattle.typed_path.proofs.lemmas.lists.Lists.{slice_split-some, before_first-byte}

-- Names that stand for devices: how they begin, and where their first dot comes.

-- a text in small letters is as long as the name of a device, and is one by its bytes
abbrev like_device : List ℕ → Bool
like_device (a ∷ b ∷ c ∷ []) = is_bare_device a b c
like_device (a ∷ b ∷ c ∷ d ∷ []) = is_numbered_device a b c d
like_device text = false

-- whether the small letters of a text are
abbrev is_like : List ℕ → Bool
is_like text = like_device (str_to_ascii_lowercase text)

-- what holds of each of some names in small letters holds of a text that is one of them, case aside
pub one_of : (holds : List ℕ → Bool) (text : List ℕ) (names : List (List ℕ)) → AllByRecursion (λ name. holds (str_to_ascii_lowercase name) ≡ true) names
    → list_any (λ name. str_eq_ignore_ascii_case text name) names ≡ true → holds (str_to_ascii_lowercase text) ≡ true
one_of holds text [] all e = cc
one_of holds text (name ∷ names) all e = by (str_eq_ignore_ascii_case text name) refl (one_of holds text names all.1) e
  where
    by : (same : Bool) → str_eq_ignore_ascii_case text name ≡ same
        → (list_any (λ n. str_eq_ignore_ascii_case text n) names ≡ true → holds (str_to_ascii_lowercase text) ≡ true)
        → (same || list_any (λ n. str_eq_ignore_ascii_case text n) names) ≡ true → holds (str_to_ascii_lowercase text) ≡ true
    by same is later h = grind (arith, bytes_eq-Decides)

each_like : AllByRecursion (λ name. like_device (str_to_ascii_lowercase name) ≡ true) reserved_names
each_like = (refl, (refl, (refl, (refl, (refl, (refl, (refl, (refl, (refl, (refl, (refl, (refl, (refl, (refl, (refl, (refl, (refl, (refl, (refl, (refl, (refl, (refl, (refl, (refl, tt))))))))))))))))))))))))

stem-like : (name : List ℕ) → is_reserved windows name ≡ true → like_device (str_to_ascii_lowercase (before_first is_a_dot name)) ≡ true
stem-like name h = one_of like_device (before_first is_a_dot name) reserved_names each_like h

-- what stands before the first dot, byte by byte
stem-byte : (b : ℕ) (bs : List ℕ) → before_first is_a_dot (b ∷ bs) ≡ cond (b == dot) [] (b ∷ before_first is_a_dot bs)
stem-byte b bs = before_first-byte is_a_dot b bs

-- so a name that stands for a device is one that may: by where its first dot stands
pub reserved-device : (name : List ℕ) → is_reserved windows name ≡ true → is_device name ≡ true
reserved-device [] h = stem-like [] h
reserved-device (a ∷ []) h = by (a == dot) (sym (ap is_like (stem-byte a [])) ∙ stem-like (a ∷ []) h)
  where
    by : (p : Bool) → is_like (cond p [] (a ∷ [])) ≡ true → false ≡ true
    by p like = grind arith
reserved-device (a ∷ b ∷ []) h = by (a == dot) (b == dot) (sym (ap is_like stem) ∙ stem-like (a ∷ b ∷ []) h)
  where
    stem : before_first is_a_dot (a ∷ b ∷ []) ≡ cond (a == dot) [] (a ∷ cond (b == dot) [] (b ∷ []))
    stem = stem-byte a (b ∷ []) ∙ ap (λ t. cond (a == dot) [] (a ∷ t)) (stem-byte b [])

    by : (p q : Bool) → is_like (cond p [] (a ∷ cond q [] (b ∷ []))) ≡ true → false ≡ true
    by p q like = grind arith
reserved-device (a ∷ b ∷ c ∷ []) h = by (a == dot) (b == dot) (c == dot) (sym (ap is_like stem) ∙ stem-like (a ∷ b ∷ c ∷ []) h)
  where
    stem : before_first is_a_dot (a ∷ b ∷ c ∷ []) ≡ cond (a == dot) [] (a ∷ cond (b == dot) [] (b ∷ cond (c == dot) [] (c ∷ [])))
    stem = grind (arith, stem-byte)

    by : (p q r : Bool) → is_like (cond p [] (a ∷ cond q [] (b ∷ cond r [] (c ∷ [])))) ≡ true → is_bare_device (to_ascii_lowercase a) (to_ascii_lowercase b) (to_ascii_lowercase c) ≡ true
    by p q r like = grind arith
reserved-device (a ∷ b ∷ c ∷ d ∷ []) h = by (a == dot) (b == dot) (c == dot) (d == dot) (sym (ap is_like stem) ∙ stem-like (a ∷ b ∷ c ∷ d ∷ []) h)
  where
    stem : before_first is_a_dot (a ∷ b ∷ c ∷ d ∷ []) ≡ cond (a == dot) [] (a ∷ cond (b == dot) [] (b ∷ cond (c == dot) [] (c ∷ cond (d == dot) [] (d ∷ []))))
    stem = grind (arith, stem-byte)

    by : (p q r s : Bool) → is_like (cond p [] (a ∷ cond q [] (b ∷ cond r [] (c ∷ cond s [] (d ∷ []))))) ≡ true
        → cond s (is_bare_device (to_ascii_lowercase a) (to_ascii_lowercase b) (to_ascii_lowercase c)) (is_numbered_device (to_ascii_lowercase a) (to_ascii_lowercase b) (to_ascii_lowercase c) (to_ascii_lowercase d)) ≡ true
    by p q r s like = grind arith
reserved-device (a ∷ b ∷ c ∷ d ∷ e ∷ rest) h =
    by (a == dot) (b == dot) (c == dot) (d == dot) (e == dot) (before_first is_a_dot rest) (sym (ap is_like stem) ∙ stem-like (a ∷ b ∷ c ∷ d ∷ e ∷ rest) h)
  where
    stem : before_first is_a_dot (a ∷ b ∷ c ∷ d ∷ e ∷ rest)
        ≡ cond (a == dot) [] (a ∷ cond (b == dot) [] (b ∷ cond (c == dot) [] (c ∷ cond (d == dot) [] (d ∷ cond (e == dot) [] (e ∷ before_first is_a_dot rest)))))
    stem =
        stem-byte a (b ∷ c ∷ d ∷ e ∷ rest)
        ∙ ap (λ t. cond (a == dot) [] (a ∷ t)) (stem-byte b (c ∷ d ∷ e ∷ rest)
        ∙ ap (λ t. cond (b == dot) [] (b ∷ t)) (stem-byte c (d ∷ e ∷ rest)
        ∙ ap (λ t. cond (c == dot) [] (c ∷ t)) (stem-byte d (e ∷ rest)
        ∙ ap (λ t. cond (d == dot) [] (d ∷ t)) (stem-byte e rest))))

    by : (p q r s t : Bool) (more : List ℕ)
        → is_like (cond p [] (a ∷ cond q [] (b ∷ cond r [] (c ∷ cond s [] (d ∷ cond t [] (e ∷ more)))))) ≡ true
        → cond s (is_bare_device (to_ascii_lowercase a) (to_ascii_lowercase b) (to_ascii_lowercase c)) (t && is_numbered_device (to_ascii_lowercase a) (to_ascii_lowercase b) (to_ascii_lowercase c) (to_ascii_lowercase d)) ≡ true
    by p q r s t more like = grind arith

-- whether a text in small letters is the name of a device, by the list of them
abbrev named : List ℕ → Bool
named small = list_any (λ device. bytes_eq small (str_to_ascii_lowercase device)) reserved_names

-- a byte that is no dot in small letters is none
undotted : (k a : ℕ) → (to_ascii_lowercase a == k) ≡ true → (k == dot) ≡ false → (a == dot) ≡ false
undotted k a e other = grind arith

-- three letters of a name, and what stands behind them before its first dot, are looked for in the list
reserved-letters : (k l m a b c : ℕ) (more : List ℕ) → (k == dot) ≡ false → (l == dot) ≡ false → (m == dot) ≡ false
    → ((to_ascii_lowercase a == k && to_ascii_lowercase b == l) && to_ascii_lowercase c == m) ≡ true
    → is_reserved windows (a ∷ b ∷ c ∷ more) ≡ named (k ∷ l ∷ m ∷ str_to_ascii_lowercase (before_first is_a_dot more))
reserved-letters k l m a b c more first second third e =
    let all = and_parts (to_ascii_lowercase a == k && to_ascii_lowercase b == l) (to_ascii_lowercase c == m) e in
    let both = and_parts (to_ascii_lowercase a == k) (to_ascii_lowercase b == l) all.0 in
    ap (λ t. named (str_to_ascii_lowercase t)) stem
    ∙ ap (λ p. named (str_to_ascii_lowercase (cond p [] (a ∷ cond (b == dot) [] (b ∷ cond (c == dot) [] (c ∷ rest)))))) (undotted k a both.0 first)
    ∙ ap (λ p. named (str_to_ascii_lowercase (a ∷ cond p [] (b ∷ cond (c == dot) [] (c ∷ rest))))) (undotted l b both.1 second)
    ∙ ap (λ p. named (str_to_ascii_lowercase (a ∷ b ∷ cond p [] (c ∷ rest)))) (undotted m c all.1 third)
    ∙ ap (λ x. named (x ∷ to_ascii_lowercase b ∷ to_ascii_lowercase c ∷ str_to_ascii_lowercase rest)) (eqb-true _ _ both.0)
    ∙ ap (λ x. named (k ∷ x ∷ to_ascii_lowercase c ∷ str_to_ascii_lowercase rest)) (eqb-true _ _ both.1)
    ∙ ap (λ x. named (k ∷ l ∷ x ∷ str_to_ascii_lowercase rest)) (eqb-true _ _ all.1)
  where
    rest : List ℕ
    rest = before_first is_a_dot more

    stem : before_first is_a_dot (a ∷ b ∷ c ∷ more) ≡ cond (a == dot) [] (a ∷ cond (b == dot) [] (b ∷ cond (c == dot) [] (c ∷ rest)))
    stem =
        stem-byte a (b ∷ c ∷ more)
        ∙ ap (λ t. cond (a == dot) [] (a ∷ t)) (stem-byte b (c ∷ more) ∙ ap (λ t. cond (b == dot) [] (b ∷ t)) (stem-byte c more))

-- what holds of each number of a row holds of one between them
abbrev holds_along : (ℕ → Bool) → ℕ → ℕ → Bool
holds_along holds from zero = true
holds_along holds from (suc n) = holds from && holds_along holds (suc from) n

one_along : (holds : ℕ → Bool) (from n d : ℕ) → holds_along holds from n ≡ true → from ≤ d → d < from + n → holds d ≡ true
one_along holds from zero d all low high = absurd (omega (arith, low, high))
one_along holds from (suc n) d all low high = by (d == from) refl (one_along holds (suc from) n d each.1)
  where
    each : (holds from ≡ true) × (holds_along holds (suc from) n ≡ true)
    each = and_parts (holds from) (holds_along holds (suc from) n) all

    by : (p : Bool) → (d == from) ≡ p → (suc from ≤ d → d < suc from + n → holds d ≡ true) → holds d ≡ true
    by p is later = grind (arith, eqb-true, each, eqb-false)

-- one of some tests holds
module _ (goal : Bool) where
  pub one_of_two : (p q : Bool) → (p ≡ true → goal ≡ true) → (q ≡ true → goal ≡ true) → (p || q) ≡ true → goal ≡ true
  one_of_two p q f g e = grind arith

-- three letters with nothing behind them before the first dot
bare-reserved : (a b c : ℕ) (more : List ℕ) → before_first is_a_dot more ≡ []
    → is_bare_device (to_ascii_lowercase a) (to_ascii_lowercase b) (to_ascii_lowercase c) ≡ true → is_reserved windows (a ∷ b ∷ c ∷ more) ≡ true
bare-reserved a b c more none =
    one_of_two goal _ _ (one_of_two goal _ _ (one_of_two goal _ _ (one 99 111 110 refl refl refl refl) (one 112 114 110 refl refl refl refl)) (one 97 117 120 refl refl refl refl)) (one 110 117 108 refl refl refl refl)
  where
    goal : Bool
    goal = is_reserved windows (a ∷ b ∷ c ∷ more)

    one : (k l m : ℕ) → (k == dot) ≡ false → (l == dot) ≡ false → (m == dot) ≡ false → named (k ∷ l ∷ m ∷ []) ≡ true
        → ((to_ascii_lowercase a == k && to_ascii_lowercase b == l) && to_ascii_lowercase c == m) ≡ true → goal ≡ true
    one k l m first second third listed e =
        reserved-letters k l m a b c more first second third e ∙ ap (λ t. named (k ∷ l ∷ m ∷ str_to_ascii_lowercase t)) none ∙ listed

-- three letters with a digit behind them
numbered-reserved : (a b c d : ℕ) (more : List ℕ) → before_first is_a_dot more ≡ d ∷ []
    → is_numbered_device (to_ascii_lowercase a) (to_ascii_lowercase b) (to_ascii_lowercase c) (to_ascii_lowercase d) ≡ true → is_reserved windows (a ∷ b ∷ c ∷ more) ≡ true
numbered-reserved a b c d more digit h =
    one_of_two goal _ _ (one 99 111 109 refl refl refl refl) (one 108 112 116 refl refl refl refl) both.0
  where
    goal : Bool
    goal = is_reserved windows (a ∷ b ∷ c ∷ more)

    both : ((((to_ascii_lowercase a == 99 && to_ascii_lowercase b == 111) && to_ascii_lowercase c == 109) || ((to_ascii_lowercase a == 108 && to_ascii_lowercase b == 112) && to_ascii_lowercase c == 116)) ≡ true)
        × ((nat_le 48 (to_ascii_lowercase d) && nat_le (to_ascii_lowercase d) 57) ≡ true)
    both = and_parts _ (nat_le 48 (to_ascii_lowercase d) && nat_le (to_ascii_lowercase d) 57) h

    range : (nat_le 48 (to_ascii_lowercase d) ≡ true) × (nat_le (to_ascii_lowercase d) 57 ≡ true)
    range = and_parts (nat_le 48 (to_ascii_lowercase d)) (nat_le (to_ascii_lowercase d) 57) both.1

    one : (k l m : ℕ) → (k == dot) ≡ false → (l == dot) ≡ false → (m == dot) ≡ false → holds_along (λ x. named (k ∷ l ∷ m ∷ x ∷ [])) 48 10 ≡ true
        → ((to_ascii_lowercase a == k && to_ascii_lowercase b == l) && to_ascii_lowercase c == m) ≡ true → goal ≡ true
    one k l m first second third listed e =
        reserved-letters k l m a b c more first second third e
        ∙ ap (λ t. named (k ∷ l ∷ m ∷ str_to_ascii_lowercase t)) digit
        ∙ one_along (λ x. named (k ∷ l ∷ m ∷ x ∷ [])) 48 10 (to_ascii_lowercase d) listed (leb-true _ _ range.0) (omega (arith, leb-true _ _ range.1))

-- so a name that begins like a device, with a dot or its end behind that, stands for one
may-reserved : (name : List ℕ) → is_device name ≡ true → is_reserved windows name ≡ true
may-reserved [] h = cc
may-reserved (a ∷ []) h = cc
may-reserved (a ∷ b ∷ []) h = cc
may-reserved (a ∷ b ∷ c ∷ []) h = bare-reserved a b c [] refl h
may-reserved (a ∷ b ∷ c ∷ d ∷ []) h = by (d == dot) refl h
  where
    by : (s : Bool) → (d == dot) ≡ s
        → cond s (is_bare_device (to_ascii_lowercase a) (to_ascii_lowercase b) (to_ascii_lowercase c)) (is_numbered_device (to_ascii_lowercase a) (to_ascii_lowercase b) (to_ascii_lowercase c) (to_ascii_lowercase d)) ≡ true
        → is_reserved windows (a ∷ b ∷ c ∷ d ∷ []) ≡ true
    by s is like = grind (arith, bare-reserved, stem-byte, numbered-reserved)
may-reserved (a ∷ b ∷ c ∷ d ∷ e ∷ rest) h = by (d == dot) (e == dot) refl refl h
  where
    stem : before_first is_a_dot (d ∷ e ∷ rest) ≡ cond (d == dot) [] (d ∷ cond (e == dot) [] (e ∷ before_first is_a_dot rest))
    stem = stem-byte d (e ∷ rest) ∙ ap (λ t. cond (d == dot) [] (d ∷ t)) (stem-byte e rest)

    by : (s t : Bool) → (d == dot) ≡ s → (e == dot) ≡ t
        → cond s (is_bare_device (to_ascii_lowercase a) (to_ascii_lowercase b) (to_ascii_lowercase c)) (t && is_numbered_device (to_ascii_lowercase a) (to_ascii_lowercase b) (to_ascii_lowercase c) (to_ascii_lowercase d)) ≡ true
        → is_reserved windows (a ∷ b ∷ c ∷ d ∷ e ∷ rest) ≡ true
    by true t is ends like = bare-reserved a b c (d ∷ e ∷ rest) (stem ∙ ap (λ p. cond p [] (d ∷ cond (e == dot) [] (e ∷ before_first is_a_dot rest))) is) like
    by false true is ends like =
        numbered-reserved a b c d (d ∷ e ∷ rest)
        (stem ∙ ap (λ p. cond p [] (d ∷ cond (e == dot) [] (e ∷ before_first is_a_dot rest))) is ∙ ap (λ q. d ∷ cond q [] (e ∷ before_first is_a_dot rest)) ends) like
    by false false is ends like = cc

-- both ways: the first bytes of a name tell whether it stands for a device
pub devices_told : (name : List ℕ) → is_device name ≡ is_reserved windows name
devices_told name = grind (arith, may-reserved, reserved-device)

-- The names of a text are valid where no byte strays and no segment stands for a device.

-- what is no name breaks no rule of names
valid-empty : (d : Dialect) (piece : List ℕ) → (length piece == 0) ≡ true → is_valid_name d piece ≡ true
valid-empty unix [] h = refl
valid-empty windows [] h = refl
valid-empty d (a ∷ piece) h = absurd (omega (arith, eqb-true (length (a ∷ piece)) 0 h))

valid-dot : (d : Dialect) (piece : List ℕ) → is_dot piece ≡ true → is_valid_name d piece ≡ true
valid-dot unix (a ∷ []) h = ap (λ x. is_valid_name unix (x ∷ [])) (eqb-true a dot h)
valid-dot windows (a ∷ []) h = ap (λ x. is_valid_name windows (x ∷ [])) (eqb-true a dot h)
valid-dot d [] h = cc
valid-dot d (a ∷ b ∷ piece) h = cc

valid-dots : (d : Dialect) (piece : List ℕ) → is_dot_dot piece ≡ true → is_valid_name d piece ≡ true
valid-dots unix (a ∷ b ∷ []) h = ap (λ x. is_valid_name unix (x ∷ b ∷ [])) (eqb-true a dot (and_parts _ _ h).0) ∙ ap (λ x. is_valid_name unix (dot ∷ x ∷ [])) (eqb-true b dot (and_parts _ _ h).1)
valid-dots windows (a ∷ b ∷ []) h = ap (λ x. is_valid_name windows (x ∷ b ∷ [])) (eqb-true a dot (and_parts _ _ h).0) ∙ ap (λ x. is_valid_name windows (dot ∷ x ∷ [])) (eqb-true b dot (and_parts _ _ h).1)
valid-dots d [] h = cc
valid-dots d (a ∷ []) h = cc
valid-dots d (a ∷ b ∷ c ∷ piece) h = cc

-- the component of a piece is valid where the piece is a valid name
module _ (s : Separators) (d : Dialect) where
  valid-first : (piece : List ℕ) → is_valid_kind d (first_part s piece).kind ≡ is_valid_name d piece
  valid-first piece = grind (arith, valid-empty, valid-dot, valid-dots)

  valid-later : (piece : List ℕ) (more : List Part) → is_valid d (kinds (later_part s piece ++ more)) ≡ (is_valid_name d piece && is_valid d (kinds more))
  valid-later piece more = grind (arith, valid-empty, valid-dot, valid-dots)

  valid-later_parts : (ps : List (List ℕ)) → is_valid d (kinds (later_parts s ps)) ≡ list_all (is_valid_name d) ps
  valid-later_parts [] = refl
  valid-later_parts (p ∷ ps) = valid-later p (later_parts s ps) ∙ ap (λ b. is_valid_name d p && b) (valid-later_parts ps)

  valid-body_parts : (text : List ℕ) → is_valid d (kinds (body_parts s text)) ≡ list_all (is_valid_name d) (pieces s text)
  valid-body_parts [] = ap (λ b. b && true) (sym (valid-empty d [] refl))
  valid-body_parts (b ∷ bs) = by (pieces s (b ∷ bs)) (slice_split-some (is_separator s) (b ∷ bs)).2
    where
      by : {piece : List ℕ} {more : List (List ℕ)} (ps : List (List ℕ)) → ps ≡ piece ∷ more → is_valid d (kinds (first_parts s ps)) ≡ list_all (is_valid_name d) ps
      by ps e = grind (arith, later_parts, valid-first, valid-later_parts)

-- a name is valid by its bytes, and as it stands for no device
valid-both : (d : Dialect) (ps : List (List ℕ)) → list_all (is_valid_name d) ps ≡ (list_all (has_allowed_bytes d) ps && not (list_any (is_reserved d) ps))
valid-both d [] = refl
valid-both d (p ∷ ps) = grind (arith, common_steps, valid-both d ps)

-- the bytes of all pieces are allowed where none of the text strays
allowed-pieces : (s : Separators) (text : List ℕ) → list_all (has_allowed_bytes (dialect_of s)) (pieces s text) ≡ not (list_any (is_stray s) text)
allowed-pieces s [] = grind arith
allowed-pieces s (x ∷ xs) = grind (arith, pieces, slice_split-some, allowed-pieces s xs)

-- the names of a text behind its prefix
valid-body : (s : Separators) (at : ℕ) (text : List ℕ)
    → is_valid (dialect_of s) (kinds (parts (body s at text))) ≡ (not (list_any (is_stray s) text) && not (list_any (is_reserved (dialect_of s)) (pieces s text)))
valid-body s at text =
    ap (λ ps. is_valid (dialect_of s) (kinds ps)) (parts-body s at text) ∙ valid-body_parts s (dialect_of s) text ∙ valid-both (dialect_of s) (pieces s text)
    ∙ ap (λ b. b && not (list_any (is_reserved (dialect_of s)) (pieces s text))) (allowed-pieces s text)

-- the same, by what was found of stray bytes
pub valid-found : (s : Separators) (at : ℕ) (text : List ℕ) (stray found : Bool) → stray ≡ list_any (is_stray s) text → stray ≡ found
    → is_valid (dialect_of s) (kinds (parts (body s at text))) ≡ (not found && not (list_any (is_reserved (dialect_of s)) (pieces s text)))
valid-found s at text stray found told is = valid-body s at text ∙ ap (λ b. not b && not (list_any (is_reserved (dialect_of s)) (pieces s text))) (sym told ∙ is)

-- no name of Unix stands for a device
pub reserved-unix : (ps : List (List ℕ)) → list_any (is_reserved unix) ps ≡ false
reserved-unix [] = refl
reserved-unix (p ∷ ps) = reserved-unix ps

-- the names of a text are those behind its prefix
pub valid-windows : (t : List ℕ) (o : Option Found) → prefix_of windows t ≡ o
    → is_valid (dialect_of (separators windows t)) (kinds (parts (body (separators windows t) (raw_length o) (drop (raw_length o) t)))) ≡ is_valid windows (kinds (parts_of windows t))
valid-windows t o e =
    ap (λ d. is_valid d (kinds (parts (body (separators windows t) (raw_length o) (drop (raw_length o) t))))) (separators-windows t)
    ∙ by o ∙ ap (λ p. is_valid windows (kinds (parts (comps_behind (separators windows t) t p)))) (sym e)
  where
    by : (p : Option Found) → is_valid windows (kinds (parts (body (separators windows t) (raw_length p) (drop (raw_length p) t)))) ≡ is_valid windows (kinds (parts (comps_behind (separators windows t) t p)))
    by p = grind arith

-- a byte of a Unix text strays where it is NUL
stray-nul : (b : ℕ) → is_stray Slash b ≡ (b == 0)
stray-nul b = grind arith

-- the search for NUL finds a byte that strays
pub stray-slash : (text : List ℕ) (found : Option ℕ) → IsFirstByte (is_byte 0) text found → is_some found ≡ list_any (is_stray Slash) text
stray-slash text None nowhere =
    sym (list_any_none (is_stray Slash) text (λ k d within.
    ap (is_stray Slash) (get_or_default text k d 0 within) ∙ stray-nul (slice_index text k) ∙ false_from_ne_true _ (λ e. nowhere k (omega arith) within e)))
stray-slash text (Some n) (first, passes) =
    let within = first.high in
    sym (list_any_at (is_stray Slash) text n 0 within (stray-nul (slice_index text n) ∙ passes))
