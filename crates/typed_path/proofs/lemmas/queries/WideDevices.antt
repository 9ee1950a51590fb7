-- Names that may be devices: the rule that tells most takes in the narrower ones, and what such a name begins with.
use Rattle.std.proofs.Common.{◌≡◌, ℕ, zero, suc, List, [], ◌∷◌, Bool, true, false, ◌||◌, ◌&&◌, ◌==◌, not, length, take, refl, sym, ap, ◌∙◌, arith, cond, ◌<◌, ◌≤◌, ◌+◌, ◌-◌, ◌^◌, ◌/◌, ◌%◌, get_or, subst, drop, reverse, All, get_or-drop, take-append-drop, length-drop, inl, inr, true≢false}
use Rattle.std.specs.List.{list_any, before_first, position_or_len, suffix_len, AllByRecursion}
use Rattle.std.specs.Str.{str_eq_ignore_ascii_case, str_to_ascii_lowercase}
use Rattle.std.specs.Char.{to_ascii_lowercase}
use Rattle.std.proofs.lemmas.Bool.{not-true, false_from_ne_true, or_parts, or_cases}
use Rattle.std.proofs.lemmas.List.{take_all, get_or-reverse}
use Rattle.std.proofs.lemmas.List.Folds.{list_any_at, list_any_none, list_any-append}
use Rattle.std.proofs.lemmas.List.Sums.{suffix_len_is, suffix_len-le-length, prefix_len_passes}
use Rattle.typed_path.specs.components.{windows, dot, colon}
use Rattle.typed_path.specs.changes.{begins_as_device, is_in}
use Rattle.typed_path.specs.queries.{is_a_dot, is_a_colon, reserved_names, is_reserved, is_a_space, space, without_last_spaces, is_device_stem, is_further_device, further_devices, is_taken_for_device, name_may_be_device}
use Rattle.typed_path.proofs.lemmas.lists.Lists.{before_first-byte}
use Rattle.typed_path.proofs.lemmas.queries.ValidNames.{one_of}

-- Names that may be devices: the rule that tells most takes in the narrower ones, and what such a name begins with.

-- ---- what stands before the first byte that passes

before_first-none : (p : ℕ → Bool) (bs : List ℕ) → list_any p bs ≡ false → before_first p bs ≡ bs
before_first-none p [] none = refl
before_first-none p (b ∷ bs) none = by (p b) none (before_first-none p bs) (before_first-byte p b bs)
  where
    by : (q : Bool) → (q || list_any p bs) ≡ false → (list_any p bs ≡ false → before_first p bs ≡ bs) → before_first p (b ∷ bs) ≡ cond q [] (b ∷ before_first p bs) → before_first p (b ∷ bs) ≡ b ∷ bs
    by true h again e = cc
    by false h again e = e ∙ ap (λ t. b ∷ t) (again h)

-- a name in front of whose first dot no `:` stands has the same stem without what stands behind its first `:`
stem-before_colon : (name : List ℕ) → list_any is_a_colon (before_first is_a_dot name) ≡ false → before_first is_a_dot (before_first is_a_colon name) ≡ before_first is_a_dot name
stem-before_colon [] none = refl
stem-before_colon (b ∷ bs) none =
    by (b == dot) (b == colon) refl refl (subst (λ t. list_any is_a_colon t ≡ false) (before_first-byte is_a_dot b bs) none) (stem-before_colon bs)
  where
    apart : true ≡ false → ⊥
    apart e = cc

    colons : (q : Bool) → (b == colon) ≡ q → before_first is_a_colon (b ∷ bs) ≡ cond q [] (b ∷ before_first is_a_colon bs)
    colons q e = before_first-byte is_a_colon b bs ∙ ap (λ r. cond r [] (b ∷ before_first is_a_colon bs)) e

    dots : (p : Bool) → (b == dot) ≡ p → (ys : List ℕ) → before_first is_a_dot (b ∷ ys) ≡ cond p [] (b ∷ before_first is_a_dot ys)
    dots p e ys = before_first-byte is_a_dot b ys ∙ ap (λ r. cond r [] (b ∷ before_first is_a_dot ys)) e

    by : (p q : Bool) → (b == dot) ≡ p → (b == colon) ≡ q → list_any is_a_colon (cond p [] (b ∷ before_first is_a_dot bs)) ≡ false
        → (list_any is_a_colon (before_first is_a_dot bs) ≡ false → before_first is_a_dot (before_first is_a_colon bs) ≡ before_first is_a_dot bs)
        → before_first is_a_dot (before_first is_a_colon (b ∷ bs)) ≡ before_first is_a_dot (b ∷ bs)
    by true true is other h again = ap (before_first is_a_dot) (colons true other) ∙ sym (dots true is bs)
    by true false is other h again = ap (before_first is_a_dot) (colons false other) ∙ dots true is (before_first is_a_colon bs) ∙ sym (dots true is bs)
    by false true is other h again = absurd (apart (sym (ap (λ x. x || list_any is_a_colon (before_first is_a_dot bs)) other) ∙ h))
    by false false is other h again =
        ap (before_first is_a_dot) (colons false other) ∙ dots false is (before_first is_a_colon bs)
        ∙ ap (λ t. b ∷ t) (again (sym (ap (λ x. x || list_any is_a_colon (before_first is_a_dot bs)) other) ∙ h)) ∙ sym (dots false is bs)

-- ---- the names of devices

-- a byte that is no letter
abbrev lacks : ℕ → List ℕ → Bool
lacks c text = not (list_any (λ b. b == c) text)

small-colon : (b : ℕ) → (to_ascii_lowercase b == colon) ≡ (b == colon)
small-colon b = grind arith

small-space : (b : ℕ) → (to_ascii_lowercase b == space) ≡ (b == space)
small-space b = grind arith

small-dot : (b : ℕ) → (to_ascii_lowercase b == dot) ≡ (b == dot)
small-dot b = grind arith

any-small : (c : ℕ) → ((b : ℕ) → (to_ascii_lowercase b == c) ≡ (b == c)) → (text : List ℕ) → list_any (λ b. b == c) (str_to_ascii_lowercase text) ≡ list_any (λ b. b == c) text
any-small c same [] = refl
any-small c same (b ∷ bs) = ap (λ x. x || list_any (λ a. a == c) (str_to_ascii_lowercase bs)) (same b) ∙ ap (λ x. (b == c) || x) (any-small c same bs)

-- a text that is the name of a device, case aside, has none of these bytes
reserved-lacks : (c : ℕ) → ((b : ℕ) → (to_ascii_lowercase b == c) ≡ (b == c)) → AllByRecursion (λ name. lacks c (str_to_ascii_lowercase name) ≡ true) reserved_names
    → (text : List ℕ) → list_any (λ device. str_eq_ignore_ascii_case text device) reserved_names ≡ true → list_any (λ b. b == c) text ≡ false
reserved-lacks c same each text h = sym (any-small c same text) ∙ not-true _ (one_of (lacks c) text reserved_names each h)

each-lacks_colon : AllByRecursion (λ name. lacks colon (str_to_ascii_lowercase name) ≡ true) reserved_names
each-lacks_colon = (refl, (refl, (refl, (refl, (refl, (refl, (refl, (refl, (refl, (refl, (refl, (refl, (refl, (refl, (refl, (refl, (refl, (refl, (refl, (refl, (refl, (refl, (refl, (refl, tt))))))))))))))))))))))))

each-lacks_space : AllByRecursion (λ name. lacks space (str_to_ascii_lowercase name) ≡ true) reserved_names
each-lacks_space = (refl, (refl, (refl, (refl, (refl, (refl, (refl, (refl, (refl, (refl, (refl, (refl, (refl, (refl, (refl, (refl, (refl, (refl, (refl, (refl, (refl, (refl, (refl, (refl, tt))))))))))))))))))))))))

each-lacks_dot : AllByRecursion (λ name. lacks dot (str_to_ascii_lowercase name) ≡ true) reserved_names
each-lacks_dot = (refl, (refl, (refl, (refl, (refl, (refl, (refl, (refl, (refl, (refl, (refl, (refl, (refl, (refl, (refl, (refl, (refl, (refl, (refl, (refl, (refl, (refl, (refl, (refl, tt))))))))))))))))))))))))

-- a text without a space has none at its end
spaceless : (text : List ℕ) → list_any is_a_space text ≡ false → without_last_spaces text ≡ text
spaceless text none = ap (λ n. take (length text - n) text) ends ∙ take_all (length text - 0) text (omega arith)
  where
    last : 0 < length text → is_a_space (get_or text (length text - 1) 0) ≡ false
    last some = false_from_ne_true _ (λ is. both (sym (list_any_at is_a_space text (length text - 1) 0 (omega (arith, some)) is) ∙ none))
      where
        both : true ≡ false → ⊥
        both e = cc

    ends : suffix_len is_a_space text ≡ 0
    ends = suffix_len_is is_a_space text (length text) 0 (omega arith) (λ k low high. absurd (omega (arith, low, high))) last ∙ omega arith

module _ (name : List ℕ) (h : is_reserved windows name ≡ true) where
  abbrev stem : List ℕ
  stem = before_first is_a_dot name

  -- the narrow rule of valid names
  pub reserved_is_wide : name_may_be_device name ≡ true
  reserved_is_wide =
      ap (λ t. is_device_stem (without_last_spaces t)) (stem-before_colon name (reserved-lacks colon small-colon each-lacks_colon stem h))
      ∙ ap is_device_stem (spaceless stem (reserved-lacks space small-space each-lacks_space stem h))
      ∙ ap (λ t. list_any (λ device. str_eq_ignore_ascii_case t device) reserved_names || is_further_device stem)
      (before_first-none is_a_dot stem (reserved-lacks dot small-dot each-lacks_dot stem h))
      ∙ ap (λ b. b || is_further_device stem) h

-- ---- the rule that looks behind spaces

-- nothing that passes stands before the first element that does
any-before_first : (p : ℕ → Bool) (bs : List ℕ) → list_any p (before_first p bs) ≡ false
any-before_first p [] = refl
any-before_first p (b ∷ bs) = ap (list_any p) (before_first-byte p b bs) ∙ by (p b) refl (any-before_first p bs)
  where
    by : (q : Bool) → p b ≡ q → list_any p (before_first p bs) ≡ false → list_any p (cond q [] (b ∷ before_first p bs)) ≡ false
    by true is rest = refl
    by false is rest = ap (λ x. x || list_any p (before_first p bs)) is ∙ rest

each-further_lacks_colon : AllByRecursion (λ name. lacks colon (str_to_ascii_lowercase name) ≡ true) further_devices
each-further_lacks_colon = (refl, (refl, (refl, (refl, (refl, (refl, (refl, (refl, tt))))))))

further-lacks_colon : (text : List ℕ) → is_further_device text ≡ true → list_any is_a_colon text ≡ false
further-lacks_colon text h = sym (any-small colon small-colon text) ∙ not-true _ (one_of (lacks colon) text further_devices each-further_lacks_colon h)

-- how many bytes stand before the spaces at the end
abbrev kept_length : List ℕ → ℕ
kept_length text = length text - suffix_len is_a_space text

-- what is cut off there is spaces
cut-spaces : (text : List ℕ) → list_any is_a_colon (drop (kept_length text) text) ≡ false
cut-spaces text = list_any_none is_a_colon (drop (kept_length text) text) each
  where
    apart : (b : ℕ) → is_a_space b ≡ true → is_a_colon b ≡ false
    apart b h = grind arith

    space_at : (i : ℕ) (d : ℕ) → kept_length text ≤ i → i < length text → is_a_space (get_or text i d) ≡ true
    space_at i d low high =
        let back : length text - 1 - (length text - 1 - i) ≡ i = omega (arith, high) in
        ap is_a_space (ap (λ m. get_or text m d) (sym back) ∙ sym (get_or-reverse text (length text - 1 - i) d (omega (arith, high))))
        ∙ prefix_len_passes is_a_space (reverse text) (length text - 1 - i) d (omega (arith, low, high, suffix_len-le-length is_a_space text))

    each : All (λ b. is_a_colon b ≡ false) (drop (kept_length text) text)
    each k d low =
        apart (get_or (drop (kept_length text) text) k d)
        (ap is_a_space (get_or-drop (kept_length text) text k d) ∙ space_at (kept_length text + k) d (omega arith) (omega (arith, low, length-drop (kept_length text) text)))

module _ (name : List ℕ) (h : is_taken_for_device name ≡ true) where
  abbrev taken_stem : List ℕ
  taken_stem = before_first is_a_dot name

  abbrev cut_stem : List ℕ
  cut_stem = without_last_spaces taken_stem

  split : (p : ℕ → Bool) → list_any p taken_stem ≡ (list_any p cut_stem || list_any p (drop (kept_length taken_stem) taken_stem))
  split p =
      ap (list_any p) (sym (take-append-drop (kept_length taken_stem) taken_stem)) ∙ list_any-append p (take (kept_length taken_stem) taken_stem) (drop (kept_length taken_stem) taken_stem)

  undotted_stem : before_first is_a_dot cut_stem ≡ cut_stem
  undotted_stem = before_first-none is_a_dot cut_stem (or_parts _ _ (sym (split is_a_dot) ∙ any-before_first is_a_dot name)).0

  colonless_cut : list_any is_a_colon cut_stem ≡ false
  colonless_cut = by (is_reserved windows cut_stem) (is_further_device cut_stem) refl refl h
    where
      by : (p q : Bool) → is_reserved windows cut_stem ≡ p → is_further_device cut_stem ≡ q → (p || q) ≡ true → list_any is_a_colon cut_stem ≡ false
      by true q is other e = sym (ap (list_any is_a_colon) undotted_stem) ∙ reserved-lacks colon small-colon each-lacks_colon (before_first is_a_dot cut_stem) is
      by false true is other e = further-lacks_colon cut_stem other
      by false false is other e = cc

  -- the rule of simplified paths
  pub taken_is_wide : name_may_be_device name ≡ true
  taken_is_wide =
      ap (λ t. is_device_stem (without_last_spaces t))
      (stem-before_colon name (split is_a_colon ∙ ap (λ x. x || list_any is_a_colon (drop (kept_length taken_stem) taken_stem)) colonless_cut ∙ cut-spaces taken_stem))
      ∙ h

-- ---- what such a name begins with

-- a byte and its small letter name one bit of a set
small-in : (set b : ℕ) → is_in set (to_ascii_lowercase b) ≡ is_in set b
small-in set b = ap (λ n. set / 2 ^ n % 2 == 1) low
  where
    low : to_ascii_lowercase b % 32 ≡ b % 32
    low = grind arith

-- so a text begins as a device where it does in small letters
small-begins : (text : List ℕ) → begins_as_device (str_to_ascii_lowercase text) ≡ begins_as_device text
small-begins [] = refl
small-begins (a ∷ []) = refl
small-begins (a ∷ b ∷ []) = refl
small-begins (a ∷ b ∷ c ∷ rest) =
    ap (λ x. x && (is_in 2457600 (to_ascii_lowercase b) && is_in 17854464 (to_ascii_lowercase c))) (small-in 86026 a)
    ∙ ap (λ x. is_in 86026 a && (x && is_in 17854464 (to_ascii_lowercase c))) (small-in 2457600 b)
    ∙ ap (λ x. is_in 86026 a && (is_in 2457600 b && x)) (small-in 17854464 c)

-- and where a beginning of it does
begins-take : (n : ℕ) (text : List ℕ) → begins_as_device (take n text) ≡ true → begins_as_device text ≡ true
begins-take zero text h = cc
begins-take (suc zero) [] h = cc
begins-take (suc zero) (a ∷ rest) h = cc
begins-take (suc (suc zero)) [] h = cc
begins-take (suc (suc zero)) (a ∷ []) h = cc
begins-take (suc (suc zero)) (a ∷ b ∷ rest) h = cc
begins-take (suc (suc (suc n))) [] h = cc
begins-take (suc (suc (suc n))) (a ∷ []) h = cc
begins-take (suc (suc (suc n))) (a ∷ b ∷ []) h = cc
begins-take (suc (suc (suc n))) (a ∷ b ∷ c ∷ rest) h = h

each_begins : AllByRecursion (λ name. begins_as_device (str_to_ascii_lowercase name) ≡ true) reserved_names
each_begins = (refl, (refl, (refl, (refl, (refl, (refl, (refl, (refl, (refl, (refl, (refl, (refl, (refl, (refl, (refl, (refl, (refl, (refl, (refl, (refl, (refl, (refl, (refl, (refl, tt))))))))))))))))))))))))

each-further_begins : AllByRecursion (λ name. begins_as_device (str_to_ascii_lowercase name) ≡ true) further_devices
each-further_begins = (refl, (refl, (refl, (refl, (refl, (refl, (refl, (refl, tt))))))))

-- the name of a device begins as one
stem-begins : (stem : List ℕ) → is_device_stem stem ≡ true → begins_as_device stem ≡ true
stem-begins stem h = elim (or_cases (is_reserved windows stem) (is_further_device stem) h) [
  | inl narrow ↦
      begins-take (position_or_len is_a_dot stem) stem
      (sym (small-begins (before_first is_a_dot stem)) ∙ one_of begins_as_device (before_first is_a_dot stem) reserved_names each_begins narrow)
  | inr further ↦ sym (small-begins stem) ∙ one_of begins_as_device stem further_devices each-further_begins further
]

-- and so does a name that may be one
device-begins : (name : List ℕ) → name_may_be_device name ≡ true → begins_as_device name ≡ true
device-begins name h =
    let front = before_first is_a_colon name in
    let stem = before_first is_a_dot front in
    begins-take (position_or_len is_a_colon name) name
    (begins-take (position_or_len is_a_dot front) front
    (begins-take (length stem - suffix_len is_a_space stem) stem (stem-begins (without_last_spaces stem) h)))

-- one that begins otherwise is none
pub unlike-none : (name : List ℕ) → begins_as_device name ≡ false → name_may_be_device name ≡ false
unlike-none name unlike = false_from_ne_true _ (λ is. true≢false (sym (device-begins name is) ∙ unlike))
