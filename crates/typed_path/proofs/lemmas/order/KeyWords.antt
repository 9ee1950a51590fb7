-- The words of keys, read back: no two lists of components feed alike, whatever is fed behind them.
use Rattle.std.proofs.Common.{◌≡◌, ℕ, ◌+◌, ◌-◌, ◌^◌, ◌<◌, ◌≤◌, ◌==◌, Bool, true, false, List, [], ◌∷◌, ◌++◌, length, take, drop, Option, Some, None, refl, sym, ap, ap₂, ◌∙◌, arith, subst, append-nil, if◌then◌else◌, length-drop}
use Rattle.std.specs.Prelude.{nat_lt}
use Rattle.std.specs.List.{concat, flat_map, AllByRecursion, after_first, position_or_len}
use Rattle.std.specs.Hash.{HashWrites, u8, usize, le_bytes}
use Rattle.std.specs.Int.{w64, from_le_bytes}
use Rattle.std.proofs.lemmas.Nat.{from_le_bytes-to_le_bytes_8}
use Rattle.std.proofs.Math.Seq.{take-append_seam, drop-append_seam}
use Rattle.std.proofs.lemmas.Bool.{ltb-true, lt-ltb, le-ltb}
use Rattle.std.proofs.lemmas.List.{append_assoc}
use Rattle.std.proofs.lemmas.List.Folds.{concat-append}
use Rattle.std.proofs.lemmas.Option.{same_Some}
use Rattle.typed_path.specs.declared.scan.separators.Separators.{Separators}
use Rattle.typed_path.specs.declared.scan.separators.Separators.TheVariants.{Either}
use Rattle.typed_path.specs.components.{Dialect, unix, windows, verbatim, verbatim_unc, verbatim_disk, device_ns, unc, disk, Kind, prefix, root, current, parent, normal, Part, Placed, kinds, parts, parts_of, body, end_of, separators, is_separator, Found, prefix_of, second_name}
use Rattle.typed_path.specs.scan.{AreInOrder}
use Rattle.typed_path.specs.order.KeyWords.{IsKeyed, IsToldApart, kind_key_words, kinds_key_words, length_words, length_prefixed}
use Rattle.typed_path.proofs.lemmas.lists.Lists.{AllByRecursion-weaker}
use Rattle.typed_path.proofs.lemmas.components.Segments.{IsWritten, IsWrittenPart, body_parts, body_parts-read, each-written, parts-body, parts_behind, parts-comps_behind}
use Rattle.typed_path.proofs.lemmas.components.Cuts.{body_in_order}
use Rattle.typed_path.proofs.lemmas.components.Prefixes.{Read, of_verbatim_unc, of_verbatim_disk, of_verbatim, of_device, of_unc, of_disk, prefix-read, name-fits}

-- What was fed is read back from its bytes.

-- the bytes of two lists of words, and others behind them
joined : (us vs : HashWrites) (x : List ℕ) → concat (us ++ vs) ++ x ≡ concat us ++ (concat vs ++ x)
joined us vs x = ap (λ bs. bs ++ x) (concat-append us vs) ∙ append_assoc (concat us) (concat vs) x

-- a number that eight bytes hold is read back from them
le_bytes-read : (n : ℕ) (x : List ℕ) → n < 2 ^ 64 → (from_le_bytes w64 (take 8 (le_bytes 8 n ++ x)) ≡ n) × (drop 8 (le_bytes 8 n ++ x) ≡ x)
unfolding le_bytes
le_bytes-read n x fits = (from_le_bytes-to_le_bytes_8 n fits, refl)

-- how many bytes come, and what stands behind the words that tell it
abbrev read_length : List ℕ → ℕ × List ℕ
read_length [] = (0, [])
read_length (h ∷ bs) = if nat_lt h 255 then (h - 10, bs) else (from_le_bytes w64 (take 8 bs), drop 8 bs)

length-read : (n : ℕ) (x : List ℕ) → n < 2 ^ 64 → read_length (concat (length_words n) ++ x) ≡ (n, x)
length-read n x fits = by (nat_lt n 245) refl
  where
    by : (b : Bool) → nat_lt n 245 ≡ b → read_length (concat (if b then u8 (10 + n) else u8 255 ++ usize n) ++ x) ≡ (n, x)
    by true e =
        let short : n < 245 = ltb-true n 245 e in
        let below : nat_lt (10 + n) 255 ≡ true = lt-ltb (10 + n) 255 (omega (arith, short)) in
        let same : 10 + n - 10 ≡ n = omega arith in
        rw (below, same) refl
    by false e =
        let read = le_bytes-read n x fits in
        ap (λ bs. (from_le_bytes w64 (take 8 (bs ++ x)), drop 8 (bs ++ x))) (append-nil (le_bytes 8 n)) ∙ ap₂ (λ m y. (m, y)) read.0 read.1

-- bytes behind their number, and what follows them
abbrev cut : ℕ × List ℕ → List ℕ × List ℕ
cut r = (take r.0 r.1, drop r.0 r.1)

abbrev read_prefixed : List ℕ → List ℕ × List ℕ
read_prefixed bs = cut (read_length bs)

length_prefixed-read : (a x : List ℕ) → length a < 2 ^ 64 → read_prefixed (concat (length_prefixed a) ++ x) ≡ (a, x)
length_prefixed-read a x fits =
    ap read_prefixed (joined (length_words (length a)) (a ∷ []) x ∙ ap (λ bs. concat (length_words (length a)) ++ (bs ++ x)) (append-nil a))
    ∙ ap cut (length-read (length a) (a ++ x) fits)
    ∙ ap₂ (λ u v. (u, v)) (take-append_seam a x) (drop-append_seam a x)

-- a component by the number of its kind, and what stands behind it
abbrev Reads : Type 0
Reads = Option (Kind × List ℕ)

abbrev named : (List ℕ → Kind) → List ℕ → Reads
named make bs = Some (make (read_prefixed bs).0, (read_prefixed bs).1)

abbrev twice_named : (List ℕ → List ℕ → Kind) → List ℕ → Reads
twice_named make bs = Some (make (read_prefixed bs).0 (read_prefixed (read_prefixed bs).1).0, (read_prefixed (read_prefixed bs).1).1)

abbrev lettered : (ℕ → Kind) → List ℕ → Reads
lettered make [] = None
lettered make (b ∷ bs) = Some (make b, bs)

abbrev read_numbered : ℕ → List ℕ → Reads
read_numbered h bs =
    if h == 1 then named (λ a. prefix (verbatim a)) bs
    else (if h == 2 then twice_named (λ a b. prefix (verbatim_unc a b)) bs
    else (if h == 3 then lettered (λ l. prefix (verbatim_disk l)) bs
    else (if h == 4 then named (λ a. prefix (device_ns a)) bs
    else (if h == 5 then twice_named (λ a b. prefix (unc a b)) bs
    else (if h == 6 then lettered (λ l. prefix (disk l)) bs
    else (if h == 7 then Some (root, bs)
    else (if h == 8 then Some (current, bs)
    else (if h == 9 then Some (parent, bs) else None))))))))

abbrev read_kind : List ℕ → Reads
read_kind [] = None
read_kind (h ∷ bs) = if nat_lt h 10 then read_numbered h bs else named normal (h ∷ bs)

-- a component each of whose names has at most so many bytes
abbrev pub HasNamesUpTo : ℕ → Kind → Type 0
HasNamesUpTo n (prefix (verbatim a)) = length a ≤ n
HasNamesUpTo n (prefix (verbatim_unc a b)) = (length a ≤ n) × (length b ≤ n)
HasNamesUpTo n (prefix (verbatim_disk l)) = Unit {0}
HasNamesUpTo n (prefix (device_ns a)) = length a ≤ n
HasNamesUpTo n (prefix (unc a b)) = (length a ≤ n) × (length b ≤ n)
HasNamesUpTo n (prefix (disk l)) = Unit {0}
HasNamesUpTo n root = Unit {0}
HasNamesUpTo n current = Unit {0}
HasNamesUpTo n parent = Unit {0}
HasNamesUpTo n (normal a) = length a ≤ n

-- two names are read back
twice_named-read : (make : List ℕ → List ℕ → Kind) (a b x : List ℕ) → length a < 2 ^ 64 → length b < 2 ^ 64 → twice_named make (concat (length_prefixed a ++ length_prefixed b) ++ x) ≡ Some (make a b, x)
twice_named-read make a b x first second =
    ap (twice_named make) (joined (length_prefixed a) (length_prefixed b) x)
    ∙ ap (λ r. Some (make r.0 (read_prefixed r.1).0, (read_prefixed r.1).1)) (length_prefixed-read a (concat (length_prefixed b) ++ x) first)
    ∙ ap (λ r. Some (make a r.0, r.1)) (length_prefixed-read b x second)

-- a length begins with a byte that is the number of no other kind
length-begins : (n : ℕ) (x : List ℕ) → (h : ℕ) × (bs : List ℕ) × ((concat (length_words n) ++ x ≡ h ∷ bs) × (10 ≤ h))
length-begins n x = by (nat_lt n 245)
  where
    by : (b : Bool) → (h : ℕ) × (bs : List ℕ) × ((concat (if b then u8 (10 + n) else u8 255 ++ usize n) ++ x ≡ h ∷ bs) × (10 ≤ h))
    by true = (10 + n, x, (refl, omega arith))
    by false = (255, (le_bytes 8 n ++ []) ++ x, (refl, omega arith))

-- so what begins with one is read as a name
named-read : (bs : List ℕ) (h : ℕ) (rest : List ℕ) → bs ≡ h ∷ rest → 10 ≤ h → read_kind bs ≡ named normal bs
named-read bs h rest is high =
    let above : nat_lt h 10 ≡ false = le-ltb h 10 high in
    ap read_kind is ∙ ap (λ b. if b then read_numbered h rest else named normal (h ∷ rest)) above ∙ ap (named normal) (sym is)

-- what reads nothing reads no component
none-some : (r : Kind × List ℕ) → None ≡ Some r → ⊥
none-some r e = cc

module _ (n : ℕ) (fits : n < 2 ^ 64) where
  -- a component is read back
  kind-read : (k : Kind) (x : List ℕ) → HasNamesUpTo n k → read_kind (concat (kind_key_words k) ++ x) ≡ Some (k, x)
  kind-read (prefix (verbatim a)) x h = ap (λ r. Some (prefix (verbatim r.0), r.1)) (length_prefixed-read a x (omega (arith, h, fits)))
  kind-read (prefix (verbatim_unc a b)) x h = twice_named-read (λ c d. prefix (verbatim_unc c d)) a b x (omega (arith, h.0, fits)) (omega (arith, h.1, fits))
  kind-read (prefix (verbatim_disk l)) x h = refl
  kind-read (prefix (device_ns a)) x h = ap (λ r. Some (prefix (device_ns r.0), r.1)) (length_prefixed-read a x (omega (arith, h, fits)))
  kind-read (prefix (unc a b)) x h = twice_named-read (λ c d. prefix (unc c d)) a b x (omega (arith, h.0, fits)) (omega (arith, h.1, fits))
  kind-read (prefix (disk l)) x h = refl
  kind-read root x h = refl
  kind-read current x h = refl
  kind-read parent x h = refl
  kind-read (normal a) x h =
      let begins = length-begins (length a) ((a ++ []) ++ x) in
      let whole = joined (length_words (length a)) (a ∷ []) x ∙ begins.2.0 in
      named-read (concat (length_prefixed a) ++ x) begins.0 begins.1 whole begins.2.1
      ∙ ap (λ r. Some (normal r.0, r.1)) (length_prefixed-read a x (omega (arith, h, fits)))

  -- the first component of a list is, and the words of the others are left
  next : (k : Kind) (ks : List Kind) (x : List ℕ) → HasNamesUpTo n k → read_kind (concat (kinds_key_words (k ∷ ks)) ++ x) ≡ Some (k, concat (kinds_key_words ks) ++ x)
  next k ks x h =
      ap read_kind (ap (λ ws. concat ws ++ x) (append_assoc (kind_key_words k) (flat_map kind_key_words ks) (u8 0)) ∙ joined (kind_key_words k) (kinds_key_words ks) x)
      ∙ kind-read k (concat (kinds_key_words ks) ++ x) h

  -- the bytes of two lists tell them apart, with what follows
  kinds-told : (ks ls : List Kind) (x y : List ℕ) → AllByRecursion (HasNamesUpTo n) ks → AllByRecursion (HasNamesUpTo n) ls
      → concat (kinds_key_words ks) ++ x ≡ concat (kinds_key_words ls) ++ y → (ks ≡ ls) × (x ≡ y)
  kinds-told [] [] x y own other e = (refl, ap (drop 1) e)
  kinds-told [] (l ∷ ls) x y own other e = absurd (none-some (l, concat (kinds_key_words ls) ++ y) (ap read_kind e ∙ next l ls y other.0))
  kinds-told (k ∷ ks) [] x y own other e = absurd (none-some (k, concat (kinds_key_words ks) ++ x) (sym (ap read_kind e) ∙ next k ks x own.0))
  kinds-told (k ∷ ks) (l ∷ ls) x y own other e =
      let both = same_Some (k, concat (kinds_key_words ks) ++ x) (l, concat (kinds_key_words ls) ++ y) (sym (next k ks x own.0) ∙ ap read_kind e ∙ next l ls y other.0) in
      let rest = kinds-told ks ls x y own.1 other.1 (ap (λ p. p.1) both) in
      (ap₂ (λ m ms. m ∷ ms) (ap (λ p. p.0) both) rest.0, rest.1)

-- No name of a path has more bytes than the path.

-- what stands in order within a text has no more bytes than it
in_order-within : (at end : ℕ) (cs : List Placed) → AreInOrder at end cs → (at ≤ end) × AllByRecursion (λ p. length p.text ≤ end) (parts cs)
in_order-within at end [] order = (order, tt)
in_order-within at end (c ∷ cs) order =
    let rest = in_order-within (end_of c) end cs order.1 in
    (omega (arith, order.0, rest.0), (omega (arith, order.0, rest.0), rest.1))

-- both of what holds of each element
both-hold : {X : Type 0} (P Q : X → Type 0) (xs : List X) → AllByRecursion P xs → AllByRecursion Q xs → AllByRecursion (λ x. P x × Q x) xs
both-hold P Q [] p q = tt
both-hold P Q (x ∷ xs) p q = ((p.0, q.0), both-hold P Q xs p.1 q.1)

written-names : (s : Separators) (n : ℕ) (k : Kind) (text : List ℕ) → IsWritten s k text → length text ≤ n → HasNamesUpTo n k
written-names s n (prefix p) text written fits = absurd written
written-names s n root text written fits = tt
written-names s n current text written fits = tt
written-names s n parent text written fits = tt
written-names s n (normal a) text written fits = omega (arith, ap length written.0, fits)

kinds-up_to : (n : ℕ) (ps : List Part) → AllByRecursion (λ p. HasNamesUpTo n p.kind) ps → AllByRecursion (HasNamesUpTo n) (kinds ps)
kinds-up_to n [] h = tt
kinds-up_to n (p ∷ ps) h = (h.0, kinds-up_to n ps h.1)

-- the components of a text without a prefix
body-names : (s : Separators) (n : ℕ) (text : List ℕ) → length text ≤ n → AllByRecursion (λ p. HasNamesUpTo n p.kind) (body_parts s text)
body-names s n text fits =
    let sizes = subst (AllByRecursion (λ p. length p.text ≤ 0 + length text)) (parts-body s 0 text) (in_order-within 0 (0 + length text) (body s 0 text) (body_in_order s 0 text)).1 in
    let written = each-written s (body_parts s text) (body_parts-read s text) in
    AllByRecursion-weaker (λ p. IsWrittenPart s p × (length p.text ≤ 0 + length text)) (λ p. HasNamesUpTo n p.kind)
    (λ p h. written-names s n p.kind p.text h.0 (omega (arith, h.1, fits))) (body_parts s text)
    (both-hold (IsWrittenPart s) (λ p. length p.text ≤ 0 + length text) (body_parts s text) written sizes)

-- a second name has no more bytes than what it stands in
second_name-fits : (s : Separators) (text : List ℕ) → length (second_name s text) ≤ length text
second_name-fits s text = omega (arith, name-fits s (after_first (is_separator s) text), length-drop (position_or_len (is_separator s) text + 1) text)

-- a prefix
read-names : (s : Separators) (n : ℕ) (text : List ℕ) (f : Found) → Read s text f → length text ≤ n → HasNamesUpTo n (prefix f.prefix)
read-names s n text f (of_verbatim_unc rest mark filled) fits = (omega (arith, mark.size, name-fits s rest, fits), omega (arith, mark.size, second_name-fits s rest, fits))
read-names s n text f (of_verbatim_disk rest letter mark drive) fits = tt
read-names s n text f (of_verbatim rest mark filled no_unc no_drive) fits = omega (arith, mark.size, name-fits s rest, fits)
read-names s n text f (of_device rest mark filled) fits = omega (arith, mark.size, name-fits Either rest, fits)
read-names s n text f (of_unc rest mark filled no_verbatim no_device) fits = (omega (arith, mark.size, name-fits Either rest, fits), omega (arith, mark.size, second_name-fits Either rest, fits))
read-names s n text f (of_disk letter drive) fits = tt

-- the components of a text, by its prefix
behind-names : (s : Separators) (n : ℕ) (text : List ℕ) (o : Option Found) → ((f : Found) → o ≡ Some f → HasNamesUpTo n (prefix f.prefix)) → length text ≤ n
    → AllByRecursion (λ p. HasNamesUpTo n p.kind) (parts_behind s text o)
behind-names s n text None names fits = body-names s n text fits
behind-names s n text (Some f) names fits = (names f refl, body-names s n (drop f.length text) (omega (arith, length-drop f.length text, fits)))

prefix-names : (d : Dialect) (text : List ℕ) (f : Found) → prefix_of d text ≡ Some f → HasNamesUpTo (length text) (prefix f.prefix)
prefix-names unix text f e = cc
prefix-names windows text f e = read-names (separators windows text) (length text) text f (prefix-read text f e) (omega arith)

path-names : (d : Dialect) (t : List ℕ) → AllByRecursion (HasNamesUpTo (length t)) (kinds (parts_of d t))
path-names d t = kinds-up_to (length t) (parts_of d t)
    (subst (AllByRecursion (λ p. HasNamesUpTo (length t) p.kind)) (sym (parts-comps_behind (separators d t) t (prefix_of d t)))
    (behind-names (separators d t) (length t) t (prefix_of d t) (prefix-names d t) (omega arith)))

-- The words of paths.

up_to-weaker : (n m : ℕ) (k : Kind) → n ≤ m → HasNamesUpTo n k → HasNamesUpTo m k
up_to-weaker n m (prefix (verbatim a)) more h = omega (arith, more, h)
up_to-weaker n m (prefix (verbatim_unc a b)) more h = (omega (arith, more, h.0), omega (arith, more, h.1))
up_to-weaker n m (prefix (verbatim_disk l)) more h = tt
up_to-weaker n m (prefix (device_ns a)) more h = omega (arith, more, h)
up_to-weaker n m (prefix (unc a b)) more h = (omega (arith, more, h.0), omega (arith, more, h.1))
up_to-weaker n m (prefix (disk l)) more h = tt
up_to-weaker n m root more h = tt
up_to-weaker n m current more h = tt
up_to-weaker n m parent more h = tt
up_to-weaker n m (normal a) more h = omega (arith, more, h)

-- the bytes that a path feeds tell its components, and what follows
pub told_apart : (d : Dialect) (t u : List ℕ) → length t < 2 ^ 64 → length u < 2 ^ 64 → IsToldApart d t u
told_apart d t u fits other_fits x y e =
    let max : ℕ = 18446744073709551615 in
    let own = AllByRecursion-weaker (HasNamesUpTo (length t)) (HasNamesUpTo max) (λ k h. up_to-weaker (length t) max k (omega (arith, fits)) h) (kinds (parts_of d t)) (path-names d t) in
    let others = AllByRecursion-weaker (HasNamesUpTo (length u)) (HasNamesUpTo max) (λ k h. up_to-weaker (length u) max k (omega (arith, other_fits)) h) (kinds (parts_of d u)) (path-names d u) in
    kinds-told max (omega arith) (kinds (parts_of d t)) (kinds (parts_of d u)) x y own others e

-- two paths feed the same words exactly if they have the same components
pub keyed : (d : Dialect) (t u : List ℕ) → length t < 2 ^ 64 → length u < 2 ^ 64 → IsKeyed d t u
keyed d t u fits other_fits = (
  (λ e. (told_apart d t u fits other_fits [] [] (ap (λ ws. concat ws ++ []) e)).0),
  λ same. ap kinds_key_words same,
)
