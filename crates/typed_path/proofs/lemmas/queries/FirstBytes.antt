-- Paths of Windows that begin otherwise, as their first bytes tell.
use Rattle.std.proofs.Common.{get_or, ◌≡◌, ℕ, suc, ◌-◌, ◌+◌, ◌≤◌, ◌<◌, ◌==◌, List, [], ◌∷◌, Bool, true, false, ◌&&◌, cond, length, take, drop, Option, Some, None, refl, ap, ap₂, ◌∙◌, arith, eqb-true}
use Rattle.std.proofs.lemmas.Grind.{common_steps}
use Rattle.std.specs.Option.{option_or}
use Rattle.std.specs.Prelude.{◌≢◌, option_and_then}
use Rattle.std.specs.Str.{bytes_eq}
use Rattle.std.proofs.Math.Bool.{or-true}
use Rattle.std.proofs.Math.Dec.{eqb-suc-zero}
use Rattle.std.proofs.lemmas.Bool.{cond_both}
use Rattle.typed_path.specs.declared.scan.separators.Separators.{Separators}
use Rattle.typed_path.specs.declared.scan.separators.Separators.TheVariants.{Backslash, Either}
use Rattle.typed_path.specs.components.{windows, dot, backslash, begins_verbatim, is_separator, root_text, separators, Placed, first, body, name, second_name, names_length, comps, comps_behind, prefix_part, Found, found, unc, prefix_of, is_empty, question}
use Rattle.typed_path.specs.components.{verbatim_unc_case, verbatim_disk_case, verbatim_case, device_case, unc_case, disk_case, after_two, after_mark, after_unc, drive}
use Rattle.typed_path.specs.queries.{path_starts_with}
use Rattle.typed_path.proofs.lemmas.components.Prefixes.{prefix-fits}
use Rattle.typed_path.proofs.lemmas.queries.Bases.{begins}
use Rattle.typed_path.proofs.lemmas.lists.Options.{and_then-some, unless-some, where-some, some_is}
use Rattle.typed_path.proofs.lemmas.lists.Lists.{before_first-cons}

-- Paths of Windows that begin otherwise, as their first bytes tell.

-- a byte, with one separator for either
abbrev pub mark : ℕ → ℕ
mark b = cond (is_separator Either b) backslash b

-- a list begins with a component that is written from a byte on
record IsWrittenFrom (a : ℕ) (cs : List Placed) : Type 0 where
  head : Placed
  rest : List Placed
  is : cs ≡ head ∷ rest
  byte : ℕ
  bytes : List ℕ
  text : head.part.text ≡ byte ∷ bytes
  like : mark byte ≡ mark a

-- the components of what stands behind a prefix are
module _ (s : Separators) (rooted : root_text s ≡ backslash ∷ []) (either : (b : ℕ) → is_separator s b ≡ true → is_separator Either b ≡ true) where
  body-written : (a at : ℕ) (bs : List ℕ) → IsWrittenFrom a (body s at (a ∷ bs))
  body-written a at bs = grind arith

-- and so are those of a path
path-written : (a : ℕ) (bs : List ℕ) → IsWrittenFrom a (comps windows (a ∷ bs))
path-written a bs = by (prefix_of windows (a ∷ bs)) refl
  where
    bare : (verbatim : Bool) → IsWrittenFrom a (body (cond verbatim Backslash Either) 0 (a ∷ bs))
    bare verbatim = grind (arith, body-written, or-true)

    cut : (n : ℕ) → 0 < n → take n (a ∷ bs) ≡ a ∷ take (n - 1) bs
    cut n h = let whole : n ≡ suc (n - 1) = omega (arith, h) in ap (λ m. take m (a ∷ bs)) whole

    by : (p : Option Found) → prefix_of windows (a ∷ bs) ≡ p → IsWrittenFrom a (comps_behind (separators windows (a ∷ bs)) (a ∷ bs) p)
    by None e = bare (begins_verbatim (a ∷ bs))
    by (Some f) e = record {
      head = record { part = prefix_part f.prefix (take f.length (a ∷ bs)); start = 0 };
      rest = body (separators windows (a ∷ bs)) f.length (drop f.length (a ∷ bs));
      is = refl;
      byte = a;
      bytes = take (f.length - 1) bs;
      text = cut f.length (prefix-fits windows (a ∷ bs) f e).filled;
      like = refl;
    }

-- lists whose first components are written otherwise
written-apart : (cs ds : List Placed) (c d : Placed) (es fs : List Placed) → cs ≡ c ∷ es → ds ≡ d ∷ fs → bytes_eq d.part.text c.part.text ≡ false → begins cs ds ≡ false
written-apart cs ds c d es fs e f differ = ap₂ begins e f ∙ ap (λ b. b && begins es fs) differ

-- bytes that are not both separators are marked alike only where they are one
clash : (a b : ℕ) (p q : Bool) → a ≢ b → (is_separator Either a && is_separator Either b) ≡ false → is_separator Either a ≡ p → is_separator Either b ≡ q → mark b ≡ mark a → true ≡ false
clash a b p q differ apart e f m = grind arith

-- two paths whose first bytes differ, and are not both separators
pub begin-apart : (t u : List ℕ) → 0 < length t → 0 < length u → get_or t 0 0 ≢ get_or u 0 0 → (is_separator Either (get_or t 0 0) && is_separator Either (get_or u 0 0)) ≡ false
    → path_starts_with windows t u ≡ false
begin-apart [] u filled filled' differ apart = absurd (omega arith)
begin-apart (a ∷ t) [] filled filled' differ apart = absurd (omega arith)
begin-apart (a ∷ t) (b ∷ u) filled filled' differ apart = grind (arith, common_steps, written-apart, path-written, clash, eqb-true)

-- Behind two separators, a byte that is none begins the name of a prefix.

-- a prefix of three bytes or more
record IsLong (p : Option Found) : Type 0 where
  found : Found
  is : p ≡ Some found
  long : 3 ≤ found.length

-- the first of two cases, each of which is long where it holds
or-long : (o p : Option Found) → ((f : Found) → o ≡ Some f → 3 ≤ f.length) → IsLong p → IsLong (option_or o p)
or-long o p first second = grind arith

marked-long : (t : List ℕ) (c : ℕ) (bs : List ℕ) → after_two t ≡ Some (c ∷ bs) → is_separator Either c ≡ false → IsLong (prefix_of windows t)
marked-long t c bs two clear =
    let s = separators windows t in
    or-long (verbatim_unc_case s t) _ (λ h is. let outer = and_then-some _ (option_and_then (after_unc s) (after_mark question t)) h is in omega (arith, ap (λ x. x.length) (unless-some (is_empty (name s outer.0)) _ h outer.2).1))
    (or-long (verbatim_disk_case t) _ (λ h is. let outer = and_then-some _ (option_and_then drive (after_mark question t)) h is in omega (arith, ap (λ x. x.length) (some_is outer.2)))
    (or-long (verbatim_case s t) _ (λ h is. let outer = and_then-some _ (after_mark question t) h is in omega (arith, ap (λ x. x.length) (unless-some (is_empty outer.0) _ h outer.2).1))
    (or-long (device_case t) _ (λ h is. let outer = and_then-some _ (after_mark dot t) h is in omega (arith, ap (λ x. x.length) (unless-some (is_empty (name Either outer.0)) _ h outer.2).1))
    share)))
  where
    share_of : List ℕ → Found
    share_of rest = found (unc (name Either rest) (second_name Either rest)) (2 + names_length Either rest)

    named : name Either (c ∷ bs) ≡ c ∷ name Either bs
    named = before_first-cons (is_separator Either) c bs clear

    case : unc_case t ≡ Some (share_of (c ∷ bs))
    case = grind (arith, share_of, named, eqb-suc-zero)

    counted : 1 ≤ names_length Either (c ∷ bs)
    counted = grind (arith, named, cond_both)

    share : IsLong (option_or (unc_case t) (disk_case t))
    share = record { found = share_of (c ∷ bs); is = ap (λ o. option_or o (disk_case t)) case; long = omega (arith, counted) }

-- the raw text of a prefix has the bytes that it begins with
long-text : (t : List ℕ) (c : ℕ) (bs : List ℕ) (n : ℕ) → after_two t ≡ Some (c ∷ bs) → 3 ≤ n → (a : ℕ) × (b : ℕ) × (rest : List ℕ) × (take n t ≡ a ∷ b ∷ c ∷ rest)
long-text [] c bs n two long = cc
long-text (a ∷ []) c bs n two long = cc
long-text (a ∷ b ∷ t) c bs n two long =
    let whole : n ≡ suc (suc (suc (n - 3))) = omega (arith, long) in
    (a, b, take (n - 3) bs, ap (λ r. take n (a ∷ b ∷ r)) (where-some _ t (c ∷ bs) two).1 ∙ ap (λ m. take m (a ∷ b ∷ c ∷ bs)) whole)

-- two paths with prefixes whose third bytes differ
pub mark-apart : (t u : List ℕ) (c z : ℕ) (bs ys : List ℕ) → after_two t ≡ Some (c ∷ bs) → is_separator Either c ≡ false → after_two u ≡ Some (z ∷ ys) → is_separator Either z ≡ false
    → (z == c) ≡ false → path_starts_with windows t u ≡ false
mark-apart t u c z bs ys two clear two' clear' differ =
    let own = marked-long t c bs two clear in
    let wanted = marked-long u z ys two' clear' in
    let raw = long-text t c bs own.found.length two own.long in
    let raw' = long-text u z ys wanted.found.length two' wanted.long in
    ap₂ begins (ap (comps_behind (separators windows t) t) own.is) (ap (comps_behind (separators windows u) u) wanted.is)
    ∙ ap (λ r. r && begins (body (separators windows t) own.found.length (drop own.found.length t)) (body (separators windows u) wanted.found.length (drop wanted.found.length u)))
    (ap₂ bytes_eq raw'.3 raw.3 ∙ third (raw'.0 == raw.0) (raw'.1 == raw.1) (z == c) (bytes_eq raw'.2 raw.2) differ)
  where
    third : (p q w r : Bool) → w ≡ false → (p && (q && (w && r))) ≡ false
    third p q w r e = grind arith
