-- How long a text of Windows is that is spelled anew: no longer than it is, unless something stands right behind a verbatim drive; and what a push makes is no such text.
use Rattle.std.proofs.Common.{◌≡◌, ℕ, ◌+◌, ◌-◌, ◌<◌, ◌≤◌, ◌==◌, ◌||◌, ◌⊎◌, inl, inr, Bool, true, false, List, [], ◌∷◌, ◌++◌, length, take, drop, Option, Some, None, refl, sym, ap, subst, ◌∙◌, arith, eqb-true, append-nil, length-append, length-take, length-take-le, length-drop, take-append-drop}
use Rattle.std.proofs.lemmas.Grind.{common_steps}
use Rattle.std.specs.List.{AllByRecursion}
use Rattle.std.proofs.lemmas.Bool.{cond_both, both_ways}
use Rattle.std.proofs.lemmas.List.Splits.{slice_split-cons_yes}
use Rattle.std.proofs.lemmas.List.Sums.{sum_by-cons}
use Rattle.typed_path.specs.declared.scan.separators.Separators.{Separators}
use Rattle.typed_path.specs.declared.scan.separators.Separators.TheVariants.{Either}
use Rattle.typed_path.specs.components.{windows, slash, backslash, question, separators, is_separator, root_text, Prefix, verbatim_disk, Kind, prefix, root, current, parent, normal, Part, kinds, root_part, prefix_part, is_name, Found, drive, after_mark, found, prefix_of, parts_of}
use Rattle.typed_path.specs.queries.{begins_with_root, has_prefix, has_any_verbatim_prefix, is_verbatim_prefix}
use Rattle.typed_path.specs.changes.{raw_prefix, raw_length, spelled, merged, merge_by_kind, IsMergeable, AreMergeable, prefix_alone, without_last_name, joint, room_of}
use Rattle.typed_path.proofs.lemmas.lists.Lists.{AllByRecursion-weaker}
use Rattle.typed_path.proofs.lemmas.components.Prefixes.{separators-windows, backslash-separates, root_text-windows, drive-size, after_mark-size, prefix-fits, prefix-read, Read, of_verbatim_unc, of_verbatim_disk, of_verbatim, of_device, of_unc, of_disk, prefix_by}
use Rattle.typed_path.proofs.lemmas.components.PrefixCuts.{IsUnended, IsSize, prefix-size, verbatim-size, parts_of-some, verbatim-none, verbatim-some}
use Rattle.typed_path.proofs.lemmas.components.FirmPrefixes.{Apart, parted as parted_text, drive-letter, drive-stays, after_four-tests, verbatim_disk-stays}
use Rattle.typed_path.proofs.lemmas.components.PartedPrefixes.{apart-behind}
use Rattle.typed_path.proofs.lemmas.components.Segments.{pieces, first_parts, later_parts, body_parts, body_parts-read, AreRead, IsWritten, IsWrittenPart, IsLaterPart, each-written, later-relative}
use Rattle.typed_path.proofs.lemmas.changes.Lengths.{size, joint-size}
use Rattle.typed_path.proofs.lemmas.changes.MergedInPlace.{room-body, text-mergeable}
use Rattle.typed_path.proofs.lemmas.changes.WindowsPushes.{is_marked, verbatim-marked}
use Rattle.typed_path.proofs.lemmas.promises.WindowsBases.{verbatim-no_drive, Rest, nothing, from_root, from_other, spelled-behind}
use Rattle.typed_path.proofs.lemmas.lists.Options.{some_is}

-- How long a list is where it is spelled.

spelled-size : (p : Part) (ps : List Part) → length (spelled (p ∷ ps)) ≤ length p.text + room_of ps
spelled-size p [] = omega arith
spelled-size p (q ∷ ps) = grind (arith, common_steps, joint-size, sum_by-cons, size, length-append, spelled-size q ps)

-- the first component is spelled with the list
first-size : (p : Part) (ps : List Part) → length p.text ≤ length (spelled (p ∷ ps))
first-size p ps = grind (arith, length-append)

-- behind a root nothing is added
after-root : (text : List ℕ) (ps : List Part) → length (spelled (root_part text ∷ ps)) ≡ length text + length (spelled ps)
after-root text ps = grind (arith, length-append)

-- later components, spelled, take no separator behind the last
later-size : (s : Separators) (ps : List Part) → AllByRecursion (IsLaterPart s) ps → length (spelled ps) ≤ room_of ps - 1
later-size s [] later = omega arith
later-size s (p ∷ ps) later = grind (arith, common_steps, spelled-size, sum_by-cons, size, later-relative)

-- one component more at the end
more-size : (ps : List Part) (q : Part) → length (spelled (ps ++ q ∷ [])) ≤ length (spelled ps) + size q
more-size [] q = omega arith
more-size (p ∷ []) q = omega (arith, (joint-size p.kind q.kind).1, length-append (p.text ++ joint p.kind q.kind) q.text, length-append p.text (joint p.kind q.kind))
more-size (p ∷ r ∷ ps) q = grind (arith, common_steps, length-append, more-size (r ∷ ps) q)

-- the last name less
less-size : (ps : List Part) → length (spelled (without_last_name ps)) ≤ length (spelled ps)
less-size [] = omega arith
less-size (p ∷ []) = cond_both (is_name p.kind) [] (p ∷ []) (λ qs. length (spelled qs) ≤ length (spelled (p ∷ []))) (λ e. omega arith) (λ e. omega arith)
less-size (p ∷ q ∷ []) = grind (arith, common_steps, cond_both, first-size)
less-size (p ∷ q ∷ r ∷ ps) = grind (arith, common_steps, length-append, less-size (q ∷ r ∷ ps))

-- the prefix alone
alone-size : (ps : List Part) → length (spelled (prefix_alone ps)) ≤ length (spelled ps)
alone-size ps = grind (arith, cond_both, first-size)

-- a component that is merged
merge-size : (ps : List Part) (q : Part) (k : Kind) → length (spelled (merge_by_kind ps q k)) ≤ length (spelled ps) + size q
merge-size ps q root = omega (arith, alone-size ps, more-size (prefix_alone ps) q)
merge-size ps q current = omega arith
merge-size ps q parent = omega (arith, less-size ps)
merge-size ps q (prefix p) = more-size ps q
merge-size ps q (normal name) = more-size ps q

pub merged-size : (ps qs : List Part) → length (spelled (merged ps qs)) ≤ length (spelled ps) + room_of qs
merged-size ps [] = omega arith
merged-size ps (q ∷ qs) = omega (arith, merged-size (merge_by_kind ps q q.kind) qs, merge-size ps q q.kind, sum_by-cons size q qs)

-- A text of Windows that is spelled anew takes no more bytes, unless something stands right behind a verbatim drive.

-- how long it is then
abbrev pub anew : List ℕ → ℕ
anew u = length (spelled (parts_of windows u))

abbrev pub IsMarked : List ℕ → Type 0
IsMarked u = has_any_verbatim_prefix (kinds (parts_of windows u)) ≡ true

-- a verbatim drive with another byte than `\` behind it
pub record IsDriven (u : List ℕ) : Type 0 where
  pub rest : List ℕ
  pub letter : ℕ
  pub marked : after_mark question u ≡ Some rest
  pub drives : drive rest ≡ Some letter
  pub next : ℕ
  pub others : List ℕ
  pub behind : drop 6 u ≡ next ∷ others
  pub other : next ≡ backslash → ⊥

-- the prefix of a verbatim text
pub record HasMarked (u : List ℕ) : Type 0 where
  pub prefixed : Found
  pub is : prefix_of windows u ≡ Some prefixed
  pub kind : is_verbatim_prefix prefixed.prefix ≡ true

pub has-marked : (u : List ℕ) → IsMarked u → HasMarked u
has-marked u marked = by (prefix_of windows u) refl
  where
    by : (o : Option Found) → prefix_of windows u ≡ o → HasMarked u
    by None none = absurd (both_ways _ (verbatim-none u none) marked)
    by (Some f) some = record { prefixed = f; is = some; kind = sym (verbatim-some u f some) ∙ marked }

-- a byte more at the most
pub anew-most : (u : List ℕ) → IsMarked u → anew u ≤ length u + 1
anew-most u marked =
    let has = has-marked u marked in
    let f = has.prefixed in
    let s = separators windows u in
    omega (
      arith,
      ap (λ ps. length (spelled ps)) (parts_of-some u f has.is),
      spelled-size (prefix_part f.prefix (take f.length u)) (body_parts s (drop f.length u)),
      room-body s (drop f.length u),
      length-take f.length u,
      length-drop f.length u,
      (prefix-fits windows u f has.is).fits,
    )

module _ (u : List ℕ) (f : Found) (is : prefix_of windows u ≡ Some f) (kind : is_verbatim_prefix f.prefix ≡ true) where
  abbrev s : Separators
  s = separators windows u

  -- a verbatim drive is read off its mark and its letter
  marked-drive : (letter : ℕ) → f.prefix ≡ verbatim_disk letter → (rest : List ℕ) × (after_mark question u ≡ Some rest) × (l : ℕ) × (drive rest ≡ Some l)
  marked-drive letter e = by f (prefix-read u f is) e
    where
      by : (f : Found) → Read (separators windows u) u f → f.prefix ≡ verbatim_disk letter → (rest : List ℕ) × (after_mark question u ≡ Some rest) × (l : ℕ) × (drive rest ≡ Some l)
      by _ (of_verbatim_disk rest l mark drives) e = (rest, mark.marked, l, drives)
      by _ (of_verbatim_unc rest mark filled) e = cc
      by _ (of_verbatim rest mark filled no_unc no_drive) e = cc
      by _ (of_device rest mark filled) e = cc
      by _ (of_unc rest mark filled no_verbatim no_device) e = cc
      by _ (of_disk l drives) e = cc

  first-apart : (b : ℕ) (bs : List ℕ) → Apart s (b ∷ bs) → is_separator s b ≡ true
  first-apart b bs (parted_text _ _ separates) = separates

  -- what stands behind the prefix begins with a separator
  separates-behind : (IsDriven u → ⊥) → (b : ℕ) (bs : List ℕ) → drop f.length u ≡ b ∷ bs → is_separator s b ≡ true
  separates-behind free b bs e = elim (apart-behind u f is (verbatim-no_drive f.prefix kind) (omega (arith, ap length e, length-drop f.length u))) [
    | inl (letter, drives) ↦
        let six : f.length ≡ 6 = subst (λ p. IsSize p u f.length) drives (prefix-size u f is) in
        let told = marked-drive letter drives in
        by (b == backslash) refl (λ other. free (record { rest = told.0; letter = told.2; marked = told.1; drives = told.3; next = b; others = bs; behind = ap (λ n. drop n u) (sym six) ∙ e; other = other }))
    | inr h ↦ first-apart b bs (subst (Apart s) e h)
  ]
    where
      by : (same : Bool) → (b == backslash) ≡ same → ((b ≡ backslash → ⊥) → ⊥) → is_separator s b ≡ true
      by true e never = ap (is_separator s) (eqb-true b backslash e) ∙ backslash-separates s (separators-windows u)
      by false e never = absurd (never (λ same. both_ways (b == backslash) e (ap (λ c. c == backslash) same)))

  anew-read : (IsDriven u → ⊥) → anew u ≤ length u
  anew-read free = by (drop f.length u) refl
    where
      raw : List ℕ
      raw = take f.length u

      by : (rest : List ℕ) → drop f.length u ≡ rest → anew u ≤ length u
      by [] e = omega (arith, ap (λ ps. length (spelled ps)) (parts_of-some u f is ∙ ap (λ t. prefix_part f.prefix raw ∷ body_parts s t) e), length-take f.length u)
      by (b ∷ bs) e =
          let body : body_parts s (b ∷ bs) ≡ root_part (root_text s) ∷ later_parts s (pieces s bs) = rooted b bs (separates-behind free b bs e) in
          let later = later_parts s (pieces s bs) in
          omega (
            arith,
            ap (λ ps. length (spelled ps)) (parts_of-some u f is ∙ ap (λ t. prefix_part f.prefix raw ∷ body_parts s t) e ∙ ap (λ ps. prefix_part f.prefix raw ∷ ps) body),
            length-append (raw ++ []) (spelled (root_part (root_text s) ∷ later)),
            length-append raw [],
            after-root (root_text s) later,
            later-size s later (subst (AreRead s) body (body_parts-read s (b ∷ bs))).1,
            ap room_of body,
            sum_by-cons size (root_part (root_text s)) later,
            room-body s (b ∷ bs),
            ap length (root_text-windows s (separators-windows u)),
            ap length e,
            length-take f.length u,
            length-drop f.length u,
          )
        where
          rooted : (b : ℕ) (bs : List ℕ) → is_separator s b ≡ true → body_parts s (b ∷ bs) ≡ root_part (root_text s) ∷ later_parts s (pieces s bs)
          rooted b bs separates = ap (first_parts s) (slice_split-cons_yes (is_separator s) b bs separates)

pub anew-least : (u : List ℕ) → (IsDriven u → ⊥) → IsMarked u → anew u ≤ length u
anew-least u free marked = let has = has-marked u marked in anew-read u has.prefixed has.is has.kind free

-- What a push makes is no such text.

-- behind a `\` begins no drive
undriven-backslash : (x : List ℕ) → drive (backslash ∷ x) ≡ None
undriven-backslash x = grind arith

-- nothing, or a `\` with something behind it
abbrev IsTail : List ℕ → Type 0
IsTail tail = (tail ≡ []) ⊎ ((x : List ℕ) × (tail ≡ backslash ∷ x))

mark-tests : (a b c d : ℕ) (text rest : List ℕ) → after_mark question (a ∷ b ∷ c ∷ d ∷ text) ≡ Some rest
    → (is_separator Either a ≡ true) × (is_separator Either b ≡ true) × ((c == question) ≡ true) × (is_separator Either d ≡ true) × (text ≡ rest)
mark-tests a b c d text rest e = after_four-tests (is_separator Either) (is_separator Either) (λ b. b == question) (is_separator Either) a b c d text rest e

-- a mark stays, whatever stands behind it
mark-other : (a b c d : ℕ) (text other rest : List ℕ) → after_mark question (a ∷ b ∷ c ∷ d ∷ text) ≡ Some rest → after_mark question (a ∷ b ∷ c ∷ d ∷ other) ≡ Some other
mark-other a b c d text other rest e = let tests = mark-tests a b c d text rest e in rw (tests.0, tests.1, tests.2, tests.3) refl

-- behind a mark: a drive that is read there stands before the tail, and more before that too
drive-long : (r y tail : List ℕ) (letter next : ℕ) (others : List ℕ) → IsTail tail → drive (r ++ tail) ≡ Some letter → drop 2 (r ++ tail) ≡ next ∷ others → (next ≡ backslash → ⊥)
    → (drive (r ++ y) ≡ Some letter → length r ≤ 2) → ⊥
drive-long [] y tail letter next others (inl e) drives behind other short = grind arith
drive-long [] y tail letter next others (inr (x, e)) drives behind other short = grind (arith, undriven-backslash)
drive-long (a ∷ []) y tail letter next others (inl e) drives behind other short = grind arith
drive-long (a ∷ []) y tail letter next others (inr (x, e)) drives behind other short = grind (arith, drive-letter)
drive-long (a ∷ b ∷ []) y tail letter next others (inl e) drives behind other short = grind arith
drive-long (a ∷ b ∷ []) y tail letter next others (inr (x, e)) drives behind other short = grind arith
drive-long (a ∷ b ∷ c ∷ r) y tail letter next others ends drives behind other short = grind arith

parted-undriven : (r y tail : List ℕ) → IsTail tail → IsDriven (r ++ tail) → 4 ≤ length r
    → ((rest : List ℕ) (letter : ℕ) → after_mark question (r ++ y) ≡ Some rest → drive rest ≡ Some letter → length r ≤ 6) → ⊥
parted-undriven (a ∷ b ∷ c ∷ d ∷ r) y tail ends h long short =
    let tests = mark-tests a b c d (r ++ tail) h.rest h.marked in
    drive-long r y tail h.letter h.next h.others ends (ap drive tests.4 ∙ h.drives) h.behind h.other
    (λ drives. omega (arith, short (r ++ y) h.letter (mark-other a b c d (r ++ tail) (r ++ y) h.rest h.marked) drives))
parted-undriven r y tail ends h long short = absurd (omega (arith, long))

driven-long : (u : List ℕ) → IsDriven u → 6 ≤ length u
driven-long u h = omega (arith, after_mark-size question u h.rest h.marked, drive-size h.rest h.letter h.drives)

-- a text that is marked, with a drive behind that, has the prefix of six bytes
driven-six : (t : List ℕ) (f : Found) → prefix_of windows t ≡ Some f → (rest : List ℕ) (letter : ℕ) → after_mark question t ≡ Some rest → drive rest ≡ Some letter → f.length ≡ 6
driven-six t f is rest letter marked drives =
    let s = separators windows t in
    let told : prefix_of windows t ≡ Some (found (verbatim_disk letter) 6) =
    sym (ap (prefix_by s) (take-append-drop 6 t)) ∙ verbatim_disk-stays s t (drop 6 t) rest letter marked drives in
    ap (λ g. g.length) (some_is (sym is ∙ told))

-- and so it is verbatim
driven-marked : (t rest : List ℕ) (letter : ℕ) → after_mark question t ≡ Some rest → drive rest ≡ Some letter → IsMarked t
driven-marked t rest letter marked drives = grind (arith, common_steps, verbatim-marked, is_marked)

module _ (t : List ℕ) (f : Found) (is : prefix_of windows t ≡ Some f) where
  raw-six : (rest : List ℕ) (letter : ℕ) → after_mark question (take f.length t ++ drop f.length t) ≡ Some rest → drive rest ≡ Some letter → length (take f.length t) ≤ 6
  raw-six rest letter marked drives =
      omega (arith, driven-six t f is rest letter (ap (after_mark question) (sym (take-append-drop f.length t)) ∙ marked) drives, length-take f.length t)

  -- the raw text of a prefix
  pub raw-undriven : IsDriven (take f.length t) → ⊥
  raw-undriven h =
      let raw = take f.length t in
      parted-undriven raw (drop f.length t) [] (inl refl) (subst IsDriven (sym (append-nil raw)) h) (omega (arith, driven-long raw h)) raw-six

  -- with a list behind it, written anew
  spelled-undriven : is_verbatim_prefix f.prefix ≡ true → (tail : List ℕ) → IsTail tail → IsDriven (take f.length t ++ tail) → ⊥
  spelled-undriven kind tail ends h =
      parted-undriven (take f.length t) (drop f.length t) tail ends h
      (omega (arith, verbatim-size f.prefix t f.length (prefix-size t f is) kind, length-take-le f.length t (prefix-fits windows t f is).fits)) raw-six

module _ (base : List ℕ) (plain : has_any_verbatim_prefix (kinds (parts_of windows base)) ≡ false) where
  unmarked : (rest : List ℕ) (letter : ℕ) → after_mark question base ≡ Some rest → drive rest ≡ Some letter → ⊥
  unmarked rest letter marked drives = both_ways _ plain (driven-marked base rest letter marked drives)

  -- a prefix with a root put behind it
  pub root-undriven : IsDriven (raw_prefix base ++ backslash ∷ []) → ⊥
  root-undriven h =
      let n = raw_length (prefix_of windows base) in
      parted-undriven (raw_prefix base) (drop n base) (backslash ∷ []) (inr ([], refl)) h
      (omega (arith, driven-long (raw_prefix base ++ backslash ∷ []) h, length-append (raw_prefix base) (backslash ∷ [])))
      (λ rest letter marked drives. absurd (unmarked rest letter (ap (after_mark question) (sym (take-append-drop n base)) ∙ marked) drives))

  -- a base with a separator and a path without a prefix
  pub joined-undriven : (x : List ℕ) → 0 < length base → IsUnended base → (base ≡ slash ∷ [] → ⊥) → prefix_of windows x ≡ None → IsDriven (base ++ backslash ∷ x) → ⊥
  joined-undriven x some unended apart none h =
      parted-undriven base [] (backslash ∷ x) (inr (x, refl)) h (long base some unended apart x none h)
      (λ rest letter marked drives. absurd (unmarked rest letter (ap (after_mark question) (sym (append-nil base)) ∙ marked) drives))
    where
      first : (a : ℕ) (one two : Bool) → (a == slash) ≡ one → (a == backslash) ≡ two → (one || two) ≡ true → (a ≡ slash) ⊎ (a ≡ backslash)
      first a one two e f is = grind (arith, eqb-true)

      long : (base : List ℕ) → 0 < length base → IsUnended base → (base ≡ slash ∷ [] → ⊥) → (x : List ℕ) → prefix_of windows x ≡ None → IsDriven (base ++ backslash ∷ x) → 4 ≤ length base
      long [] some unended apart x none h = absurd (omega (arith, some))
      long (a ∷ []) some unended apart [] none h = let marked = h.marked in cc
      long (a ∷ []) some unended apart (c ∷ []) none h = let marked = h.marked in cc
      long (a ∷ []) some unended apart (c ∷ d ∷ x) none h =
          let tests = mark-tests a backslash c d x h.rest h.marked in
          elim (first a (a == slash) (a == backslash) refl refl tests.0) [
            | inl is ↦ absurd (apart (ap (λ b. b ∷ []) is))
            | inr is ↦ absurd (unended [] (ap (λ b. b ∷ []) is))
          ]
      long (a ∷ b ∷ []) some unended apart [] none h = let marked = h.marked in cc
      long (a ∷ b ∷ []) some unended apart (d ∷ x) none h = let tests = mark-tests a b backslash d x h.rest h.marked in let third = tests.2 in cc
      long (a ∷ b ∷ c ∷ []) some unended apart x none h =
          let tests = mark-tests a b c backslash x h.rest h.marked in
          let is = ap (prefix_of windows) (sym (append-nil x)) ∙ drive-stays x [] h.letter (ap drive tests.4 ∙ h.drives) in
          absurd (both none is)
        where
          both : {o : Option Found} {f : Found} → o ≡ None → o ≡ Some f → ⊥
          both e f = let is = sym e ∙ f in cc
      long (a ∷ b ∷ c ∷ d ∷ base) some unended apart x none h = omega arith

-- What is merged into a verbatim base stands behind its prefix and a `\`.

abbrev IsPlainRoot : Part → Type 0
IsPlainRoot p = begins_with_root (p.kind ∷ []) ≡ true → p.text ≡ backslash ∷ []

-- a prefix, and a list whose roots are written so
record IsHeaded (p : Prefix) (raw : List ℕ) (list : List Part) : Type 0 where
  behind : List Part
  is : list ≡ prefix_part p raw ∷ behind
  roots : AllByRecursion IsPlainRoot behind

roots-fewer : (ps : List Part) → AllByRecursion IsPlainRoot ps → AllByRecursion IsPlainRoot (without_last_name ps)
roots-fewer [] roots = tt
roots-fewer (p ∷ []) roots = cond_both (is_name p.kind) [] (p ∷ []) (AllByRecursion IsPlainRoot) (λ e. tt) (λ e. roots)
roots-fewer (p ∷ q ∷ ps) roots = (roots.0, roots-fewer (q ∷ ps) roots.1)

module _ (p : Prefix) (raw : List ℕ) where
  headed-next : (ps : List Part) → AllByRecursion IsPlainRoot ps → (k : Kind) (text : List ℕ) → IsMergeable (record { kind = k; text = text }) k
      → IsHeaded p raw (merge_by_kind (prefix_part p raw ∷ ps) (record { kind = k; text = text }) k)
  headed-next ps roots k text are = grind (arith, common_steps, roots-fewer)

  headed-merged : (qs list : List Part) → IsHeaded p raw list → AreMergeable qs → IsHeaded p raw (merged list qs)
  headed-merged [] list h are = h
  headed-merged (q ∷ qs) list h are =
      headed-merged qs (merge_by_kind list q q.kind) (subst (λ l. IsHeaded p raw (merge_by_kind l q q.kind)) (sym h.is) (headed-next h.behind h.roots q.kind q.text are.0)) are.1

  headed-tail : (list : List Part) → IsHeaded p raw list → (tail : List ℕ) × IsTail tail × (spelled list ≡ raw ++ tail)
  headed-tail list h = let told = spelled-behind p raw h.behind in (told.0, by h.behind told.0 h.roots told.2, ap spelled h.is ∙ told.1)
    where
      begins : (q : Part) (ps : List Part) → q.text ≡ backslash ∷ [] → IsTail (spelled (q ∷ ps))
      begins q ps e = grind arith

      by : (ps : List Part) (tail : List ℕ) → AllByRecursion IsPlainRoot ps → Rest ps tail → IsTail tail
      by _ _ roots nothing = inl refl
      by _ _ roots (from_root q ps e) = begins q ps (roots.0 e)
      by _ _ roots (from_other q ps e) = inr (spelled (q ∷ ps), refl)

plain-roots : (s : Separators) → root_text s ≡ backslash ∷ [] → (ps : List Part) → AllByRecursion (IsWrittenPart s) ps → AllByRecursion IsPlainRoot ps
plain-roots s same ps each = AllByRecursion-weaker (IsWrittenPart s) IsPlainRoot (λ p. by p.kind p.text) ps each
  where
    by : (k : Kind) (text : List ℕ) → IsWritten s k text → IsPlainRoot (record { kind = k; text = text })
    by k text written = grind arith

pub merged-undriven : (base x : List ℕ) → IsMarked base → has_prefix (kinds (parts_of windows x)) ≡ false → IsDriven (spelled (merged (parts_of windows base) (parts_of windows x))) → ⊥
merged-undriven base x marked unprefixed h =
    let has = has-marked base marked in
    let f = has.prefixed in
    let s = separators windows base in
    let raw = take f.length base in
    let body = body_parts s (drop f.length base) in
    let roots = plain-roots s (root_text-windows s (separators-windows base)) body (each-written s body (body_parts-read s (drop f.length base))) in
    let first : IsHeaded f.prefix raw (parts_of windows base) = record { behind = body; is = parts_of-some base f has.is; roots = roots } in
    let tail = headed-tail f.prefix raw (merged (parts_of windows base) (parts_of windows x)) (headed-merged f.prefix raw (parts_of windows x) (parts_of windows base) first (text-mergeable x unprefixed)) in
    spelled-undriven base f has.is has.kind tail.0 tail.1 (subst IsDriven tail.2 h)
