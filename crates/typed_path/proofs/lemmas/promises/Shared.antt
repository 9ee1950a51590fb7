-- A path cut where a component ends is read as the components up to there; so what two paths share is the longest that begins both.
use Rattle.std.proofs.Common.{◌≡◌, ℕ, zero, suc, ◌+◌, ◌-◌, ◌<◌, ◌≤◌, inl, inr, List, [], ◌∷◌, ◌++◌, Bool, true, false, if◌then◌else◌, length, take, drop, refl, sym, ap, ap₂, ◌∙◌, arith, subst, append-nil, length-take, length-take-le}
use Rattle.std.specs.Prelude.{Option, Some, None}
use Rattle.std.proofs.lemmas.Bool.{cases_lt}
use Rattle.std.proofs.lemmas.List.{take_min, take-take, drop-take, drop_all, take_all}
use Rattle.std.proofs.lemmas.Slice.Eq.{bytes_eq-Decides}
use Rattle.std.specs.List.{starts_with}
use Rattle.std.specs.Str.{bytes_eq}
use Rattle.typed_path.specs.declared.scan.separators.Separators.{Separators}
use Rattle.typed_path.specs.declared.scan.separators.Separators.TheVariants.{Slash}
use Rattle.typed_path.specs.components.{Dialect, unix, windows, separators, question, verbatim, disk, Placed, parts, texts, prefix_part, Found, found, prefix_of, name, after_mark, drive, is_empty, comps, comps_behind, component, body, parts_of, Part}
use Rattle.typed_path.specs.queries.{is_disk, shared_count, end_of_first, shared_end, common_ancestor_of, unless_empty}
use Rattle.typed_path.specs.promises.{is_verbatim_unc_name, IsLongest, ShareNothing}
use Rattle.typed_path.specs.scan.{end_at}
use Rattle.typed_path.proofs.lemmas.components.Cuts.{body-take}
use Rattle.typed_path.proofs.lemmas.components.Prefixes.{Read, of_verbatim, of_disk, prefix-read, prefix-fits, after_mark-reads, drive-take, drive-size, prefix_by}
use Rattle.typed_path.proofs.lemmas.components.PrefixCuts.{same-none, same-found}
use Rattle.typed_path.proofs.lemmas.components.FirmPrefixes.{drive-stays}
use Rattle.typed_path.proofs.lemmas.lists.Options.{first-some}
use Rattle.typed_path.proofs.lemmas.components.PartedPrefixes.{raw-whole}
use Rattle.typed_path.proofs.lemmas.queries.Shared.{texts-length, starts_other, starts_shared}
use Rattle.typed_path.proofs.lemmas.queries.Parents.{nonempty-cut}
use Rattle.typed_path.proofs.lemmas.places.SharedFromBack.{shared_count-fits}
use Rattle.typed_path.proofs.lemmas.lists.Lists.{take-front, starts_own, starts_nothing}

abbrev texts_of : List Placed → List (List ℕ)
texts_of cs = texts (parts cs)

texts-take : (n : ℕ) (cs : List Placed) → texts_of (take n cs) ≡ take n (texts_of cs)
texts-take zero cs = refl
texts-take (suc n) [] = refl
texts-take (suc n) (c ∷ cs) = ap (λ ts. c.part.text ∷ ts) (texts-take n cs)

-- a text that is a prefix and nothing else
abbrev IsWhole : List ℕ → Type 0
IsWhole raw = (g : Found) × (prefix_of windows raw ≡ Some g) × (g.length ≡ length raw)

whole-texts : (raw : List ℕ) → IsWhole raw → texts (parts_of windows raw) ≡ raw ∷ []
whole-texts raw h = grind (arith, take_all, drop_all)

-- the verbatim prefix named `UNC` is such a text
abbrev verbatim_made : Separators → List ℕ → Option Found
verbatim_made s rest = if is_empty rest then None else Some (found (verbatim (name s rest)) (4 + length (name s rest)))

unc_made : (s : Separators) → verbatim_made s (85 ∷ 78 ∷ 67 ∷ []) ≡ Some (found (verbatim (85 ∷ 78 ∷ 67 ∷ [])) 7)
unc_made s = grind arith

unc_read : (s : Separators) (raw : List ℕ) → after_mark question raw ≡ Some (85 ∷ 78 ∷ 67 ∷ []) → prefix_by s raw ≡ Some (found (verbatim (85 ∷ 78 ∷ 67 ∷ [])) 7)
unc_read s raw mark = grind (arith, first-some, unc_made)

unc_whole : (s : Separators) (t : List ℕ) (f : Found) → Read s t f → is_verbatim_unc_name (Some f.prefix) ≡ true → f.length ≤ length t → IsWhole (take f.length t)
unc_whole s t f (of_verbatim rest mark filled no_unc no_drive) named fits =
    let own : name s rest ≡ 85 ∷ 78 ∷ 67 ∷ [] = (bytes_eq-Decides (name s rest) (85 ∷ 78 ∷ 67 ∷ [])).0 named in
    let size : length (name s rest) ≡ 3 = ap length own in
    let again : after_mark question (take (4 + length (name s rest)) t) ≡ Some (85 ∷ 78 ∷ 67 ∷ []) =
    (after_mark-reads question).whole t rest (length (name s rest)) mark.marked ∙ ap Some (take-front _ rest ∙ own) in
    (found (verbatim (85 ∷ 78 ∷ 67 ∷ [])) 7, unc_read (separators windows (take (4 + length (name s rest)) t)) (take (4 + length (name s rest)) t) again, omega (arith, length-take-le (4 + length (name s rest)) t fits, size))
unc_whole s t f r named fits = cc

-- so is a drive
disk_whole : (s : Separators) (t : List ℕ) (f : Found) → Read s t f → is_disk f.prefix ≡ true → IsWhole (take f.length t)
disk_whole s t f (of_disk letter drives) e =
    let again : drive (take 2 t) ≡ Some letter = drive-take 2 t (omega arith) ∙ drives in
    (found (disk letter) 2, ap (prefix_of windows) (sym (append-nil (take 2 t))) ∙ drive-stays (take 2 t) [] letter again, omega (arith, length-take-le 2 t (drive-size t letter drives)))
disk_whole s t f r e = cc

-- the raw text of each prefix is read as one prefix, though maybe of another kind
raw_whole : (t : List ℕ) (f : Found) → prefix_of windows t ≡ Some f → IsWhole (take f.length t)
raw_whole t f is = elim (cases_lt f.length (length t)) [
  | inl more ↦ by (is_disk f.prefix) refl (is_verbatim_unc_name (Some f.prefix)) refl more (prefix-read t f is)
  | inr all ↦ subst IsWhole (sym (take_all f.length t all)) (f, is, omega (arith, all, (prefix-fits windows t f is).fits))
]
  where
    by : (drives : Bool) → is_disk f.prefix ≡ drives → (named : Bool) → is_verbatim_unc_name (Some f.prefix) ≡ named → f.length < length t → Read (separators windows t) t f → IsWhole (take f.length t)
    by true e named g more r = disk_whole (separators windows t) t f r e
    by false e true g more r = unc_whole (separators windows t) t f r g (prefix-fits windows t f is).fits
    by false e false g more r = raw-whole t f is e g more

-- a text behind a prefix, cut where a component ends
found_front : (t : List ℕ) (f : Found) → prefix_of windows t ≡ Some f → (B : List Placed) → body (separators windows t) f.length (drop f.length t) ≡ B → (k : ℕ) → k < suc (length B)
    → texts (parts_of windows (take (end_at (component (prefix_part f.prefix (take f.length t)) 0 ++ B) k) t)) ≡ take (suc k) (texts_of (component (prefix_part f.prefix (take f.length t)) 0 ++ B))
found_front t f is B read zero inside =
    let fits = (prefix-fits windows t f is).fits in
    let long : 0 + length (take f.length t) ≡ f.length = omega (arith, length-take-le f.length t fits) in
    ap (λ n. texts (parts_of windows (take n t))) long ∙ whole-texts (take f.length t) (raw_whole t f is)
found_front t f is [] read (suc k) inside = absurd (omega arith)
found_front t f is (c ∷ B) read (suc k) inside =
    let s = separators windows t in
    let L = f.length in
    let e = end_at (c ∷ B) k in
    let raw = component (prefix_part f.prefix (take L t)) 0 in
    let kept : body s L (take (e - L) (drop L t)) ≡ take (suc k) (c ∷ B) =
    subst (λ ds. body s L (take (end_at ds k - L) (drop L t)) ≡ take (suc k) ds) read (body-take s L (drop L t) k (omega (arith, ap length read))) in
    let less : L < e = nonempty-cut s L e (drop L t) c (take k B) kept in
    let size : e ≡ L + (e - L) = omega arith in
    let same = same-found t e f is (record { fits = omega arith; joint = λ eq b bs rest. absurd (omega arith) }) in
    ap texts_of (ap₂ (λ r p. comps_behind r (take e t) p) same.same_separators (same.same_prefix ∙ is)
    ∙ ap₂ (λ u v. component (prefix_part f.prefix u) 0 ++ body s L v) (take-take L e t (omega arith)) (ap (λ n. drop L (take n t)) size ∙ drop-take L (e - L) t)
    ∙ ap (λ ds. raw ++ ds) kept)
    ∙ ap (λ ts. take L t ∷ ts) (texts-take (suc k) (c ∷ B))

plain_front : (s : Separators) (t : List ℕ) (k : ℕ) → k < length (body s 0 t) → body s 0 (take (end_at (body s 0 t) k) t) ≡ take (suc k) (body s 0 t)
plain_front s t k inside =
    let same : end_at (body s 0 t) k ≡ end_at (body s 0 t) k - 0 = omega arith in
    ap (λ n. body s 0 (take n t)) same ∙ body-take s 0 t k inside

-- a text cut where a component ends is read as the components up to there, as they are written
pub front_texts : (d : Dialect) (t : List ℕ) (k : ℕ) → k < length (comps d t) → texts (parts_of d (take (end_at (comps d t) k) t)) ≡ take (suc k) (texts (parts_of d t))
front_texts unix t k inside = ap texts_of (plain_front Slash t k inside) ∙ texts-take (suc k) (comps unix t)
front_texts windows t k inside = by (prefix_of windows t) refl inside
  where
    s : Separators
    s = separators windows t

    by : (o : Option Found) → prefix_of windows t ≡ o → k < length (comps_behind s t o) → texts (parts_of windows (take (end_at (comps_behind s t o) k) t)) ≡ take (suc k) (texts_of (comps_behind s t o))
    by None is less = grind (arith, same-none, s, plain_front, texts-take)
    by (Some f) is less = found_front t f is (body s f.length (drop f.length t)) refl k (omega arith)

nothing_read : (d : Dialect) → texts (parts_of d []) ≡ []
nothing_read unix = refl
nothing_read windows = refl

-- the first components of a path, read anew
first_texts : (d : Dialect) (t : List ℕ) (n : ℕ) → n ≤ length (comps d t) → texts (parts_of d (take (end_of_first (comps d t) n) t)) ≡ take n (texts (parts_of d t))
first_texts d t n within = grind (arith, nothing_read, front_texts)

shared_texts : (d : Dialect) (t u : List ℕ) → texts (parts_of d (take (shared_end d t u) t)) ≡ take (shared_count (texts (parts_of d t)) (texts (parts_of d u))) (texts (parts_of d t))
shared_texts d t u = grind (arith, first_texts, shared_count-fits, texts-length)

pub shared_longest : (d : Dialect) (t u : List ℕ) → IsLongest d t u (take (shared_end d t u) t)
shared_longest d t u = grind (arith, shared_texts, length-take, take_min, starts_own, starts_other, starts_shared)

some_is : (t c : List ℕ) → unless_empty t ≡ Some c → t ≡ c
some_is t c e = grind arith

none_is : (t : List ℕ) → unless_empty t ≡ None → t ≡ []
none_is t e = grind arith

pub longest : (d : Dialect) (t u c : List ℕ) → common_ancestor_of d t u ≡ Some c → IsLongest d t u c
longest d t u c is = subst (IsLongest d t u) (some_is (take (shared_end d t u) t) c is) (shared_longest d t u)

no_texts : (ps : List Part) → texts ps ≡ [] → ps ≡ []
no_texts [] e = refl
no_texts (p ∷ ps) e = cc

pub nothing_shared : (d : Dialect) (t u : List ℕ) → (take (shared_end d t u) t) ≡ [] → ShareNothing d t u
nothing_shared d t u is b one other =
    let begins = (shared_longest d t u).holds_all b one other in
    let none : texts (parts_of d (take (shared_end d t u) t)) ≡ [] = ap (λ c. texts (parts_of d c)) is ∙ nothing_read d in
    no_texts (parts_of d b) (starts_nothing (texts (parts_of d b)) (ap (λ vs. starts_with bytes_eq vs (texts (parts_of d b))) (sym none) ∙ begins))

pub share_nothing : (d : Dialect) (t u : List ℕ) → common_ancestor_of d t u ≡ None → ShareNothing d t u
share_nothing d t u is = nothing_shared d t u (none_is (take (shared_end d t u) t) is)
