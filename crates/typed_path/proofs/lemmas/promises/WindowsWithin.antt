-- On Windows a path that is within a base lies below it, from each absolute directory that keeps its prefix and is not verbatim.
use Rattle.std.proofs.Common.{◌≡◌, ℕ, suc, ◌-◌, ◌≤◌, true, false, not, ◌||◌, inl, inr, List, [], ◌∷◌, ◌++◌, map, if◌then◌else◌, length, take, drop, refl, sym, ap, ap₂, ◌∙◌, append_assoc, append-nil, arith, ne_eqb, subst, Some, None, length-append}
use Rattle.std.proofs.Math.Seq.{drop-append_seam}
use Rattle.std.proofs.lemmas.List.{map-append, drop-append-le, drop_all, length-take-le, take_all}
use Rattle.std.proofs.lemmas.Bool.{both_ways, cases_lt, cases_Bool, cond-true, cond-false}
use Rattle.typed_path.specs.declared.scan.separators.Separators.{Separators}
use Rattle.typed_path.specs.declared.scan.separators.Separators.TheVariants.{Either}
use Rattle.typed_path.specs.components.{windows, backslash, separators, Prefix, Kind, prefix, root, normal, kinds, Found, prefix_of, parts_of}
use Rattle.typed_path.specs.queries.{begins_with_root, has_prefix, has_any_verbatim_prefix, is_absolute, is_disk, is_verbatim_prefix}
use Rattle.typed_path.specs.changes.{push, push_windows, push_behind, raw_prefix, raw_length, ended_windows, is_disk_alone, spelled, merged}
use Rattle.typed_path.specs.places.{place, unmet, kept_names, headed, head_of, is_within}
use Rattle.typed_path.specs.promises.{IsBelow, without_leading_current}
use Rattle.typed_path.proofs.lemmas.components.Segments.{body_parts, body_parts-behind, body_parts-more}
use Rattle.typed_path.proofs.lemmas.components.Prefixes.{FoundFits, drive-take, prefix-fits, prefix-read, Read, of_disk}
use Rattle.typed_path.proofs.lemmas.components.PrefixCuts.{parts_of-none, parts_of-some, unprefixed, prefix_of-none}
use Rattle.typed_path.proofs.lemmas.components.FirmPrefixes.{Apart, parted as apart, is_firm, firm-long, firm-stays, drive-stays}
use Rattle.typed_path.proofs.lemmas.components.PartedPrefixes.{firm-end, firm-more, either}
use Rattle.typed_path.proofs.lemmas.changes.Joins.{Ending, ending, empty, ended, drive_alone, parted}
use Rattle.typed_path.proofs.lemmas.places.KeptNames.{kept_names-append, without_leading_current-kept, place-kept}
use Rattle.typed_path.proofs.lemmas.promises.UnixContained.{body_parts-later}
use Rattle.typed_path.proofs.lemmas.promises.WindowsContained.{firm-joined}
use Rattle.typed_path.proofs.lemmas.promises.Within.{kinds_of, Leading, Replaces, prefixed-below}
use Rattle.typed_path.proofs.lemmas.components.WrittenForms.{begins-append, rooted-separated}

-- What is read of a path with a prefix, and of one without.

abbrev pub body_kinds : Separators → List ℕ → List Kind
body_kinds s text = kinds (body_parts s text)

pub kinds-found : (v : List ℕ) (f : Found) → prefix_of windows v ≡ Some f → kinds_of windows v ≡ prefix f.prefix ∷ body_kinds (separators windows v) (drop f.length v)
kinds-found v f is = ap kinds (parts_of-some v f is)

pub kinds-none : (t : List ℕ) → prefix_of windows t ≡ None → kinds_of windows t ≡ body_kinds Either t
kinds-none t none = ap kinds (parts_of-none t none)

-- a path with a prefix replaces
pub replaces : (dir : List ℕ) → Replaces windows dir
replaces dir h prefixed = grind arith

-- what is pushed otherwise
pub push-bare : (dir : List ℕ) (b : ℕ) (path : List ℕ) → prefix_of windows (b ∷ path) ≡ None
    → push_windows dir (b ∷ path) ≡ (if has_any_verbatim_prefix (kinds_of windows dir) then spelled (merged (parts_of windows dir) (parts_of windows (b ∷ path))) else push_behind dir (b ∷ path))
push-bare dir b path none = cond-false (has_prefix (kinds_of windows (b ∷ path))) (b ∷ path) _ (unprefixed (λ p. true) (b ∷ path) none)

-- names behind a prefix and a root
abbrev pub under : Prefix → List (List ℕ) → List Kind
under p names = prefix p ∷ root ∷ map normal names

-- the place of a path with a prefix, where a root stands behind a drive
place-under : (v : List ℕ) (p : Prefix) (B : List Kind) → kinds_of windows v ≡ prefix p ∷ B → (is_disk p ≡ true → begins_with_root B ≡ true) → place windows v ≡ under p (kept_names B)
place-under v p B is rooted =
    place-kept windows v
    ∙ ap (λ ks. head_of ks ++ map normal (kept_names ks)) is
    ∙ ap (λ b. headed (Some p) b ++ map normal (kept_names B)) (elim (cases_Bool (is_disk p)) [
      | inl drives ↦ ap (λ b. not b || begins_with_root B) drives ∙ rooted drives
      | inr other ↦ ap (λ b. not b || begins_with_root B) other
    ])

-- An absolute directory is not a drive alone, and has a prefix.

pub absolute-prefixed : (ks : List Kind) → is_absolute windows ks ≡ true → has_prefix ks ≡ true
absolute-prefixed ks absolute = grind arith

absolute-rooted : (p : Prefix) (ks : List Kind) → is_absolute windows (prefix p ∷ ks) ≡ true → is_disk p ≡ true → begins_with_root ks ≡ true
absolute-rooted p ks absolute drives = grind arith

disk-rooted : (p : Prefix) (ks : List Kind) → (is_disk p ≡ true → begins_with_root ks ≡ true) → is_disk_alone (prefix p ∷ ks) ≡ false
disk-rooted p ks h = grind arith

pub kinds-plain : (text : List ℕ) (f : Found) → prefix_of windows text ≡ Some f → separators windows text ≡ Either → kinds_of windows text ≡ prefix f.prefix ∷ body_kinds Either (drop f.length text)
kinds-plain text f is plain = kinds-found text f is ∙ ap (λ s. prefix f.prefix ∷ body_kinds s (drop f.length text)) plain

-- a separator put behind a text adds no name
names-parted : (rest : List ℕ) → kept_names (body_kinds Either (rest ++ backslash ∷ [])) ≡ kept_names (body_kinds Either rest)
names-parted [] = refl
names-parted (c ∷ cs) =
    ap (λ ps. kept_names (kinds ps))
    (ap (body_parts Either) (sym (append-nil (c ∷ cs ++ backslash ∷ [])))
    ∙ body_parts-behind Either backslash (c ∷ cs) [] refl (ne_eqb (suc (length cs)) 0 (λ e. cc))
    ∙ append-nil (body_parts Either (c ∷ cs)))

rooted-more : (rest mid : List ℕ) → begins_with_root (body_kinds Either rest) ≡ true → begins_with_root (body_kinds Either (rest ++ mid)) ≡ true
rooted-more rest mid e = grind arith

-- a directory whose prefix is firm and not verbatim
module _ (dir : List ℕ) (f : Found) (is : prefix_of windows dir ≡ Some f) (firm : is_firm f.prefix ≡ true) (plain : is_verbatim_prefix f.prefix ≡ false) (absolute : is_absolute windows (kinds_of windows dir) ≡ true) where
  fits : FoundFits dir f
  fits = prefix-fits windows dir f is

  abbrev rest : List ℕ
  rest = drop f.length dir

  abbrev mid : List ℕ
  mid = (ending dir).0

  -- what is left of the directory, once a separator stands at its end
  abbrev own : List Kind
  own = body_kinds Either (rest ++ mid)

  dir-either : separators windows dir ≡ Either
  dir-either = either dir f is plain (firm-more (separators windows dir) dir f (prefix-read dir f is) firm)

  dir-kinds : kinds_of windows dir ≡ prefix f.prefix ∷ body_kinds Either rest
  dir-kinds = kinds-plain dir f is dir-either

  rooted-own : is_disk f.prefix ≡ true → begins_with_root (body_kinds Either rest) ≡ true
  rooted-own = absolute-rooted f.prefix _ (ap (is_absolute windows) (sym dir-kinds) ∙ absolute)

  no_drive : is_disk_alone (kinds_of windows dir) ≡ false
  no_drive = ap is_disk_alone dir-kinds ∙ disk-rooted f.prefix (body_kinds Either rest) rooted-own

  long : is_disk f.prefix ≡ false → 4 ≤ f.length
  long other = firm-long (separators windows dir) dir f (prefix-read dir f is) firm other

  tail : (mid : List ℕ) → Ending dir mid → (front : List ℕ) × (rest ++ mid ≡ front ++ backslash ∷ [])
  tail _ (empty none) = absurd (omega (arith, fits.filled, fits.fits, ap length none))
  tail _ (drive_alone alone) = absurd (both_ways _ no_drive alone)
  tail _ (parted other filled unended) = (rest, refl)
  tail _ (ended front last) = elim (cases_lt (length front) f.length) [
    | inl short ↦
        let whole : f.length ≡ length dir = omega (arith, short, fits.fits, ap length last, length-append front (backslash ∷ [])) in
        absurd (elim (cases_Bool (is_disk f.prefix)) [
          | inl drives ↦
              let e : false ≡ true = ap (λ t. begins_with_root (body_kinds Either t)) (sym (drop_all f.length dir (omega (arith, whole)))) ∙ rooted-own drives in cc
          | inr other ↦ (firm-end dir f is firm other plain).unended whole front last
        ])
    | inr long ↦ (drop f.length front, append-nil rest ∙ ap (drop f.length) last ∙ drop-append-le f.length front (backslash ∷ []) long)
  ]

  own-names : kept_names own ≡ kept_names (body_kinds Either rest)
  own-names = by mid (ending dir).2
    where
      by : (mid : List ℕ) → Ending dir mid → kept_names (body_kinds Either (rest ++ mid)) ≡ kept_names (body_kinds Either rest)
      by _ (empty none) = ap (λ t. kept_names (body_kinds Either t)) (append-nil rest)
      by _ (drive_alone alone) = ap (λ t. kept_names (body_kinds Either t)) (append-nil rest)
      by _ (ended front last) = ap (λ t. kept_names (body_kinds Either t)) (append-nil rest)
      by _ (parted other filled unended) = names-parted rest

  -- the prefix stays with a text behind the directory, or apart behind the prefix
  drive-again : (f : Found) → Read (separators windows dir) dir f → is_disk f.prefix ≡ true → (y : List ℕ) → (prefix_of windows (dir ++ y) ≡ Some f) × (prefix_of windows (take f.length dir ++ y) ≡ Some f)
  drive-again f (of_disk letter drives) kind y = (drive-stays dir y letter drives, drive-stays (take 2 dir) y letter (drive-take 2 dir (omega arith) ∙ drives))
  drive-again f read kind y = cc

  -- what is pushed stands behind the directory
  pushed : (b : ℕ) (path : List ℕ) → prefix_of windows (b ∷ path) ≡ None → push_windows dir (b ∷ path) ≡ push_behind dir (b ∷ path)
  pushed b path h = grind (arith, push-bare, cond-false)

  -- a path with a root stands behind the prefix
  rooted-place : (t : List ℕ) → prefix_of windows t ≡ None → begins_with_root (kinds_of windows t) ≡ true → place windows (push windows dir t) ≡ under f.prefix (kept_names (kinds_of windows t))
  rooted-place [] none rooted = cc
  rooted-place (b ∷ path) none rooted =
      let t = b ∷ path in
      let raw = take f.length dir in
      let size : length raw ≡ f.length = length-take-le f.length dir fits.fits in
      let begins : begins_with_root (body_kinds Either t) ≡ true = ap begins_with_root (sym (kinds-none t none)) ∙ rooted in
      let now : prefix_of windows (raw ++ t) ≡ Some f = elim (cases_Bool (is_disk f.prefix)) [
        | inl drives ↦ (drive-again f (prefix-read dir f is) drives t).1
        | inr other ↦
            firm-stays dir t f is firm other (subst (λ s. Apart s t) (sym dir-either) (apart b path (rooted-separated Either b path begins))) (omega (arith, long other))
      ] in
      let again = either (raw ++ t) f now plain (λ other. omega (arith, long other, size, length-append raw t)) in
      let behind : drop f.length (raw ++ t) ≡ t = ap (λ n. drop n (raw ++ t)) (sym size) ∙ drop-append_seam raw t in
      ap (place windows)
      (pushed b path none
      ∙ cond-true (begins_with_root (kinds_of windows t)) (raw_prefix dir ++ t) (ended_windows dir ++ t) rooted
      ∙ ap (λ o. take (raw_length o) dir ++ t) is)
      ∙ place-under (raw ++ t) f.prefix (body_kinds Either t) (kinds-plain (raw ++ t) f now again ∙ ap (λ x. prefix f.prefix ∷ body_kinds Either x) behind) (λ drives. begins)
      ∙ ap (λ ks. under f.prefix (kept_names ks)) (sym (kinds-none t none))

  -- what is left of the directory and a path behind it
  abbrev left_behind : List ℕ → List (List ℕ)
  left_behind t = take (length (kept_names own) - unmet (kinds_of windows t)) (kept_names own) ++ kept_names (kinds_of windows t)

  -- a path without a root stands behind the directory
  relative-place : (t : List ℕ) → prefix_of windows t ≡ None → begins_with_root (kinds_of windows t) ≡ false → place windows (push windows dir t) ≡ under f.prefix (left_behind t)
  relative-place [] none relative =
      place-under dir f.prefix (body_kinds Either rest) dir-kinds rooted-own
      ∙ ap (under f.prefix) (sym own-names ∙ sym (take_all (length (kept_names own) - 0) (kept_names own) (omega arith)) ∙ sym (append-nil _))
  relative-place (b ∷ path) none relative =
      let t = b ∷ path in
      let text = dir ++ (mid ++ t) in
      let parts = without_leading_current (body_parts Either t) in
      let alike = without_leading_current-kept (body_parts Either t) in
      let unrooted : begins_with_root (body_kinds Either t) ≡ false = ap begins_with_root (sym (kinds-none t none)) ∙ relative in
      let now : prefix_of windows text ≡ Some f = elim (cases_Bool (is_disk f.prefix)) [
        | inl drives ↦ (drive-again f (prefix-read dir f is) drives (mid ++ t)).0
        | inr other ↦ firm-joined dir mid t f is firm other plain no_drive (ending dir).2
      ] in
      let again = either text f now plain (λ other. omega (arith, long other, fits.fits, length-append dir (mid ++ t), length-append mid t)) in
      let last = tail mid (ending dir).2 in
      let joined : body_parts Either ((rest ++ mid) ++ t) ≡ body_parts Either (rest ++ mid) ++ parts =
      subst (λ u. body_parts Either (u ++ t) ≡ body_parts Either u ++ parts) (sym last.1)
      (body_parts-more Either backslash last.0 t refl ∙ ap (λ ps. body_parts Either (last.0 ++ backslash ∷ []) ++ ps) (body_parts-later Either t refl unrooted)) in
      let listed : body_kinds Either (rest ++ (mid ++ t)) ≡ own ++ kinds parts =
      ap (body_kinds Either) (sym (append_assoc rest mid t)) ∙ ap kinds joined ∙ map-append (λ p. p.kind) (body_parts Either (rest ++ mid)) parts in
      ap (place windows)
      (pushed b path none
      ∙ cond-false (begins_with_root (kinds_of windows t)) (raw_prefix dir ++ t) (ended_windows dir ++ t) relative
      ∙ ap (λ u. u ++ t) (ending dir).1
      ∙ append_assoc dir mid t)
      ∙ place-under text f.prefix (body_kinds Either (rest ++ (mid ++ t))) (kinds-plain text f now again ∙ ap (λ u. prefix f.prefix ∷ body_kinds Either u) (drop-append-le f.length dir (mid ++ t) fits.fits))
      (λ drives. ap begins_with_root listed ∙ begins-append own _ (rooted-more rest mid (rooted-own drives)))
      ∙ ap (under f.prefix)
      (ap kept_names listed ∙ kept_names-append own (kinds parts)
      ∙ ap₂ (λ n names. take (length (kept_names own) - n) (kept_names own) ++ names) (alike.unmet ∙ ap unmet (sym (kinds-none t none))) (alike.names ∙ ap kept_names (sym (kinds-none t none))))

  pub bare-leading : Leading windows dir
  bare-leading = record {
    head = prefix f.prefix ∷ root ∷ [];
    before = [];
    own = kept_names own;
    rooted = λ t bare rooted. rooted-place t (prefix_of-none t bare) rooted;
    relative = λ t bare relative. relative-place t (prefix_of-none t bare) relative;
  }

-- a path with a prefix lies so from every directory
pub prefixed_below : (dir base t : List ℕ) → has_prefix (kinds_of windows t) ≡ true → is_within windows t base ≡ true → IsBelow windows (push windows dir base) (push windows dir t)
prefixed_below dir base t = prefixed-below windows dir base t (replaces dir)
