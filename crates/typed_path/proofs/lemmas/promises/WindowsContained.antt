-- A checked push on Windows stays within its base, and the bases that keep their prefix.
use Rattle.std.proofs.Common.{◌≡◌, ℕ, ◌<◌, true, false, if◌then◌else◌, List, [], ◌∷◌, ◌++◌, length, take, refl, sym, ap, ap₂, ◌∙◌, subst, append-nil, append_assoc, arith, ◌==◌, ◌&&◌, inl, inr, drop, Option, Some, None, option_and_then, take-append-drop, length-append, length-drop, ◌+◌, ◌⊎◌, option_map, eqb-true}
use Rattle.std.proofs.lemmas.Bool.{cond_both, both_ways, false_from_ne_true, cases_Bool, and_parts, cond-true, cond-false, and_left, and_right, or_cases, true_from_ne_false}
use Rattle.std.proofs.lemmas.List.{same_from_push}
use Rattle.typed_path.specs.declared.scan.separators.Separators.TheVariants.{Backslash, Either}
use Rattle.typed_path.specs.declared.scan.separators.Separators.{Separators}
use Rattle.typed_path.specs.components.{windows, begins_verbatim, separators, slash, backslash, colon, is_separator, Prefix, Part, kinds, disk, Found, prefix_of, found, is_drive_letter, to_upper, drive, parts_of}
use Rattle.typed_path.specs.queries.{is_verbatim_prefix, has_any_verbatim_prefix, is_disk}
use Rattle.typed_path.specs.changes.{push_windows, spelled, merged, ended_windows, is_disk_alone, fault}
use Rattle.typed_path.specs.places.{resolve, place}
use Rattle.typed_path.specs.promises.{prefix_kind, is_verbatim_unc_name, LiesWithin, keeps_by_prefix, HasPrefixOf, keeps_prefix}
use Rattle.typed_path.proofs.lemmas.components.Segments.{body_parts, body_parts-read, AreRead, parts_behind, first_part, later_parts}
use Rattle.typed_path.proofs.lemmas.components.PrefixCuts.{verbatim_text, name-filled, parts_of-none, parts_of-some, verbatim-some, verbatim-none}
use Rattle.typed_path.proofs.lemmas.changes.Faults.{place_of, IsFaultless, faultless, push-faultless, no_heads-relative, body_parts-relative}
use Rattle.typed_path.proofs.lemmas.changes.Joins.{Ending, ending, empty, ended, drive_alone, parted as put}
use Rattle.typed_path.proofs.lemmas.promises.WindowsBases.{none-place, plain-joined, found-place, spelled-rest, separators-spelled, spelled-place, Rest, read-no_drive, disk_alone-disk, rest-separated, verbatim-no_drive, merged-read}
use Rattle.typed_path.proofs.lemmas.components.Prefixes.{FoundFits, prefix-fits, prefix-read, separators-windows, backslash-separates, Read, of_disk}
use Rattle.typed_path.proofs.lemmas.components.FirmPrefixes.{Apart, nothing, parted, share_made, is_firm, firm-long, firm-stays, prefix-apart, three_separators, nothing as bare, filled-long, drive-stays}
use Rattle.typed_path.proofs.lemmas.components.PartedPrefixes.{FirmEnd, firm-end, firm-more}
use Rattle.typed_path.proofs.lemmas.lists.Lists.{slice_split-some}
use Rattle.typed_path.proofs.lemmas.lists.Options.{unless-none, or-none, none-first}

-- A checked push on Windows stays within its base, where the prefix stays.

-- a text without a kind of prefix has no prefix, and one with a kind has one of that kind
prefix_kind-none : (t : List ℕ) → prefix_kind windows t ≡ None → prefix_of windows t ≡ None
prefix_kind-none t e = by (prefix_of windows t) e
  where
    by : (o : Option Found) → option_map (λ f. f.prefix) o ≡ None → o ≡ None
    by o e = grind arith

prefix_kind-some : (t : List ℕ) (p : Prefix) → prefix_kind windows t ≡ Some p → (g : Found) × (prefix_of windows t ≡ Some g) × (g.prefix ≡ p)
prefix_kind-some t p e = by (prefix_of windows t) e
  where
    by : (o : Option Found) → option_map (λ f. f.prefix) o ≡ Some p → (g : Found) × (o ≡ Some g) × (g.prefix ≡ p)
    by o e = grind arith

-- a text is read verbatim where its front is
plain-front : (front rest : List ℕ) → begins_verbatim (front ++ rest) ≡ false → begins_verbatim front ≡ false
plain-front front rest plain = false_from_ne_true _ (λ marked. both_ways (begins_verbatim (front ++ rest)) plain (ap (λ t. begins_verbatim (t ++ rest)) (verbatim_text front marked)))

-- a text with a prefix that is not read verbatim
parts_of-plain : (t : List ℕ) (f : Found) → prefix_of windows t ≡ Some f → begins_verbatim t ≡ false → parts_of windows t ≡ parts_behind Either t (Some f)
parts_of-plain t f is plain = parts_of-some t f is ∙ ap (λ b. parts_behind (if b then Backslash else Either) t (Some f)) plain

module _ (base path : List ℕ) (fine : IsFaultless path) where
  -- a base without a prefix
  within-none : (mid : List ℕ) → Ending base mid → prefix_of windows base ≡ None → LiesWithin windows base path (base ++ (mid ++ path))
  within-none mid ending h stays = grind (arith, ending, prefix_kind-none, place_of, parts_of-none, none-place)

  -- a base with a prefix that is not verbatim
  within-found : (mid : List ℕ) (f : Found) → Ending base mid → 0 < length path → prefix_of windows base ≡ Some f → is_verbatim_prefix f.prefix ≡ false → LiesWithin windows base path (base ++ (mid ++ path))
  within-found mid f ending filled is kind stays =
      let text = base ++ (mid ++ path) in
      let now = prefix_kind-some text f.prefix (stays ∙ ap (option_map (λ f. f.prefix)) is) in
      let plain = plain-joined path fine base mid f now.0 is filled now.1 (ap is_verbatim_prefix now.2 ∙ kind) in
      ap place_of (parts_of-plain text now.0 now.1 plain)
      ∙ found-place path fine base mid f now.0 ending is now.1 now.2
      ∙ ap₂ (λ ps qs. place_of ps ++ kinds (resolve qs)) (sym (parts_of-plain base f is (plain-front base (mid ++ path) plain))) (sym fine.read)

  -- a base with a verbatim prefix
  within-spelled : (f : Found) → prefix_of windows base ≡ Some f → is_verbatim_prefix f.prefix ≡ true → LiesWithin windows base path (spelled (merged (parts_of windows base) (parts_of windows path)))
  within-spelled f is kind =
      let written = spelled-rest base path f is kind fine in
      subst (LiesWithin windows base path) (sym written.1) (λ stays.
      let text = take f.length base ++ written.0 in
      let now = prefix_kind-some text f.prefix (stays ∙ ap (option_map (λ f. f.prefix)) is) in
      ap place_of (parts_of-some text now.0 now.1)
      ∙ ap (λ s. place_of (parts_behind s text (Some now.0))) (separators-spelled base path f is kind fine written.0)
      ∙ spelled-place base path f is kind fine written.0 now.0 written.2 now.1 now.2
      ∙ ap₂ (λ ps qs. place_of ps ++ kinds (resolve qs)) (sym (parts_of-some base f is)) (sym fine.read))

  -- a base that is not spelled anew
  within-ended : 0 < length path → has_any_verbatim_prefix (kinds (parts_of windows base)) ≡ false → LiesWithin windows base path (ended_windows base ++ path)
  within-ended filled other =
      let behind = ending base in
      subst (LiesWithin windows base path) (sym (ap (λ t. t ++ path) behind.1 ∙ append_assoc base behind.0 path)) (by (prefix_of windows base) refl behind.0 behind.2)
    where
      by : (o : Option Found) → prefix_of windows base ≡ o → (mid : List ℕ) → Ending base mid → LiesWithin windows base path (base ++ (mid ++ path))
      by None is mid ending = within-none mid ending is
      by (Some f) is mid ending = within-found mid f ending filled is (sym (verbatim-some base f is) ∙ other)

  -- a base that is
  within-anew : has_any_verbatim_prefix (kinds (parts_of windows base)) ≡ true → LiesWithin windows base path (spelled (merged (parts_of windows base) (parts_of windows path)))
  within-anew anew = by (prefix_of windows base) refl
    where
      by : (o : Option Found) → prefix_of windows base ≡ o → LiesWithin windows base path (spelled (merged (parts_of windows base) (parts_of windows path)))
      by None is = absurd (both_ways (has_any_verbatim_prefix (kinds (parts_of windows base))) (verbatim-none base is) anew)
      by (Some f) is = within-spelled f is (sym (verbatim-some base f is) ∙ anew)

-- a path that is not refused stays within its base
pub contained : (base path : List ℕ) → fault windows path ≡ None → LiesWithin windows base path (push_windows base path)
contained base [] accepted = λ stays. sym (append-nil (place windows base))
contained base (b ∷ path) accepted =
    let fine = faultless (b ∷ path) accepted in
    subst (LiesWithin windows base (b ∷ path)) (sym (push-faultless base b path fine))
    (cond_both (has_any_verbatim_prefix (kinds (parts_of windows base))) _ _ (LiesWithin windows base (b ∷ path)) (within-anew base (b ∷ path) fine) (within-ended base (b ∷ path) fine (omega arith)))

-- A base of Windows keeps its prefix where a path is put behind it, with a separator where it needs one.

-- what is put behind a base stands apart from its prefix
pub firm-joined : (base mid path : List ℕ) (f : Found) → prefix_of windows base ≡ Some f → is_firm f.prefix ≡ true → is_disk f.prefix ≡ false → is_verbatim_prefix f.prefix ≡ false
    → is_disk_alone (kinds (parts_of windows base)) ≡ false → Ending base mid → prefix_of windows (base ++ (mid ++ path)) ≡ Some f
firm-joined base mid path f is firm other plain no_drive ending =
    let x = drop f.length base ++ (mid ++ path) in
    let whole : base ++ (mid ++ path) ≡ take f.length base ++ x = ap (λ t. t ++ (mid ++ path)) (sym (take-append-drop f.length base)) ∙ append_assoc (take f.length base) (drop f.length base) (mid ++ path) in
    let behind = by (drop f.length base) refl end.behind mid ending in
    let long = firm-long (separators windows base) base f (prefix-read base f is) firm other in
    ap (prefix_of windows) whole ∙ firm-stays base x f is firm other (subst (λ s. Apart s x) (sym end.plain) behind.0) (omega (arith, long, behind.1))
  where
    end : FirmEnd base f
    end = firm-end base f is firm other plain

    fits : FoundFits base f
    fits = prefix-fits windows base f is

    by : (rest : List ℕ) → drop f.length base ≡ rest → Apart Either rest → (mid : List ℕ) → Ending base mid → Apart Either (rest ++ (mid ++ path)) × (0 < length (rest ++ (mid ++ path)))
    by _ e (parted b bs h) mid ending = (parted b (bs ++ (mid ++ path)) h, omega arith)
    by _ e nothing _ (empty none) = absurd (omega (arith, fits.filled, fits.fits, ap length none))
    by _ e nothing _ (ended front last) = absurd (end.unended (omega (arith, fits.fits, ap length e, length-drop f.length base)) front last)
    by _ e nothing _ (drive_alone drive) = absurd (both_ways _ no_drive drive)
    by _ e nothing _ (put other_drive filled unended) = (parted backslash path refl, omega arith)

-- two separators that begin a text without a prefix have a third behind them
third-separates : (a b c : ℕ) (text : List ℕ) → (is_separator Either a && is_separator Either b) ≡ true → prefix_of windows (a ∷ b ∷ c ∷ text) ≡ None → is_separator Either c ≡ true
third-separates a b c text two h = grind (arith, none-first, or-none, unless-none, share_made, cond-true, true_from_ne_false, name-filled, eqb-true)

-- a text with a path put behind it that begins with no separator
module _ (b : ℕ) (path : List ℕ) (plain : is_separator Either b ≡ false) where
  -- a base of one byte
  one-joined : (c : ℕ) (mid : List ℕ) → keeps_by_prefix (c ∷ []) None ≡ true → is_disk_alone (kinds (parts_of windows (c ∷ []))) ≡ false → Ending (c ∷ []) mid → prefix_of windows (c ∷ [] ++ (mid ++ b ∷ path)) ≡ None
  one-joined c _ kept no_drive (empty e) = cc
  one-joined c _ kept no_drive (ended front e) =
      let last : c ≡ backslash = (same_from_push [] front c backslash e).1 in
      prefix-apart c b path (and_right (is_separator Either c) (is_separator Either b) plain)
      ∙ ap (option_and_then (λ l. Some (found (disk l) 2))) (cond-false (is_drive_letter c && b == colon) (Some (to_upper c)) None (and_left (is_drive_letter c) (b == colon) (ap is_drive_letter last)))
  one-joined c _ kept no_drive (drive_alone drive) = absurd (both_ways _ no_drive drive)
  one-joined c _ kept no_drive (put other filled unended) =
      let alone : is_separator Either c ≡ false = false_from_ne_true _ (λ h. elim (or_cases (c == slash) (c == backslash) h) [
        | inl e ↦ both_ways _ (ap (λ d. keeps_by_prefix (d ∷ []) None) (eqb-true c slash e)) kept
        | inr e ↦ unended [] (ap (λ d. d ∷ []) (eqb-true c backslash e))
      ]) in
      prefix-apart c backslash (b ∷ path) (and_left (is_separator Either c) true alone)
      ∙ ap (option_and_then (λ l. Some (found (disk l) 2))) (cond-false (is_drive_letter c && backslash == colon) (Some (to_upper c)) None (and_right (is_drive_letter c) false refl))

  -- a base of two bytes or more
  two-joined : (c d : ℕ) (rest mid : List ℕ) → prefix_of windows (c ∷ d ∷ rest) ≡ None → keeps_by_prefix (c ∷ d ∷ rest) None ≡ true → is_disk_alone (kinds (parts_of windows (c ∷ d ∷ rest))) ≡ false → Ending (c ∷ d ∷ rest) mid
      → prefix_of windows (c ∷ d ∷ rest ++ (mid ++ b ∷ path)) ≡ None
  two-joined c d rest mid is kept no_drive ending = elim (cases_Bool (is_separator Either c && is_separator Either d)) [
    | inl two ↦ by rest mid two is kept no_drive ending
    | inr apart ↦ prefix-apart c d (rest ++ (mid ++ b ∷ path)) apart ∙ sym (prefix-apart c d rest apart) ∙ is
  ]
    where
      by : (rest mid : List ℕ) → (is_separator Either c && is_separator Either d) ≡ true → prefix_of windows (c ∷ d ∷ rest) ≡ None → keeps_by_prefix (c ∷ d ∷ rest) None ≡ true → is_disk_alone (kinds (parts_of windows (c ∷ d ∷ rest))) ≡ false
          → Ending (c ∷ d ∷ rest) mid → prefix_of windows (c ∷ d ∷ rest ++ (mid ++ b ∷ path)) ≡ None
      by (e ∷ es) mid two is kept no_drive ending =
          let both = and_parts (is_separator Either c) (is_separator Either d) two in
          three_separators c d e (es ++ (mid ++ b ∷ path)) both.0 both.1 (third-separates c d e es two is)
      by [] _ two is kept no_drive (empty e) = cc
      by [] _ two is kept no_drive (ended front e) =
          let last : d ≡ backslash = (same_from_push (c ∷ []) front d backslash e).1 in
          absurd (elim (or_cases (c == slash) (c == backslash) (and_parts (is_separator Either c) (is_separator Either d) two).0) [
            | inl first ↦ both_ways _ (λ i. keeps_by_prefix (eqb-true c slash first i ∷ last i ∷ []) None) kept
            | inr first ↦ both_ways _ (λ i. keeps_by_prefix (eqb-true c backslash first i ∷ last i ∷ []) None) kept
          ])
      by [] _ two is kept no_drive (drive_alone drive) = absurd (both_ways _ no_drive drive)
      by [] _ two is kept no_drive (put other filled unended) =
          let both = and_parts (is_separator Either c) (is_separator Either d) two in
          three_separators c d backslash (b ∷ path) both.0 both.1 refl

  -- a base without a prefix gets none, where it is listed
  pub none-joined : (base mid : List ℕ) → prefix_of windows (b ∷ path) ≡ None → prefix_of windows base ≡ None → keeps_by_prefix base None ≡ true → is_disk_alone (kinds (parts_of windows base)) ≡ false → Ending base mid
      → prefix_of windows (base ++ (mid ++ b ∷ path)) ≡ None
  none-joined [] _ none is kept no_drive (empty e) = none
  none-joined [] _ none is kept no_drive (ended front e) = absurd (omega (arith, ap length e, length-append front (backslash ∷ [])))
  none-joined [] _ none is kept no_drive (drive_alone drive) = none
  none-joined [] _ none is kept no_drive (put other filled unended) = absurd (omega arith)
  none-joined (c ∷ []) mid none is kept no_drive ending = one-joined c mid kept no_drive ending
  none-joined (c ∷ d ∷ rest) mid none is kept no_drive ending = two-joined c d rest mid is kept no_drive ending

-- A base of Windows keeps a verbatim prefix where its list is spelled anew.

-- a text is read as some component, unless it is empty
body_parts-some : (s : Separators) (b : ℕ) (bs : List ℕ) → (p : Part) × (ps : List Part) × (body_parts s (b ∷ bs) ≡ p ∷ ps)
body_parts-some s b bs = let some = slice_split-some (is_separator s) (b ∷ bs) in (first_part s some.0, later_parts s some.1, rw some.2 refl)

-- a list that is not empty is spelled with some bytes
pub rest-filled : (s : Separators) (p : Part) (ps : List Part) (rest : List ℕ) → AreRead s (p ∷ ps) → Rest (p ∷ ps) rest → (length rest == 0) ≡ false
rest-filled s p ps rest read h = grind arith

-- a rest that begins with a separator or is empty stands apart
pub rest-apart : (s : Separators) (rest : List ℕ) → is_separator s backslash ≡ true → (rest ≡ []) ⊎ ((more : List ℕ) × (rest ≡ backslash ∷ more)) → Apart s rest
rest-apart s rest separates h = grind (arith, bare, parted)

-- a raw prefix with the rest of its list behind it, and more components at its end, has the same prefix
pub spelled-keeps : (base rest : List ℕ) (f : Found) (added : List Part) → prefix_of windows base ≡ Some f → is_firm f.prefix ≡ true → is_disk f.prefix ≡ false
    → AreRead (separators windows base) (body_parts (separators windows base) (drop f.length base) ++ added) → Rest (body_parts (separators windows base) (drop f.length base) ++ added) rest
    → (rest ≡ []) ⊎ ((more : List ℕ) × (rest ≡ backslash ∷ more)) → prefix_of windows (take f.length base ++ rest) ≡ Some f
spelled-keeps base rest f added is firm other read spelt separated =
    firm-stays base rest f is firm other (rest-apart s rest (backslash-separates s (separators-windows base)) separated) (long (drop f.length base) refl read spelt)
  where
    s : Separators
    s = separators windows base

    long : (behind : List ℕ) → drop f.length base ≡ behind → AreRead s (body_parts s behind ++ added) → Rest (body_parts s behind ++ added) rest → 4 < f.length + length rest
    long [] e read spelt = omega (arith, firm-more s base f (prefix-read base f is) firm other, ap length e, length-drop f.length base)
    long (b ∷ bs) e read spelt =
        let some = body_parts-some s b bs in
        let filled = rest-filled s some.0 (some.1 ++ added) rest (subst (λ ps. AreRead s (ps ++ added)) some.2 read) (subst (λ ps. Rest (ps ++ added) rest) some.2 spelt) in
        omega (arith, firm-long s base f (prefix-read base f is) firm other, filled-long rest filled)

-- The bases of Windows that keep their prefix under every path that is not refused.

-- where there is a prefix, the base itself does not count
pub keeps_by_prefix-firm : (base : List ℕ) (p : Prefix) → keeps_by_prefix base (Some p) ≡ is_firm p
keeps_by_prefix-firm base p = grind arith

-- so a base that keeps its prefix has a firm one
pub firm-kept : (base : List ℕ) (f : Found) → prefix_of windows base ≡ Some f → keeps_prefix windows base ≡ true → is_firm f.prefix ≡ true
firm-kept base f is kept = sym (keeps_by_prefix-firm base f.prefix) ∙ ap (λ o. keeps_by_prefix base (option_map (λ g. g.prefix) o)) (sym is) ∙ kept

module _ (base : List ℕ) (b : ℕ) (bs : List ℕ) (fine : IsFaultless (b ∷ bs)) where
  abbrev path : List ℕ
  path = b ∷ bs

  -- a base without a verbatim prefix has the path put behind it
  push-behind : has_any_verbatim_prefix (kinds (parts_of windows base)) ≡ false → push_windows base path ≡ base ++ ((ending base).0 ++ path)
  push-behind plain =
      push-faultless base b bs fine
      ∙ cond-false _ (spelled (merged (parts_of windows base) (parts_of windows path))) (ended_windows base ++ path) plain
      ∙ ap (λ t. t ++ path) (ending base).1
      ∙ append_assoc base (ending base).0 path

  -- a base without a prefix gets none
  none-kept : prefix_of windows base ≡ None → keeps_by_prefix base None ≡ true → prefix_kind windows (push_windows base path) ≡ None
  none-kept none kept =
      let plain = body_parts-relative Either b bs (no_heads-relative (kinds (body_parts Either path)) fine.headless) in
      let no_drive = false_from_ne_true _ (λ alone. read-no_drive Either (body_parts Either base) (body_parts-read Either base) (ap (λ ps. is_disk_alone (kinds ps)) (sym (parts_of-none base none)) ∙ alone)) in
      ap (prefix_kind windows) (push-behind (verbatim-none base none))
      ∙ ap (option_map (λ g. g.prefix)) (none-joined b bs plain base (ending base).0 fine.no_prefix none kept no_drive (ending base).2)

  module _ (f : Found) (is : prefix_of windows base ≡ Some f) where
    -- under a prefix that is not verbatim
    plain-kept : is_firm f.prefix ≡ true → is_verbatim_prefix f.prefix ≡ false → prefix_kind windows (push_windows base path) ≡ Some f.prefix
    plain-kept firm plain =
        ap (prefix_kind windows) (push-behind (verbatim-some base f is ∙ plain))
        ∙ elim (cases_Bool (is_disk f.prefix)) [
          | inl drives ↦ drive-kept f (prefix-read base f is) drives
          | inr other ↦ ap (option_map (λ g. g.prefix)) (firm-joined base (ending base).0 path f is firm other plain (no_drive other) (ending base).2)
        ]
      where
        drive-kept : (f : Found) → Read (separators windows base) base f → is_disk f.prefix ≡ true → prefix_kind windows (base ++ ((ending base).0 ++ path)) ≡ Some f.prefix
        drive-kept f (of_disk letter drives) kind = ap (option_map (λ g. g.prefix)) (drive-stays base ((ending base).0 ++ path) letter drives)
        drive-kept f read kind = cc

        no_drive : is_disk f.prefix ≡ false → is_disk_alone (kinds (parts_of windows base)) ≡ false
        no_drive other = false_from_ne_true _ (λ alone. both_ways _ other (disk_alone-disk f.prefix _ (ap (λ ps. is_disk_alone (kinds ps)) (sym (parts_of-some base f is)) ∙ alone)))

    -- under a verbatim prefix
    verbatim-kept : is_firm f.prefix ≡ true → is_verbatim_prefix f.prefix ≡ true → prefix_kind windows (push_windows base path) ≡ Some f.prefix
    verbatim-kept firm marked =
        let written = spelled-rest base path f is marked fine in
        let separated = rest-separated (separators windows base) (separators-windows base) _ written.0 (merged-read base path f is marked fine) written.2 in
        ap (prefix_kind windows)
        (push-faultless base b bs fine
        ∙ cond-true _ (spelled (merged (parts_of windows base) (parts_of windows path))) (ended_windows base ++ path) (verbatim-some base f is ∙ marked)
        ∙ written.1)
        ∙ ap (option_map (λ g. g.prefix)) (spelled-keeps base written.0 f _ is firm (verbatim-no_drive f.prefix marked) (merged-read base path f is marked fine) written.2 separated)

-- every base that is listed keeps its prefix
pub keeps : (base path : List ℕ) → fault windows path ≡ None → HasPrefixOf windows base (push_windows base path)
keeps base [] accepted kept = refl
keeps base (b ∷ bs) accepted kept = by (prefix_of windows base) refl kept
  where
    fine : IsFaultless (b ∷ bs)
    fine = faultless (b ∷ bs) accepted

    by : (o : Option Found) → prefix_of windows base ≡ o → keeps_by_prefix base (option_map (λ f. f.prefix) o) ≡ true → prefix_kind windows (push_windows base (b ∷ bs)) ≡ option_map (λ f. f.prefix) o
    by o is kept = grind (arith, none-kept, fine, keeps_by_prefix-firm, cases_Bool, verbatim-kept, plain-kept)

-- and none of them has the verbatim prefix that is named `UNC`
pub kept_no_unc : (base : List ℕ) → keeps_prefix windows base ≡ true → is_verbatim_unc_name (prefix_kind windows base) ≡ false
kept_no_unc base kept = by (prefix_kind windows base) kept
  where
    by : (o : Option Prefix) → keeps_by_prefix base o ≡ true → is_verbatim_unc_name o ≡ false
    by None e = refl
    by (Some p) e = grind arith
