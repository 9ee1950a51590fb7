-- On Windows the path that leads from a base to another, joined to a base that is not verbatim and keeps its prefix, leads where that leads.
use Rattle.std.proofs.Common.{◌≡◌, ℕ, suc, ◌<◌, ◌≤◌, true, false, not, ◌||◌, inl, inr, List, [], ◌∷◌, ◌++◌, length, drop, refl, sym, ap, ap₂, ◌∙◌, append_assoc, append-nil, arith, ne_eqb, subst, Option, Some, None, option_map, length-append}
use Rattle.std.proofs.lemmas.List.{map-append, drop-append-le, drop_all}
use Rattle.std.proofs.lemmas.Bool.{both_ways, cases_lt, cases_Bool, cond-false, false_from_ne_true}
use Rattle.typed_path.specs.declared.scan.separators.Separators.TheVariants.{Either}
use Rattle.typed_path.specs.components.{windows, backslash, separators, is_separator, Prefix, prefix, root, kinds, parts_of, Found, prefix_of}
use Rattle.typed_path.specs.queries.{begins_with_root, first_prefix, has_any_verbatim_prefix, is_disk, is_verbatim_prefix}
use Rattle.typed_path.specs.changes.{push, push_windows, push_behind, raw_prefix, ended_windows, is_disk_alone, spelled, merged}
use Rattle.typed_path.specs.places.{is_anchored, kept_names, names_down, relative_text, route, steps_up, unmet}
use Rattle.typed_path.specs.promises.{keeps_by_prefix, keeps_prefix}
use Rattle.typed_path.proofs.lemmas.components.Segments.{body_parts, body_parts-read, later_parts, pieces, body_parts-behind, body_parts-more}
use Rattle.typed_path.proofs.lemmas.components.Prefixes.{FoundFits, prefix-fits, prefix-read, Read, of_disk}
use Rattle.typed_path.proofs.lemmas.components.FirmPrefixes.{is_firm, firm-long, drive-stays}
use Rattle.typed_path.proofs.lemmas.components.PartedPrefixes.{firm-more, either}
use Rattle.typed_path.proofs.lemmas.changes.Faults.{body_parts-relative}
use Rattle.typed_path.proofs.lemmas.changes.Joins.{Ending, ending, empty, ended, drive_alone, parted}
use Rattle.typed_path.proofs.lemmas.places.KeptFromBack.{alike-append}
use Rattle.typed_path.proofs.lemmas.places.KeptNames.{AlikeKept, without_leading_current-kept}
use Rattle.typed_path.proofs.lemmas.promises.CleanForms.{head-plain, parts-plain}
use Rattle.typed_path.proofs.lemmas.promises.CleanRead.{names-ups, unmet-ups, ups}
use Rattle.typed_path.proofs.lemmas.promises.StepsBack.{free-rising, leads-back, same-route, IsRelativeRead, read-relative, stays_relative}
use Rattle.typed_path.proofs.lemmas.promises.UnixContained.{body_parts-later}
use Rattle.typed_path.proofs.lemmas.promises.WindowsBases.{read-no_drive, disk_alone-disk, disk_alone-filled}
use Rattle.typed_path.proofs.lemmas.promises.WindowsContained.{firm-joined, none-joined, firm-kept}
use Rattle.typed_path.proofs.lemmas.promises.WindowsStable.{push-first}
use Rattle.typed_path.proofs.lemmas.promises.WindowsWithin.{body_kinds, kinds-found, kinds-none, kinds-plain, push-bare}
use Rattle.typed_path.proofs.lemmas.promises.Within.{bare-anchored, kinds_of}
use Rattle.typed_path.proofs.lemmas.components.PrefixCuts.{verbatim-some}

-- What is put behind the rest of a base: nothing behind nothing, or behind a separator, and a separator behind another.
data End : List ℕ → List ℕ → Type 0 where
  bare : End [] []
  behind_separator : (front : List ℕ) → End (front ++ backslash ∷ []) []
  put : (rest : List ℕ) → End rest (backslash ∷ [])

-- a text begins with a root where its first byte separates
rooted-first : (c : ℕ) (cs : List ℕ) → begins_with_root (body_kinds Either (c ∷ cs)) ≡ is_separator Either c
rooted-first c cs = grind arith

module _ (t : List ℕ) (relative : begins_with_root (body_kinds Either t) ≡ false) where
  later : AlikeKept (kinds (later_parts Either (pieces Either t))) (body_kinds Either t)
  later = subst (λ ps. AlikeKept (kinds ps) (body_kinds Either t)) (sym (body_parts-later Either t refl relative)) (without_leading_current-kept (body_parts Either t))

  appended : (rest whole : List ℕ) → body_parts Either whole ≡ body_parts Either rest ++ later_parts Either (pieces Either t) → AlikeKept (body_kinds Either whole) (body_kinds Either rest ++ body_kinds Either t)
  appended rest whole e =
      let h = alike-append (body_kinds Either rest) (kinds (later_parts Either (pieces Either t))) (body_kinds Either t) later in
      let f : body_kinds Either whole ≡ body_kinds Either rest ++ kinds (later_parts Either (pieces Either t)) = ap kinds e ∙ map-append (λ p. p.kind) (body_parts Either rest) (later_parts Either (pieces Either t)) in
      record { unmet = ap unmet f ∙ h.unmet; names = ap kept_names f ∙ h.names }

  behind : (rest mid : List ℕ) → End rest mid → AlikeKept (body_kinds Either (rest ++ (mid ++ t))) (body_kinds Either rest ++ body_kinds Either t)
  behind _ _ bare = record { unmet = refl; names = refl }
  behind _ _ (behind_separator front) = appended (front ++ backslash ∷ []) ((front ++ backslash ∷ []) ++ t) (body_parts-more Either backslash front t refl)
  behind _ _ (put []) =
      let e : body_kinds Either (backslash ∷ t) ≡ root ∷ kinds (later_parts Either (pieces Either t)) = ap kinds (body_parts-more Either backslash [] t refl) in
      record { unmet = ap unmet e ∙ later.unmet; names = ap kept_names e ∙ later.names }
  behind _ _ (put (c ∷ cs)) =
      appended (c ∷ cs) (c ∷ cs ++ (backslash ∷ t)) (ap (body_parts Either) (sym (append_assoc (c ∷ cs) (backslash ∷ []) t)) ∙ body_parts-behind Either backslash (c ∷ cs) t refl (ne_eqb (suc (length cs)) 0 (λ e. cc)))

  -- a root stays one, and none comes where something is left, or nothing is put in
  root-behind : (rest mid : List ℕ) → End rest mid → (rest ≡ [] → mid ≡ []) → begins_with_root (body_kinds Either (rest ++ (mid ++ t))) ≡ begins_with_root (body_kinds Either rest)
  root-behind _ _ bare fine = relative
  root-behind _ _ (behind_separator []) fine = rooted-first backslash t ∙ sym (rooted-first backslash [])
  root-behind _ _ (behind_separator (c ∷ cs)) fine = rooted-first c ((cs ++ backslash ∷ []) ++ t) ∙ sym (rooted-first c (cs ++ backslash ∷ []))
  root-behind _ _ (put []) fine = let e : backslash ∷ [] ≡ [] = fine refl in cc
  root-behind _ _ (put (c ∷ cs)) fine = rooted-first c (cs ++ backslash ∷ t) ∙ sym (rooted-first c cs)

-- what a relative text pushed onto a base is read as
pub record Joined (base r : List ℕ) : Type 0 where
  pub prefix : first_prefix (kinds_of windows (push_windows base r)) ≡ first_prefix (kinds_of windows base)
  pub anchored : is_anchored (kinds_of windows (push_windows base r)) ≡ is_anchored (kinds_of windows base)
  pub alike : AlikeKept (kinds_of windows (push_windows base r)) (kinds_of windows base ++ kinds_of windows r)

none-anchored : (t : List ℕ) → prefix_of windows t ≡ None → is_anchored (kinds_of windows t) ≡ begins_with_root (body_kinds Either t)
none-anchored t none = bare-anchored (kinds_of windows t) ((head-plain windows t none).bare) ∙ ap begins_with_root (kinds-none t none)

-- nothing is pushed, or a text onto nothing
joined-nothing : (base : List ℕ) → Joined base []
joined-nothing base = grind (arith, append-nil, kinds_of)

joined-first : (r : List ℕ) → prefix_of windows r ≡ None → begins_with_root (body_kinds Either r) ≡ false → Joined [] r
joined-first r none relative =
    let e = push-first r in
    record {
      prefix = ap (λ t. first_prefix (kinds_of windows t)) e ∙ (head-plain windows r none).bare;
      anchored = ap (λ t. is_anchored (kinds_of windows t)) e ∙ none-anchored r none ∙ relative;
      alike = record { unmet = ap (λ t. unmet (kinds_of windows t)) e; names = ap (λ t. kept_names (kinds_of windows t)) e };
    }

module _ (base : List ℕ) (b : ℕ) (path : List ℕ) (none : prefix_of windows (b ∷ path) ≡ None) (relative : begins_with_root (body_kinds Either (b ∷ path)) ≡ false) (plain : has_any_verbatim_prefix (kinds_of windows base) ≡ false) where
  abbrev t : List ℕ
  t = b ∷ path

  abbrev mid : List ℕ
  mid = (ending base).0

  pushed : push_windows base t ≡ base ++ (mid ++ t)
  pushed =
      push-bare base b path none
      ∙ cond-false (has_any_verbatim_prefix (kinds_of windows base)) (spelled (merged (parts_of windows base) (parts_of windows t))) (push_behind base t) plain
      ∙ cond-false (begins_with_root (kinds_of windows t)) (raw_prefix base ++ t) (ended_windows base ++ t) (ap begins_with_root (kinds-none t none) ∙ relative)
      ∙ ap (λ u. u ++ t) (ending base).1
      ∙ append_assoc base mid t

  -- a base without a prefix
  joined-none : prefix_of windows base ≡ None → keeps_by_prefix base None ≡ true → 0 < length base → Joined base t
  joined-none is kept filled =
      let no_drive = false_from_ne_true _ (λ alone. read-no_drive Either (body_parts Either base) (body_parts-read Either base) (ap is_disk_alone (sym (kinds-none base is)) ∙ alone)) in
      let now : prefix_of windows (base ++ (mid ++ t)) ≡ None = none-joined b path (body_parts-relative Either b path relative) base mid none is kept no_drive (ending base).2 in
      let end = by mid (ending base).2 no_drive in
      let h = behind t relative base mid end in
      let listed : kinds_of windows (push_windows base t) ≡ body_kinds Either (base ++ (mid ++ t)) = ap (kinds_of windows) pushed ∙ kinds-none (base ++ (mid ++ t)) now in
      let both : kinds_of windows base ++ kinds_of windows t ≡ body_kinds Either base ++ body_kinds Either t = ap₂ ◌++◌ (kinds-none base is) (kinds-none t none) in
      record {
        prefix = ap (λ u. first_prefix (kinds_of windows u)) pushed ∙ (head-plain windows (base ++ (mid ++ t)) now).bare ∙ sym ((head-plain windows base is).bare);
        anchored = ap (λ u. is_anchored (kinds_of windows u)) pushed ∙ none-anchored (base ++ (mid ++ t)) now
            ∙ root-behind t relative base mid end (λ e. absurd (omega (arith, filled, ap length e))) ∙ sym (none-anchored base is);
        alike = record { unmet = ap unmet listed ∙ h.unmet ∙ ap unmet (sym both); names = ap kept_names listed ∙ h.names ∙ ap kept_names (sym both) };
      }
    where
      by : (m : List ℕ) → Ending base m → is_disk_alone (kinds_of windows base) ≡ false → End base m
      by _ (empty e) no_drive = absurd (omega (arith, filled, ap length e))
      by _ (ended front e) no_drive = subst (λ u. End u []) (sym e) (behind_separator front)
      by _ (drive_alone alone) no_drive = absurd (both_ways _ no_drive alone)
      by _ (parted other some unended) no_drive = put base

  -- a base with a prefix
  joined-some : (f : Found) → prefix_of windows base ≡ Some f → is_firm f.prefix ≡ true → is_verbatim_prefix f.prefix ≡ false → Joined base t
  joined-some f is firm bare_kind =
      let rest = drop f.length base in
      let text = base ++ (mid ++ t) in
      let long : is_disk f.prefix ≡ false → 4 ≤ f.length = λ other. firm-long (separators windows base) base f (prefix-read base f is) firm other in
      let no_drive : is_disk f.prefix ≡ false → is_disk_alone (kinds_of windows base) ≡ false = λ other. false_from_ne_true _ (λ alone. both_ways _ other (disk_alone-disk f.prefix _ (ap is_disk_alone (sym (kinds-found base f is)) ∙ alone))) in
      let now : prefix_of windows text ≡ Some f = elim (cases_Bool (is_disk f.prefix)) [
        | inl drives ↦ on_drive f (prefix-read base f is) drives
        | inr other ↦ firm-joined base mid t f is firm other bare_kind (no_drive other) (ending base).2
      ] in
      let plain_base : separators windows base ≡ Either = either base f is bare_kind (firm-more (separators windows base) base f (prefix-read base f is) firm) in
      let again : separators windows text ≡ Either = either text f now bare_kind (λ other. omega (arith, long other, fits.fits, length-append base (mid ++ t), length-append mid t)) in
      let own : kinds_of windows base ≡ prefix f.prefix ∷ body_kinds Either rest = kinds-plain base f is plain_base in
      let listed : kinds_of windows (push_windows base t) ≡ prefix f.prefix ∷ body_kinds Either (rest ++ (mid ++ t)) =
      ap (kinds_of windows) pushed ∙ kinds-plain text f now again ∙ ap (λ u. prefix f.prefix ∷ body_kinds Either u) (drop-append-le f.length base (mid ++ t) fits.fits) in
      let end = by mid (ending base).2 in
      let h = behind t relative rest mid end in
      let both : kinds_of windows base ++ kinds_of windows t ≡ prefix f.prefix ∷ (body_kinds Either rest ++ body_kinds Either t) = ap₂ ◌++◌ own (kinds-none t none) in
      record {
        prefix = ap first_prefix listed ∙ ap first_prefix (sym own);
        anchored = ap is_anchored listed
            ∙ elim (cases_Bool (is_disk f.prefix)) [
              | inl drives ↦ ap (λ r. not (is_disk f.prefix) || r) (root-behind t relative rest mid end (λ e. alone own e drives mid (ending base).2))
              | inr other ↦ ap (λ k. not k || begins_with_root (body_kinds Either (rest ++ (mid ++ t)))) other ∙ ap (λ k. not k || begins_with_root (body_kinds Either rest)) (sym other)
            ]
            ∙ ap is_anchored (sym own);
        alike = record { unmet = ap unmet listed ∙ h.unmet ∙ ap unmet (sym both); names = ap kept_names listed ∙ h.names ∙ ap kept_names (sym both) };
      }
    where
      fits : FoundFits base f
      fits = prefix-fits windows base f is

      on_drive : (f : Found) → Read (separators windows base) base f → is_disk f.prefix ≡ true → prefix_of windows (base ++ (mid ++ t)) ≡ Some f
      on_drive f (of_disk letter drives) kind = drive-stays base (mid ++ t) letter drives
      on_drive f read kind = cc

      -- a drive with nothing behind it is one alone
      alone : kinds_of windows base ≡ prefix f.prefix ∷ body_kinds Either (drop f.length base) → drop f.length base ≡ [] → is_disk f.prefix ≡ true → (m : List ℕ) → Ending base m → m ≡ []
      alone own e drives _ (empty g) = refl
      alone own e drives _ (ended front g) = refl
      alone own e drives _ (drive_alone g) = refl
      alone own e drives _ (parted other some unended) =
          absurd (both_ways _ other (ap is_disk_alone (own ∙ ap (λ u. prefix f.prefix ∷ body_kinds Either u) e) ∙ is_alone f.prefix drives))
        where
          is_alone : (p : Prefix) → is_disk p ≡ true → is_disk_alone (prefix p ∷ []) ≡ true
          is_alone p h = grind arith

      by : (m : List ℕ) → Ending base m → End (drop f.length base) m
      by _ (empty e) = absurd (omega (arith, fits.filled, fits.fits, ap length e))
      by _ (ended front e) = elim (cases_lt (length front) f.length) [
        | inl short ↦ subst (λ u. End u []) (sym (drop_all f.length base (omega (arith, short, ap length e, length-append front (backslash ∷ []))))) bare
        | inr long ↦ subst (λ u. End u []) (sym (ap (drop f.length) e ∙ drop-append-le f.length front (backslash ∷ []) long)) (behind_separator (drop f.length front))
      ]
      by _ (drive_alone e) = none_behind (drop f.length base) refl
        where
          none_behind : (u : List ℕ) → drop f.length base ≡ u → End u []
          none_behind [] g = bare
          none_behind (c ∷ cs) g = grind (arith, both_ways, disk_alone-filled, body_kinds, kinds-found)
      by _ (parted other some unended) = put (drop f.length base)

-- behind each base that is not verbatim and keeps its prefix
joined-both : (c : ℕ) (cs : List ℕ) (b : ℕ) (bs : List ℕ) (o : Option Found) → prefix_of windows (c ∷ cs) ≡ o → keeps_prefix windows (c ∷ cs) ≡ true → has_any_verbatim_prefix (kinds_of windows (c ∷ cs)) ≡ false → prefix_of windows (b ∷ bs) ≡ None
    → begins_with_root (body_kinds Either (b ∷ bs)) ≡ false → Joined (c ∷ cs) (b ∷ bs)
joined-both c cs b bs None is kept plain none relative =
    joined-none (c ∷ cs) b bs none relative plain is (ap (λ o. keeps_by_prefix (c ∷ cs) (option_map (λ g. g.prefix) o)) (sym is) ∙ kept) (omega arith)
joined-both c cs b bs (Some f) is kept plain none relative =
    joined-some (c ∷ cs) b bs none relative plain f is (firm-kept (c ∷ cs) f is kept) (sym (verbatim-some (c ∷ cs) f is) ∙ plain)

pub joined-plain : (base r : List ℕ) → keeps_prefix windows base ≡ true → has_any_verbatim_prefix (kinds_of windows base) ≡ false → prefix_of windows r ≡ None → begins_with_root (body_kinds Either r) ≡ false → Joined base r
joined-plain base [] kept plain none relative = joined-nothing base
joined-plain [] (b ∷ bs) kept plain none relative = joined-first (b ∷ bs) none relative
joined-plain (c ∷ cs) (b ∷ bs) kept plain none relative = joined-both c cs b bs (prefix_of windows (c ∷ cs)) refl kept plain none relative

-- The law.

-- what a relative text is read as, in the words of the whole text
pub relative-alike : (path base r : List ℕ) → IsRelativeRead windows (kinds_of windows path) (kinds_of windows base) r
    → AlikeKept (kinds_of windows r) (ups (steps_up (kinds_of windows path) (kinds_of windows base)) (names_down (kinds_of windows path) (kinds_of windows base)))
relative-alike path base r h =
    let same : kinds_of windows r ≡ body_kinds Either r = ap kinds (parts-plain windows r h.reads.none) in
    record {
      unmet = ap unmet same ∙ sym (free-rising (body_kinds Either r) h.reads.leads.anchored) ∙ h.reads.leads.rising ∙ sym (unmet-ups (steps_up (kinds_of windows path) (kinds_of windows base)) (names_down (kinds_of windows path) (kinds_of windows base)));
      names = ap kept_names same ∙ h.reads.leads.names ∙ sym (names-ups (steps_up (kinds_of windows path) (kinds_of windows base)) (names_down (kinds_of windows path) (kinds_of windows base)));
    }

joined-route : (path base r : List ℕ) → IsRelativeRead windows (kinds_of windows path) (kinds_of windows base) r → Joined base r → route windows (push_windows base r) ≡ route windows path
joined-route path base r h j = grind (arith, kinds_of, alike-append, ups, relative-alike, same-route, leads-back)

pub leads_plain : (path base r : List ℕ) → keeps_prefix windows base ≡ true → has_any_verbatim_prefix (kinds_of windows base) ≡ false → relative_text windows path base ≡ Some r
    → route windows (push windows base r) ≡ route windows path
leads_plain path base r kept plain e =
    let h = read-relative windows path base r e in
    let none = h.reads.none in
    let relative = ap begins_with_root (sym (kinds-none r none)) ∙ (stays_relative windows path base r e).root in
    joined-route path base r h (joined-plain base r kept plain none relative)
