-- Where a base of Windows leads with a faultless path behind it, and how a list is spelled behind a prefix.
use Rattle.std.proofs.Common.{◌≡◌, ℕ, zero, suc, ◌+◌, ◌<◌, ◌≤◌, true, false, ◌⊎◌, inl, inr, List, [], ◌∷◌, ◌++◌, length, take, drop, refl, sym, ap, ◌∙◌, subst, append_assoc, arith, length-drop, ne_eqb, not, Bool, if◌then◌else◌, ap₂, append-nil, Some, None, length-append, length-take-le}
use Rattle.std.proofs.lemmas.Grind.{common_steps}
use Rattle.std.proofs.Math.Seq.{drop-append-add, drop-append_seam, take-append_seam}
use Rattle.std.proofs.lemmas.Bool.{both_ways, cases_lt, false_from_ne_true, and_parts}
use Rattle.std.proofs.lemmas.List.{drop-append-le, drop_all}
use Rattle.std.proofs.lemmas.List.Splits.{slice_split-cons_yes}
use Rattle.std.specs.List.{AllByRecursion}
use Rattle.typed_path.specs.declared.scan.separators.Separators.{Separators}
use Rattle.typed_path.specs.declared.scan.separators.Separators.TheVariants.{Either, Backslash}
use Rattle.typed_path.specs.components.{windows, backslash, question, separators, begins_verbatim, is_separator, root_text, Prefix, Kind, prefix, Part, kinds, prefix_part, root, Found, prefix_of, parts_of}
use Rattle.typed_path.specs.queries.{is_disk, is_verbatim_prefix, begins_with_root}
use Rattle.typed_path.specs.changes.{is_disk_alone, joint, spelled, merged}
use Rattle.typed_path.specs.places.{resolve, with_implied_root}
use Rattle.typed_path.proofs.lemmas.lists.Lists.{slice_split-some}
use Rattle.typed_path.proofs.lemmas.components.Prefixes.{OfWindows, backslash-separates, prefix-fits, separators-windows, root_text-windows}
use Rattle.typed_path.proofs.lemmas.components.Segments.{pieces, first_parts, later_parts, body_parts, body_parts-read, AreRead, IsWritten, parts_behind, each-written, IsWrittenPart, IsLater, IsLaterPart, AreRead-later, later-relative, body_parts-behind, body_parts-more, AreRead-append}
use Rattle.typed_path.proofs.lemmas.components.PrefixCuts.{IsSize, prefix-size, IsGrown, same-sizes, plain-kind, verbatim_text, verbatim-size, verbatim-take, parts_of-none, parts_of-some}
use Rattle.typed_path.proofs.lemmas.places.Resolving.{no_heads, is_head, read-headless, IsKept, resolve-kept, resolve-read, resolve-resolve, overdraws-kept}
use Rattle.typed_path.proofs.lemmas.changes.Faults.{place_of, place_of-append, place_of-rooted, IsFaultless, no_heads-relative, no_heads-resolve, body_parts-alike}
use Rattle.typed_path.proofs.lemmas.changes.Joins.{Ending, empty, ended, drive_alone, parted, merged-resolve, joint-relative, body_parts-spelled}
use Rattle.typed_path.proofs.lemmas.components.WindowsNames.{clean-either, disk_alone-more}

-- Where a base of Windows leads with a faultless path behind it, under a prefix that is not verbatim and under none.

-- a text that ends with `\`, or gets one
data Joined (text : List ℕ) : List ℕ → Type 0 where
  more : (front : List ℕ) → text ≡ front ++ backslash ∷ [] → Joined text []
  apart : 0 < length text → Joined text (backslash ∷ [])

-- what is put behind it is read as later pieces
body_parts-joined : (s : Separators) (text mid path : List ℕ) → OfWindows s → Joined text mid → body_parts s (text ++ (mid ++ path)) ≡ body_parts s text ++ later_parts s (pieces s path)
body_parts-joined s text _ path w (more front e) =
    subst (λ t. body_parts s (t ++ path) ≡ body_parts s t ++ later_parts s (pieces s path)) (sym e) (body_parts-more s backslash front path (backslash-separates s w))
body_parts-joined s text _ path w (apart filled) =
    ap (body_parts s) (sym (append_assoc text (backslash ∷ []) path))
    ∙ body_parts-behind s backslash text path (backslash-separates s w) (ne_eqb (length text) 0 (λ none. omega arith))

-- a list as it is read behind a prefix is no drive alone
pub read-no_drive : (s : Separators) (ps : List Part) → AreRead s ps → is_disk_alone (kinds ps) ≡ true → ⊥
read-no_drive s ps read e = grind arith

-- nor is a list that begins with another prefix
pub disk_alone-disk : (p : Prefix) (ks : List Kind) → is_disk_alone (prefix p ∷ ks) ≡ true → is_disk p ≡ true
disk_alone-disk p ks e = grind arith

-- a prefix alone that is no drive alone is no drive
prefix_alone-disk : (p : Prefix) → is_disk_alone (prefix p ∷ []) ≡ false → is_disk p ≡ false
prefix_alone-disk p e = grind arith

-- nor is one that goes on behind its prefix
pub disk_alone-filled : (s : Separators) (p : Prefix) (b : ℕ) (bs : List ℕ) → is_disk_alone (prefix p ∷ kinds (body_parts s (b ∷ bs))) ≡ false
disk_alone-filled s p b bs = let some = slice_split-some (is_separator s) (b ∷ bs) in rw some.2 (disk_alone-more p _ _)

-- what is put behind the rest of a text that stands behind its prefix
data Behind (p : Prefix) (rest : List ℕ) : List ℕ → Type 0 where
  joined : {mid : List ℕ} → Joined rest mid → Behind p rest mid
  alone : rest ≡ [] → Behind p rest []
  rooted : rest ≡ [] → is_disk p ≡ false → Behind p rest (backslash ∷ [])

-- the list of a base tells whether it is a drive alone
disk_alone-some : (base : List ℕ) (f : Found) → prefix_of windows base ≡ Some f
    → is_disk_alone (kinds (parts_of windows base)) ≡ is_disk_alone (prefix f.prefix ∷ kinds (body_parts (separators windows base) (drop f.length base)))
disk_alone-some base f is = ap (λ ps. is_disk_alone (kinds ps)) (parts_of-some base f is)

-- what is put behind a base is put behind what stands behind its prefix
behind-ending : (base mid : List ℕ) (f : Found) → prefix_of windows base ≡ Some f → Ending base mid → Behind f.prefix (drop f.length base) mid
behind-ending base mid f is ending = by (drop f.length base) refl mid ending
  where
    by : (rest : List ℕ) → drop f.length base ≡ rest → (mid : List ℕ) → Ending base mid → Behind f.prefix rest mid
    by [] e _ (empty none) = alone refl
    by [] e _ (ended front is_ended) = alone refl
    by [] e _ (drive_alone drive) = alone refl
    by [] e _ (parted no_drive filled unended) =
        rooted refl (prefix_alone-disk f.prefix (ap (λ t. is_disk_alone (prefix f.prefix ∷ kinds (body_parts (separators windows base) t))) (sym e) ∙ sym (disk_alone-some base f is) ∙ no_drive))
    by (b ∷ bs) e _ (empty none) = absurd (omega (arith, ap length e, length-drop f.length base, ap length none))
    by (b ∷ bs) e _ (ended front is_ended) =
        let within : f.length ≤ length front = omega (arith, ap length e, length-drop f.length base, ap length is_ended, length-append front (backslash ∷ [])) in
        joined (more (drop f.length front) (sym e ∙ ap (drop f.length) is_ended ∙ drop-append-le f.length front (backslash ∷ []) within))
    by (b ∷ bs) e _ (drive_alone drive) =
        absurd (both_ways (is_disk_alone (prefix f.prefix ∷ kinds (body_parts (separators windows base) (b ∷ bs)))) (disk_alone-filled (separators windows base) f.prefix b bs)
        (ap (λ t. is_disk_alone (prefix f.prefix ∷ kinds (body_parts (separators windows base) t))) (sym e) ∙ sym (disk_alone-some base f is) ∙ drive))
    by (b ∷ bs) e _ (parted no_drive filled unended) = joined (apart (omega arith))

-- the text `\\?\`, which alone is read verbatim under a prefix of another kind
abbrev mark : List ℕ
mark = backslash ∷ backslash ∷ question ∷ backslash ∷ []

-- less than three bytes of it are no prefix
mark-front : (n : ℕ) (f : Found) → n < 3 → prefix_of windows (take n mark) ≡ Some f → ⊥
mark-front zero f less is = cc
mark-front (suc zero) f less is = cc
mark-front (suc (suc zero)) f less is = cc
mark-front (suc (suc (suc n))) f less is = omega arith

-- behind three of its bytes stands a separator
mark-last : (base mid path : List ℕ) → base ++ (mid ++ path) ≡ mark → 3 ≤ length base → 0 < length path → path ≡ backslash ∷ []
mark-last base [] path e long filled =
    let size : length base ≡ 3 = omega (arith, ap length e, length-append base path) in
    sym (drop-append_seam base path) ∙ ap (λ n. drop n (base ++ path)) size ∙ ap (drop 3) e
mark-last base (b ∷ mid) path e long filled = absurd (omega (arith, ap length e, length-append base (b ∷ mid ++ path), length-append mid path))

module _ (path : List ℕ) (faultless : IsFaultless path) where
  -- names that a faultless path resolves to stand behind a place, read at the beginning or later
  place-first : (ps : List Part) → place_of (ps ++ body_parts Either path) ≡ place_of ps ++ kinds (resolve (body_parts Either path))
  place-first ps = place_of-append ps (body_parts Either path) faultless.closed (no_heads-resolve (body_parts Either path) faultless.headless)

  -- nor does it resolve to a prefix or a root
  later-headless : no_heads (kinds (resolve (later_parts Either (pieces Either path)))) ≡ true
  later-headless = grind (arith, common_steps, body_parts-alike, no_heads-relative, body_parts, no_heads, no_heads-resolve)

  -- the same, read later
  place-later : (ps : List Part) → place_of (ps ++ later_parts Either (pieces Either path)) ≡ place_of ps ++ kinds (resolve (body_parts Either path))
  place-later ps = grind (arith, body_parts-alike, no_heads-relative, body_parts, place_of-append, later_parts, pieces, later-headless, place_of)

  -- the same, behind a text that ends with a separator or gets one
  place-joined : (ps : List Part) (text mid : List ℕ) → Joined text mid → place_of (ps ++ body_parts Either (text ++ (mid ++ path))) ≡ place_of (ps ++ body_parts Either text) ++ kinds (resolve (body_parts Either path))
  place-joined ps text mid ending =
      ap (λ qs. place_of (ps ++ qs)) (body_parts-joined Either text mid path refl ending)
      ∙ ap place_of (sym (append_assoc ps (body_parts Either text) (later_parts Either (pieces Either path))))
      ∙ place-later (ps ++ body_parts Either text)

  -- under no prefix
  pub none-place : (base mid : List ℕ) → Ending base mid → prefix_of windows base ≡ None
      → place_of (body_parts Either (base ++ (mid ++ path))) ≡ place_of (body_parts Either base) ++ kinds (resolve (body_parts Either path))
  none-place base _ (empty e) none = subst (λ t. place_of (body_parts Either (t ++ path)) ≡ place_of (body_parts Either t) ++ kinds (resolve (body_parts Either path))) (sym e) (place-first [])
  none-place base _ (ended front e) none = place-joined [] base [] (more front e)
  none-place base _ (drive_alone e) none = absurd (read-no_drive Either (body_parts Either base) (body_parts-read Either base) (ap (λ ps. is_disk_alone (kinds ps)) (sym (parts_of-none base none)) ∙ e))
  none-place base _ (parted no_drive filled unended) none = place-joined [] base (backslash ∷ []) (apart filled)

  -- behind a prefix
  place-behind : (p : Prefix) (raw new rest mid : List ℕ) → Behind p rest mid
      → place_of (prefix_part p new ∷ body_parts Either (rest ++ (mid ++ path))) ≡ place_of (prefix_part p raw ∷ body_parts Either rest) ++ kinds (resolve (body_parts Either path))
  place-behind p raw new rest _ (joined {mid = mid} ending) = place-joined (prefix_part p raw ∷ []) rest mid ending
  place-behind p raw new rest _ (alone e) =
      subst (λ t. place_of (prefix_part p new ∷ body_parts Either (t ++ path)) ≡ place_of (prefix_part p raw ∷ body_parts Either t) ++ kinds (resolve (body_parts Either path))) (sym e)
      (place-first (prefix_part p raw ∷ []))
  place-behind p raw new rest _ (rooted e no_drive) =
      subst (λ t. place_of (prefix_part p new ∷ body_parts Either (t ++ backslash ∷ path)) ≡ place_of (prefix_part p raw ∷ body_parts Either t) ++ kinds (resolve (body_parts Either path))) (sym e)
      (ap (λ some. place_of (prefix_part p raw ∷ first_parts Either some)) (slice_split-cons_yes (is_separator Either) backslash path refl)
      ∙ place_of-rooted p raw (backslash ∷ []) (later_parts Either (pieces Either path)) no_drive later-headless
      ∙ place-later (prefix_part p raw ∷ []))

  -- a base with a prefix is not the mark with the path behind it
  no_mark : (base mid : List ℕ) (f : Found) → prefix_of windows base ≡ Some f → 0 < length path → base ++ (mid ++ path) ≡ mark → ⊥
  no_mark base mid f is filled e = grind (arith, cases_lt, mark-front, take-append_seam, no_heads, body_parts, mark-last)

  -- nor read verbatim where the prefix is of another kind
  pub plain-joined : (base mid : List ℕ) (f g : Found) → prefix_of windows base ≡ Some f → 0 < length path → prefix_of windows (base ++ (mid ++ path)) ≡ Some g → is_verbatim_prefix g.prefix ≡ false
      → begins_verbatim (base ++ (mid ++ path)) ≡ false
  plain-joined base mid f g is filled now kind = elim (cases_lt 4 (length (base ++ (mid ++ path)))) [
    | inl long ↦ plain-kind (base ++ (mid ++ path)) g now kind long
    | inr short ↦ false_from_ne_true _ (λ marked. no_mark base mid f is filled
        (verbatim_text (base ++ (mid ++ path)) marked ∙ ap (λ t. backslash ∷ backslash ∷ question ∷ backslash ∷ t) (drop_all 4 (base ++ (mid ++ path)) short)))
  ]

  -- under a prefix that stays
  pub found-place : (base mid : List ℕ) (f g : Found) → Ending base mid → prefix_of windows base ≡ Some f → prefix_of windows (base ++ (mid ++ path)) ≡ Some g → g.prefix ≡ f.prefix
      → place_of (parts_behind Either (base ++ (mid ++ path)) (Some g)) ≡ place_of (parts_behind Either base (Some f)) ++ kinds (resolve (body_parts Either path))
  found-place base mid f g ending is now same =
      by (same-sizes f.prefix base joined_text f.length g.length (prefix-size base f is) (subst (λ p. IsSize p joined_text g.length) same (prefix-size joined_text g now)) within)
    where
      joined_text : List ℕ
      joined_text = base ++ (mid ++ path)

      fits : f.length ≤ length base
      fits = (prefix-fits windows base f is).fits

      within : f.length ≤ length joined_text
      within = omega (arith, fits, length-append base (mid ++ path))

      behind : Prefix → List ℕ → List Kind
      behind p text = place_of (prefix_part p [] ∷ body_parts Either text)

      own : List Kind
      own = kinds (resolve (body_parts Either path))

      grown : (mid : List ℕ) → Ending base mid → IsGrown f.prefix base f.length g.length → behind f.prefix (drop g.length (base ++ (mid ++ path))) ≡ behind f.prefix (drop f.length base) ++ own
      grown _ (empty e) one = absurd (omega (arith, (prefix-fits windows base f is).filled, one.whole, ap length e))
      grown _ (ended front e) one = absurd (one.unended front e)
      grown _ (drive_alone e) one =
          absurd (both_ways (is_disk f.prefix) one.no_drive (disk_alone-disk f.prefix (kinds (body_parts (separators windows base) (drop f.length base))) (sym (disk_alone-some base f is) ∙ e)))
      grown _ (parted no_drive filled unended) one =
          let size : g.length ≡ length base + 1 = omega (arith, one.whole, one.more) in
          let rest : drop g.length (base ++ backslash ∷ path) ≡ path = ap (λ n. drop n (base ++ backslash ∷ path)) size ∙ drop-append-add base (backslash ∷ path) 1 in
          ap (behind f.prefix) rest
          ∙ place-first (prefix_part f.prefix [] ∷ [])
          ∙ ap (λ t. behind f.prefix t ++ own) (sym (drop_all f.length base (omega (arith, one.whole))))

      by : (g.length ≡ f.length) ⊎ IsGrown f.prefix base f.length g.length → behind g.prefix (drop g.length (base ++ (mid ++ path))) ≡ behind f.prefix (drop f.length base) ++ own
      by (inl equal) =
          ap (λ p. behind p (drop g.length (base ++ (mid ++ path)))) same
          ∙ ap (λ n. behind f.prefix (drop n (base ++ (mid ++ path)))) equal
          ∙ ap (behind f.prefix) (drop-append-le f.length base (mid ++ path) fits)
          ∙ place-behind f.prefix [] [] (drop f.length base) mid (behind-ending base mid f is ending)
      by (inr one) = ap (λ p. behind p (drop g.length (base ++ (mid ++ path)))) same ∙ grown mid ending one

-- Where a base of Windows leads with a faultless path behind it, under a verbatim prefix: its list is spelled anew.

-- a name of one Windows text is a name of another
names-later : (s : Separators) (ps : List Part) → AllByRecursion (IsWrittenPart Either) ps → AllByRecursion IsKept ps → no_heads (kinds ps) ≡ true → AllByRecursion (IsLaterPart s) ps
names-later s [] written kept headless = tt
names-later s (p ∷ ps) written kept headless = (by p.kind p.text written.0 kept.0 (and_parts _ _ headless).0, names-later s ps written.1 kept.1 (and_parts (not (is_head p.kind)) _ headless).1)
  where
    by : (k : Kind) (text : List ℕ) → IsWritten Either k text → IsKept (record { kind = k; text = text }) → not (is_head k) ≡ true → IsLater s k text
    by k text written kept other = grind (arith, clean-either)

-- how a list is spelled behind a prefix
pub data Rest : List Part → List ℕ → Type 0 where
  nothing : Rest [] []
  from_root : (p : Part) (ps : List Part) → begins_with_root (p.kind ∷ []) ≡ true → Rest (p ∷ ps) (spelled (p ∷ ps))
  from_other : (p : Part) (ps : List Part) → begins_with_root (p.kind ∷ []) ≡ false → Rest (p ∷ ps) (backslash ∷ spelled (p ∷ ps))

-- before a root stands no separator
pub joint-root : (k l : Kind) → begins_with_root (l ∷ []) ≡ true → joint k l ≡ []
joint-root root root e = refl
joint-root k root e = refl
joint-root k l e = cc

-- the raw text of the prefix, and the rest
pub spelled-behind : (p : Prefix) (raw : List ℕ) (ps : List Part) → (rest : List ℕ) × (spelled (prefix_part p raw ∷ ps) ≡ raw ++ rest) × Rest ps rest
spelled-behind p raw [] = ([], sym (append-nil raw), nothing)
spelled-behind p raw (q ∷ ps) = by (begins_with_root (q.kind ∷ [])) refl
  where
    by : (b : Bool) → begins_with_root (q.kind ∷ []) ≡ b → (rest : List ℕ) × (spelled (prefix_part p raw ∷ q ∷ ps) ≡ raw ++ rest) × Rest (q ∷ ps) rest
    by true e = (spelled (q ∷ ps), ap (λ j. raw ++ j ++ spelled (q ∷ ps)) (joint-root (prefix p) q.kind e) ∙ ap (λ t. t ++ spelled (q ∷ ps)) (append-nil raw), from_root q ps e)
    by false e = (
      backslash ∷ spelled (q ∷ ps),
      ap (λ j. raw ++ j ++ spelled (q ∷ ps)) (joint-relative (prefix p) q.kind refl e) ∙ append_assoc raw (backslash ∷ []) (spelled (q ∷ ps)),
      from_other q ps e,
    )

module _ (s : Separators) (w : OfWindows s) where
  -- the rest is empty, or begins with a separator
  pub rest-separated : (ps : List Part) (rest : List ℕ) → AreRead s ps → Rest ps rest → (rest ≡ []) ⊎ ((others : List ℕ) × (rest ≡ backslash ∷ others))
  rest-separated _ _ read nothing = grind arith
  rest-separated _ _ read (from_root p ps e) = grind (arith, root_text-windows)
  rest-separated _ _ read (from_other p ps e) = grind arith

  -- read again, the rest leads where the list does
  pub place-rest : (p : Prefix) (ps : List Part) (rest : List ℕ) → is_disk p ≡ false → AreRead s ps → Rest ps rest → place_of (prefix_part p [] ∷ body_parts s rest) ≡ place_of (prefix_part p [] ∷ ps)
  place-rest p _ _ no_drive read nothing = refl
  place-rest p _ _ no_drive read (from_root q ps e) = ap (λ qs. place_of (prefix_part p [] ∷ qs)) (body_parts-spelled s w q ps read)
  place-rest p _ _ no_drive read (from_other q ps e) =
      let text = spelled (q ∷ ps) in
      let again = body_parts-spelled s w q ps read in
      let relative : begins_with_root (kinds (body_parts s text)) ≡ false = ap (λ qs. begins_with_root (kinds qs)) again ∙ relative_head q.kind e in
      let alike = body_parts-alike s text relative in
      let headless = ap (λ qs. no_heads (kinds qs)) (sym alike.resolves ∙ ap resolve again) ∙ no_heads-resolve (q ∷ ps) (read-headless s (q ∷ ps) read (relative_head q.kind e)) in
      ap (λ some. place_of (prefix_part p [] ∷ first_parts s some)) (slice_split-cons_yes (is_separator s) backslash text (backslash-separates s w))
      ∙ place_of-rooted p [] (root_text s) (later_parts s (pieces s text)) no_drive headless
      ∙ ap (λ rs. with_implied_root (prefix p ∷ kinds rs)) (sym alike.resolves ∙ ap resolve again)
    where
      relative_head : (k : Kind) → begins_with_root (k ∷ []) ≡ false → begins_with_root (k ∷ kinds ps) ≡ false
      relative_head root e = cc
      relative_head k e = refl

  -- so does a rest of later components without its separator
  place-later_rest : (p : Prefix) (ps : List Part) (rest : List ℕ) → AllByRecursion (IsLaterPart s) ps → Rest ps rest → place_of (prefix_part p [] ∷ body_parts s (drop 1 rest)) ≡ place_of (prefix_part p [] ∷ ps)
  place-later_rest p _ _ later nothing = refl
  place-later_rest p _ _ later (from_root q ps e) = absurd (both_ways (begins_with_root (q.kind ∷ [])) (later-relative s q.kind q.text later.0) e)
  place-later_rest p _ _ later (from_other q ps e) = ap (λ qs. place_of (prefix_part p [] ∷ qs)) (body_parts-spelled s w q ps (AreRead-later s (q ∷ ps) later))

-- a verbatim kind is no drive
pub verbatim-no_drive : (p : Prefix) → is_verbatim_prefix p ≡ true → is_disk p ≡ false
verbatim-no_drive p kind = grind arith

module _ (base path : List ℕ) (f : Found) (is : prefix_of windows base ≡ Some f) (kind : is_verbatim_prefix f.prefix ≡ true) (faultless : IsFaultless path) where
  -- the parts of the base behind its prefix, and what the path adds
  abbrev pub own_parts : List Part
  own_parts = body_parts (separators windows base) (drop f.length base)

  abbrev pub added_parts : List Part
  added_parts = resolve (body_parts Either path)

  -- it adds no prefix and no root
  added-headless : no_heads (kinds added_parts) ≡ true
  added-headless = no_heads-resolve (body_parts Either path) faultless.headless

  -- and what it adds may stand later in a text of these separators
  added-later : AllByRecursion (IsLaterPart (separators windows base)) added_parts
  added-later = grind (arith, names-later, each-written, resolve-read, body_parts, body_parts-read, resolve-kept, added-headless)

  -- the list that is spelled, but for the prefix, is as it is read
  pub merged-read : AreRead (separators windows base) (own_parts ++ added_parts)
  merged-read = AreRead-append (separators windows base) own_parts added_parts (body_parts-read (separators windows base) (drop f.length base)) added-later

  -- the raw prefix of the base, and the rest
  pub spelled-rest : (rest : List ℕ) × (spelled (merged (parts_of windows base) (parts_of windows path)) ≡ take f.length base ++ rest) × Rest (own_parts ++ added_parts) rest
  spelled-rest =
      let behind = spelled-behind f.prefix (take f.length base) (own_parts ++ added_parts) in (
        behind.0,
        ap₂ (λ ps qs. spelled (merged ps qs)) (parts_of-some base f is) faultless.read
            ∙ ap spelled (merged-resolve (parts_behind (separators windows base) base (Some f)) (body_parts Either path) faultless.closed faultless.headless)
            ∙ behind.1,
        behind.2,
      )

  -- the raw prefix is as long as the prefix
  raw-length : length (take f.length base) ≡ f.length
  raw-length = length-take-le f.length base (prefix-fits windows base f is).fits

  -- what is spelled has the separators of the base
  pub separators-spelled : (rest : List ℕ) → separators windows (take f.length base ++ rest) ≡ separators windows base
  separators-spelled rest =
      let raw = take f.length base in
      let long = verbatim-size f.prefix base f.length (prefix-size base f is) kind in
      let front : take f.length (raw ++ rest) ≡ raw = ap (λ n. take n (raw ++ rest)) (sym raw-length) ∙ take-append_seam raw rest in
      ap (λ b. if b then Backslash else Either) (sym (verbatim-take (raw ++ rest) f.length long) ∙ ap begins_verbatim front ∙ verbatim-take base f.length long)

  -- where the whole list leads
  place-merged : place_of (prefix_part f.prefix [] ∷ own_parts ++ added_parts) ≡ place_of (prefix_part f.prefix [] ∷ own_parts) ++ kinds added_parts
  place-merged =
      place_of-append (prefix_part f.prefix [] ∷ own_parts) added_parts (overdraws-kept zero added_parts (resolve-kept (body_parts Either path))) (no_heads-resolve added_parts added-headless)
      ∙ ap (λ rs. place_of (prefix_part f.prefix [] ∷ own_parts) ++ kinds rs) (resolve-resolve (body_parts Either path))

  -- under a prefix that stays
  pub spelled-place : (rest : List ℕ) (g : Found) → Rest (own_parts ++ added_parts) rest → prefix_of windows (take f.length base ++ rest) ≡ Some g → g.prefix ≡ f.prefix
      → place_of (parts_behind (separators windows base) (take f.length base ++ rest) (Some g)) ≡ place_of (prefix_part f.prefix [] ∷ own_parts) ++ kinds added_parts
  spelled-place rest g read now same =
      by (same-sizes f.prefix base text f.length g.length (prefix-size base f is) (subst (λ p. IsSize p text g.length) same (prefix-size text g now)) (omega (arith, raw-length, length-append (take f.length base) rest)))
    where
      text : List ℕ
      text = take f.length base ++ rest

      behind : Prefix → List ℕ → List Kind
      behind p t = place_of (prefix_part p [] ∷ body_parts (separators windows base) t)

      by : (g.length ≡ f.length) ⊎ IsGrown f.prefix base f.length g.length → behind g.prefix (drop g.length text) ≡ place_of (prefix_part f.prefix [] ∷ own_parts) ++ kinds added_parts
      by (inl equal) =
          ap (λ p. behind p (drop g.length text)) same
          ∙ ap (λ n. behind f.prefix (drop n text)) (equal ∙ sym raw-length)
          ∙ ap (behind f.prefix) (drop-append_seam (take f.length base) rest)
          ∙ place-rest (separators windows base) (separators-windows base) f.prefix (own_parts ++ added_parts) rest (verbatim-no_drive f.prefix kind) merged-read read
          ∙ place-merged
      by (inr one) =
          let size : g.length ≡ length (take f.length base) + 1 = omega (arith, raw-length, one.more) in
          let nothing_own : own_parts ≡ [] = ap (body_parts (separators windows base)) (drop_all f.length base (omega (arith, one.whole))) in
          let single : own_parts ++ added_parts ≡ added_parts = ap (λ ps. ps ++ added_parts) nothing_own in
          ap (λ p. behind p (drop g.length text)) same
          ∙ ap (λ n. behind f.prefix (drop n text)) size
          ∙ ap (behind f.prefix) (drop-append-add (take f.length base) rest 1)
          ∙ place-later_rest (separators windows base) (separators-windows base) f.prefix added_parts rest added-later (subst (λ ps. Rest ps rest) single read)
          ∙ ap (λ ps. place_of (prefix_part f.prefix [] ∷ ps)) (sym single)
          ∙ place-merged
