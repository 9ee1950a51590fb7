-- The clean text of a path of Windows with a prefix, read again.
use Rattle.std.proofs.Common.{◌≡◌, inl, inr, ℕ, zero, suc, ◌<◌, ◌≤◌, ◌==◌, ◌||◌, ◌&&◌, not, Bool, true, false, List, [], ◌∷◌, ◌++◌, if◌then◌else◌, length, take, drop, refl, sym, ap, ap₂, ◌∙◌, append_assoc, append-nil, arith, length-take, Option, Some, None}
use Rattle.std.proofs.lemmas.Grind.{common_steps}
use Rattle.std.specs.Option.{option_map}
use Rattle.std.specs.List.{AllByRecursion, join_with_byte}
use Rattle.std.proofs.lemmas.Bool.{cases_Bool, cases_lt, both_ways, or_parts}
use Rattle.std.proofs.lemmas.List.{take_at, drop_at}
use Rattle.typed_path.specs.declared.scan.separators.Separators.{Separators}
use Rattle.typed_path.specs.declared.scan.separators.Separators.TheVariants.{Backslash, Either}
use Rattle.typed_path.specs.components.{Dialect, unix, windows, backslash, separators, is_separator, Prefix, verbatim, verbatim_disk, disk, Kind, prefix, Part, kinds, prefix_part, Found, found, drive, prefix_of, parts_of}
use Rattle.typed_path.specs.queries.{is_disk, begins_with_root}
use Rattle.typed_path.specs.places.{resolve, stays, unmet, kept_names, is_anchored, rising, route, cleaned, clean_text, dots}
use Rattle.typed_path.specs.promises.{HasCleanForm, IsCleanForm, is_verbatim_unc_name, prefix_kind}
use Rattle.typed_path.proofs.lemmas.components.Prefixes.{separators-windows, backslash-separates, drive-take, drive-size, prefix-fits, Read, of_disk, prefix-read}
use Rattle.typed_path.proofs.lemmas.components.FirmPrefixes.{Apart, nothing, parted, drive-stays, drive-extends}
use Rattle.typed_path.proofs.lemmas.components.PartedPrefixes.{parted-stays, root-behind, drive-plain}
use Rattle.typed_path.proofs.lemmas.components.Segments.{IsCleanName, IsLaterPart, AreRead, body_parts, body_parts-read, each-written}
use Rattle.typed_path.proofs.lemmas.places.Resolving.{resolve-each}
use Rattle.typed_path.proofs.lemmas.components.PrefixCuts.{parts_of-some}
use Rattle.typed_path.proofs.lemmas.promises.CleanRead.{ups, lead, leads-by, anchored-stays, LeadsAs, unmet-ups, names-ups, names-clean, read-ups, read-root}
use Rattle.typed_path.proofs.lemmas.promises.CleanForms.{plain-form}

-- What stands behind the prefix of a clean text.

-- whether a root is written behind a prefix
abbrev rooted_by : Prefix → List Kind → List (List ℕ) → Bool
rooted_by p ks segments = begins_with_root ks || (not (is_disk p) && not (length segments == 0))

-- a root or none, and segments
abbrev behind_text : Bool → List ℕ → List ℕ
behind_text rooted joined = if rooted then backslash ∷ joined else joined

behind-append : (raw joined : List ℕ) (rooted : Bool) → (raw ++ (if rooted then backslash ∷ [] else [])) ++ joined ≡ raw ++ behind_text rooted joined
behind-append raw joined rooted = grind (arith, append_assoc, append-nil)

ups-unrooted : (n : ℕ) (names : List (List ℕ)) → begins_with_root (ups n names) ≡ false
ups-unrooted (suc n) names = refl
ups-unrooted zero [] = refl
ups-unrooted zero (name ∷ names) = refl

lead-rooted : (rooted : Bool) (n : ℕ) (names : List (List ℕ)) → begins_with_root (lead rooted n names) ≡ rooted
lead-rooted rooted n names = grind (arith, ups-unrooted)

lead-unmet : (rooted : Bool) (n : ℕ) (names : List (List ℕ)) → unmet (lead rooted n names) ≡ n
lead-unmet rooted n names = grind (arith, unmet-ups)

lead-names : (rooted : Bool) (n : ℕ) (names : List (List ℕ)) → kept_names (lead rooted n names) ≡ names
lead-names rooted n names = grind (arith, names-ups)

-- the parents that are left over and the names that are kept, as they are written
abbrev segments_of : List Kind → List (List ℕ)
segments_of ks = dots (rising ks) ++ kept_names ks

-- a text with a prefix, and its clean text, which has the same prefix with a root or none, parents and names behind it
module _ (t : List ℕ) (p : Prefix) (raw : List ℕ) (ps : List Part) (read : parts_of windows t ≡ prefix_part p raw ∷ ps) where
  abbrev ks : List Kind
  ks = prefix p ∷ kinds ps

  abbrev segments : List (List ℕ)
  segments = segments_of (prefix p ∷ kinds ps)

  abbrev rooted : Bool
  rooted = rooted_by p (kinds ps) (segments_of (prefix p ∷ kinds ps))

  clean-prefixed : clean_text windows t ≡ raw ++ behind_text rooted (join_with_byte backslash segments)
  clean-prefixed = ap (cleaned windows) read ∙ behind-append raw (join_with_byte backslash segments) rooted

  module _ (qs : List Part) (again : parts_of windows (clean_text windows t) ≡ prefix_part p raw ∷ qs) (behind : kinds qs ≡ lead rooted (rising ks) (kept_names ks)) where
    root-again : begins_with_root (kinds qs) ≡ rooted
    root-again = ap begins_with_root behind ∙ lead-rooted rooted (rising ks) (kept_names ks)

    anchored-again : is_anchored (prefix p ∷ kinds qs) ≡ is_anchored ks
    anchored-again = grind (arith, root-again)

    leads-again : LeadsAs (prefix p ∷ kinds qs) ks
    leads-again = grind (arith, leads-by, anchored-again, anchored-stays, lead-unmet, lead-names)

    pub prefixed-form : prefix_of windows (clean_text windows t) ≡ prefix_of windows t → IsCleanForm windows t (clean_text windows t)
    prefixed-form same = grind (arith, ups, anchored-again, leads-again, root-again, behind-append, clean-prefixed)

-- The clean text of a path with a prefix, case by case.

-- what is read behind the prefix, once that is read again
module _ (t : List ℕ) (f : Found) (is : prefix_of windows t ≡ Some f) where
  abbrev front : List ℕ
  front = take f.length t

  abbrev back : List Part
  back = body_parts (separators windows t) (drop f.length t)

  abbrev own : List Kind
  own = prefix f.prefix ∷ kinds (body_parts (separators windows t) (drop f.length t))

  abbrev joined : List ℕ
  joined = join_with_byte backslash (segments_of (prefix f.prefix ∷ kinds (body_parts (separators windows t) (drop f.length t))))

  abbrev is_rooted : Bool
  is_rooted = rooted_by f.prefix (kinds (body_parts (separators windows t) (drop f.length t))) (segments_of (prefix f.prefix ∷ kinds (body_parts (separators windows t) (drop f.length t))))

  -- what stands behind the prefix is read as it is to be
  behind-read : kinds (body_parts (separators windows t) (behind_text is_rooted joined)) ≡ lead is_rooted (rising own) (kept_names own)
  behind-read = by is_rooted
    where
      separates : is_separator (separators windows t) backslash ≡ true
      separates = backslash-separates (separators windows t) (separators-windows t)

      clean : AllByRecursion (IsCleanName (separators windows t)) (kept_names own)
      clean = names-clean (separators windows t) back (each-written (separators windows t) back (body_parts-read (separators windows t) (drop f.length t)))

      by : (b : Bool) → kinds (body_parts (separators windows t) (behind_text b joined)) ≡ lead b (rising own) (kept_names own)
      by b = grind (arith, read-root, separates, clean, read-ups)

  -- where the prefix stays before what stands behind it, the clean text has its form
  stays-form : f.length ≡ length front → separators windows (front ++ behind_text is_rooted joined) ≡ separators windows t
      → prefix_of windows (front ++ behind_text is_rooted joined) ≡ Some f → IsCleanForm windows t (clean_text windows t)
  stays-form size same stays =
      let text = behind_text is_rooted joined in
      let read = parts_of-some t f is in
      let again : parts_of windows (front ++ text) ≡ prefix_part f.prefix front ∷ body_parts (separators windows t) text =
      parts_of-some (front ++ text) f stays
      ∙ ap₂ (λ u v. prefix_part f.prefix u ∷ body_parts (separators windows (front ++ text)) v) (take_at front text f.length (sym size)) (drop_at front text f.length (sym size))
      ∙ ap (λ s. prefix_part f.prefix front ∷ body_parts s text) same in
      prefixed-form t f.prefix front back read (body_parts (separators windows t) text)
      (ap (parts_of windows) (clean-prefixed t f.prefix front back read) ∙ again) behind-read
      (ap (prefix_of windows) (clean-prefixed t f.prefix front back read) ∙ stays ∙ sym is)

-- where the text is its own clean text, a root or none, parents and names are read behind the prefix
pub clean-behind : (t : List ℕ) (f : Found) (is : prefix_of windows t ≡ Some f) → clean_text windows t ≡ t
    → (b : Bool) × (kinds (body_parts (separators windows t) (drop f.length t)) ≡ lead b (rising (own t f is)) (kept_names (own t f is)))
clean-behind t f is same =
    let raw = take f.length t in
    let text = behind_text (is_rooted t f is) (joined t f is) in
    let whole : raw ++ text ≡ t = sym (clean-prefixed t f.prefix raw (back t f is) (parts_of-some t f is)) ∙ same in
    let size : length raw ≡ f.length = omega (arith, length-take f.length t, (prefix-fits windows t f is).fits) in
    let behind : text ≡ drop f.length t = sym (drop_at raw text f.length size) ∙ ap (drop f.length) whole in
    (is_rooted t f is, ap (λ u. kinds (body_parts (separators windows t) u)) (sym behind) ∙ behind-read t f is)

-- under a drive
drive-form : (t : List ℕ) (letter : ℕ) → prefix_of windows t ≡ Some (found (disk letter) 2) → drive t ≡ Some letter → IsCleanForm windows t (clean_text windows t)
drive-form t letter is drives =
    let f = found (disk letter) 2 in
    let text = behind_text (is_rooted t f is) (joined t f is) in
    let cut : drive (take 2 t) ≡ Some letter = drive-take 2 t (omega arith) ∙ drives in
    stays-form t f is (omega (arith, length-take 2 t, drive-size t letter drives))
    (ap (λ b. if b then Backslash else Either) (drive-plain (take 2 t ++ text) letter (drive-extends (take 2 t) text letter cut) ∙ sym (drive-plain t letter drives)))
    (drive-stays (take 2 t) text letter cut)

-- a list of a text without anything behind its prefix
whole-form : (t : List ℕ) (f : Found) → prefix_of windows t ≡ Some f → is_disk f.prefix ≡ false → length t ≤ f.length → clean_text windows t ≡ t
whole-form t f is other most = grind (arith, common_steps)

-- later components begin with no root
later-unrooted : (s : Separators) (ps : List Part) → AllByRecursion (IsLaterPart s) ps → begins_with_root (kinds ps) ≡ false
later-unrooted s [] each = grind arith
later-unrooted s (p ∷ ps) each = grind arith

-- a list begins with a root where what it resolves to does
resolve-rooted : (s : Separators) (ps : List Part) → AreRead s ps → begins_with_root (kinds (resolve ps)) ≡ true → begins_with_root (kinds ps) ≡ true
resolve-rooted s ps read h = grind (arith, later-unrooted, resolve-each, both_ways)

none-more : (drives z : Bool) → drives ≡ false → (not drives && not z) ≡ false → z ≡ true
none-more drives z e h = grind arith

nothing-joined : (segments : List (List ℕ)) → (length segments == 0) ≡ true → join_with_byte backslash segments ≡ []
nothing-joined segments e = grind (arith, common_steps)

-- under another prefix, with more behind it
parted-form : (t : List ℕ) (f : Found) → prefix_of windows t ≡ Some f → is_disk f.prefix ≡ false → is_verbatim_unc_name (Some f.prefix) ≡ false → f.length < length t → IsCleanForm windows t (clean_text windows t)
parted-form t f is other no_unc more =
    let fine = by (is_rooted t f is) refl in
    let stays = parted-stays t (behind_text (is_rooted t f is) (joined t f is)) f is other no_unc more fine.0 fine.1 in
    stays-form t f is (omega (arith, length-take f.length t, more)) stays.0 stays.1
  where
    s : Separators
    s = separators windows t

    rest : List Part
    rest = body_parts (separators windows t) (drop f.length t)

    no_bare : begins_with_root (kinds rest) ≡ false → f.prefix ≡ verbatim [] → ⊥
    no_bare unrooted bare = elim (root-behind t f is other more) [
      | inl drive ↦ differ drive.0 (sym bare ∙ drive.1)
      | inr there ↦ both_ways _ unrooted (resolve-rooted s rest (body_parts-read s (drop f.length t)) there)
    ]
      where
        differ : (letter : ℕ) → verbatim [] ≡ verbatim_disk letter → ⊥
        differ letter e = cc

    by : (b : Bool) → is_rooted t f is ≡ b → Apart s (behind_text b (joined t f is)) × (f.prefix ≡ verbatim [] → 0 < length (behind_text b (joined t f is)))
    by b e = grind (arith, parted, backslash-separates, s, separators-windows, or_parts, rest, nothing-joined, none-more, nothing, no_bare)

-- The clean text of Windows leads where the path leads, and is its own clean text.
windows-form : (t : List ℕ) → is_verbatim_unc_name (prefix_kind windows t) ≡ false → IsCleanForm windows t (clean_text windows t)
windows-form t no_unc = by (prefix_of windows t) refl
  where
    drives_form : (f : Found) → Read (separators windows t) t f → prefix_of windows t ≡ Some f → is_disk f.prefix ≡ true → IsCleanForm windows t (clean_text windows t)
    drives_form _ (of_disk letter drives) is kind = drive-form t letter is drives
    drives_form f read is kind = cc

    same-form : clean_text windows t ≡ t → IsCleanForm windows t (clean_text windows t)
    same-form e = record { prefix = ap (prefix_of windows) e; route = ap (route windows) e; stays = ap (clean_text windows) e }

    by : (o : Option Found) → prefix_of windows t ≡ o → IsCleanForm windows t (clean_text windows t)
    by None is = plain-form windows t is
    by (Some f) is =
        let no = ap (λ o. is_verbatim_unc_name (option_map (λ g. g.prefix) o)) (sym is) ∙ no_unc in
        elim (cases_Bool (is_disk f.prefix)) [
          | inl drives ↦ drives_form f (prefix-read t f is) is drives
          | inr other ↦ elim (cases_lt f.length (length t)) [
            | inl more ↦ parted-form t f is other no more
            | inr most ↦ same-form (whole-form t f is other most)
          ]
        ]

-- so it is in each dialect
pub clean_form : (d : Dialect) (t : List ℕ) → HasCleanForm d t (clean_text d t)
clean_form unix t no_unc = plain-form unix t refl
clean_form windows t no_unc = windows-form t no_unc
