-- A path that gets one extension more keeps its separators and its prefix, but for the verbatim one named `UNC`; so it has its parent, and a longer name.
use Rattle.std.proofs.Common.{◌≡◌, ℕ, ◌+◌, ◌<◌, ◌≤◌, Bool, true, false, if◌then◌else◌, List, [], ◌∷◌, ◌++◌, length, take, drop, inl, inr, refl, sym, ap, ◌∙◌, arith, append-nil, length-append, length-drop, Some, None, Option, option_map, get_or, take-append-drop}
use Rattle.std.proofs.lemmas.Grind.{common_steps}
use Rattle.std.proofs.lemmas.Bool.{cond-true, cases_Bool, and_parts}
use Rattle.std.proofs.lemmas.List.{get_or-drop, get_or-take, get_or_append_left}
use Rattle.std.proofs.lemmas.List.Elements.{All-cons}
use Rattle.std.proofs.lemmas.Option.{same_Some}
use Rattle.std.specs.List.{list_any}
use Rattle.std.proofs.Math.Bool.{and-false}
use Rattle.typed_path.specs.declared.scan.separators.Separators.{Separators}
use Rattle.typed_path.specs.declared.scan.separators.Separators.TheVariants.{Backslash, Either}
use Rattle.typed_path.specs.components.{Dialect, unix, windows, dot, is_separator, separators, root_text, root, component, root_part, first, body, comps_behind, Found, prefix_of, found, disk, verbatim_disk, name, drive, after_mark, question, begins_verbatim}
use Rattle.typed_path.specs.scan.{last_of}
use Rattle.typed_path.specs.queries.{file_name_of, parent_of, is_disk}
use Rattle.typed_path.specs.changes.{cut_at, with_added_extension}
use Rattle.typed_path.specs.promises.{ExtendsName, is_verbatim_unc_name, prefix_kind}
use Rattle.typed_path.proofs.lemmas.components.Prefixes.{Read, of_verbatim_unc, of_verbatim_disk, of_verbatim, of_device, of_unc, of_disk, prefix-read, drive-take, dot-unseparated, prefix_by}
use Rattle.typed_path.proofs.lemmas.components.PrefixCuts.{plain-none, verbatim-take}
use Rattle.typed_path.proofs.lemmas.components.FirmPrefixes.{Apart, nothing, parted, share_made, prefix-apart, three_separators, drive-stays, drive-extends, verbatim_disk-stays}
use Rattle.typed_path.proofs.lemmas.components.PartedPrefixes.{apart-behind, shares-prefix, drive-plain}
use Rattle.typed_path.proofs.lemmas.lists.Lists.{IsUnseparated}
use Rattle.typed_path.proofs.lemmas.queries.Parents.{HasName, name_end-name}
use Rattle.typed_path.proofs.lemmas.changes.AddedNames.{clash, name-last, within, fits, cut_body, behind, grown-name, same_front, grown-parent, KeepsFront}
use Rattle.typed_path.proofs.lemmas.lists.Options.{or-none}

-- two separators and a byte that is none begin a prefix
two_found : (p q c : ℕ) (u : List ℕ) → is_separator Either p ≡ true → is_separator Either q ≡ true → is_separator Either c ≡ false → prefix_of windows (p ∷ q ∷ c ∷ u) ≡ None → ⊥
two_found p q c u first second plain h = grind (arith, or-none, share_made, cond-true)

-- behind two separators a text without a prefix has another one, and none of those that begin so has a prefix
three_behind : (p q : ℕ) (front rest x : List ℕ) → is_separator Either p ≡ true → is_separator Either q ≡ true → prefix_of windows (p ∷ q ∷ front ++ rest) ≡ None → (front ≡ [] → ⊥) → prefix_of windows (p ∷ q ∷ front ++ x) ≡ None
three_behind p q [] rest x first second none filled = grind arith
three_behind p q (c ∷ front) rest x first second none filled = grind (arith, cases_Bool, three_separators, two_found)

-- a text without a prefix that is cut, and goes on with a dot, has none, unless two separators were left alone
none_behind : (front rest : List ℕ) (b : ℕ) (bs : List ℕ) → prefix_of windows (front ++ rest) ≡ None
    → ((p q : ℕ) → front ≡ p ∷ q ∷ [] → is_separator Either p ≡ true → is_separator Either q ≡ true → ⊥) → prefix_of windows (front ++ dot ∷ b ∷ bs) ≡ None
none_behind [] rest b bs none alone = prefix-apart dot b bs refl
none_behind (p ∷ []) rest b bs none alone = grind (arith, common_steps, prefix-apart, and-false)
none_behind (p ∷ q ∷ front) rest b bs none alone = grind (arith, common_steps, cases_Bool, and_parts, three_behind, prefix-apart)

-- two separators are a root
two_roots : (p q : ℕ) → is_separator Either p ≡ true → is_separator Either q ≡ true → body Either 0 (p ∷ q ∷ []) ≡ component (root_part (root_text Either)) 0
two_roots p q first second = grind arith

-- what stands apart begins with a separator
apart-first : (s : Separators) (text : List ℕ) → Apart s text → 0 < length text → is_separator s (get_or text 0 0) ≡ true
apart-first s _ nothing some = absurd (omega (arith, some))
apart-first s _ (parted b bs separates) some = separates

abbrev by_mark : Bool → Separators
by_mark marked = if marked then Backslash else Either

module _ (t name : List ℕ) (b : ℕ) (bs : List ℕ) (h : HasName windows t name) (unseparated : IsUnseparated (is_separator (separators windows t)) (dot ∷ b ∷ bs)) where
  abbrev more : List ℕ
  more = dot ∷ b ∷ bs

  long : 1 < length more
  long = omega arith

  abbrev upto : ℕ
  upto = h.last.start + length name

  abbrev longer : List ℕ
  longer = take upto t ++ more

  -- without a prefix
  front_none : prefix_of windows t ≡ None → KeepsFront windows t longer
  front_none e =
      let last : last_of (body (separators windows t) 0 t) ≡ Some h.last = sym (ap (λ o. last_of (comps_behind (separators windows t) t o)) e) ∙ h.is_last in
      let none : prefix_of windows longer ≡ None = none_behind (take upto t) (drop upto t) b bs (ap (prefix_of windows) (take-append-drop upto t) ∙ e) (alone_not last) in
      record { same_separators = ap by_mark (plain-none longer none ∙ sym (plain-none t e)); same_prefix = none ∙ sym e }
    where
      alone_not : last_of (body (separators windows t) 0 t) ≡ Some h.last → (p q : ℕ) → take upto t ≡ p ∷ q ∷ [] → is_separator Either p ≡ true → is_separator Either q ≡ true → ⊥
      alone_not last p q is first second =
          let whole : body (separators windows t) 0 t ≡ component (root_part (root_text Either)) 0 =
          sym (cut_body windows t name more h long unseparated 0 last (omega arith))
          ∙ ap (body (separators windows t) 0) is
          ∙ ap (λ r. body r 0 (p ∷ q ∷ [])) (ap by_mark (plain-none t e)) ∙ two_roots p q first second in
          let same : record { part = root_part (root_text Either); start = 0 } ≡ h.last = same_Some _ _ (sym (ap last_of whole) ∙ last) in
          clash root name (ap (λ q. q.part.kind) same ∙ ap (λ r. r.kind) h.part) refl

  -- the last component stands behind the prefix
  found_last : (f : Found) → prefix_of windows t ≡ Some f → last_of (body (separators windows t) f.length (drop f.length t)) ≡ Some h.last
  found_last f e = grind (arith, common_steps)

  -- so the prefix ends before the name does
  ends_before : (f : Found) → prefix_of windows t ≡ Some f → f.length < upto
  ends_before f e = let told = behind windows t name more h long unseparated f.length (found_last f e) in omega (arith, told.0, told.1)

  front_same : (n : ℕ) → n ≤ upto → take n t ≡ take n longer
  front_same = same_front windows t name more h long unseparated

  upto_fits : length (take upto t) ≡ upto
  upto_fits = fits windows t name more h long unseparated

  upto_within : upto ≤ length t
  upto_within = within windows t name more h long unseparated

  -- behind a drive
  front_disk : (letter : ℕ) → prefix_of windows t ≡ Some (found (disk letter) 2) → drive t ≡ Some letter → KeepsFront windows t longer
  front_disk letter e drives =
      let two = ends_before (found (disk letter) 2) e in
      let again : drive (take upto t) ≡ Some letter = drive-take upto t (omega (arith, two)) ∙ drives in
      record {
        same_separators = ap by_mark (drive-plain longer letter (drive-extends (take upto t) more letter again) ∙ sym (drive-plain t letter drives));
        same_prefix = drive-stays (take upto t) more letter again ∙ sym e;
      }

  same_verbatim : 4 ≤ upto → separators windows longer ≡ separators windows t
  same_verbatim four = ap by_mark (sym (verbatim-take longer 4 (omega arith)) ∙ ap begins_verbatim (sym (front_same 4 four)) ∙ verbatim-take t 4 (omega arith))

  -- behind a verbatim drive
  front_verbatim_disk : (rest : List ℕ) (letter : ℕ) → prefix_of windows t ≡ Some (found (verbatim_disk letter) 6) → after_mark question t ≡ Some rest → drive rest ≡ Some letter → KeepsFront windows t longer
  front_verbatim_disk rest letter e marked drives =
      let six = ends_before (found (verbatim_disk letter) 6) e in
      let cut : longer ≡ take 6 t ++ drop 6 longer = sym (take-append-drop 6 longer) ∙ ap (λ front. front ++ drop 6 longer) (sym (front_same 6 (omega (arith, six)))) in
      record {
        same_separators = same_verbatim (omega (arith, six));
        same_prefix = ap (prefix_by (separators windows longer)) cut ∙ verbatim_disk-stays (separators windows longer) t (drop 6 longer) rest letter marked drives ∙ sym e;
      }

  -- behind every other prefix stands a separator
  front_apart : (f : Found) → prefix_of windows t ≡ Some f → is_disk f.prefix ≡ false → is_verbatim_unc_name (Some f.prefix) ≡ false → ((letter : ℕ) → f.prefix ≡ verbatim_disk letter → ⊥) → KeepsFront windows t longer
  front_apart f e other no_unc no_drive =
      let low = ends_before f e in
      let inside : f.length < length t = omega (arith, low, upto_within) in
      elim (apart-behind t f e other inside) [
        | inl drives ↦ absurd (no_drive drives.0 drives.1)
        | inr apart ↦
            let here : get_or (drop f.length t) 0 0 ≡ get_or longer f.length 0 =
            get_or-drop f.length t 0 0 ∙ ap (λ n. get_or t n 0) (zero_more f.length)
            ∙ sym (get_or_append_left (take upto t) more 0 f.length (omega (arith, low, upto_fits)) ∙ get_or-take upto t f.length 0 low) in
            let separates = ap (is_separator (separators windows t)) (sym here) ∙ apart-first (separators windows t) (drop f.length t) apart (omega (arith, inside, length-drop f.length t)) in
            let stays = shares-prefix t longer f e other no_unc inside (omega (arith, low, upto_fits, length-append (take upto t) more)) separates (front_same f.length (omega (arith, low))) in
            record { same_separators = stays.0; same_prefix = stays.1 ∙ sym e }
      ]
    where
      zero_more : (n : ℕ) → n + 0 ≡ n
      zero_more n = omega arith

  -- so it stays
  pub keeps_front : is_verbatim_unc_name (prefix_kind windows t) ≡ false → KeepsFront windows t longer
  keeps_front no_unc = by (prefix_of windows t) refl
    where
      read : (f : Found) → prefix_of windows t ≡ Some f → is_verbatim_unc_name (Some f.prefix) ≡ false → Read (separators windows t) t f → KeepsFront windows t longer
      read _ e other (of_verbatim_unc rest mark filled) = front_apart _ e refl other (λ letter is. cc)
      read _ e other (of_verbatim_disk rest letter mark drives) = front_verbatim_disk rest letter e mark.marked drives
      read _ e other (of_verbatim rest mark filled no_share no_drive) = front_apart _ e refl other (λ letter is. cc)
      read _ e other (of_device rest mark filled) = front_apart _ e refl other (λ letter is. cc)
      read _ e other (of_unc rest mark filled no_verbatim no_device) = front_apart _ e refl other (λ letter is. cc)
      read _ e other (of_disk letter drives) = front_disk letter e drives

      by : (o : Option Found) → prefix_of windows t ≡ o → KeepsFront windows t longer
      by None e = front_none e
      by (Some f) e = read f e (ap (λ o. is_verbatim_unc_name (option_map (λ g. g.prefix) o)) (sym e) ∙ no_unc) (prefix-read t f e)

-- An extension that separates nothing.

none_passes : (test : ℕ → Bool) (bs : List ℕ) → list_any test bs ≡ false → IsUnseparated test bs
none_passes test bs e = grind (arith, common_steps)

-- the separators and the prefix stay, in both dialects
front_stays : (d : Dialect) (t name : List ℕ) (b : ℕ) (bs : List ℕ) (h : HasName d t name) → IsUnseparated (is_separator (separators d t)) (dot ∷ b ∷ bs) → is_verbatim_unc_name (prefix_kind d t) ≡ false
    → KeepsFront d t (take (h.last.start + length name) t ++ dot ∷ b ∷ bs)
front_stays unix t name b bs h plain no_unc = record { same_separators = refl; same_prefix = refl }
front_stays windows t name b bs h plain no_unc = keeps_front t name b bs h plain no_unc

-- so a path has its parent, and a longer name
pub extends_name : (d : Dialect) (t ext : List ℕ) → ExtendsName d t ext
extends_name d t [] no_unc free name e = record { named = e ∙ ap Some (sym (append-nil name)); parent = refl }
extends_name d t (b ∷ bs) no_unc free name e =
    let h = name-last d t name e in
    let x = dot ∷ b ∷ bs in
    let cut : with_added_extension d t (b ∷ bs) ≡ take (h.last.start + length name) t ++ x = ap (cut_at t (b ∷ bs)) (name_end-name d t name h) in
    let plain : IsUnseparated (is_separator (separators d t)) x = All-cons (λ c. is_separator (separators d t) c ≡ false) dot (b ∷ bs) (dot-unseparated (separators d t)) (none_passes (is_separator (separators d t)) (b ∷ bs) free) in
    let front = front_stays d t name b bs h plain no_unc in
    record {
      named = ap (file_name_of d) cut ∙ grown-name d t name x h (omega arith) plain front;
      parent = ap (parent_of d) cut ∙ grown-parent d t name x h (omega arith) plain front;
    }
