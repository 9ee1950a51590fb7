-- The normal text of Windows is stable, where no name has a byte that no name may have.
use Rattle.std.proofs.Common.{◌≡◌, ℕ, true, false, if◌then◌else◌, List, [], ◌∷◌, ◌++◌, map, Option, Some, None, refl, sym, ap, ◌∙◌, ◌<◌, length, take, append_assoc, append-nil, length-take, arith, ◌≤◌, ◌⊎◌, inl, inr, drop, option_map, ap₂, subst, take_all}
use Rattle.std.proofs.lemmas.Grind.{common_steps}
use Rattle.std.specs.List.{AllByRecursion}
use Rattle.std.proofs.lemmas.Bool.{cases_Bool, cases_lt, cond-true}
use Rattle.std.proofs.lemmas.List.Elements.{All-head}
use Rattle.std.proofs.lemmas.List.{drop_all}
use Rattle.typed_path.specs.declared.scan.separators.Separators.{Separators}
use Rattle.typed_path.specs.declared.scan.separators.Separators.TheVariants.{Either}
use Rattle.typed_path.specs.components.{windows, backslash, separators, is_separator, Dialect, unix, Part, kinds, texts, name_part, disk, root_part, verbatim, verbatim_disk, prefix_part, Found, found, drive, prefix_of, parts_of}
use Rattle.typed_path.specs.queries.{begins_with_root, is_disk, is_verbatim_prefix, has_any_verbatim_prefix, have_allowed_bytes}
use Rattle.typed_path.specs.changes.{push_all, push_windows, spelled, ended_windows, merged}
use Rattle.typed_path.specs.places.{normal_text, resolve}
use Rattle.typed_path.specs.promises.{with_drive_root, IsStableForm, is_verbatim_unc_name, StaysStable, HasNormalForm}
use Rattle.typed_path.proofs.lemmas.places.Resolving.{texts-names, resolve-kept, resolve-same, with_drive_root-kept, with_drive_root-place, resolve-read, with_drive_root-rooted}
use Rattle.typed_path.proofs.lemmas.components.WindowsNames.{IsPlain, Settled, prefix_parts, text_of, settled-read, push_all-settled, plain-no_prefix, rooted-none, IsHead, a_root, a_name, Resolved, unrooted, rooted, resolved, allowed-resolve, push-plain}
use Rattle.typed_path.proofs.lemmas.components.Prefixes.{OfWindows, separators-windows, backslash-separates, drive-size, prefix-fits, Read, of_disk, prefix-read}
use Rattle.typed_path.proofs.lemmas.components.PrefixCuts.{plain-none, parts_of-none, parts_of-some, parts_of-alone}
use Rattle.typed_path.proofs.lemmas.components.FirmPrefixes.{Apart, nothing, parted, drive-raw}
use Rattle.typed_path.proofs.lemmas.components.PartedPrefixes.{parted-stays, root-behind, raw-whole}
use Rattle.typed_path.proofs.lemmas.components.Segments.{body_parts, body_parts-read}
use Rattle.typed_path.proofs.lemmas.promises.UnixContained.{canonical_form}

-- Lists whose texts, pushed one by one onto the empty text of Windows, are read as the list again.

-- a list that is read again off what its texts are pushed to, but for a root behind a verbatim drive
pub record IsReadAgain (ps : List Part) : Type 0 where
  pub reads : parts_of windows (push_all windows [] (texts ps)) ≡ with_drive_root ps
  pub same_text : push_all windows [] (texts (with_drive_root ps)) ≡ push_all windows [] (texts ps)

-- where the list that a path resolves to is, its normal text is stable
pub stable-again : (t : List ℕ) → IsReadAgain (resolve (parts_of windows t)) → IsStableForm t (normal_text windows t)
stable-again t again = grind (arith, resolve-same, with_drive_root-kept, resolve-kept, with_drive_root-place)

-- a text pushed onto the empty one is that text
pub push-first : (t : List ℕ) → push_windows [] t ≡ t
push-first t = grind arith

module _ (raw : List ℕ) (o : Option Found) (s : Separators) (q : Part) (h : Settled raw o s q) where
  -- where the first texts are pushed to a settled text, names behind it are
  pub settled-text : (names : List (List ℕ)) → AllByRecursion IsPlain names → push_all windows [] (texts (prefix_parts o raw ++ q ∷ [])) ≡ raw ++ q.text
      → push_all windows [] (texts (prefix_parts o raw ++ q ∷ map name_part names)) ≡ text_of raw o s q h names
  settled-text names plain first =
      by o first
      ∙ ap (push_all windows (raw ++ q.text)) (texts-names names)
      ∙ push_all-settled raw o s q h [] names tt plain
    where
      by : (o : Option Found) → push_all windows [] (texts (prefix_parts o raw ++ q ∷ [])) ≡ raw ++ q.text
          → push_all windows [] (texts (prefix_parts o raw ++ q ∷ map name_part names)) ≡ push_all windows (raw ++ q.text) (texts (map name_part names))
      by o first = grind arith

  -- so the list is read again
  pub settled-again : (names : List (List ℕ)) → AllByRecursion IsPlain names → push_all windows [] (texts (prefix_parts o raw ++ q ∷ [])) ≡ raw ++ q.text
      → with_drive_root (prefix_parts o raw ++ q ∷ map name_part names) ≡ prefix_parts o raw ++ q ∷ map name_part names
      → IsReadAgain (prefix_parts o raw ++ q ∷ map name_part names)
  settled-again names plain first same = record {
    reads = ap (parts_of windows) (settled-text names plain first) ∙ settled-read raw o s q h names plain ∙ sym same;
    same_text = ap (λ ps. push_all windows [] (texts ps)) same;
  }

-- Texts of Windows behind which names may stand: nothing, a drive, and a root behind another prefix.

-- a name, and what stands behind it
names-spelled : (name : List ℕ) (names : List (List ℕ)) → (rest : List ℕ) × (spelled (name_part name ∷ map name_part names) ≡ name ++ rest) × Apart Either rest
names-spelled name [] = ([], sym (append-nil name), nothing)
names-spelled name (own ∷ names) =
    let behind = spelled (name_part own ∷ map name_part names) in
    (backslash ∷ behind, append_assoc name (backslash ∷ []) behind, parted backslash behind refl)

-- a root or a name with names behind it has no prefix
headed-none : (q : Part) (names : List (List ℕ)) → IsHead q → AllByRecursion IsPlain names → prefix_of windows (spelled (q ∷ map name_part names)) ≡ None
headed-none _ names (a_name own h) plain = let behind = names-spelled own names in ap (prefix_of windows) behind.1 ∙ plain-no_prefix own behind.0 h behind.2
headed-none _ [] a_root plain = refl
headed-none _ (name ∷ names) a_root plain =
    let behind = names-spelled name names in
    ap (λ t. prefix_of windows (backslash ∷ t)) behind.1 ∙ by name plain.0 behind.0
  where
    by : (name : List ℕ) → IsPlain name → (rest : List ℕ) → prefix_of windows (backslash ∷ name ++ rest) ≡ None
    by [] h rest = let clean = h.clean in let filled = clean.filled in cc
    by (b ∷ bs) h rest = let clean = h.clean in rooted-none b (bs ++ rest) (All-head (λ c. is_separator Either c ≡ false) b bs clean.unseparated)

-- under no prefix
pub settled-none : (q : Part) → IsHead q → Settled [] None Either q
settled-none q head = grind (arith, headed-none, plain-none)

-- under a drive
pub settled-drive : (t : List ℕ) (letter : ℕ) (q : Part) → drive t ≡ Some letter → IsHead q → Settled (take 2 t) (Some (found (disk letter) 2)) Either q
settled-drive t letter q is head = grind (arith, common_steps)

-- a root, with names behind it, begins with a separator
rooted-apart : (s : Separators) → OfWindows s → (names : List (List ℕ)) → Apart s (spelled (root_part (backslash ∷ []) ∷ map name_part names)) × (0 < length (spelled (root_part (backslash ∷ []) ∷ map name_part names)))
rooted-apart s w names = grind (arith, parted, backslash-separates)

-- under another prefix with more behind it
pub settled-parted : (t : List ℕ) (f : Found) → prefix_of windows t ≡ Some f → is_disk f.prefix ≡ false → is_verbatim_unc_name (Some f.prefix) ≡ false → f.length < length t
    → Settled (take f.length t) (Some f) (separators windows t) (root_part (backslash ∷ []))
settled-parted t f is other no_unc more = grind (arith, separators-windows, length-take, a_root, rooted, rooted-apart, parted-stays)

-- The normal text of Windows is stable, where no name has a byte that no name may have and the prefix is not the verbatim one named `UNC`.

-- a prefix and nothing else is read again
alone-again : (raw : List ℕ) (g : Found) → prefix_of windows raw ≡ Some g → g.length ≡ length raw → IsReadAgain (prefix_part g.prefix raw ∷ [])
alone-again raw g is whole = record { reads = ap (parts_of windows) (push-first raw) ∙ parts_of-alone raw g is whole; same_text = refl }

-- a root pushed onto a prefix and nothing else is put behind it
pub push-root : (raw : List ℕ) (g : Found) → prefix_of windows raw ≡ Some g → g.length ≡ length raw → push_windows raw (backslash ∷ []) ≡ raw ++ backslash ∷ []
push-root raw g is whole = grind (arith, common_steps)

-- under no prefix
none-again : (ps : List Part) → Resolved ps → IsReadAgain ps
none-again _ (unrooted [] plain) = record { reads = refl; same_text = refl }
none-again _ (unrooted (name ∷ names) plain) = settled-again [] None Either (name_part name) (settled-none (name_part name) (a_name name plain.0)) names plain.1 (push-first name) (same names)
  where
    same : (ns : List (List ℕ)) → with_drive_root (name_part name ∷ map name_part ns) ≡ name_part name ∷ map name_part ns
    same ns = grind arith
none-again _ (rooted names plain) = settled-again [] None Either (root_part (backslash ∷ [])) (settled-none (root_part (backslash ∷ [])) a_root) names plain (push-first (backslash ∷ [])) (same names)
  where
    same : (ns : List (List ℕ)) → with_drive_root (root_part (backslash ∷ []) ∷ map name_part ns) ≡ root_part (backslash ∷ []) ∷ map name_part ns
    same ns = grind arith

-- a drive with a name or a root pushed onto it
pub push-drive : (raw : List ℕ) (letter : ℕ) (name : List ℕ) → parts_of windows raw ≡ prefix_part (disk letter) raw ∷ [] → IsPlain name → push_windows raw name ≡ raw ++ name
push-drive raw letter name read plain = grind (arith, push-plain)

-- under a drive
drive-again : (t : List ℕ) (letter : ℕ) (ps : List Part) → drive t ≡ Some letter → Resolved ps → IsReadAgain (prefix_part (disk letter) (take 2 t) ∷ ps)
drive-again t letter ps is resolved = by ps resolved
  where
    raw : List ℕ
    raw = take 2 t

    f : Found
    f = found (disk letter) 2

    alone : prefix_of windows raw ≡ Some f
    alone = drive-raw t letter is

    whole : 2 ≡ length raw
    whole = omega (arith, length-take 2 t, drive-size t letter is)

    by : (ps : List Part) → Resolved ps → IsReadAgain (prefix_part (disk letter) raw ∷ ps)
    by _ (unrooted [] plain) = alone-again raw f alone whole
    by _ (unrooted (name ∷ names) plain) =
        settled-again raw (Some f) Either (name_part name) (settled-drive t letter (name_part name) is (a_name name plain.0)) names plain.1
        (ap (λ u. push_windows u name) (push-first raw) ∙ push-drive raw letter name (parts_of-alone raw f alone whole) plain.0) refl
    by _ (rooted names plain) =
        settled-again raw (Some f) Either (root_part (backslash ∷ [])) (settled-drive t letter (root_part (backslash ∷ [])) is a_root) names plain
        (ap (λ u. push_windows u (backslash ∷ [])) (push-first raw) ∙ push-root raw f alone whole) refl

-- under another prefix, with more behind it
module _ (t : List ℕ) (f : Found) (is : prefix_of windows t ≡ Some f) (other : is_disk f.prefix ≡ false) (no_unc : is_verbatim_unc_name (Some f.prefix) ≡ false) (more : f.length < length t) where
  -- the raw prefix
  abbrev raw : List ℕ
  raw = take f.length t

  -- it is as long as the prefix
  whole : f.length ≡ length raw
  whole = omega (arith, length-take f.length t, more)

  -- a root behind it may have names behind it
  settled : Settled raw (Some f) (separators windows t) (root_part (backslash ∷ []))
  settled = settled-parted t f is other no_unc more

  -- a root pushed behind it
  first-root : push_all windows [] (texts (prefix_part f.prefix raw ∷ root_part (backslash ∷ []) ∷ [])) ≡ raw ++ backslash ∷ []
  first-root = let own = raw-whole t f is other no_unc more in ap (λ u. push_windows u (backslash ∷ [])) (push-first raw) ∙ push-root raw own.0 own.1 own.2

  -- a root behind it, and names
  rooted-again : (names : List (List ℕ)) → AllByRecursion IsPlain names → IsReadAgain (prefix_part f.prefix raw ∷ root_part (backslash ∷ []) ∷ map name_part names)
  rooted-again names plain = settled-again raw (Some f) (separators windows t) (root_part (backslash ∷ [])) settled names plain first-root (with_drive_root-rooted f.prefix raw (backslash ∷ []) (map name_part names))

  -- a name right behind a verbatim drive
  module _ (letter : ℕ) (drives : f.prefix ≡ verbatim_disk letter) where
    -- the raw prefix alone
    drive-whole : prefix_of windows raw ≡ Some f
    drive-whole = ap (prefix_of windows) (sym (append-nil raw)) ∙ (parted-stays t [] f is other no_unc more nothing (λ e. absurd (no_name (sym drives ∙ e)))).1
      where
        no_name : verbatim_disk letter ≡ verbatim [] → ⊥
        no_name e = cc

    -- a name pushed onto it
    push-named : (name : List ℕ) → IsPlain name → push_windows raw name ≡ raw ++ backslash ∷ name
    push-named name own =
        push-plain raw name own
        ∙ ap (λ ps. if has_any_verbatim_prefix (kinds ps) then spelled (merged ps (name_part name ∷ [])) else ended_windows raw ++ name) (parts_of-alone raw f drive-whole whole)
        ∙ cond-true (is_verbatim_prefix f.prefix) (raw ++ backslash ∷ [] ++ name) (ended_windows raw ++ name) (ap is_verbatim_prefix drives)
        ∙ append_assoc raw (backslash ∷ []) name

    -- a root is put in before the name
    named-root : (name : List ℕ) (ps : List Part) → with_drive_root (prefix_part f.prefix raw ∷ name_part name ∷ ps) ≡ prefix_part f.prefix raw ∷ root_part (backslash ∷ []) ∷ name_part name ∷ ps
    named-root name ps = subst (λ p. with_drive_root (prefix_part p raw ∷ name_part name ∷ ps) ≡ prefix_part p raw ∷ root_part (backslash ∷ []) ∷ name_part name ∷ ps) (sym drives) refl

    -- the name, and more of them
    named-again : (name : List ℕ) (names : List (List ℕ)) → IsPlain name → AllByRecursion IsPlain names → IsReadAgain (prefix_part f.prefix raw ∷ name_part name ∷ map name_part names)
    named-again name names own plain =
        let o = Some f in
        let s = separators windows t in
        let q = root_part (backslash ∷ []) in
        let text : push_all windows [] (texts (prefix_part f.prefix raw ∷ name_part name ∷ map name_part names)) ≡ text_of raw o s q settled (name ∷ names) =
        ap (λ u. push_all windows (push_windows u name) (texts (map name_part names))) (push-first raw)
        ∙ ap₂ (push_all windows) (push-named name own) (texts-names names)
        ∙ push_all-settled raw o s q settled (name ∷ []) names (own, tt) plain in
        record {
          reads = ap (parts_of windows) text ∙ settled-read raw o s q settled (name ∷ names) (own, plain) ∙ sym (named-root name (map name_part names));
          same_text = ap (λ ps. push_all windows [] (texts ps)) (named-root name (map name_part names)) ∙ settled-text raw o s q settled (name ∷ names) (own, plain) first-root ∙ sym text;
        }

  -- each list behind it
  parted-again : (ps : List Part) → Resolved ps → ((letter : ℕ) × (f.prefix ≡ verbatim_disk letter)) ⊎ (begins_with_root (kinds ps) ≡ true) → IsReadAgain (prefix_part f.prefix raw ∷ ps)
  parted-again _ (rooted names plain) behind = rooted-again names plain
  parted-again _ (unrooted [] plain) (inl drive) = alone-again raw f (drive-whole drive.0 drive.1) whole
  parted-again _ (unrooted (name ∷ names) plain) (inl drive) = named-again drive.0 drive.1 name names plain.0 plain.1
  parted-again _ (unrooted [] plain) (inr root) = cc
  parted-again _ (unrooted (name ∷ names) plain) (inr root) = cc

-- the list that a path resolves to is read again
resolved-again : (t : List ℕ) → have_allowed_bytes windows (kinds (parts_of windows t)) ≡ true → is_verbatim_unc_name (option_map (λ f. f.prefix) (prefix_of windows t)) ≡ false → IsReadAgain (resolve (parts_of windows t))
resolved-again t allowed no_unc = by (prefix_of windows t) refl
  where
    body : (s : Separators) (rest : List ℕ) → OfWindows s → have_allowed_bytes windows (kinds (body_parts s rest)) ≡ true → Resolved (resolve (body_parts s rest))
    body s rest w h = resolved s (resolve (body_parts s rest)) w (resolve-read s (body_parts s rest) (body_parts-read s rest)) (resolve-kept (body_parts s rest)) (allowed-resolve (body_parts s rest) h)

    by : (o : Option Found) → prefix_of windows t ≡ o → IsReadAgain (resolve (parts_of windows t))
    by None is =
        let read = parts_of-none t is in
        subst (λ ps. IsReadAgain (resolve ps)) (sym read) (none-again (resolve (body_parts Either t)) (body Either t refl (ap (λ ps. have_allowed_bytes windows (kinds ps)) (sym read) ∙ allowed)))
    by (Some f) is =
        let read = parts_of-some t f is in
        let no = ap (λ o. is_verbatim_unc_name (option_map (λ g. g.prefix) o)) (sym is) ∙ no_unc in
        let ps = resolve (body_parts (separators windows t) (drop f.length t)) in
        let own = body (separators windows t) (drop f.length t) (separators-windows t) (ap (λ ps. have_allowed_bytes windows (kinds ps)) (sym read) ∙ allowed) in
        subst (λ qs. IsReadAgain (resolve qs)) (sym read) (elim (cases_Bool (is_disk f.prefix)) [
          | inl drives ↦ drives_again f (prefix-read t f is) drives own
          | inr other ↦ elim (cases_lt f.length (length t)) [
            | inl more ↦ parted-again t f is other no more ps own (root-behind t f is other more)
            | inr most ↦ whole_again most
          ]
        ])
      where
        whole_again : length t ≤ f.length → IsReadAgain (prefix_part f.prefix (take f.length t) ∷ resolve (body_parts (separators windows t) (drop f.length t)))
        whole_again most =
            subst IsReadAgain (sym (ap₂ (λ u v. prefix_part f.prefix u ∷ resolve (body_parts (separators windows t) v)) (take_all f.length t most) (drop_all f.length t most)))
            (alone-again t f is (omega (arith, most, (prefix-fits windows t f is).fits)))

        drives_again : (f : Found) → Read (separators windows t) t f → is_disk f.prefix ≡ true → Resolved (resolve (body_parts (separators windows t) (drop f.length t)))
            → IsReadAgain (prefix_part f.prefix (take f.length t) ∷ resolve (body_parts (separators windows t) (drop f.length t)))
        drives_again _ (of_disk letter drives) kind own = drive-again t letter (resolve (body_parts (separators windows t) (drop 2 t))) drives own
        drives_again f read kind own = cc

-- the normal text of Windows is stable
pub stays_stable : (t : List ℕ) → StaysStable t
stays_stable t allowed no_unc = stable-again t (resolved-again t allowed no_unc)

-- The form of a normal text, by its dialect.

-- a normal text has the form that its dialect promises
pub normal_form : (d : Dialect) (t : List ℕ) → HasNormalForm d t (normal_text d t)
normal_form unix t = canonical_form t
normal_form windows t = stays_stable t
