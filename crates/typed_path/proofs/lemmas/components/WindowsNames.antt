-- Names that are read as names in each Windows text, alone and pushed one by one; a list as it is read that stays.
use Rattle.std.proofs.Common.{◌≡◌, ℕ, ◌==◌, true, false, ◌&&◌, ◌||◌, List, [], ◌∷◌, map, Some, None, refl, sym, ap, subst, ◌∙◌, ◌++◌, append-nil, if◌then◌else◌, length, append_assoc, arith, Option, length-append}
use Rattle.std.proofs.lemmas.Grind.{common_steps}
use Rattle.std.specs.List.{list_any, AllByRecursion}
use Rattle.std.proofs.lemmas.Bool.{and_parts, or_parts, cond-false, not-true, eqb-false, cases_Bool, cond-true}
use Rattle.std.proofs.lemmas.List.Elements.{All-head}
use Rattle.std.proofs.lemmas.List.{get_or-append_right, map-append, nil_from_length}
use Rattle.std.proofs.Math.Seq.{drop-append_seam, take-append_seam}
use Rattle.typed_path.specs.declared.scan.separators.Separators.{Separators}
use Rattle.typed_path.specs.declared.scan.separators.Separators.TheVariants.{Either, Slash}
use Rattle.typed_path.specs.components.{windows, backslash, is_separator, Dialect, unix, separators, Kind, prefix, root, normal, Part, kinds, name_part, root_part, Prefix, prefix_part, drive, prefix_of, is_empty, Found, parts_of, is_dot, is_dot_dot}
use Rattle.typed_path.specs.queries.{is_disallowed, have_allowed_bytes, has_allowed_bytes, is_valid_name, is_verbatim_prefix, has_any_verbatim_prefix}
use Rattle.typed_path.specs.places.{stays, resolve}
use Rattle.typed_path.specs.changes.{fault, ended_with, joint, spelled, is_disk_alone, ended_windows, merged, push_all, push_windows, raw_length}
use Rattle.typed_path.proofs.lemmas.lists.Lists.{IsUnseparated, AllByRecursion-append}
use Rattle.typed_path.proofs.lemmas.components.Prefixes.{OfWindows, root_text-windows, prefix_of-unseparated}
use Rattle.typed_path.proofs.lemmas.components.Segments.{IsCleanName, IsWritten, IsLater, IsLaterPart, AreRead, IsWrittenPart, body_parts, parts_behind, parts-comps_behind, parts_of-unix, body_parts-name}
use Rattle.typed_path.proofs.lemmas.places.Resolving.{IsKept, resolve-each}
use Rattle.typed_path.proofs.lemmas.components.FirmPrefixes.{Apart, nothing, drive-apart, prefix-apart}
use Rattle.typed_path.proofs.lemmas.changes.Joins.{spelled-filled, body_parts-spelled}
use Rattle.typed_path.proofs.lemmas.components.PrefixCuts.{parts_of-none}

-- Names that are read as names in each Windows text: without separators of either kind, and no drives.

-- a name that is clean in each Windows text, and is no drive
pub record IsPlain (name : List ℕ) : Type 0 where
  pub clean : IsCleanName Either name
  pub no_drive : drive name ≡ None

-- a name that is clean in each Windows text is clean in one
pub clean-either : (s : Separators) (name : List ℕ) → IsCleanName Either name → IsCleanName s name
clean-either s name clean = grind arith

-- so is a plain one
pub plain-clean : (s : Separators) (name : List ℕ) → IsPlain name → IsCleanName s name
plain-clean s name plain = clean-either s name plain.clean

-- such bytes separate nothing
pub allowed-unseparated : (bytes : List ℕ) → list_any (is_disallowed windows) bytes ≡ false → IsUnseparated (is_separator Either) bytes
allowed-unseparated bytes h = grind (arith, common_steps)

-- nor do they begin with a drive
pub allowed-drive : (bytes : List ℕ) → list_any (is_disallowed windows) bytes ≡ false → drive bytes ≡ None
allowed-drive bytes h = grind (arith, or_parts, cond-false)

-- a name of allowed bytes is plain
pub allowed-plain : (s : Separators) (name : List ℕ) → IsCleanName s name → list_any (is_disallowed windows) name ≡ false → IsPlain name
allowed-plain s name clean h = grind (arith, allowed-unseparated, allowed-drive)

-- a component that is a name of allowed bytes, or none
abbrev IsAllowedPart : Part → Type 0
IsAllowedPart p = have_allowed_bytes windows (p.kind ∷ []) ≡ true

-- names of allowed bytes, each for itself
allowed-each : (ps : List Part) → have_allowed_bytes windows (kinds ps) ≡ true → AllByRecursion IsAllowedPart ps
allowed-each [] h = tt
allowed-each (p ∷ ps) h = let parts = and_parts _ (have_allowed_bytes windows (kinds ps)) h in (rw parts.0 refl, allowed-each ps parts.1)

-- a root and plain names, or plain names alone
pub data Resolved : List Part → Type 0 where
  unrooted : (names : List (List ℕ)) → AllByRecursion IsPlain names → Resolved (map name_part names)
  rooted : (names : List (List ℕ)) → AllByRecursion IsPlain names → Resolved (root_part (backslash ∷ []) ∷ map name_part names)

-- later components that stay are names
later-plain : (s : Separators) (ps : List Part) → AllByRecursion (IsLaterPart s) ps → AllByRecursion IsKept ps → AllByRecursion IsAllowedPart ps
    → (names : List (List ℕ)) × (ps ≡ map name_part names) × AllByRecursion IsPlain names
later-plain s [] later kept allowed = ([], refl, tt)
later-plain s (p ∷ ps) later kept allowed = by p.kind p.text later.0 kept.0 allowed.0 (later-plain s ps later.1 kept.1 allowed.1)
  where
    by : (k : Kind) (text : List ℕ) → IsLater s k text → stays k [] ≡ true → have_allowed_bytes windows (k ∷ []) ≡ true → ((names : List (List ℕ)) × (ps ≡ map name_part names) × AllByRecursion IsPlain names)
        → (names : List (List ℕ)) × (record { kind = k; text = text } ∷ ps ≡ map name_part names) × AllByRecursion IsPlain names
    by (prefix q) text later kept allowed rest = absurd later
    by root text later kept allowed rest = absurd later
    by (normal name) text later kept allowed rest =
        let own = allowed-plain s name later.1 (not-true _ (and_parts _ true allowed).0) in
        (name ∷ rest.0, (λ i. record { kind = normal name; text = later.0 i } ∷ rest.1 i), (own, rest.2))
    by k text later kept allowed rest = cc

-- so is a list as it is read that stays, but for a root
pub resolved : (s : Separators) (ps : List Part) → OfWindows s → AreRead s ps → AllByRecursion IsKept ps → have_allowed_bytes windows (kinds ps) ≡ true → Resolved ps
resolved s [] w read kept allowed = unrooted [] tt
resolved s (p ∷ ps) w read kept allowed =
    let each = allowed-each (p ∷ ps) allowed in
    by p.kind p.text read.0 kept.0 each.0 (later-plain s ps read.1 kept.1 each.1)
  where
    by : (k : Kind) (text : List ℕ) → IsWritten s k text → stays k [] ≡ true → have_allowed_bytes windows (k ∷ []) ≡ true → ((names : List (List ℕ)) × (ps ≡ map name_part names) × AllByRecursion IsPlain names)
        → Resolved (record { kind = k; text = text } ∷ ps)
    by (prefix q) text written kept allowed rest = absurd written
    by root text written kept allowed rest = subst Resolved (λ i. root_part (sym (written ∙ root_text-windows s w) i) ∷ sym rest.1 i) (rooted rest.0 rest.2)
    by (normal name) text written kept allowed rest =
        let own = allowed-plain s name written.1 (not-true _ (and_parts _ true allowed).0) in
        subst Resolved (λ i. record { kind = normal name; text = sym written.0 i } ∷ sym rest.1 i) (unrooted (name ∷ rest.0) (own, rest.2))
    by k text written kept allowed rest = cc

-- what a list resolves to has allowed bytes where the list has
pub allowed-resolve : (ps : List Part) → have_allowed_bytes windows (kinds ps) ≡ true → have_allowed_bytes windows (kinds (resolve ps)) ≡ true
allowed-resolve ps h = back (resolve ps) (resolve-each IsAllowedPart ps (allowed-each ps h))
  where
    back : (qs : List Part) → AllByRecursion IsAllowedPart qs → have_allowed_bytes windows (kinds qs) ≡ true
    back [] each = refl
    back (q ∷ qs) each = ap (λ b. b && have_allowed_bytes windows (kinds qs)) (and_parts _ true each.0).0 ∙ back qs each.1

-- Texts of Windows that are a plain name, or begin with one or with a root.

-- a plain name with something apart behind it has no prefix
pub plain-no_prefix : (name x : List ℕ) → IsPlain name → Apart Either x → prefix_of windows (name ++ x) ≡ None
plain-no_prefix [] x plain apart = let clean = plain.clean in let filled = clean.filled in cc
plain-no_prefix (b ∷ bs) x plain apart =
    let clean = plain.clean in
    prefix_of-unseparated b (bs ++ x) (All-head (λ c. is_separator Either c ≡ false) b bs clean.unseparated) (drive-apart Either (b ∷ bs) x apart plain.no_drive)

-- nor has a separator with such a text behind it
pub rooted-none : (b : ℕ) (bs : List ℕ) → is_separator Either b ≡ false → prefix_of windows (backslash ∷ b ∷ bs) ≡ None
rooted-none b bs plain = prefix-apart backslash b bs plain

-- a plain name alone is read as one
pub plain-read : (name : List ℕ) → IsPlain name → parts_of windows name ≡ name_part name ∷ []
plain-read name plain = grind (arith, nothing, parts_of-none, body_parts-name)

-- A name that is allowed is refused nowhere.

-- bytes that a name of Unix may have separate nothing
allowed-unseparated_unix : (name : List ℕ) → list_any (is_disallowed unix) name ≡ false → IsUnseparated (is_separator Slash) name
allowed-unseparated_unix name h = grind (arith, common_steps)

-- so it is read as one name where it is neither empty nor `.` nor `..`
module _ (name : List ℕ) (filled : is_empty name ≡ false) (no_dot : is_dot name ≡ false) (no_dot_dot : is_dot_dot name ≡ false) where
  read-unix : has_allowed_bytes unix name ≡ true → parts_of unix name ≡ name_part name ∷ []
  read-unix allowed = grind (arith, parts_of-unix, body_parts-name, allowed-unseparated_unix, not-true)

  read-windows : has_allowed_bytes windows name ≡ true → parts_of windows name ≡ name_part name ∷ []
  read-windows allowed = grind (arith, not-true, plain-read, allowed-unseparated, allowed-drive)

-- a name that is valid is not refused
pub fault_name : (d : Dialect) (name : List ℕ) → (is_empty name || is_dot name || is_dot_dot name) ≡ false → is_valid_name d name ≡ true → fault d name ≡ None
fault_name d name no_dots valid = grind (arith, or_parts, read-unix, and_parts, read-windows)

-- A root or a name, and names behind it, spelled, with one more name put behind that.

-- a root or a plain name: what a list may begin with behind its prefix
pub data IsHead : Part → Type 0 where
  a_root : IsHead (root_part (backslash ∷ []))
  a_name : (name : List ℕ) → IsPlain name → IsHead (name_part name)

-- it is written as it is read
pub head-written : (s : Separators) → OfWindows s → (q : Part) → IsHead q → IsWrittenPart s q
head-written s w _ a_root = sym (root_text-windows s w)
head-written s w _ (a_name name plain) = (refl, plain-clean s name plain)

-- plain names are read anywhere
names-read : (s : Separators) (names : List (List ℕ)) → AllByRecursion IsPlain names → AllByRecursion (IsLaterPart s) (map name_part names)
names-read s [] plain = tt
names-read s (name ∷ names) plain = ((refl, plain-clean s name plain.0), names-read s names plain.1)

-- so are they behind a root or a name
pub headed-read : (s : Separators) → OfWindows s → (q : Part) (names : List (List ℕ)) → IsHead q → AllByRecursion IsPlain names → AreRead s (q ∷ map name_part names)
headed-read s w q names head plain = (head-written s w q head, names-read s names plain)

-- the end of a text put behind another is ended alike
pub ended_with-append : (b : ℕ) (front text : List ℕ) → (length text == 0) ≡ false → ended_with b (front ++ text) ≡ front ++ ended_with b text
ended_with-append b front text filled = grind (arith, eqb-false, length-append, get_or-append_right, append_assoc)

-- a plain name does not end with `\`
plain-ended : (name : List ℕ) → IsPlain name → ended_with backslash name ≡ name ++ backslash ∷ []
plain-ended name plain = grind arith

-- one more name stands behind a separator, which a root has
pub ended-spelled : (q : Part) (names : List (List ℕ)) (name : List ℕ) → IsHead q → AllByRecursion IsPlain names
    → ended_with backslash (spelled (q ∷ map name_part names)) ++ name ≡ spelled (q ∷ map name_part (names ++ name ∷ []))
ended-spelled _ [] name a_root plain = refl
ended-spelled _ [] name (a_name own h) plain = ap (λ t. t ++ name) (plain-ended own h)
ended-spelled q (own ∷ names) name head plain =
    let rest = spelled (name_part own ∷ map name_part names) in
    let front = q.text ++ joint q.kind (normal own) in
    ap (λ t. t ++ name) (ended_with-append backslash front rest (spelled-filled Either (name_part own) (map name_part names) (refl, plain-clean Either own plain.0)))
    ∙ append_assoc front (ended_with backslash rest) name
    ∙ ap (λ t. front ++ t) (ended-spelled (name_part own) names name (a_name own plain.0) plain.1)

-- Plain names pushed one by one behind a prefix that stays, and a root or a name: they are spelled behind these.

-- the prefix, where there is one
abbrev pub prefix_parts : Option Found → List ℕ → List Part
prefix_parts None raw = []
prefix_parts (Some f) raw = prefix_part f.prefix raw ∷ []

-- a text behind which names may stand: its prefix and separators stay as these are put behind a root or a name
pub record Settled (raw : List ℕ) (o : Option Found) (s : Separators) (q : Part) : Type 0 where
  pub of_windows : OfWindows s
  pub whole : raw_length o ≡ length raw
  pub head : IsHead q
  pub rooted : (f : Found) → o ≡ Some f → is_verbatim_prefix f.prefix ≡ true → q ≡ root_part (backslash ∷ [])
  pub stays : (names : List (List ℕ)) → AllByRecursion IsPlain names
      → (separators windows (raw ++ spelled (q ∷ map name_part names)) ≡ s) × (prefix_of windows (raw ++ spelled (q ∷ map name_part names)) ≡ o)

-- a raw prefix, and what stands behind it
parts_behind-raw : (s : Separators) (raw rest : List ℕ) (o : Option Found) → raw_length o ≡ length raw → parts_behind s (raw ++ rest) o ≡ prefix_parts o raw ++ body_parts s rest
parts_behind-raw s raw rest o whole = grind (arith, body_parts, nil_from_length, take-append_seam, drop-append_seam)

-- a prefix with more behind it is no drive alone
pub disk_alone-more : (p : Prefix) (k : Kind) (ks : List Kind) → is_disk_alone (prefix p ∷ k ∷ ks) ≡ false
disk_alone-more p k ks = grind arith

-- nor is a root or a name
disk_alone-head : (o : Option Found) (raw : List ℕ) (q : Part) (qs : List Part) → IsHead q → is_disk_alone (kinds (prefix_parts o raw ++ q ∷ qs)) ≡ false
disk_alone-head None raw _ qs a_root = refl
disk_alone-head None raw _ qs (a_name name plain) = refl
disk_alone-head (Some f) raw q qs head = disk_alone-more f.prefix q.kind (kinds qs)

-- a plain name pushed
pub push-plain : (base name : List ℕ) → IsPlain name
    → push_windows base name ≡ (if has_any_verbatim_prefix (kinds (parts_of windows base)) then spelled (merged (parts_of windows base) (name_part name ∷ [])) else ended_windows base ++ name)
push-plain base [] plain = let clean = plain.clean in let filled = clean.filled in cc
push-plain base (b ∷ bs) plain = rw (plain-read (b ∷ bs) plain) refl

module _ (raw : List ℕ) (o : Option Found) (s : Separators) (q : Part) (h : Settled raw o s q) where
  -- a settled text with names behind it
  abbrev pub text_of : List (List ℕ) → List ℕ
  text_of names = raw ++ spelled (q ∷ map name_part names)

  -- it is read as the prefix, the root or name, and the names
  pub settled-read : (names : List (List ℕ)) → AllByRecursion IsPlain names → parts_of windows (text_of names) ≡ prefix_parts o raw ++ q ∷ map name_part names
  settled-read names plain = grind (arith, parts-comps_behind, parts_behind, parts_behind-raw, body_parts-spelled, headed-read)

  -- one more name behind a prefix that is not verbatim
  push-ended : (names : List (List ℕ)) (name : List ℕ) → AllByRecursion IsPlain names → ended_windows (text_of names) ++ name ≡ text_of (names ++ name ∷ [])
  push-ended names name plain =
      let rest = spelled (q ∷ map name_part names) in
      ap (λ t. t ++ name)
      (cond-false (is_disk_alone (kinds (parts_of windows (text_of names)))) (text_of names) (ended_with backslash (text_of names))
      (ap (λ ps. is_disk_alone (kinds ps)) (settled-read names plain) ∙ disk_alone-head o raw q (map name_part names) h.head)
      ∙ ended_with-append backslash raw rest (spelled-filled s q (map name_part names) (head-written s h.of_windows q h.head)))
      ∙ append_assoc raw (ended_with backslash rest) name
      ∙ ap (λ t. raw ++ t) (ended-spelled q names name h.head plain)

  -- one more name behind a verbatim one
  push-anew : (names : List (List ℕ)) (name : List ℕ) → has_any_verbatim_prefix (kinds (prefix_parts o raw ++ q ∷ map name_part names)) ≡ true
      → spelled (merged (prefix_parts o raw ++ q ∷ map name_part names) (name_part name ∷ [])) ≡ text_of (names ++ name ∷ [])
  push-anew names name anew = grind (arith, map-append, append-nil)

  -- one more name
  push-settled : (names : List (List ℕ)) (name : List ℕ) → AllByRecursion IsPlain names → IsPlain name → push_windows (text_of names) name ≡ text_of (names ++ name ∷ [])
  push-settled names name plain own = grind (arith, settled-read, push-plain, cases_Bool, cond-true, push-anew, cond-false, push-ended)

  -- names one by one
  pub push_all-settled : (names more : List (List ℕ)) → AllByRecursion IsPlain names → AllByRecursion IsPlain more → push_all windows (text_of names) more ≡ text_of (names ++ more)
  push_all-settled names [] plain rest = ap text_of (sym (append-nil names))
  push_all-settled names (name ∷ more) plain rest =
      ap (λ t. push_all windows t more) (push-settled names name plain rest.0)
      ∙ push_all-settled (names ++ name ∷ []) more (AllByRecursion-append IsPlain names (name ∷ []) plain (rest.0, tt)) rest.1
      ∙ ap text_of (append_assoc names (name ∷ []) more)
