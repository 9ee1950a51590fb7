-- The normal text of Windows, written row by row.
use Rattle.std.proofs.Common.{◌≡◌, inl, inr, ℕ, ◌<◌, ◌||◌, true, false, List, [], ◌∷◌, ◌++◌, map, length, take, drop, fold, Option, Some, None, if◌then◌else◌, cond, refl, sym, ap, ap₂, ◌∙◌, subst, append_assoc, append-nil, length-take, length-drop, arith}
use Rattle.std.proofs.lemmas.Grind.{common_steps}
use Rattle.std.specs.List.{list_any, onto_first, AllByRecursion}
use Rattle.std.proofs.lemmas.Bool.{or_parts}
use Rattle.std.proofs.lemmas.List.{nil_from_length}
use Rattle.typed_path.specs.declared.scan.separators.Separators.{Separators}
use Rattle.typed_path.specs.declared.scan.separators.Separators.TheVariants.{Slash, Backslash, Either}
use Rattle.typed_path.specs.components.{windows, backslash, separators, is_separator, is_verbatim, disk, Part, name_part, root_part, prefix_part, Found, found, drive, prefix_of, parts_of}
use Rattle.typed_path.specs.queries.{is_disk}
use Rattle.typed_path.specs.changes.{push_windows, push_all, spelled}
use Rattle.typed_path.specs.places.{normal_text, rows_of, settled, names_left_of, HaveNoDisks, ArePlainRows, IsNormal, IsRowHead, IsPartedEither}
use Rattle.typed_path.specs.promises.{is_verbatim_unc_name}
use Rattle.typed_path.proofs.lemmas.lists.Lists.{slice_split-unseparated}
use Rattle.typed_path.proofs.lemmas.components.Prefixes.{OfWindows, separators-windows, drive-size, Read, of_disk, prefix-read}
use Rattle.typed_path.proofs.lemmas.components.Segments.{pieces, later_parts, body_parts, IsCleanName}
use Rattle.typed_path.proofs.lemmas.components.WrittenForms.{heads_first-parts_of}
use Rattle.typed_path.proofs.lemmas.components.WindowsNames.{IsPlain, IsHead, a_root, a_name, Settled, push_all-settled}
use Rattle.typed_path.proofs.lemmas.components.PartedPrefixes.{raw-whole, drive-plain}
use Rattle.typed_path.proofs.lemmas.components.PrefixCuts.{parts_of-none, parts_of-some, parts_of-alone}
use Rattle.typed_path.proofs.lemmas.places.Resolving.{Comes, comes-head}
use Rattle.typed_path.proofs.lemmas.places.UnixRows.{comes-left, comes-unrooted, left-clean, rowed-alone, rowed-named}
use Rattle.typed_path.proofs.lemmas.promises.WindowsStable.{settled-none, settled-drive, settled-parted, push-first, push-root, push-drive}
use Rattle.typed_path.proofs.lemmas.components.FirmPrefixes.{drive-raw}

-- names spelled, with a separator behind them, are their rows
spelled-rows : (name : List ℕ) (names : List (List ℕ)) → spelled (name_part name ∷ map name_part names) ++ backslash ∷ [] ≡ rows_of Either (name ∷ names)
spelled-rows name [] = sym (append-nil (name ++ backslash ∷ []))
spelled-rows name (own ∷ names) = grind (arith, common_steps, append_assoc, spelled-rows own names)

-- clean names without drives are plain
plain-each : (names : List (List ℕ)) → AllByRecursion (IsCleanName Either) names → HaveNoDisks names → AllByRecursion IsPlain names
plain-each [] clean drives = tt
plain-each (name ∷ names) clean drives = (record { clean = clean.0; no_drive = drives.0 }, plain-each names clean.1 drives.1)

-- so are the names that are left of a text, where they have none
left-plain : (rest : List ℕ) → HaveNoDisks (names_left_of Either rest) → AllByRecursion IsPlain (names_left_of Either rest)
left-plain rest drives = plain-each (names_left_of Either rest) (left-clean Either (pieces Either rest) [] (slice_split-unseparated (is_separator Either) rest) tt) drives

-- names pushed behind a root are their rows
rooted-rows : (raw : List ℕ) (o : Option Found) (s : Separators) → Settled raw o s (root_part (backslash ∷ [])) → (goal : List ℕ) (names : List (List ℕ)) → AllByRecursion IsPlain names
    → goal ≡ push_all windows (raw ++ backslash ∷ []) names → IsNormal goal (raw ++ backslash ∷ []) ((raw ++ backslash ∷ []) ++ rows_of Either names)
rooted-rows raw o s h goal [] plain written = rowed-alone goal (raw ++ backslash ∷ []) _ refl written
rooted-rows raw o s h goal (name ∷ names) plain written =
    let own = plain.0 in
    let clean = own.clean in
    let behind = spelled (name_part name ∷ map name_part names) in
    rowed-named Either goal (raw ++ backslash ∷ []) _ name names clean.filled refl
    (ap (λ t. t ++ backslash ∷ []) (written ∙ push_all-settled raw o s (root_part (backslash ∷ [])) h [] (name ∷ names) tt plain)
    ∙ append_assoc raw (backslash ∷ behind) (backslash ∷ [])
    ∙ ap (λ t. raw ++ backslash ∷ t) (spelled-rows name names)
    ∙ sym (append_assoc raw (backslash ∷ []) (rows_of Either (name ∷ names))))

-- names pushed behind a text that needs no root are their rows
named-rows : (raw : List ℕ) (o : Option Found) (s : Separators) → ((q : Part) → IsHead q → Settled raw o s q) → ((name : List ℕ) → IsPlain name → push_windows raw name ≡ raw ++ name)
    → (goal : List ℕ) (names : List (List ℕ)) → AllByRecursion IsPlain names → goal ≡ push_all windows raw names → IsNormal goal raw (raw ++ rows_of Either names)
named-rows raw o s h first goal [] plain written = rowed-alone goal raw _ refl written
named-rows raw o s h first goal (name ∷ names) plain written =
    let own = plain.0 in
    let clean = own.clean in
    let q = name_part name in
    rowed-named Either goal raw _ name names clean.filled refl
    (ap (λ t. t ++ backslash ∷ []) (written ∙ ap (λ t. push_all windows t names) (first name own) ∙ push_all-settled raw o s q (h q (a_name name own)) [] names tt plain.1)
    ∙ append_assoc raw (spelled (q ∷ map name_part names)) (backslash ∷ [])
    ∙ ap (λ t. raw ++ t) (spelled-rows name names))

-- the list of a path, before its first component
comes-list : (t : List ℕ) (ps : List Part) → parts_of windows t ≡ ps → Comes windows (normal_text windows t) [] [] ps
comes-list t ps e = subst (λ qs. Comes windows (normal_text windows t) [] [] qs) e (record { written = refl; heads = heads_first-parts_of windows t })

-- behind the prefix
comes-prefix : {goal : List ℕ} (f : Found) (raw : List ℕ) (ps : List Part) → Comes windows goal [] [] (prefix_part f.prefix raw ∷ ps) → Comes windows goal raw [] ps
comes-prefix {goal} f raw ps h = subst (λ t. Comes windows goal t [] ps) (push-first raw) (comes-head refl h)

-- and behind the root
comes-rooted : {goal raw : List ℕ} (s : Separators) → OfWindows s → (b : ℕ) (bs : List ℕ) → is_separator s b ≡ true → push_windows raw (backslash ∷ []) ≡ raw ++ backslash ∷ []
    → Comes windows goal raw [] (body_parts s (b ∷ bs)) → Comes windows goal (raw ++ backslash ∷ []) [] (later_parts s (pieces s bs))
comes-rooted {goal} {raw} s w b bs separates pushed h = grind arith

-- under no prefix
pub none-head : (path root rest : List ℕ) → prefix_of windows path ≡ None → IsPartedEither path root rest → IsRowHead path root rest
none-head path root rest is parted text rows = by parted
  where
    goal : List ℕ
    goal = normal_text windows path

    names : List (List ℕ)
    names = names_left_of Either rest

    plain : AllByRecursion IsPlain names
    plain = left-plain rest rows.drives

    first : Comes windows goal [] [] (body_parts Either path)
    first = comes-list path (body_parts Either path) (parts_of-none path is)

    by : IsPartedEither path root rest → IsNormal goal root text
    by (inl (b, separates, e, rooted)) =
        let comes = comes-rooted Either refl b rest separates refl (subst (λ t. Comes windows goal [] [] (body_parts Either t)) e first) in
        let normal = rooted-rows [] None Either (settled-none (root_part (backslash ∷ [])) a_root) goal names plain (comes-left Either (pieces Either rest) [] comes) in
        subst (λ t. IsNormal goal root t) (sym rows.is) (subst (λ h. IsNormal goal h (h ++ rows_of Either names)) (sym rooted) normal)
    by (inr (unrooted, e, relative)) =
        let comes = comes-unrooted Either path relative first in
        let left : goal ≡ push_all windows [] names = comes-left Either (pieces Either path) [] comes ∙ ap (λ t. push_all windows [] (names_left_of Either t)) (sym e) in
        let normal = named-rows [] None Either settled-none (λ name own. push-first name) goal names plain left in
        subst (λ t. IsNormal goal root t) (sym rows.is) (subst (λ h. IsNormal goal h (h ++ rows_of Either names)) (sym unrooted) normal)

-- what a head with its rows is, by another head and other names
normal-same : {goal text head own : List ℕ} {names left : List (List ℕ)} → text ≡ head ++ rows_of Either names → head ≡ own → names ≡ left → IsNormal goal own (own ++ rows_of Either left) → IsNormal goal head text
normal-same {goal} {text} {head} {own} {left = left} e same names normal =
    subst (λ t. IsNormal goal head t) (sym (e ∙ ap₂ (λ h ns. h ++ rows_of Either ns) same names)) (subst (λ h. IsNormal goal h (own ++ rows_of Either left)) (sym same) normal)

-- under a drive
pub drive-head : (path root rest : List ℕ) (f : Found) → prefix_of windows path ≡ Some f → is_disk f.prefix ≡ true → IsPartedEither (drop f.length path) root rest → IsRowHead path (take f.length path ++ root) rest
drive-head path root rest f is drives parted text rows = by f is (prefix-read path f is) drives parted rows
  where
    goal : List ℕ
    goal = normal_text windows path

    names : List (List ℕ)
    names = names_left_of Either rest

    by : (f : Found) → prefix_of windows path ≡ Some f → Read (separators windows path) path f → is_disk f.prefix ≡ true → IsPartedEither (drop f.length path) root rest
        → ArePlainRows text (take f.length path ++ root) rest → IsNormal goal (take f.length path ++ root) text
    by _ is (of_disk letter drive) kind parted rows = by_root parted
      where
        raw : List ℕ
        raw = take 2 path

        plain : AllByRecursion IsPlain names
        plain = left-plain rest rows.drives

        alone : prefix_of windows raw ≡ Some (found (disk letter) 2)
        alone = drive-raw path letter drive

        whole : 2 ≡ length raw
        whole = omega (arith, length-take 2 path, drive-size path letter drive)

        first : Comes windows goal raw [] (body_parts Either (drop 2 path))
        first =
            comes-prefix (found (disk letter) 2) raw (body_parts Either (drop 2 path))
            (comes-list path (prefix_part (disk letter) raw ∷ body_parts Either (drop 2 path))
            (parts_of-some path (found (disk letter) 2) is ∙ ap (λ b. prefix_part (disk letter) raw ∷ body_parts (if b then Backslash else Either) (drop 2 path)) (drive-plain path letter drive)))

        by_root : IsPartedEither (drop 2 path) root rest → IsNormal goal (raw ++ root) text
        by_root (inl (b, separates, e, rooted)) =
            let comes = comes-rooted Either refl b rest separates (push-root raw (found (disk letter) 2) alone whole) (subst (λ t. Comes windows goal raw [] (body_parts Either t)) e first) in
            normal-same rows.is (ap (λ r. raw ++ r) rooted) refl
            (rooted-rows raw (Some (found (disk letter) 2)) Either (settled-drive path letter (root_part (backslash ∷ [])) drive a_root) goal names plain (comes-left Either (pieces Either rest) [] comes))
        by_root (inr (unrooted, e, relative)) =
            let comes = comes-unrooted Either (drop 2 path) relative first in
            let left : goal ≡ push_all windows raw names = comes-left Either (pieces Either (drop 2 path)) [] comes ∙ ap (λ t. push_all windows raw (names_left_of Either t)) (sym e) in
            normal-same rows.is (ap (λ r. raw ++ r) unrooted ∙ append-nil raw) refl
            (named-rows raw (Some (found (disk letter) 2)) Either (λ q head. settled-drive path letter q drive head)
            (λ name own. push-drive raw letter name (parts_of-alone raw (found (disk letter) 2) alone whole) own) goal names plain left)
    by f is read kind parted rows = cc

-- a text without `/` is cut alike by both sets
pieces-either : (text : List ℕ) → list_any (is_separator Slash) text ≡ false → pieces Either text ≡ pieces Backslash text
pieces-either [] h = refl
pieces-either (b ∷ bs) h =
    let parts = or_parts (is_separator Slash b) (list_any (is_separator Slash) bs) h in
    ap₂ (λ c ps. cond (c || is_separator Backslash b) ([] ∷ ps) (onto_first b ps)) parts.0 (pieces-either bs parts.1)

-- no name of a text that is read verbatim holds a `/`
abbrev pub IsWithoutSlash : Separators → List ℕ → Type 0
IsWithoutSlash s text = is_verbatim s ≡ true → list_any (is_separator Slash) text ≡ false

-- so it is cut alike by its own separators and by both
pub pieces-own : (s : Separators) → OfWindows s → (text : List ℕ) → IsWithoutSlash s text → pieces Either text ≡ pieces s text
pieces-own s w text h = grind (arith, pieces-either)

-- a byte of it that separates in the one separates in the other
pub separates-own : (s : Separators) → OfWindows s → (b : ℕ) (bs : List ℕ) → IsWithoutSlash s (b ∷ bs) → is_separator Either b ≡ true → is_separator s b ≡ true
separates-own s w b bs h separates = grind arith

pub without_slash-behind : (s : Separators) (b : ℕ) (bs : List ℕ) → IsWithoutSlash s (b ∷ bs) → IsWithoutSlash s bs
without_slash-behind s b bs h verbatim = (or_parts (is_separator Slash b) (list_any (is_separator Slash) bs) (h verbatim)).1

-- under another prefix, with a root behind it or nothing
pub marked-head : (path root rest : List ℕ) (f : Found) → prefix_of windows path ≡ Some f → is_disk f.prefix ≡ false → is_verbatim_unc_name (Some f.prefix) ≡ false
    → IsWithoutSlash (separators windows path) (drop f.length path) → IsPartedEither (drop f.length path) root rest → (length root ≡ 0 → length rest ≡ 0)
    → IsRowHead path (take f.length path ++ root) rest
marked-head path root rest f is other no_unc without parted ends text rows = by parted
  where
    goal : List ℕ
    goal = normal_text windows path

    s : Separators
    s = separators windows path

    w : OfWindows s
    w = separators-windows path

    raw : List ℕ
    raw = take f.length path

    names : List (List ℕ)
    names = names_left_of Either rest

    first : Comes windows goal raw [] (body_parts s (drop f.length path))
    first = comes-prefix f raw (body_parts s (drop f.length path)) (comes-list path (prefix_part f.prefix raw ∷ body_parts s (drop f.length path)) (parts_of-some path f is))

    by : IsPartedEither (drop f.length path) root rest → IsNormal goal (raw ++ root) text
    by (inl (b, separates, e, rooted)) =
        let more : f.length < length path = omega (arith, ap length e, length-drop f.length path) in
        let own = raw-whole path f is other no_unc more in
        let slashless : IsWithoutSlash s (b ∷ rest) = subst (IsWithoutSlash s) e without in
        let comes = comes-rooted s w b rest (separates-own s w b rest slashless separates) (push-root raw own.0 own.1 own.2) (subst (λ t. Comes windows goal raw [] (body_parts s t)) e first) in
        let same : names ≡ fold settled [] (pieces s rest) = ap (λ ps. fold settled [] ps) (pieces-own s w rest (without_slash-behind s b rest slashless)) in
        normal-same rows.is (ap (λ r. raw ++ r) rooted) refl
        (rooted-rows raw (Some f) s (settled-parted path f is other no_unc more) goal names (left-plain rest rows.drives)
        (comes-left s (pieces s rest) [] comes ∙ ap (λ ns. push_all windows (raw ++ backslash ∷ []) ns) (sym same)))
    by (inr (unrooted, e, relative)) =
        let none : rest ≡ [] = nil_from_length rest (ends (ap length unrooted)) in
        let comes : goal ≡ push_all windows raw [] = comes-left s [] [] (subst (λ t. Comes windows goal raw [] (body_parts s t)) (sym e ∙ none) first) in
        normal-same rows.is (ap (λ r. raw ++ r) unrooted ∙ append-nil raw) (ap (names_left_of Either) none) (rowed-alone goal raw (raw ++ []) refl comes)
