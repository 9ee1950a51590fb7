-- On Windows a path that is within a base lies below it, from each verbatim directory that keeps its prefix, and so from each that keeps its prefix.
use Rattle.std.proofs.Common.{◌≡◌, ℕ, suc, ◌+◌, ◌-◌, ◌==◌, ◌<◌, true, false, not, ◌||◌, ◌&&◌, ◌⊎◌, inl, inr, List, [], ◌∷◌, ◌++◌, map, if◌then◌else◌, length, take, drop, refl, sym, ap, ap₂, ◌∙◌, append_assoc, append-nil, take-append-drop, arith, subst, Option, Some, None, option_map, length-append}
use Rattle.std.proofs.Math.Seq.{drop-append_seam}
use Rattle.std.proofs.lemmas.List.{map-append, length-map, length-take-le, take_all, take-append-le}
use Rattle.std.proofs.lemmas.Bool.{both_ways, cases_Bool, cond-true, true_from_ne_false, eqb-true, eqb-false, and_parts}
use Rattle.std.specs.List.{AllByRecursion}
use Rattle.typed_path.specs.declared.scan.separators.Separators.{Separators}
use Rattle.typed_path.specs.declared.scan.separators.Separators.TheVariants.{Either}
use Rattle.typed_path.specs.components.{Dialect, unix, windows, separators, Kind, prefix, root, current, parent, normal, Part, kinds, parts_of, name_part, root_part, prefix_part, is_name, Found, prefix_of, name}
use Rattle.typed_path.specs.queries.{begins_with_root, has_any_verbatim_prefix, is_absolute, is_disk, is_verbatim_prefix}
use Rattle.typed_path.specs.changes.{push, push_windows, push_behind, spelled, merged, without_last_name}
use Rattle.typed_path.specs.places.{place, unmet, kept_names, headed}
use Rattle.typed_path.specs.promises.{LeadsBelow, keeps_by_prefix, keeps_prefix, names_at_end}
use Rattle.typed_path.proofs.lemmas.lists.Lists.{AllByRecursion-append, AllByRecursion-weaker, all-front, take-nothing}
use Rattle.typed_path.proofs.lemmas.components.Segments.{body_parts, body_parts-read, AreRead, IsWritten, IsWrittenPart, IsLaterPart, IsWritten-later, IsCleanName, each-written, AreRead-append}
use Rattle.typed_path.proofs.lemmas.components.Prefixes.{OfWindows, FoundFits, prefix-fits, prefix-read, separators-windows, backslash-separates, root_text-windows, Read, of_verbatim_unc, of_verbatim_disk, of_verbatim}
use Rattle.typed_path.proofs.lemmas.components.PrefixCuts.{name-filled, parts_of-none, parts_of-some, verbatim-some, unprefixed, prefix_of-none}
use Rattle.typed_path.proofs.lemmas.components.FirmPrefixes.{is_firm, firm-long, firm-stays}
use Rattle.typed_path.proofs.lemmas.changes.Faults.{place_of, faultless}
use Rattle.typed_path.proofs.lemmas.changes.WindowsPushes.{without_last_name-name}
use Rattle.typed_path.proofs.lemmas.places.KeptNames.{kept_names-append, place_of-kept, read-body}
use Rattle.typed_path.proofs.lemmas.places.Resolving.{no_heads, is_head, read-headless, written-headless}
use Rattle.typed_path.proofs.lemmas.places.UnixRows.{Ended, none as no_last, some as with_last, ended}
use Rattle.typed_path.proofs.lemmas.promises.WindowsBases.{Rest, place-rest, spelled-behind, rest-separated, separators-spelled, verbatim-no_drive}
use Rattle.typed_path.proofs.lemmas.promises.WindowsContained.{rest-apart, keeps_by_prefix-firm}
use Rattle.typed_path.proofs.lemmas.promises.Within.{kinds_of, Leading, within-below}
use Rattle.typed_path.proofs.lemmas.promises.UnixWithin.{unix_below}
use Rattle.typed_path.proofs.lemmas.promises.WindowsWithin.{body_kinds, kinds-none, push-bare, replaces, under, absolute-prefixed, bare-leading}
use Rattle.typed_path.proofs.lemmas.components.WindowsNames.{clean-either}
use Rattle.typed_path.proofs.lemmas.components.WrittenForms.{separated-rooted}

-- A list that takes another: names at its end meet the parents that are left over, and the names that are kept stand behind.

abbrev pub named : List (List ℕ) → List Part
named names = map name_part names

named-more : (ps : List Part) (names : List (List ℕ)) (name : List ℕ) → (ps ++ named names) ++ name_part name ∷ [] ≡ ps ++ named (names ++ name ∷ [])
named-more ps names name = append_assoc ps (named names) (name_part name ∷ []) ∙ ap (λ qs. ps ++ qs) (sym (map-append name_part names (name ∷ [])))

-- one name more, and what is left of it
name-taken : (names others : List (List ℕ)) (name : List ℕ) (n : ℕ)
    → take (length (names ++ name ∷ []) - n) (names ++ name ∷ []) ++ others ≡ take (length names - (n - 1)) names ++ (if n == 0 then name ∷ others else others)
name-taken names others name n = grind (arith, length-append, eqb-true, take_all, append_assoc, eqb-false, take-append-le)

-- one parent more
parent-taken : (front others : List (List ℕ)) (last : List ℕ) (n : ℕ)
    → take (length front - n) front ++ others ≡ take (length (front ++ last ∷ []) - suc n) (front ++ last ∷ []) ++ others
parent-taken front others last n = grind (arith, length-append, take-append-le)

module _ (s : Separators) (ps : List Part) (stays : without_last_name ps ≡ ps) where
  abbrev Goes : List Part → List (List ℕ) → Type 0
  Goes qs names = merged (ps ++ named names) qs ≡ ps ++ named (take (length names - unmet (kinds qs)) names ++ kept_names (kinds qs))

  merged-left : (names : List (List ℕ)) (qs : List Part) → no_heads (kinds qs) ≡ true → AllByRecursion (IsWrittenPart s) qs → Goes qs names
  merged-left names [] none written =
      ap (λ ns. ps ++ named ns) (sym (append-nil (take (length names - 0) names) ∙ take_all (length names - 0) names (omega arith)))
  merged-left names (q ∷ qs) none written = by q.kind q.text both.0 written.0 (λ ns. merged-left ns qs both.1 written.1)
    where
      both : (not (is_head q.kind) ≡ true) × (no_heads (kinds qs) ≡ true)
      both = and_parts (not (is_head q.kind)) (no_heads (kinds qs)) none

      up : (names : List (List ℕ)) → Ended names → ((ns : List (List ℕ)) → Goes qs ns)
          → merged (without_last_name (ps ++ named names)) qs ≡ ps ++ named (take (length names - suc (unmet (kinds qs))) names ++ kept_names (kinds qs))
      up _ no_last again =
          ap (λ us. merged us qs) (ap without_last_name (append-nil ps) ∙ stays ∙ sym (append-nil ps)) ∙ again []
          ∙ ap (λ ns. ps ++ named (ns ++ kept_names (kinds qs))) (take-nothing (0 - unmet (kinds qs)) ∙ sym (take-nothing (0 - suc (unmet (kinds qs)))))
      up _ (with_last front last) again =
          ap (λ us. merged us qs) (ap without_last_name (sym (named-more ps front last)) ∙ without_last_name-name (ps ++ named front) (name_part last) refl)
          ∙ again front
          ∙ ap (λ ns. ps ++ named ns) (parent-taken front (kept_names (kinds qs)) last (unmet (kinds qs)))

      by : (k : Kind) (text : List ℕ) → not (is_head k) ≡ true → IsWritten s k text → ((ns : List (List ℕ)) → Goes qs ns) → Goes (record { kind = k; text = text } ∷ qs) names
      by (prefix p) text e w again = cc
      by root text e w again = cc
      by current text e w again = again names
      by parent text e w again = up names (ended names) again
      by (normal name) text e w again = grind (arith, named-more, name-taken)

-- a list, and the names at its end
pub record Ends (s : Separators) (ps : List Part) : Type 0 where
  pub front : List Part
  pub names : List (List ℕ)
  pub is : ps ≡ front ++ named names
  pub stays : without_last_name (root_part [] ∷ front) ≡ root_part [] ∷ front
  pub clean : AllByRecursion (IsCleanName s) names
  pub count : names_at_end (kinds ps) ≡ length names

-- as many names as components, and a name more; or fewer
all_names : (n size names : ℕ) → n ≡ names → size ≡ names → (if n == size then suc size else n) ≡ suc names
all_names n size names e f = grind arith

some_names : (n size names : ℕ) → n ≡ names → names < size → (if n == size then suc size else n) ≡ names
some_names n size names e f = grind arith

ends : (s : Separators) (ps : List Part) → AllByRecursion (IsWrittenPart s) ps → Ends s ps
ends s [] written = record { front = []; names = []; is = refl; stays = refl; clean = tt; count = refl }
ends s (p ∷ ps) written = by p.kind p.text written.0 (ends s ps written.1)
  where
    longer : (k : Kind) (text : List ℕ) → is_name k ≡ false → Ends s ps → Ends s (record { kind = k; text = text } ∷ ps)
    longer k text other r = record { front = record { kind = k; text = text } ∷ r.front; names = r.names; is = ap (λ qs. record { kind = k; text = text } ∷ qs) r.is; stays = kept r.front r.stays; clean = r.clean; count = ap (λ b. if b && (names_at_end (kinds ps) == length (kinds ps)) then suc (length (kinds ps)) else names_at_end (kinds ps)) other ∙ r.count }
      where
        kept : (front : List Part) → without_last_name (root_part [] ∷ front) ≡ root_part [] ∷ front
            → without_last_name (root_part [] ∷ record { kind = k; text = text } ∷ front) ≡ root_part [] ∷ record { kind = k; text = text } ∷ front
        kept front e = grind arith

    name_first : (name text : List ℕ) → (text ≡ name) × IsCleanName s name → (r : Ends s ps) → (front : List Part) → r.front ≡ front → Ends s (record { kind = normal name; text = text } ∷ ps)
    name_first name text w r [] e = record {
      front = [];
      names = name ∷ r.names;
      is = ap (λ t. record { kind = normal name; text = t } ∷ ps) w.0 ∙ ap (λ qs. name_part name ∷ qs) (r.is ∙ ap (λ f. f ++ named r.names) e);
      stays = refl;
      clean = (w.1, r.clean);
      count = all_names (names_at_end (kinds ps)) (length (kinds ps)) (length r.names) r.count (length-map ps (λ p. p.kind) ∙ ap length (r.is ∙ ap (λ f. f ++ named r.names) e) ∙ length-map r.names name_part);
    }
    name_first name text w r (q ∷ qs) e = record {
      front = record { kind = normal name; text = text } ∷ q ∷ qs;
      names = r.names;
      is = ap (λ us. record { kind = normal name; text = text } ∷ us) (r.is ∙ ap (λ f. f ++ named r.names) e);
      stays =
          let f : without_last_name (q ∷ qs) ≡ q ∷ qs = cc (r.stays, e) in
          ap (λ us. root_part [] ∷ record { kind = normal name; text = text } ∷ us) f;
      clean = r.clean;
      count = some_names (names_at_end (kinds ps)) (length (kinds ps)) (length r.names) r.count
          (omega (arith, length-map ps (λ p. p.kind), ap length (r.is ∙ ap (λ f. f ++ named r.names) e), length-append (q ∷ qs) (named r.names), length-map r.names name_part));
    }

    by : (k : Kind) (text : List ℕ) → IsWritten s k text → Ends s ps → Ends s (record { kind = k; text = text } ∷ ps)
    by (prefix q) text w r = absurd w
    by root text w r = longer root text refl r
    by current text w r = longer current text refl r
    by parent text w r = longer parent text refl r
    by (normal name) text w r = name_first name text w r r.front refl

-- behind any component that is no name such a front stays
stays-behind : (p : Part) (front : List Part) → is_name p.kind ≡ false → without_last_name (root_part [] ∷ front) ≡ root_part [] ∷ front → without_last_name (p ∷ front) ≡ p ∷ front
stays-behind p front other e = grind arith

-- names alone are left as they are
unmet-named : (names : List (List ℕ)) → unmet (kinds (named names)) ≡ 0
unmet-named [] = refl
unmet-named (name ∷ names) = ap (λ n. n - 1) (unmet-named names)

left-named : (names : List (List ℕ)) → kept_names (kinds (named names)) ≡ names
left-named [] = refl
left-named (name ∷ names) = ap (λ n. if n == 0 then name ∷ kept_names (kinds (named names)) else kept_names (kinds (named names))) (unmet-named names) ∙ ap (λ ns. name ∷ ns) (left-named names)

-- the names that are left of a list as it is read are clean
left-clean : (s : Separators) (ps : List Part) → AllByRecursion (IsWrittenPart s) ps → AllByRecursion (IsCleanName s) (kept_names (kinds ps))
left-clean s [] written = grind arith
left-clean s (p ∷ ps) written = grind (arith, left-clean s ps written.1)

-- Such lists are read as they are spelled.

later-named : (s : Separators) (names : List (List ℕ)) → AllByRecursion (IsCleanName s) names → AllByRecursion (IsLaterPart s) (named names)
later-named s [] clean = tt
later-named s (name ∷ names) clean = ((refl, clean.0), later-named s names clean.1)

read-front : (s : Separators) (ps qs : List Part) → AreRead s (ps ++ qs) → AreRead s ps
read-front s ps qs read = grind (arith, all-front)

-- it has bytes where the list begins with a root
rest-long : (s : Separators) (ps : List Part) (rest : List ℕ) → AreRead s ps → Rest ps rest → begins_with_root (kinds ps) ≡ true → 0 < length rest
rest-long s ps rest read spelt rooted = grind arith

-- a verbatim prefix has more than four bytes, or a separator stands behind it
long-or-rooted : (s : Separators) (text : List ℕ) (f : Found) → Read s text f → is_verbatim_prefix f.prefix ≡ true → (4 < f.length) ⊎ (begins_with_root (body_kinds s (drop f.length text)) ≡ true)
long-or-rooted s text f (of_verbatim_unc rest mark filled) kind = grind (arith, of_verbatim_unc)
long-or-rooted s text f (of_verbatim_disk rest letter mark drives) kind = grind (arith, of_verbatim_disk)
long-or-rooted s text f (of_verbatim rest mark filled no_unc no_drive) kind = grind (arith, of_verbatim, body_kinds, true_from_ne_false, name-filled, separated-rooted)
long-or-rooted s text f read kind = grind arith

-- a verbatim directory whose prefix is firm
module _ (dir : List ℕ) (f : Found) (is : prefix_of windows dir ≡ Some f) (firm : is_firm f.prefix ≡ true) (kind : is_verbatim_prefix f.prefix ≡ true) where
  abbrev pub s : Separators
  s = separators windows dir

  w : OfWindows s
  w = separators-windows dir

  other : is_disk f.prefix ≡ false
  other = verbatim-no_drive f.prefix kind

  fits : FoundFits dir f
  fits = prefix-fits windows dir f is

  abbrev raw : List ℕ
  raw = take f.length dir

  size : length raw ≡ f.length
  size = length-take-le f.length dir fits.fits

  abbrev pub own : List Part
  own = body_parts s (drop f.length dir)

  -- the place of what is spelled behind the prefix
  spelled-place : (ps : List Part) → AreRead s ps → (4 < f.length) ⊎ (begins_with_root (kinds ps) ≡ true) → place windows (spelled (prefix_part f.prefix raw ∷ ps)) ≡ under f.prefix (kept_names (kinds ps))
  spelled-place ps read long =
      let behind = spelled-behind f.prefix raw ps in
      let rest = behind.0 in
      let text = raw ++ rest in
      let more : 4 < f.length + length rest = elim long [
        | inl much ↦ omega (arith, much)
        | inr rooted ↦ omega (arith, rest-long s ps rest read behind.2 rooted, firm-long s dir f (prefix-read dir f is) firm other)
      ] in
      let now : prefix_of windows text ≡ Some f = firm-stays dir rest f is firm other (rest-apart s rest (backslash-separates s w) (rest-separated s w ps rest read behind.2)) more in
      ap (place windows) behind.1
      ∙ ap place_of (parts_of-some text f now)
      ∙ ap₂ (λ t u. place_of (prefix_part f.prefix [] ∷ body_parts t u)) (separators-spelled dir [] f is kind (faultless [] refl) rest) (ap (λ n. drop n text) (sym size) ∙ drop-append_seam raw rest)
      ∙ place-rest s w f.prefix ps rest other read behind.2
      ∙ place_of-kept (prefix_part f.prefix [] ∷ ps) (read-body s ps read)
      ∙ ap (λ b. headed (Some f.prefix) b ++ map normal (kept_names (kinds ps))) (ap (λ b. not b || begins_with_root (kinds ps)) other)

  -- what is pushed, unless it has a prefix
  push-anew : (b : ℕ) (path : List ℕ) → prefix_of windows (b ∷ path) ≡ None → push_windows dir (b ∷ path) ≡ spelled (merged (prefix_part f.prefix raw ∷ own) (body_parts Either (b ∷ path)))
  push-anew b path none =
      push-bare dir b path none
      ∙ cond-true (has_any_verbatim_prefix (kinds_of windows dir)) (spelled (merged (parts_of windows dir) (parts_of windows (b ∷ path)))) (push_behind dir (b ∷ path)) (verbatim-some dir f is ∙ kind)
      ∙ ap₂ (λ ps qs. spelled (merged ps qs)) (parts_of-some dir f is) (parts_of-none (b ∷ path) none)

  clean-left : (t : List ℕ) → AllByRecursion (IsCleanName s) (kept_names (body_kinds Either t))
  clean-left t = AllByRecursion-weaker (IsCleanName Either) (IsCleanName s) (clean-either s) (kept_names (body_kinds Either t)) (left-clean Either (body_parts Either t) (each-written Either (body_parts Either t) (body_parts-read Either t)))

  -- a path with a root, behind the prefix
  rooted-place : (t : List ℕ) → prefix_of windows t ≡ None → begins_with_root (kinds_of windows t) ≡ true → place windows (push windows dir t) ≡ under f.prefix (kept_names (kinds_of windows t))
  rooted-place [] none rooted = cc
  rooted-place (b ∷ path) none rooted =
      ap (place windows) (push-anew b path none)
      ∙ by (body_parts Either (b ∷ path)) (body_parts-read Either (b ∷ path)) (ap begins_with_root (sym (kinds-none (b ∷ path) none)) ∙ rooted) (clean-left (b ∷ path))
      ∙ ap (λ ks. under f.prefix (kept_names ks)) (sym (kinds-none (b ∷ path) none))
    where
      at : (k : Kind) (text : List ℕ) (qs : List Part) → AreRead Either (record { kind = k; text = text } ∷ qs) → begins_with_root (k ∷ kinds qs) ≡ true → AllByRecursion (IsCleanName s) (kept_names (k ∷ kinds qs))
          → place windows (spelled (merged (prefix_part f.prefix raw ∷ own) (record { kind = k; text = text } ∷ qs))) ≡ under f.prefix (kept_names (k ∷ kinds qs))
      at root text qs read rooted clean =
          let head : Part = record { kind = root; text = text } in
          let headless : no_heads (kinds qs) ≡ true = written-headless Either qs read.1 in
          let list : merged (prefix_part f.prefix raw ∷ head ∷ []) qs ≡ prefix_part f.prefix raw ∷ head ∷ named (kept_names (kinds qs)) =
          merged-left Either (prefix_part f.prefix raw ∷ head ∷ []) refl [] qs headless (AllByRecursion-weaker (IsLaterPart Either) (IsWrittenPart Either) (λ q. IsWritten-later Either q.kind q.text) qs read.1)
          ∙ ap (λ names. prefix_part f.prefix raw ∷ head ∷ named (names ++ kept_names (kinds qs))) (take-nothing (0 - unmet (kinds qs))) in
          let again : AreRead s (head ∷ named (kept_names (kinds qs))) = (read.0 ∙ sym (root_text-windows s w), later-named s (kept_names (kinds qs)) clean) in
          ap (λ ps. place windows (spelled ps)) list
          ∙ spelled-place (head ∷ named (kept_names (kinds qs))) again (inr refl)
          ∙ ap (under f.prefix) (left-named (kept_names (kinds qs)))
      at (prefix q) text qs read rooted clean = absurd read.0
      at k text qs read rooted clean = cc

      by : (qs : List Part) → AreRead Either qs → begins_with_root (kinds qs) ≡ true → AllByRecursion (IsCleanName s) (kept_names (kinds qs))
          → place windows (spelled (merged (prefix_part f.prefix raw ∷ own) qs)) ≡ under f.prefix (kept_names (kinds qs))
      by [] read rooted clean = cc
      by (q ∷ qs) read rooted clean = at q.kind q.text qs read rooted clean

  -- the names at the end of the directory, and what is before them
  pub end : Ends s own
  end = ends s own (each-written s own (body_parts-read s (drop f.length dir)))

  -- what is left of these and of a path behind them
  abbrev pub left_behind : List ℕ → List (List ℕ)
  left_behind t = kept_names (kinds end.front) ++ (take (length end.names - unmet (kinds_of windows t)) end.names ++ kept_names (kinds_of windows t))

  pub front-names : (names : List (List ℕ)) → kept_names (kinds (end.front ++ named names)) ≡ kept_names (kinds end.front) ++ names
  front-names names = grind (arith, map-append, end, kept_names-append, unmet-named, left-named, take_all)

  -- the list that is spelled has a root where its prefix is short
  front-long : (names : List (List ℕ)) → (4 < f.length) ⊎ (begins_with_root (kinds (end.front ++ named names)) ≡ true)
  front-long names = elim (long-or-rooted s dir f (prefix-read dir f is) kind) [
    | inl long ↦ inl long
    | inr rooted ↦ inr (by end.front (ap (λ ps. begins_with_root (kinds ps)) (sym end.is) ∙ rooted))
  ]
    where
      not_named : (ns : List (List ℕ)) → begins_with_root (kinds (named ns)) ≡ true → ⊥
      not_named [] e = cc
      not_named (n ∷ ns) e = cc

      by : (front : List Part) → begins_with_root (kinds (front ++ named end.names)) ≡ true → begins_with_root (kinds (front ++ named names)) ≡ true
      by [] e = absurd (not_named end.names e)
      by (p ∷ ps) e = at p.kind e
        where
          at : (k : Kind) → begins_with_root (k ∷ kinds (ps ++ named end.names)) ≡ true → begins_with_root (k ∷ kinds (ps ++ named names)) ≡ true
          at root e = refl
          at k e = cc

  -- a path without a root, behind what is left of the directory
  pub relative-place : (t : List ℕ) → prefix_of windows t ≡ None → begins_with_root (kinds_of windows t) ≡ false → place windows (push windows dir t) ≡ under f.prefix (left_behind t)
  relative-place [] none relative =
      ap place_of (parts_of-some dir f is)
      ∙ place_of-kept (prefix_part f.prefix raw ∷ own) (read-body s own (body_parts-read s (drop f.length dir)))
      ∙ ap (λ b. headed (Some f.prefix) b ++ map normal (kept_names (kinds own))) (ap (λ b. not b || begins_with_root (kinds own)) other)
      ∙ ap (under f.prefix)
      (ap (λ ps. kept_names (kinds ps)) end.is ∙ front-names end.names
      ∙ ap (λ ns. kept_names (kinds end.front) ++ ns) (sym (take_all (length end.names - 0) end.names (omega arith)) ∙ sym (append-nil _)))
  relative-place (b ∷ path) none relative =
      let t = b ∷ path in
      let qs = body_parts Either t in
      let unrooted : begins_with_root (kinds qs) ≡ false = ap begins_with_root (sym (kinds-none t none)) ∙ relative in
      let X = take (length end.names - unmet (kinds qs)) end.names ++ kept_names (kinds qs) in
      let list : merged (prefix_part f.prefix raw ∷ own) qs ≡ prefix_part f.prefix raw ∷ end.front ++ named X =
      ap (λ ps. merged (prefix_part f.prefix raw ∷ ps) qs) end.is
      ∙ merged-left Either (prefix_part f.prefix raw ∷ end.front) (stays-behind (prefix_part f.prefix raw) end.front refl end.stays) end.names qs
      (read-headless Either qs (body_parts-read Either t) unrooted) (each-written Either qs (body_parts-read Either t)) in
      let some : AllByRecursion (IsCleanName s) (take (length end.names - unmet (kinds qs)) end.names) =
      all-front (IsCleanName s) (take (length end.names - unmet (kinds qs)) end.names) _ (subst (AllByRecursion (IsCleanName s)) (sym (take-append-drop (length end.names - unmet (kinds qs)) end.names)) end.clean) in
      let clean : AllByRecursion (IsCleanName s) X = AllByRecursion-append (IsCleanName s) (take (length end.names - unmet (kinds qs)) end.names) (kept_names (kinds qs)) some (clean-left t) in
      let read : AreRead s (end.front ++ named X) =
      AreRead-append s end.front (named X) (read-front s end.front (named end.names) (subst (AreRead s) end.is (body_parts-read s (drop f.length dir)))) (later-named s X clean) in
      ap (place windows) (push-anew b path none ∙ ap spelled list)
      ∙ spelled-place (end.front ++ named X) read (front-long X)
      ∙ ap (under f.prefix) (front-names X)
      ∙ ap (λ ks. under f.prefix (kept_names (kinds end.front) ++ (take (length end.names - unmet ks) end.names ++ kept_names ks))) (sym (kinds-none t none))

  verbatim-leading : Leading windows dir
  verbatim-leading = record {
    head = prefix f.prefix ∷ root ∷ [];
    before = kept_names (kinds end.front);
    own = end.names;
    rooted = λ t bare rooted. rooted-place t (prefix_of-none t bare) rooted;
    relative = λ t bare relative. relative-place t (prefix_of-none t bare) relative;
  }

-- The law.

pub windows-leading : (dir : List ℕ) → keeps_prefix windows dir ≡ true → is_absolute windows (kinds_of windows dir) ≡ true → Leading windows dir
windows-leading dir kept absolute = by (prefix_of windows dir) refl kept
  where
    by : (o : Option Found) → prefix_of windows dir ≡ o → keeps_by_prefix dir (option_map (λ f. f.prefix) o) ≡ true → Leading windows dir
    by None is kept = absurd (both_ways _ (unprefixed (λ p. true) dir is) (absolute-prefixed (kinds_of windows dir) absolute))
    by (Some f) is kept =
        let firm = sym (keeps_by_prefix-firm dir f.prefix) ∙ kept in
        elim (cases_Bool (is_verbatim_prefix f.prefix)) [
          | inl marked ↦ verbatim-leading dir f is firm marked
          | inr plain ↦ bare-leading dir f is firm plain absolute
        ]

windows_below : (dir base t : List ℕ) → LeadsBelow windows dir base t
windows_below dir base t kept absolute asked = within-below windows dir base t (windows-leading dir kept absolute) (replaces dir) asked

-- in each dialect
pub leads_below : (d : Dialect) (dir base t : List ℕ) → LeadsBelow d dir base t
leads_below unix dir base t = unix_below dir base t
leads_below windows dir base t = windows_below dir base t
