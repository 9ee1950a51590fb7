-- A portable path keeps its components in the other dialect, and comes back.
use Rattle.std.proofs.Common.{◌≡◌, ℕ, List, [], ◌∷◌, ◌++◌, Bool, true, false, ◌&&◌, ◌==◌, not, if◌then◌else◌, length, None, refl, sym, ap, ◌∙◌, arith}
use Rattle.std.specs.Prelude.{Ok, IsOk}
use Rattle.std.specs.List.{list_any}
use Rattle.typed_path.specs.declared.scan.separators.Separators.TheVariants.{Either}
use Rattle.typed_path.specs.components.{unix, windows, backslash, Kind, prefix, root, current, parent, normal, is_dot, is_dot_dot, root_text, kinds, Part, root_part, current_part, parent_part, name_part, parts_of}
use Rattle.typed_path.specs.order.Same.{IsSame}
use Rattle.typed_path.specs.queries.{is_root, is_disallowed, have_allowed_bytes, kinds_fault, name_fault, portable_fault}
use Rattle.typed_path.specs.conversions.{converted, converted_checked}
use Rattle.typed_path.specs.promises.Crossings.{lack_backslash, on_unix, parents_and_names}
use Rattle.typed_path.proofs.lemmas.lists.Options.{or-none, none-first}
use Rattle.typed_path.proofs.lemmas.components.Segments.{pieces, first_parts, later_parts, body_parts}
use Rattle.typed_path.proofs.lemmas.components.PrefixCuts.{parts_of-none}
use Rattle.typed_path.proofs.lemmas.queries.Portable.{allowed-none, any-weaker}
use Rattle.typed_path.proofs.lemmas.queries.PortablePaths.{portable_is_valid, portable-unprefixed}
use Rattle.typed_path.proofs.lemmas.conversions.Crossings.{crosses_where_allowed}
use Rattle.typed_path.proofs.lemmas.conversions.CrossedPaths.{crosses_as_it_is, crosses_to_unix, crosses_back}

-- A portable path keeps its components in the other dialect, and comes back.

-- ---- from Unix to Windows

portable-lacks : (ks : List Kind) → kinds_fault ks ≡ None → lack_backslash ks ≡ true
portable-lacks [] h = refl
portable-lacks (normal name ∷ ks) h =
    ap (λ b. not b && lack_backslash ks) (any-weaker (is_disallowed windows) (λ b. b == backslash) wider name (allowed-none name (none-first (name_fault name) (kinds_fault ks) h)))
    ∙ portable-lacks ks (or-none (name_fault name) (kinds_fault ks) h)
  where
    wider : (b : ℕ) → (b == backslash) ≡ true → is_disallowed windows b ≡ true
    wider b is = grind arith
portable-lacks (prefix p ∷ ks) h = cc
portable-lacks (root ∷ ks) h = portable-lacks ks h
portable-lacks (current ∷ ks) h = portable-lacks ks h
portable-lacks (parent ∷ ks) h = portable-lacks ks h

module _ (t : List ℕ) (h : portable_fault unix t ≡ None) where
  lacks_it : lack_backslash (kinds (parts_of unix t)) ≡ true
  lacks_it = portable-lacks (kinds (parts_of unix t)) h

  pub portable_is_accepted : IsOk (converted_checked unix windows t)
  portable_is_accepted = (crosses_where_allowed t lacks_it).1 (portable_is_valid windows (kinds (parts_of unix t)) h)

  pub portable_is_kept : (u : List ℕ) → converted_checked unix windows t ≡ Ok u → kinds (parts_of windows u) ≡ kinds (parts_of unix t)
  portable_is_kept u is = crosses_as_it_is t lacks_it u is

  pub portable_comes_back : (u : List ℕ) → converted_checked unix windows t ≡ Ok u → IsSame unix (converted windows unix u) t
  portable_comes_back u is = crosses_back t lacks_it u is

-- ---- from Windows to Unix

portable-allowed : (ks : List Kind) → kinds_fault ks ≡ None → have_allowed_bytes windows ks ≡ true
portable-allowed [] h = refl
portable-allowed (normal name ∷ ks) h =
    ap (λ b. not b && have_allowed_bytes windows ks) (allowed-none name (none-first (name_fault name) (kinds_fault ks) h)) ∙ portable-allowed ks (or-none (name_fault name) (kinds_fault ks) h)
portable-allowed (prefix p ∷ ks) h = cc
portable-allowed (root ∷ ks) h = portable-allowed ks h
portable-allowed (current ∷ ks) h = portable-allowed ks h
portable-allowed (parent ∷ ks) h = portable-allowed ks h

-- later components are parents and names
later-kept : (ps : List (List ℕ)) → parents_and_names (later_parts Either ps) ≡ later_parts Either ps
later-kept [] = refl
later-kept (p ∷ ps) = by (length p == 0) (is_dot p) (is_dot_dot p) (later-kept ps)
  where
    by : (empty dotted twice : Bool) → parents_and_names (later_parts Either ps) ≡ later_parts Either ps
        → parents_and_names ((if empty then [] else (if dotted then [] else (if twice then parent_part else name_part p) ∷ [])) ++ later_parts Either ps)
        ≡ (if empty then [] else (if dotted then [] else (if twice then parent_part else name_part p) ∷ [])) ++ later_parts Either ps
    by true dotted twice again = again
    by false true twice again = again
    by false false true again = ap (λ qs. parent_part ∷ qs) again
    by false false false again = ap (λ qs. name_part p ∷ qs) again

later-rootless : (ps : List (List ℕ)) → list_any is_root (kinds (later_parts Either ps)) ≡ false
later-rootless [] = refl
later-rootless (p ∷ ps) = by (length p == 0) (is_dot p) (is_dot_dot p) (later-rootless ps)
  where
    by : (empty dotted twice : Bool) → list_any is_root (kinds (later_parts Either ps)) ≡ false
        → list_any is_root (kinds ((if empty then [] else (if dotted then [] else (if twice then parent_part else name_part p) ∷ [])) ++ later_parts Either ps)) ≡ false
    by true dotted twice again = again
    by false true twice again = again
    by false false true again = again
    by false false false again = again

-- one component and such ones behind it have their kinds on Unix
on_unix-rooted : (ps : List Part) → parents_and_names ps ≡ ps → kinds (on_unix (root_part (root_text Either) ∷ ps)) ≡ root ∷ kinds ps
on_unix-rooted ps kept = ap (λ qs. root ∷ kinds qs) kept

on_unix-current : (ps : List Part) → parents_and_names ps ≡ ps → list_any is_root (kinds ps) ≡ false → kinds (on_unix (current_part ∷ ps)) ≡ current ∷ kinds ps
on_unix-current ps kept none = grind arith

on_unix-parent : (ps : List Part) → parents_and_names ps ≡ ps → list_any is_root (kinds ps) ≡ false → kinds (on_unix (parent_part ∷ ps)) ≡ parent ∷ kinds ps
on_unix-parent ps kept none = grind arith

on_unix-name : (name : List ℕ) (ps : List Part) → parents_and_names ps ≡ ps → list_any is_root (kinds ps) ≡ false → kinds (on_unix (name_part name ∷ ps)) ≡ normal name ∷ kinds ps
on_unix-name name ps kept none = grind arith

on_unix-first : (ps : List (List ℕ)) → kinds (on_unix (first_parts Either ps)) ≡ kinds (first_parts Either ps)
on_unix-first [] = refl
on_unix-first (p ∷ ps) = by (length p == 0) (is_dot p) (is_dot_dot p)
  where
    by : (empty dotted twice : Bool)
        → kinds (on_unix ((if empty then root_part (root_text Either) else (if dotted then current_part else (if twice then parent_part else name_part p))) ∷ later_parts Either ps))
        ≡ kinds ((if empty then root_part (root_text Either) else (if dotted then current_part else (if twice then parent_part else name_part p))) ∷ later_parts Either ps)
    by true dotted twice = on_unix-rooted (later_parts Either ps) (later-kept ps)
    by false true twice = on_unix-current (later_parts Either ps) (later-kept ps) (later-rootless ps)
    by false false true = on_unix-parent (later_parts Either ps) (later-kept ps) (later-rootless ps)
    by false false false = on_unix-name p (later_parts Either ps) (later-kept ps) (later-rootless ps)

on_unix-body : (text : List ℕ) → kinds (on_unix (body_parts Either text)) ≡ kinds (body_parts Either text)
on_unix-body [] = refl
on_unix-body (b ∷ bs) = on_unix-first (pieces Either (b ∷ bs))

module _ (t : List ℕ) (h : portable_fault windows t ≡ None) where
  read : parts_of windows t ≡ body_parts Either t
  read = parts_of-none t (portable-unprefixed t h)

  pub portable_is_kept_on_unix : kinds (parts_of unix (converted windows unix t)) ≡ kinds (parts_of windows t)
  portable_is_kept_on_unix =
      ap kinds (crosses_to_unix t (portable-allowed (kinds (parts_of windows t)) h))
      ∙ ap (λ ps. kinds (on_unix ps)) read ∙ on_unix-body t ∙ sym (ap kinds read)

  pub portable_stays_portable : portable_fault unix (converted windows unix t) ≡ None
  portable_stays_portable = ap kinds_fault portable_is_kept_on_unix ∙ h

  pub portable_comes_back_to_windows : (u : List ℕ) → converted_checked unix windows (converted windows unix t) ≡ Ok u → kinds (parts_of windows u) ≡ kinds (parts_of windows t)
  portable_comes_back_to_windows u is = portable_is_kept (converted windows unix t) portable_stays_portable u is ∙ portable_is_kept_on_unix
