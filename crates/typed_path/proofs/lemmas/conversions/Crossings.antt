-- Components of another dialect pushed one by one, and names of Unix that are names of Windows too.
use Rattle.std.proofs.Common.{◌≡◌, ℕ, List, [], ◌∷◌, ◌++◌, Some, refl, sym, ap, ◌∙◌, ◌≤◌, ◌+◌, map, length, take, drop, slice_range, subst, arith, append_assoc, ◌==◌, ◌&&◌, Bool, true, false, if◌then◌else◌, Option, None, Ok, Err, Result, IsErrAnd, take_all}
use Rattle.std.proofs.lemmas.Grind.{common_steps}
use Rattle.std.proofs.lemmas.List.{drop-take, map-append, take-append-drop}
use Rattle.std.proofs.lemmas.List.Sums.{fold-append}
use Rattle.std.specs.List.{list_any, AllByRecursion}
use Rattle.std.specs.Option.{option_or}
use Rattle.std.proofs.lemmas.Bool.{and_parts, not-true}
use Rattle.std.specs.Result.{is_ok}
use Rattle.typed_path.specs.declared.errors.PathError.{PathError}
use Rattle.typed_path.specs.declared.errors.CheckedPathError.{CheckedPathError}
use Rattle.typed_path.specs.declared.scan.separators.Separators.TheVariants.{Slash, Either}
use Rattle.typed_path.specs.declared.errors.CheckedPathError.TheVariants.{InvalidFilename}
use Rattle.typed_path.specs.changes.{is_forbidden_or, refusal, push, push_all, push_windows, FitsEach, fault}
use Rattle.typed_path.specs.components.{Dialect, windows, backslash, is_separator, unix, Part, Kind, normal, kinds, parts_of}
use Rattle.typed_path.specs.conversions.{crossed, crossing_fault, push_unless, push_checked_each, crossed_all, converted_checked}
use Rattle.typed_path.specs.queries.{is_disallowed, kind_has_allowed_bytes, have_allowed_bytes, is_valid_kind, is_valid}
use Rattle.typed_path.specs.promises.{lack_backslash, CrossesWhereAllowed}
use Rattle.typed_path.proofs.lemmas.lists.Lists.{IsUnseparated, whole_range}
use Rattle.typed_path.proofs.lemmas.components.Segments.{IsCleanName, IsWritten, IsWrittenPart, body_parts, body_parts-read, each-written, parts_of-unix, body_parts-name}
use Rattle.typed_path.proofs.lemmas.components.WindowsNames.{IsPlain, allowed-plain, plain-read}
use Rattle.typed_path.proofs.lemmas.changes.Faults.{faultless}

-- Checked pushes of components in a row, some of them first.

-- what was refused stays so
refused-stays : (e : Dialect) (f : CheckedPathError) (ps : List Part) → push_checked_each e (Err f) ps ≡ Err f
refused-stays e f [] = refl
refused-stays e f (p ∷ ps) = refl

-- components are pushed one after the other
push_checked_each-append : (e : Dialect) (r : Result (List ℕ) CheckedPathError) (ps qs : List Part) → push_checked_each e r (ps ++ qs) ≡ push_checked_each e (push_checked_each e r ps) qs
push_checked_each-append e r [] qs = refl
push_checked_each-append e (Ok base) (p ∷ ps) qs = push_checked_each-append e (push_unless e base (crossing_fault e p) (crossed e p)) ps qs
push_checked_each-append e (Err f) (p ∷ ps) qs = sym (refused-stays e f qs)

module _ (e : Dialect) (base : List ℕ) (first left ps : List Part) (split : ps ≡ first ++ left) where
  -- the first components are pushed, and the others are left
  pub pushed-first : (pushed : List ℕ) → push_checked_each e (Ok base) first ≡ Ok pushed → push_checked_each e (Ok pushed) left ≡ push_checked_each e (Ok base) ps
  pushed-first pushed done = ap (λ r. push_checked_each e r left) (sym done) ∙ sym (ap (push_checked_each e (Ok base)) split ∙ push_checked_each-append e (Ok base) first left)

  -- they are refused, and so is the whole
  pub refused-whole : (f : CheckedPathError) → push_checked_each e (Ok base) first ≡ Err f → push_checked_each e (Ok base) ps ≡ Err f
  refused-whole f refused = ap (push_checked_each e (Ok base)) split ∙ push_checked_each-append e (Ok base) first left ∙ ap (λ r. push_checked_each e r left) refused ∙ refused-stays e f left

-- nothing is left to push
pub pushed-all : (e : Dialect) (base : List ℕ) (ps : List Part) → ps ≡ [] → push_checked_each e (Ok base) ps ≡ Ok base
pushed-all e base ps none = ap (push_checked_each e (Ok base)) none

-- a refusal of one call that another passes on
pub refusal-passed : {A B : Type 0} (s : Result B PathError) (r : Result A PathError) (e : PathError) → IsErrAnd r (λ y. y ≡ e) → (f : CheckedPathError) → refusal r ≡ Some f → refusal {A = B} (Err e) ≡ Some f
refusal-passed s r e is f told = grind arith

-- Components of another dialect pushed one by one onto the path at the end of a text.

-- there is room for each of two lists
fits_each-append : (e : Dialect) (room : ℕ) (text : List ℕ) (paths others : List (List ℕ)) → FitsEach e room text (paths ++ others) → FitsEach e room text paths × FitsEach e room (push_all e text paths) others
fits_each-append e room text [] others fits = (tt, fits)
fits_each-append e room text (path ∷ paths) others fits = grind (arith, common_steps, fits_each-append e room (push e text path) paths others fits.1)

module _ (e : Dialect) (first left ps : List Part) (split : ps ≡ first ++ left) where
  -- the first components, and the others
  crossed-split : map (crossed e) ps ≡ map (crossed e) first ++ map (crossed e) left
  crossed-split = ap (map (crossed e)) split ∙ map-append (crossed e) first left

  -- the first components are pushed, and the others are left
  pub crossed-next : (goal text next : List ℕ) → next ≡ push_all e text (map (crossed e) first) → goal ≡ push_all e text (map (crossed e) ps) → goal ≡ push_all e next (map (crossed e) left)
  crossed-next goal text next pushed h = grind (arith, crossed-split, fold-append)

  -- there is room for them, and for those behind them
  pub crossed-fits : (room : ℕ) (text : List ℕ) → FitsEach e room text (map (crossed e) ps)
      → FitsEach e room text (map (crossed e) first) × FitsEach e room (push_all e text (map (crossed e) first)) (map (crossed e) left)
  crossed-fits room text fits = fits_each-append e room text (map (crossed e) first) (map (crossed e) left) (subst (FitsEach e room text) crossed-split fits)

-- none is left
pub crossed-end : (e : Dialect) (goal text : List ℕ) (ps : List Part) → ps ≡ [] → goal ≡ push_all e text (map (crossed e) ps) → text ≡ goal
crossed-end e goal text ps none h = sym (h ∙ ap (λ qs. push_all e text (map (crossed e) qs)) none)

-- what stands behind the first bytes, once the text is cut
pub cut-behind : (text new base read : List ℕ) (start kept : ℕ) → base ≡ text → slice_range base start (length base) ≡ read → new ≡ take (start + kept) text → take kept read ≡ drop start new
cut-behind text new base read start kept same is e = ap (take kept) (sym is ∙ whole_range text base start same) ∙ sym (drop-take start kept text) ∙ ap (drop start) (sym e)

-- a path that is put behind the first bytes of a text
pub put-whole : (start : ℕ) (old new path : List ℕ) → start ≤ length old → new ≡ take start old ++ path → (drop start new ≡ path) × (take start new ≡ take start old) × (start ≤ length new)
put-whole start old new path within e = grind (arith, common_steps)

-- what is put behind a text is put behind the end of it
pub put-ended : (start len : ℕ) (text separator other : List ℕ) → len ≡ length text → take len text ++ separator ++ other ≡ take start text ++ ((drop start text ++ separator) ++ other)
put-ended start len text separator other size =
    ap (λ t. t ++ separator ++ other) (take_all len text (omega (arith, size)) ∙ sym (take-append-drop start text))
    ∙ ap (λ t. t ++ other) (append_assoc (take start text) (drop start text) separator)
    ∙ append_assoc (take start text) (drop start text ++ separator) other

-- Names of Unix that are names of Windows too, and components that are pushed one by one unless one of them has a fault.

-- bytes of which none is a separator of Unix or a `\`
unseparated-both : (bytes : List ℕ) → IsUnseparated (is_separator Slash) bytes → list_any (λ b. b == backslash) bytes ≡ false → IsUnseparated (is_separator Either) bytes
unseparated-both bytes unseparated h = grind (arith, common_steps)

-- a name of Unix without `\` is clean in each Windows text
clean-both : (name : List ℕ) → IsCleanName Slash name → lack_backslash (normal name ∷ []) ≡ true → IsCleanName Either name
clean-both name clean lacks = grind (arith, unseparated-both)

-- of allowed bytes it is plain
pub crossed-plain : (name : List ℕ) → IsCleanName Slash name → lack_backslash (normal name ∷ []) ≡ true → have_allowed_bytes windows (normal name ∷ []) ≡ true → IsPlain name
crossed-plain name clean lacks allowed = allowed-plain Either name (clean-both name clean lacks) (not-true _ (and_parts _ true allowed).0)

-- names that are valid have allowed bytes
pub valid-allowed : (d : Dialect) (ks : List Kind) → is_valid d ks ≡ true → have_allowed_bytes d ks ≡ true
valid-allowed d [] valid = refl
valid-allowed d (k ∷ ks) valid =
    let parts = and_parts (is_valid_kind d k) (is_valid d ks) valid in
    ap (λ b. b && have_allowed_bytes d ks) (own k parts.0) ∙ valid-allowed d ks parts.1
  where
    own : (k : Kind) → is_valid_kind d k ≡ true → kind_has_allowed_bytes d k ≡ true
    own k valid = grind (arith, and_parts)

-- why a name that is read as one is refused
abbrev fault_of_name : Bool → Option CheckedPathError
fault_of_name valid = option_or (if valid then None else Some InvalidFilename) None

-- a plain name that is valid is not refused
fault-plain : (name : List ℕ) → IsPlain name → is_valid windows (normal name ∷ []) ≡ true → fault windows name ≡ None
fault-plain name plain allowed = grind (arith, plain-read, and_parts)

-- and where a name is not refused, it is valid
faultless-valid : (name : List ℕ) → IsCleanName Either name → fault windows name ≡ None → is_valid windows (normal name ∷ []) ≡ true
faultless-valid name clean accepted = grind (arith, faultless, body_parts-name)

-- a component of Unix without `\` is not refused where it is valid
crossing_fault-valid : (k : Kind) (text : List ℕ) → IsWritten Slash k text → lack_backslash (k ∷ []) ≡ true → is_valid windows (k ∷ []) ≡ true
    → crossing_fault windows (record { kind = k; text = text }) ≡ None
crossing_fault-valid k text written lacks allowed = grind (arith, fault-plain, crossed-plain, valid-allowed)

-- and where it is not refused, it is valid
valid-crossing_fault : (k : Kind) (text : List ℕ) → IsWritten Slash k text → lack_backslash (k ∷ []) ≡ true → crossing_fault windows (record { kind = k; text = text }) ≡ None
    → is_valid windows (k ∷ []) ≡ true
valid-crossing_fault k text written lacks accepted = grind (arith, faultless-valid, clean-both)

-- behind a refusal nothing is pushed
push_checked_each-err : (f : CheckedPathError) (ps : List Part) (u : List ℕ) → push_checked_each windows (Err f) ps ≡ Ok u → ⊥
push_checked_each-err f [] u e = cc
push_checked_each-err f (p ∷ ps) u e = cc

-- components of Unix that are valid are pushed
pub push_checked_each-valid : (base : List ℕ) (ps : List Part) → AllByRecursion (IsWrittenPart Slash) ps → lack_backslash (kinds ps) ≡ true → is_valid windows (kinds ps) ≡ true
    → push_checked_each windows (Ok base) ps ≡ Ok (push_all windows base (map (crossed windows) ps))
push_checked_each-valid base [] written lacks allowed = refl
push_checked_each-valid base (p ∷ ps) written lacks allowed =
    let without = and_parts _ (lack_backslash (kinds ps)) lacks in
    let own = and_parts _ (is_valid windows (kinds ps)) allowed in
    ap (λ o. push_checked_each windows (push_unless windows base o (crossed windows p)) ps) (crossing_fault-valid p.kind p.text written.0 (rw without.0 refl) (rw own.0 refl))
    ∙ push_checked_each-valid (push_windows base (crossed windows p)) ps written.1 without.1 own.1

-- and those that are pushed are valid
pub valid-push_checked_each : (base : List ℕ) (ps : List Part) (u : List ℕ) → AllByRecursion (IsWrittenPart Slash) ps → lack_backslash (kinds ps) ≡ true → push_checked_each windows (Ok base) ps ≡ Ok u
    → is_valid windows (kinds ps) ≡ true
valid-push_checked_each base [] u written lacks accepted = refl
valid-push_checked_each base (p ∷ ps) u written lacks accepted =
    let without = and_parts _ (lack_backslash (kinds ps)) lacks in
    by (crossing_fault windows p) refl (rw without.0 refl) (valid-push_checked_each (push_windows base (crossed windows p)) ps u written.1 without.1) accepted
  where
    by : (o : Option CheckedPathError) → crossing_fault windows p ≡ o → lack_backslash (p.kind ∷ []) ≡ true
        → (push_checked_each windows (Ok (push_windows base (crossed windows p))) ps ≡ Ok u → is_valid windows (kinds ps) ≡ true)
        → push_checked_each windows (push_unless windows base o (crossed windows p)) ps ≡ Ok u → is_valid windows (p.kind ∷ kinds ps) ≡ true
    by None none own rest e = grind (arith, and_parts, valid-crossing_fault)
    by (Some f) some own rest e = absurd (push_checked_each-err f ps u e)

-- Which paths of Unix the checked conversion to Windows accepts.

-- what an answer holds
ok-some : (r : Result (List ℕ) CheckedPathError) → is_ok r ≡ true → (u : List ℕ) × (r ≡ Ok u)
ok-some r ok = grind arith

-- two answers hold the same
ok-same : (u v : List ℕ) (r : Result (List ℕ) CheckedPathError) → r ≡ Ok u → r ≡ Ok v → u ≡ v
ok-same u v r e f = cc

-- what Unix reads is written as its kinds tell
parts_of-written : (t : List ℕ) → AllByRecursion (IsWrittenPart Slash) (parts_of unix t)
parts_of-written t = subst (AllByRecursion (IsWrittenPart Slash)) (sym (parts_of-unix t)) (each-written Slash (body_parts Slash t) (body_parts-read Slash t))

-- what is accepted is valid, and its components are pushed one by one
pub converted_checked-ok : (t u : List ℕ) → lack_backslash (kinds (parts_of unix t)) ≡ true → converted_checked unix windows t ≡ Ok u
    → (is_valid windows (kinds (parts_of unix t)) ≡ true) × (crossed_all windows (parts_of unix t) ≡ u)
converted_checked-ok t u lacks accepted = grind (arith, common_steps, valid-push_checked_each, parts_of-written, ok-same, push_checked_each-valid)

-- a path is accepted exactly where its names are valid
pub crosses_where_allowed : (t : List ℕ) → CrossesWhereAllowed t
crosses_where_allowed t lacks = grind (arith, common_steps, ok-some, converted_checked-ok, push_checked_each-valid, parts_of-written)

-- a byte that is no `\` and not forbidden is one that Windows allows, or `/`
pub free-byte : (b : ℕ) → is_forbidden_or (backslash, backslash) b ≡ false → is_disallowed windows b ≡ true → is_separator Slash b ≡ true
free-byte b free disallowed = grind arith
