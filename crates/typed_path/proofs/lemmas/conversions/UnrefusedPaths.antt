-- Paths of which looks at their bytes tell that no component is refused as it crosses.
use Rattle.std.proofs.Common.{All, Option, not, Ok, take, drop, ◌≡◌, ℕ, ◌==◌, ◌||◌, ◌&&◌, Bool, true, false, if◌then◌else◌, List, [], ◌∷◌, map, length, refl, sym, ap, ◌∙◌, subst, true≢false, Some, None}
use Rattle.std.specs.List.{AllByRecursion, list_any}
use Rattle.std.proofs.lemmas.Bool.{and_parts, and_right, or_parts}
use Rattle.std.proofs.lemmas.List.Elements.{All-nil, All-cons}
use Rattle.typed_path.specs.declared.scan.separators.Separators.{Separators}
use Rattle.typed_path.specs.declared.scan.separators.Separators.TheVariants.{Slash, Backslash, Either}
use Rattle.typed_path.specs.components.{Dialect, unix, windows, dot, slash, backslash, colon, question, is_separator, is_dot, root_text, is_verbatim, Part, current_part, root_part, drive, parts_of, separators, Found, prefix_of, prefix_part, Kind, prefix, root, current, parent, normal, kinds}
use Rattle.typed_path.specs.changes.{push, push_all, fault, has_device, is_stray, is_forbidden, is_forbidden_or}
use Rattle.typed_path.specs.queries.{is_valid, is_valid_kind, is_disallowed, kind_has_allowed_bytes, is_reserved}
use Rattle.typed_path.specs.conversions.{AllowsCrossing, crossed, IsUnrefused, crossing_fault, push_checked_each, push_unless}
use Rattle.typed_path.specs.scan.{is_one_of}
use Rattle.typed_path.proofs.lemmas.components.Segments.{pieces, named_part, later_parts, first_parts, body_parts, IsWritten, IsWrittenPart, each-written, body_parts-read, parts-body, parts_of-same}
use Rattle.typed_path.proofs.lemmas.components.WindowsNames.{fault_name}
use Rattle.typed_path.proofs.lemmas.queries.ValidNames.{valid-found}
use Rattle.typed_path.proofs.lemmas.queries.FileNames.{allowed-pieces, allowed-kinds, allowed-first_parts}
use Rattle.typed_path.proofs.lemmas.components.FirmPrefixes.{drive-letter}
use Rattle.typed_path.proofs.lemmas.conversions.Crossings.{free-byte}
use Rattle.typed_path.proofs.lemmas.components.Prefixes.{OfWindows, Read, of_disk, of_verbatim_unc, prefix-read, separators-windows}
use Rattle.typed_path.proofs.lemmas.places.WindowsRows.{IsWithoutSlash, without_slash-behind}
use Rattle.typed_path.proofs.lemmas.components.PrefixCuts.{parts_of-none, parts_of-some}
use Rattle.typed_path.proofs.lemmas.changes.ValidPaths.{any-pieces}
use Rattle.typed_path.proofs.lemmas.conversions.TurnedPaths.{pieces-slash, letter_is}
use Rattle.typed_path.proofs.lemmas.lists.Lists.{free-behind}

-- ---- checked pushes of what is not refused

-- components that are not refused are pushed
unrefused : (e : Dialect) (base : List ℕ) (ps : List Part) → AllByRecursion (λ p. crossing_fault e p ≡ None) ps → push_checked_each e (Ok base) ps ≡ Ok (push_all e base (map (crossed e) ps))
unrefused e base [] each = refl
unrefused e base (p ∷ ps) each = ap (λ o. push_checked_each e (push_unless e base o (crossed e p)) ps) each.0 ∙ unrefused e (push e base (crossed e p)) ps each.1

-- components as they are written behind the prefix are not refused where they are valid
valid-unrefused : (e : Dialect) (s : Separators) (ps : List Part) → AllByRecursion (IsWrittenPart s) ps → is_valid e (kinds ps) ≡ true → AllByRecursion (λ p. crossing_fault e p ≡ None) ps
valid-unrefused e s [] written valid = tt
valid-unrefused e s (p ∷ ps) written valid = let both = and_parts (is_valid_kind e p.kind) (is_valid e (kinds ps)) valid in (by p.kind p.text written.0 both.0, valid-unrefused e s ps written.1 both.1)
  where
    by : (k : Kind) (text : List ℕ) → IsWritten s k text → is_valid_kind e k ≡ true → crossing_fault e (record { kind = k; text = text }) ≡ None
    by (prefix q) text own valid = absurd own
    by root text own valid = refl
    by current text own valid = refl
    by parent text own valid = refl
    by (normal name) text own valid = let clean = own.1 in ap (fault e) own.0 ∙ fault_name e name (rw (clean.filled, clean.no_dot, clean.no_dot_dot) refl) valid

body-written : (s : Separators) (text : List ℕ) → AllByRecursion (IsWrittenPart s) (body_parts s text)
body-written s text = each-written s (body_parts s text) (body_parts-read s text)

-- a text without forbidden bytes has no `:`, and no `\`
unmarked : (text : List ℕ) → list_any (is_forbidden_or (backslash, backslash)) text ≡ false → list_any (is_one_of (colon, backslash)) text ≡ false
unmarked [] free = refl
unmarked (b ∷ bs) free =
    let each = or_parts (is_forbidden_or (backslash, backslash) b) (list_any (is_forbidden_or (backslash, backslash)) bs) free in
    let both = or_parts (is_forbidden b) (is_one_of (backslash, backslash) b) each.0 in
    let nul = or_parts _ (b == 0) both.0 in
    let bar = or_parts _ (b == 124) nul.0 in
    let less = or_parts _ (b == 60) bar.0 in
    let more = or_parts _ (b == 62) less.0 in
    let quote = or_parts _ (b == 34) more.0 in
    let star = or_parts _ (b == 42) quote.0 in
    let mark = or_parts (b == colon) (b == question) star.0 in
    let own = or_parts (b == backslash) (b == backslash) both.1 in
    rw (mark.0, own.0) (unmarked bs each.1)

-- a path of Unix without forbidden bytes and devices is written on Windows by checked pushes as by others
checked-windows : (path text : List ℕ) → parts_of unix path ≡ body_parts Slash text → list_any (is_forbidden_or (backslash, backslash)) text ≡ false
    → list_any (is_reserved windows) (pieces Either text) ≡ false → IsUnrefused unix windows path
checked-windows path text read free none =
    unrefused windows [] (parts_of unix path) (subst (AllByRecursion (λ p. crossing_fault windows p ≡ None)) (sym read) (valid-unrefused windows Slash (body_parts Slash text) (body-written Slash text) valid))
  where
    unstrayed : (b : ℕ) → is_forbidden_or (backslash, backslash) b ≡ false → is_stray Either b ≡ false
    unstrayed b f = by (is_disallowed windows b) (is_separator Slash b) (b == backslash) (free-byte b f)
      where
        by : (d c o : Bool) → (d ≡ true → c ≡ true) → d && not (c || o) ≡ false
        by false c o h = refl
        by true true o h = refl
        by true false o h = absurd (true≢false (sym (h refl)))

    allowed : (text : List ℕ) → list_any (is_forbidden_or (backslash, backslash)) text ≡ false → list_any (is_stray Either) text ≡ false
    allowed [] f = refl
    allowed (b ∷ bs) f = let both = or_parts (is_forbidden_or (backslash, backslash) b) (list_any (is_forbidden_or (backslash, backslash)) bs) f in ap (λ c. c || list_any (is_stray Either) bs) (unstrayed b both.0) ∙ allowed bs both.1

    own : is_valid windows (kinds (body_parts Either text)) ≡ true
    own = ap (λ ps. is_valid windows (kinds ps)) (sym (parts-body Either 0 text)) ∙ valid-found Either 0 text _ false refl (allowed text free) ∙ ap not none

    same-first : (ps : List (List ℕ)) → kinds (first_parts Slash ps) ≡ kinds (first_parts Either ps)
    same-first [] = refl
    same-first (p ∷ ps) = by (length p == 0)
      where
        by : (empty : Bool) → kinds ((if empty then root_part (root_text Slash) else (if is_dot p then current_part else named_part p)) ∷ later_parts Slash ps)
            ≡ kinds ((if empty then root_part (root_text Either) else (if is_dot p then current_part else named_part p)) ∷ later_parts Either ps)
        by true = refl
        by false = refl

    same : (text : List ℕ) → list_any (is_one_of (colon, backslash)) text ≡ false → kinds (body_parts Slash text) ≡ kinds (body_parts Either text)
    same [] f = refl
    same (b ∷ bs) f = ap (λ ps. kinds (first_parts Slash ps)) (sym (pieces-slash (b ∷ bs) f)) ∙ same-first (pieces Either (b ∷ bs))

    valid : is_valid windows (kinds (body_parts Slash text)) ≡ true
    valid = ap (is_valid windows) (same text (unmarked text free)) ∙ own

-- so none of its components is refused where looks at the whole path tell that
pub unrefused-windows : (path : List ℕ) → list_any (is_forbidden_or (backslash, backslash)) path ≡ false → has_device path ≡ false → IsUnrefused unix windows path
unrefused-windows path free none = checked-windows path path (parts_of-same path path (λ at. refl)) free (any-pieces path ∙ none)

-- names that Unix allows are valid there
valid-unix : (ks : List Kind) → AllByRecursion (λ k. kind_has_allowed_bytes unix k ≡ true) ks → is_valid unix ks ≡ true
valid-unix [] each = refl
valid-unix (k ∷ ks) each = ap (λ b. b && is_valid unix ks) (by k each.0) ∙ valid-unix ks each.1
  where
    by : (k : Kind) → kind_has_allowed_bytes unix k ≡ true → is_valid_kind unix k ≡ true
    by (normal name) allowed = ap (λ b. b && true) allowed
    by k allowed = refl

-- a byte that Unix allows in no name separates in a text of Windows, where that has no NUL, and no `/` if it is read verbatim
disallowed-separates : (s : Separators) → OfWindows s → (text : List ℕ) → IsWithoutSlash s text → list_any (is_one_of (0, 0)) text ≡ false → All (λ b. is_disallowed unix b ≡ true → is_separator s b ≡ true) text
disallowed-separates s w [] without free = All-nil _
disallowed-separates s w (b ∷ bs) without free =
    let both = or_parts (is_one_of (0, 0) b) (list_any (is_one_of (0, 0)) bs) free in
    let nul = or_parts (b == 0) (b == 0) both.0 in
    All-cons (λ c. is_disallowed unix c ≡ true → is_separator s c ≡ true) b bs (own s w without (b == 0) nul.0) (disallowed-separates s w bs (without_slash-behind s b bs without) both.1)
  where
    slashed : (c d o : Bool) → d ≡ false → (c || d) ≡ true → (c || o) ≡ true
    slashed true d o e h = refl
    slashed false true o e h = cc
    slashed false false o e h = cc

    unslashed-none : (c d : Bool) → c ≡ false → d ≡ false → (c || d) ≡ true → false ≡ true
    unslashed-none true d e f h = cc
    unslashed-none false true e f h = cc
    unslashed-none false false e f h = h

    own : (s : Separators) → OfWindows s → IsWithoutSlash s (b ∷ bs) → (d : Bool) → d ≡ false → (b == slash || d) ≡ true → is_separator s b ≡ true
    own Slash w without d e h = cc
    own Either w without d e h = slashed (b == slash) d (b == backslash) e h
    own Backslash w without d e h = absurd (true≢false (sym (unslashed-none (b == slash) d (or_parts (b == slash) (list_any (is_separator Slash) bs) (without refl)).0 e h)))

-- so the names of its body are allowed on Unix
body-allowed : (s : Separators) → OfWindows s → (text : List ℕ) → IsWithoutSlash s text → list_any (is_one_of (0, 0)) text ≡ false → AllowsCrossing unix (kinds (body_parts s text))
body-allowed s w [] without free = tt
body-allowed s w (b ∷ bs) without free =
    allowed-kinds unix (body_parts s (b ∷ bs)) (allowed-first_parts s unix (pieces s (b ∷ bs)) (allowed-pieces s unix (b ∷ bs) (disallowed-separates s w (b ∷ bs) without free)))

-- names of its body are not refused there
body-unrefused : (s : Separators) → OfWindows s → (text : List ℕ) → IsWithoutSlash s text → list_any (is_one_of (0, 0)) text ≡ false → AllByRecursion (λ p. crossing_fault unix p ≡ None) (body_parts s text)
body-unrefused s w text without free = valid-unrefused unix s (body_parts s text) (body-written s text) (valid-unix (kinds (body_parts s text)) (body-allowed s w text without free))

-- nor is a prefix
prefix-unrefused : (path : List ℕ) (f : Found) → prefix_of windows path ≡ Some f → crossing_fault unix (prefix_part f.prefix (take f.length path)) ≡ None
prefix-unrefused path f is = by path f (prefix-read path f is)
  where
    by : (path : List ℕ) (f : Found) → Read (separators windows path) path f → crossing_fault unix (prefix_part f.prefix (take f.length path)) ≡ None
    by [] _ (of_disk letter drive) = cc
    by (a ∷ []) _ (of_disk letter drive) = cc
    by (a ∷ b ∷ text) _ (of_disk letter drive) =
        let own = drive-letter a b text letter drive in
        fault_name unix (a ∷ b ∷ []) (and_right (a == dot) (b == dot) (ap (λ c. c == dot) own.1))
        (rw (letter_is a slash refl own.0, letter_is a 0 refl own.0, own.1) refl)
    by path _ (of_verbatim_unc rest mark server) = refl
    by path f read = cc

-- no component is refused there of a path of Windows without NUL that is not read verbatim
pub unrefused-unix : (path : List ℕ) → is_verbatim (separators windows path) ≡ false → list_any (is_one_of (0, 0)) path ≡ false → IsUnrefused windows unix path
unrefused-unix path plain free = by (prefix_of windows path) refl
  where
    by : (o : Option Found) → prefix_of windows path ≡ o → IsUnrefused windows unix path
    by None e =
        unrefused unix [] (parts_of windows path)
        (subst (AllByRecursion (λ p. crossing_fault unix p ≡ None)) (sym (parts_of-none path e)) (body-unrefused Either refl path (λ verbatim. absurd (true≢false (sym verbatim))) free))
    by (Some f) e =
        let s = separators windows path in
        unrefused unix [] (parts_of windows path)
        (subst (AllByRecursion (λ p. crossing_fault unix p ≡ None)) (sym (parts_of-some path f e))
        (prefix-unrefused path f e, body-unrefused s (separators-windows path) (drop f.length path) (λ verbatim. absurd (true≢false (sym verbatim ∙ plain))) (free-behind (is_one_of (0, 0)) path f.length free)))
