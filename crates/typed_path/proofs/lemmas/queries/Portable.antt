-- Portable names, what the walks over components find, and paths of which a look at the bytes tells.
use Rattle.std.proofs.Common.{◌≡◌, ℕ, List, [], ◌∷◌, ◌++◌, Bool, true, false, ◌||◌, ◌&&◌, ◌==◌, not, if◌then◌else◌, length, drop, Option, Some, None, refl, sym, ap, ◌∙◌, arith, ◌+◌, option_map, true≢false, is_some}
use Rattle.std.specs.Prelude.{nat_lt, is_none, ◌↔◌}
use Rattle.std.specs.List.{list_any, list_all, AllByRecursion}
use Rattle.std.specs.Option.{option_or}
use Rattle.std.specs.Str.{is_utf8}
use Rattle.std.proofs.lemmas.Bool.{not-true, false_from_ne_true, or_parts, and_parts, and_from, ltb-true, ltb-false, lt-ltb, le-ltb}
use Rattle.std.proofs.lemmas.Str.{IsCharBoundary-start, IsUtf8-from_is_utf8, is_utf8-from_IsUtf8}
use Rattle.typed_path.specs.declared.errors.PortableError.{PortableError}
use Rattle.typed_path.specs.declared.errors.PortableError.TheVariants.{Forbidden, Device, Ending, TooLong, NotText}
use Rattle.typed_path.specs.declared.scan.separators.Separators.{Separators}
use Rattle.typed_path.specs.declared.scan.separators.Separators.TheVariants.{Slash, Backslash, Either}
use Rattle.typed_path.specs.components.{Dialect, unix, windows, dot, colon, is_separator, is_empty, is_dot, is_dot_dot, is_verbatim, root_text, Part, Placed, kinds, parts, placed, body, current_part, parent_part, name_part, root_part, parts_of, after_two, disk_case, prefix_of}
use Rattle.typed_path.specs.scan.{first_part}
use Rattle.typed_path.specs.texts.{are_text_parts, is_text_kind, is_text_part}
use Rattle.typed_path.specs.places.{bare_separators}
use Rattle.typed_path.specs.changes.{has_second_colon, is_forbidden_or}
use Rattle.typed_path.specs.queries.{portable_fault, unportable, is_valid_name, is_disallowed, has_allowed_bytes, is_reserved, ends_in, space, ends_unkept, kind_may_be_device, kind_fault, kinds_fault, offender, offender_or, has_portable_bytes, is_control, IsPortableName, is_portable_name, longest_name, name_fault, name_may_be_device, strays_on_windows, may_offend}
use Rattle.typed_path.proofs.lemmas.lists.Options.{some_is}
use Rattle.typed_path.proofs.lemmas.lists.Lists.{slice_split-some}
use Rattle.typed_path.proofs.lemmas.components.FirmPrefixes.{prefix-apart}
use Rattle.typed_path.proofs.lemmas.components.PrefixCuts.{parts_of-none}
use Rattle.typed_path.proofs.lemmas.components.Segments.{pieces, first_part as piece_part, first_parts, later_parts, body_parts, parts-body}
use Rattle.typed_path.proofs.lemmas.queries.WideDevices.{reserved_is_wide}
use Rattle.typed_path.proofs.lemmas.texts.TextCuts.{IsTextSegment, segments-cut}
use Rattle.typed_path.proofs.lemmas.texts.TextsLeft.{parts_of-text}

-- Portable names, what the walks over components find, and paths of which a look at the bytes tells.

-- ---- the walks over components

pub none_device : (cs : List Placed) → None ≡ first_part cs → false ≡ list_any kind_may_be_device (kinds (parts cs))
none_device cs h = grind arith

pub step_device : (cs ds : List Placed) (p : Part) → Some p ≡ first_part cs → ds ≡ drop 1 cs
    → list_any kind_may_be_device (kinds (parts cs)) ≡ (kind_may_be_device p.kind || list_any kind_may_be_device (kinds (parts ds)))
step_device cs ds p h rest = grind arith

pub none_offender : (cs : List Placed) → None ≡ first_part cs → None ≡ offender (parts cs)
none_offender cs h = grind arith

step_offender : (cs ds : List Placed) (p : Part) → Some p ≡ first_part cs → ds ≡ drop 1 cs → offender (parts cs) ≡ offender_or p (kind_fault p.kind) (offender (parts ds))
step_offender cs ds p h rest = grind arith

pub some_offender : (cs ds : List Placed) (p : Part) (f : PortableError) → Some p ≡ first_part cs → ds ≡ drop 1 cs → Some f ≡ kind_fault p.kind → Some (p.text, f) ≡ offender (parts cs)
some_offender cs ds p f h rest is = sym (step_offender cs ds p h rest ∙ ap (λ o. offender_or p o (offender (parts ds))) (sym is))

pub later_offender : (cs ds : List Placed) (p : Part) → Some p ≡ first_part cs → ds ≡ drop 1 cs → None ≡ kind_fault p.kind → offender (parts ds) ≡ offender (parts cs)
later_offender cs ds p h rest is = sym (step_offender cs ds p h rest ∙ ap (λ o. offender_or p o (offender (parts ds))) (sym is))

-- the first component that offends tells of the path
pub offender-fault : (ps : List Part) → option_map (λ o. o.1) (offender ps) ≡ kinds_fault (kinds ps)
offender-fault [] = refl
offender-fault (p ∷ ps) = by (kind_fault p.kind) (offender-fault ps)
  where
    by : (o : Option PortableError) → option_map (λ o. o.1) (offender ps) ≡ kinds_fault (kinds ps) → option_map (λ o. o.1) (offender_or p o (offender ps)) ≡ option_or o (kinds_fault (kinds ps))
    by None again = again
    by (Some f) again = refl

-- ---- names

-- what holds of a name without a fault
pub record IsPortable (name : List ℕ) : Type 0 where
  pub bytes : has_portable_bytes name ≡ true
  pub device : name_may_be_device name ≡ false
  pub ends : ends_unkept name ≡ false
  pub short : nat_lt longest_name (length name) ≡ false
  pub text : is_utf8 name ≡ true

pub portable : (name : List ℕ) → name_fault name ≡ None → IsPortable name
portable name h =
    let all = by (has_portable_bytes name) (name_may_be_device name) (ends_unkept name) (nat_lt longest_name (length name)) (is_utf8 name) h in
    record { bytes = all.0; device = all.1.0; ends = all.1.1.0; short = all.1.1.1.0; text = all.1.1.1.1 }
  where
    by : (a b c d e : Bool)
        → (if not a then Some Forbidden else (if b then Some Device else (if c then Some Ending else (if d then Some TooLong else (if e then None else Some NotText))))) ≡ None
        → (a ≡ true) × ((b ≡ false) × ((c ≡ false) × ((d ≡ false) × (e ≡ true))))
    by a b c d e h = grind arith

-- and the other way
faultless : (name : List ℕ) → IsPortable name → name_fault name ≡ None
faultless name is = by (has_portable_bytes name) (name_may_be_device name) (ends_unkept name) (nat_lt longest_name (length name)) (is_utf8 name) is.bytes is.device is.ends is.short is.text
  where
    by : (a b c d e : Bool) → a ≡ true → b ≡ false → c ≡ false → d ≡ false → e ≡ true
        → (if not a then Some Forbidden else (if b then Some Device else (if c then Some Ending else (if d then Some TooLong else (if e then None else Some NotText))))) ≡ None
    by a b c d e h1 h2 h3 h4 h5 = grind arith

-- what passes no test passes no narrower one
pub any-weaker : (p q : ℕ → Bool) → ((b : ℕ) → q b ≡ true → p b ≡ true) → (bs : List ℕ) → list_any p bs ≡ false → list_any q bs ≡ false
any-weaker p q weaker [] h = refl
any-weaker p q weaker (b ∷ bs) h =
    let both = or_parts (p b) (list_any p bs) h in
    ap (λ x. x || list_any q bs) (false_from_ne_true (q b) (λ is. apart (sym (weaker b is) ∙ both.0))) ∙ any-weaker p q weaker bs both.1
  where
    apart : true ≡ false → ⊥
    apart e = cc

pub allowed-none : (name : List ℕ) → name_fault name ≡ None → list_any (is_disallowed windows) name ≡ false
allowed-none name h = not-true _ (and_parts (has_allowed_bytes windows name) (not (list_any is_control name)) (portable name h).bytes).0

pub valid-name : (d : Dialect) (name : List ℕ) → name_fault name ≡ None → is_valid_name d name ≡ true
valid-name unix name h = ap (λ b. not b && true) (any-weaker (is_disallowed windows) (is_disallowed unix) wider name (allowed-none name h))
  where
    wider : (b : ℕ) → is_disallowed unix b ≡ true → is_disallowed windows b ≡ true
    wider b is = grind arith
valid-name windows name h =
    ap (λ b. not b && not (is_reserved windows name)) (allowed-none name h)
    ∙ ap not (false_from_ne_true (is_reserved windows name) (λ is. apart (sym (reserved_is_wide name is) ∙ (portable name h).device)))
  where
    apart : true ≡ false → ⊥
    apart e = cc

-- in full, and that no more is asked
told : (name : List ℕ) → IsPortableName name → is_portable_name name ≡ true
told name is =
    let valid = and_parts (has_allowed_bytes windows name) (not (is_reserved windows name)) (is.valid windows) in
    by (nat_lt 0 (length name)) (has_allowed_bytes windows name) (list_any is_control name) (name_may_be_device name) (ends_in dot name) (ends_in space name) (nat_lt longest_name (length name)) (is_utf8 name)
    (lt-ltb 0 (length name) is.filled) valid.0 is.controls is.device is.undotted is.unspaced (le-ltb longest_name (length name) is.short) is.text
  where
    by : (filled a c b dotted spaced long e : Bool) → filled ≡ true → a ≡ true → c ≡ false → b ≡ false → dotted ≡ false → spaced ≡ false → long ≡ false → e ≡ true
        → (filled && is_none (if not (a && not c) then Some Forbidden else (if b then Some Device else (if dotted || spaced then Some Ending else (if long then Some TooLong else (if e then None else Some NotText)))))) ≡ true
    by filled a c b dotted spaced long e h1 h2 h3 h4 h5 h6 h7 h8 = grind arith

meant : (name : List ℕ) → is_portable_name name ≡ true → IsPortableName name
meant name h =
    let both = and_parts (nat_lt 0 (length name)) (is_none (name_fault name)) h in
    let none = is_none_is (name_fault name) both.1 in
    let all = portable name none in
    let ends = or_parts (ends_in dot name) (ends_in space name) all.ends in
    record {
      filled = ltb-true 0 (length name) both.0;
      valid = λ d. valid-name d name none;
      controls = not-true _ (and_parts (has_allowed_bytes windows name) (not (list_any is_control name)) all.bytes).1;
      device = all.device;
      undotted = ends.0;
      unspaced = ends.1;
      short = ltb-false longest_name (length name) all.short;
      text = all.text;
    }
  where
    is_none_is : (o : Option PortableError) → is_none o ≡ true → o ≡ None
    is_none_is o e = grind arith

pub portable_name_is : (name : List ℕ) → (is_portable_name name ≡ true) ↔ IsPortableName name
portable_name_is name = (meant name, told name)

-- ---- what a look at the bytes tells

-- a byte that is forbidden or one of a pair strays where that pair adds none and separators are left out
pub stray-slash : (b : ℕ) → is_forbidden_or (92, 92) b ≡ strays_on_windows Slash b
stray-slash b = grind arith

pub stray-backslash : (b : ℕ) → is_forbidden_or (47, 47) b ≡ strays_on_windows Backslash b
stray-backslash b = grind arith

pub stray-either : (b : ℕ) → is_forbidden_or (58, 58) b ≡ strays_on_windows Either b
stray-either b = grind arith

-- tests that agree on each byte agree on a text
pub any-alike : (p q : ℕ → Bool) → ((b : ℕ) → p b ≡ q b) → (text : List ℕ) → list_any p text ≡ list_any q text
any-alike p q same [] = refl
any-alike p q same (b ∷ bs) = ap (λ x. x || list_any p bs) (same b) ∙ ap (λ x. q b || x) (any-alike p q same bs)

-- the bytes of no piece pass a test that only separators of the text pass
free-pieces : (q : ℕ → Bool) (s : Separators) (text : List ℕ) → list_all (λ p. not (list_any q p)) (pieces s text) ≡ not (list_any (λ b. q b && not (is_separator s b)) text)
free-pieces q s [] = grind arith
free-pieces q s (x ∷ xs) = grind (arith, pieces, slice_split-some, free-pieces q s xs)

-- the pieces of a text are texts
placed-texts : (t : List ℕ) (at : ℕ) (ps : List (List ℕ)) → AllByRecursion (IsTextSegment t) (placed at ps) → list_all is_utf8 ps ≡ true
placed-texts t at [] each = refl
placed-texts t at (p ∷ ps) each = ap (λ b. b && list_all is_utf8 ps) (is_utf8-from_IsUtf8 p each.0.text) ∙ placed-texts t (at + length p + 1) ps each.1

pieces-texts : (s : Separators) (text : List ℕ) → is_utf8 text ≡ true → list_all is_utf8 (pieces s text) ≡ true
pieces-texts s text h =
    let is = IsUtf8-from_is_utf8 text h in
    placed-texts text 0 (pieces s text) (segments-cut s text is [] text 0 refl refl (IsCharBoundary-start text is))

-- a piece that is no name, or a portable one
abbrev is_fine : List ℕ → Bool
is_fine piece = not (list_any (is_disallowed windows) piece) && (not (list_any is_control piece) && (is_utf8 piece && not (may_offend piece)))

each-fine : (ps : List (List ℕ)) → list_all (λ p. not (list_any (is_disallowed windows) p)) ps ≡ true → list_all (λ p. not (list_any is_control p)) ps ≡ true → list_all is_utf8 ps ≡ true
    → list_any may_offend ps ≡ false → list_all is_fine ps ≡ true
each-fine [] allowed plain texts kept = refl
each-fine (p ∷ ps) allowed plain texts kept =
    let a = and_parts (not (list_any (is_disallowed windows) p)) (list_all (λ q. not (list_any (is_disallowed windows) q)) ps) allowed in
    let c = and_parts (not (list_any is_control p)) (list_all (λ q. not (list_any is_control q)) ps) plain in
    let t = and_parts (is_utf8 p) (list_all is_utf8 ps) texts in
    let o = or_parts (may_offend p) (list_any may_offend ps) kept in
    and_from (is_fine p) (list_all is_fine ps) (and_from _ _ a.0 (and_from _ _ c.0 (and_from _ _ t.0 (ap not o.0)))) (each-fine ps a.1 c.1 t.1 o.1)

-- it is a portable name where it is neither empty nor `.` nor `..`
fine-name : (piece : List ℕ) → (length piece == 0) ≡ false → is_dot piece ≡ false → is_dot_dot piece ≡ false → is_fine piece ≡ true → name_fault piece ≡ None
fine-name piece some no_dot no_dots fine =
    let allowed = and_parts (not (list_any (is_disallowed windows) piece)) (not (list_any is_control piece) && (is_utf8 piece && not (may_offend piece))) fine in
    let plain = and_parts (not (list_any is_control piece)) (is_utf8 piece && not (may_offend piece)) allowed.1 in
    let text = and_parts (is_utf8 piece) (not (may_offend piece)) plain.1 in
    let short = or_parts (nat_lt longest_name (length piece)) ((ends_unkept piece && not (is_empty piece || is_dot piece || is_dot_dot piece)) || name_may_be_device piece) (not-true _ text.1) in
    let kept = or_parts (ends_unkept piece && not (is_empty piece || is_dot piece || is_dot_dot piece)) (name_may_be_device piece) short.1 in
    faultless piece (record {
      bytes = and_from _ _ allowed.0 plain.0;
      device = kept.1;
      ends = by (ends_unkept piece) (is_empty piece) (is_dot piece) (is_dot_dot piece) some no_dot no_dots kept.0;
      short = short.0;
      text = text.0;
    })
  where
    by : (ends empty one two : Bool) → empty ≡ false → one ≡ false → two ≡ false → (ends && not (empty || one || two)) ≡ false → ends ≡ false
    by ends empty one two e f g h = grind arith

-- so the components of fine pieces have no fault
module _ (s : Separators) where
  fine-first : (piece : List ℕ) → is_fine piece ≡ true → kind_fault (piece_part s piece).kind ≡ None
  fine-first piece fine = by (length piece == 0) refl (is_dot piece) refl (is_dot_dot piece) refl
    where
      by : (empty : Bool) → (length piece == 0) ≡ empty → (one : Bool) → is_dot piece ≡ one → (two : Bool) → is_dot_dot piece ≡ two
          → kind_fault (if empty then root_part (root_text s) else (if one then current_part else (if two then parent_part else name_part piece))).kind ≡ None
      by true e one f two g = refl
      by false e true f two g = refl
      by false e false f true g = refl
      by false e false f false g = fine-name piece e f g fine

  fine-later : (ps : List (List ℕ)) → list_all is_fine ps ≡ true → kinds_fault (kinds (later_parts s ps)) ≡ None
  fine-later [] all = refl
  fine-later (p ∷ ps) all =
      let both = and_parts (is_fine p) (list_all is_fine ps) all in
      by both.0 (length p == 0) refl (is_dot p) refl (is_verbatim s) (is_dot_dot p) refl (fine-later ps both.1)
    where
      by : is_fine p ≡ true → (empty : Bool) → (length p == 0) ≡ empty → (one : Bool) → is_dot p ≡ one → (verbatim : Bool) → (two : Bool) → is_dot_dot p ≡ two
          → kinds_fault (kinds (later_parts s ps)) ≡ None
          → kinds_fault (kinds ((if empty then [] else (if one then (if verbatim then current_part ∷ [] else []) else (if two then parent_part else name_part p) ∷ [])) ++ later_parts s ps)) ≡ None
      by fine true e one f verbatim two g again = again
      by fine false e true f true two g again = again
      by fine false e true f false two g again = again
      by fine false e false f verbatim true g again = again
      by fine false e false f verbatim false g again = ap (λ o. option_or o (kinds_fault (kinds (later_parts s ps)))) (fine-name p e f g fine) ∙ again

  fine-parts : (ps : List (List ℕ)) → list_all is_fine ps ≡ true → kinds_fault (kinds (first_parts s ps)) ≡ None
  fine-parts [] all = refl
  fine-parts (p ∷ ps) all =
      let both = and_parts (is_fine p) (list_all is_fine ps) all in
      ap (λ o. option_or o (kinds_fault (kinds (later_parts s ps)))) (fine-first p both.0) ∙ fine-later ps both.1

  fine-body : (text : List ℕ) → list_all is_fine (pieces s text) ≡ true → kinds_fault (kinds (body_parts s text)) ≡ None
  fine-body [] all = refl
  fine-body (b ∷ bs) all = fine-parts (pieces s (b ∷ bs)) all

-- the names of a text are portable where no byte of it strays and none is a control byte, it is UTF-8, and no segment offends
pub plain-faultless : (s : Separators) (at : ℕ) (text : List ℕ) → list_any (strays_on_windows s) text ≡ false → list_any is_control text ≡ false → is_utf8 text ≡ true
    → list_any may_offend (pieces s text) ≡ false → kinds_fault (kinds (parts (body s at text))) ≡ None
plain-faultless s at text none plain utf8 kept =
    ap (λ ps. kinds_fault (kinds ps)) (parts-body s at text)
    ∙ fine-body s text
    (each-fine (pieces s text) (free-pieces (is_disallowed windows) s text ∙ ap not none)
    (free-pieces is_control s text ∙ ap not (any-weaker is_control (λ b. is_control b && not (is_separator s b)) (λ b h. (and_parts (is_control b) (not (is_separator s b)) h).0) text plain))
    (pieces-texts s text utf8) kept)

-- a `:` strays in each text
colon-strays : (s : Separators) (b : ℕ) → (b == colon) ≡ true → strays_on_windows s b ≡ true
colon-strays Slash b is = grind arith
colon-strays Backslash b is = grind arith
colon-strays Either b is = grind arith

pub unstrayed-free : (s : Separators) (text : List ℕ) → list_any (strays_on_windows s) text ≡ false → has_second_colon text ≡ false
unstrayed-free s [] none = refl
unstrayed-free s (a ∷ []) none = refl
unstrayed-free s (a ∷ b ∷ bs) none =
    let behind = or_parts (strays_on_windows s a) (strays_on_windows s b || list_any (strays_on_windows s) bs) none in
    let second = or_parts (strays_on_windows s b) (list_any (strays_on_windows s) bs) behind.1 in
    false_from_ne_true (b == colon) (λ is. true≢false (sym (colon-strays s b is) ∙ second.0))

-- no prefix is read where neither two separators stand in front nor a `:` behind the first byte
no_drive : (a b : ℕ) (bs : List ℕ) → (b == colon) ≡ false → disk_case (a ∷ b ∷ bs) ≡ None
no_drive a b bs free = grind arith

pub unmarked-none : (t : List ℕ) → is_some (after_two t) ≡ false → has_second_colon t ≡ false → prefix_of windows t ≡ None
unmarked-none [] apart free = refl
unmarked-none (a ∷ []) apart free = grind arith
unmarked-none (a ∷ b ∷ bs) apart free = prefix-apart a b bs (none (is_separator Either a && is_separator Either b) apart) ∙ no_drive a b bs free
  where
    none : (two : Bool) → is_some (if two then Some bs else None) ≡ false → two ≡ false
    none true e = cc
    none false e = refl

-- what stands behind no prefix is the whole path
pub told_unix : (d : Dialect) (t : List ℕ) → bare_separators d ≡ Slash → kinds_fault (kinds (parts (body Slash 0 t))) ≡ None → portable_fault d t ≡ None
told_unix unix t is h = h
told_unix windows t is h = cc

pub told_bare : (d : Dialect) (t : List ℕ) → is_some (after_two t) ≡ false → has_second_colon t ≡ false → kinds_fault (kinds (parts (body (bare_separators d) 0 t))) ≡ None → portable_fault d t ≡ None
told_bare unix t apart free h = h
told_bare windows t apart free h =
    ap (λ ps. kinds_fault (kinds ps)) (parts_of-none t (unmarked-none t apart free)) ∙ ap (λ ps. kinds_fault (kinds ps)) (sym (parts-body Either 0 t)) ∙ h

-- ---- the first component that offends, in a path that is a text

offender-text : (ps : List Part) (u : List ℕ × PortableError) → are_text_parts ps ≡ true → offender ps ≡ Some u → is_utf8 u.0 ≡ true
offender-text [] u each is = cc
offender-text (p ∷ ps) u each is =
    let own = and_parts (is_text_part p) (are_text_parts ps) each in
    by (kind_fault p.kind) (and_parts (is_utf8 p.text) (is_text_kind p.kind) own.0).0 (offender-text ps u own.1) is
  where
    by : (o : Option PortableError) → is_utf8 p.text ≡ true → (offender ps ≡ Some u → is_utf8 u.0 ≡ true) → offender_or p o (offender ps) ≡ Some u → is_utf8 u.0 ≡ true
    by None text again e = again e
    by (Some f) text again e = ap (λ v. is_utf8 v.0) (sym (some_is e)) ∙ text

pub unportable_text : (d : Dialect) (t : List ℕ) (u : List ℕ × PortableError) → is_utf8 t ≡ true → unportable d t ≡ Some u → is_utf8 u.0 ≡ true
unportable_text d t u is e = offender-text (parts_of d t) u (parts_of-text d t (IsUtf8-from_is_utf8 t is)) e
