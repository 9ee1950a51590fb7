-- Paths of which a conversion changes no more than the separators.
use Rattle.std.proofs.Common.{take, not, take_all, get_or, ◌≡◌, ℕ, ◌-◌, ◌≤◌, ◌<◌, ◌==◌, ◌||◌, Bool, true, false, if◌then◌else◌, cond, List, [], ◌∷◌, ◌++◌, map, length, fold, flat_map, refl, sym, ap, ap₂, ◌∙◌, subst, append_assoc, arith, eqb-true, true≢false, length-append, Some, None}
use Rattle.std.proofs.lemmas.Grind.{common_steps}
use Rattle.std.specs.Prelude.{⊤}
use Rattle.std.specs.List.{AllByRecursion, list_any, onto_first, before_first}
use Rattle.std.proofs.lemmas.Bool.{or_parts, false_from_ne_true, both_ways, eqb-false}
use Rattle.std.proofs.lemmas.List.{length-map, drop_all}
use Rattle.typed_path.specs.declared.scan.separators.Separators.{Separators}
use Rattle.typed_path.specs.declared.scan.separators.Separators.TheVariants.{Slash, Either}
use Rattle.typed_path.specs.components.{Dialect, unix, windows, slash, backslash, colon, is_separator, is_dot, is_dot_dot, root_of, Part, current_part, drive, is_drive_letter, parts_of, is_verbatim, Found, prefix_of, prefix_part, separators}
use Rattle.typed_path.specs.changes.{ended_with, push_all, push_unix, push_windows, spells_anew, FitsEach, begins_with_separator}
use Rattle.typed_path.specs.queries.{is_disk}
use Rattle.typed_path.specs.conversions.{crossed, crossed_all, CrossesTurned}
use Rattle.typed_path.specs.scan.{is_one_of, is_blank, has_blank_behind, turned}
use Rattle.typed_path.proofs.lemmas.lists.Lists.{IsUnseparated, slice_split-some, slice_split-unseparated, AllByRecursion-weaker, take-ended, both-each}
use Rattle.typed_path.proofs.lemmas.components.Segments.{pieces, named_part, first_part, later_parts, first_parts, body_parts, dot-is, dot_dot-is}
use Rattle.typed_path.proofs.lemmas.components.WindowsNames.{IsPlain, ended_with-append}
use Rattle.typed_path.proofs.lemmas.changes.WindowsPushes.{fits-plain}
use Rattle.typed_path.proofs.lemmas.conversions.CrossedPaths.{IsStep, a_parent, a_plain, IsBare, step-read, bare-next, push-step, bare-root, bare-current, bare-parent, bare-name}
use Rattle.typed_path.proofs.lemmas.components.Prefixes.{OfWindows, Read, prefix-read}
use Rattle.typed_path.proofs.lemmas.components.PrefixCuts.{parts_of-some, verbatim-none}
use Rattle.typed_path.proofs.lemmas.places.WindowsRows.{IsWithoutSlash, pieces-own, separates-own}
use Rattle.typed_path.proofs.lemmas.promises.UnixContained.{push_unix-nothing}
use Rattle.typed_path.proofs.lemmas.promises.WindowsStable.{push-first}
use Rattle.typed_path.proofs.lemmas.scan.Blanks.{split, pieces-filled, filled}

-- ---- the pieces of a text, and its bytes

-- pieces with a byte behind each
abbrev pub rows_by : ℕ → List (List ℕ) → List ℕ
rows_by b names = flat_map (λ name. name ++ b ∷ []) names

-- the pieces of a text are the text with its separators turned
pub pieces-turned : (s : Separators) (b : ℕ) (text : List ℕ) → rows_by b (pieces s text) ≡ turned s b text ++ b ∷ []
pieces-turned s b [] = refl
pieces-turned s b (x ∷ xs) = grind (arith, common_steps, slice_split-some, pieces, pieces-turned s b xs)

-- bytes that a text does not hold are in no piece of it
pub pieces-free : (s : Separators) (q : ℕ → Bool) (text : List ℕ) → list_any q text ≡ false → AllByRecursion (λ piece. list_any q piece ≡ false) (pieces s text)
pieces-free s q [] free = (refl, tt)
pieces-free s q (x ∷ xs) free = let some = slice_split-some (is_separator s) xs in let own = or_parts (q x) (list_any q xs) free in by (is_separator s x) (pieces s xs) some.0 some.1 some.2 own.0 (pieces-free s q xs own.1)
  where
    by : (separates : Bool) (ps : List (List ℕ)) (piece : List ℕ) (others : List (List ℕ)) → ps ≡ piece ∷ others → q x ≡ false → AllByRecursion (λ piece. list_any q piece ≡ false) ps
        → AllByRecursion (λ piece. list_any q piece ≡ false) (cond separates ([] ∷ ps) (onto_first x ps))
    by separates ps piece others e own rest = grind arith

-- the pieces of a text, where none but the first is blank
pub tight-pieces : (s : Separators) (text : List ℕ) → has_blank_behind s text ≡ false
    → (head : List ℕ) × (others : List (List ℕ)) × (pieces s text ≡ head ∷ others) × (list_any is_blank others ≡ false)
tight-pieces s text none = let cut = split s is_blank (has_blank_behind s) refl (λ b bs. refl) text in (before_first (is_separator s) text, cut.more, cut.cut, cut.told ∙ none)

-- ---- the components of such pieces, as they cross

-- a parent or a name crosses as it is written
named-crossed : (e : Dialect) (piece : List ℕ) → crossed e (named_part piece) ≡ piece
named-crossed e piece = grind arith

later-crossed : (e : Dialect) (s : Separators) (ps : List (List ℕ)) → list_any is_blank ps ≡ false → map (crossed e) (later_parts s ps) ≡ ps
later-crossed e s [] none = refl
later-crossed e s (p ∷ ps) none =
    let own = or_parts (is_blank p) (list_any is_blank ps) none in
    let is = filled p own.0 in
    by (length p == 0) (is_dot p) is.0 is.1 (later-crossed e s ps own.1)
  where
    by : (empty dotted : Bool) → empty ≡ false → dotted ≡ false → map (crossed e) (later_parts s ps) ≡ ps
        → map (crossed e) ((if empty then [] else (if dotted then (if is_verbatim s then current_part ∷ [] else []) else named_part p ∷ [])) ++ later_parts s ps) ≡ p ∷ ps
    by empty dotted f g rest = grind (arith, named-crossed)

-- the first piece, as it crosses
abbrev pub first_text : Dialect → List ℕ → List ℕ
first_text e [] = root_of e
first_text e (b ∷ bs) = b ∷ bs

first-crossed : (e : Dialect) (s : Separators) (piece : List ℕ) → crossed e (first_part s piece) ≡ first_text e piece
first-crossed e s piece = grind arith

-- ---- pieces pushed one by one

-- names that are pushed behind a text are its rows, where each is put behind it with a byte between
module _ (push_one : List ℕ → List ℕ → List ℕ) (b : ℕ) (Base Piece : List ℕ → Type 0)
    (step : (text piece : List ℕ) → Base text → Piece piece → (push_one text piece ≡ ended_with b text ++ piece) × Base (ended_with b text ++ piece))
    (unended : (front piece : List ℕ) → Piece piece → ended_with b (front ++ piece) ≡ (front ++ piece) ++ b ∷ []) where
  pushed : (text : List ℕ) (ps : List (List ℕ)) → Base text → AllByRecursion Piece ps → ended_with b text ≡ text ++ b ∷ [] → fold push_one text ps ++ b ∷ [] ≡ text ++ b ∷ rows_by b ps
  pushed text [] base each ends = refl
  pushed text (p ∷ ps) base each ends =
      let own = step text p base each.0 in
      let front = text ++ b ∷ [] in
      let same : ended_with b text ++ p ≡ front ++ p = ap (λ t. t ++ p) ends in
      ap (λ t. fold push_one t ps ++ b ∷ []) (own.0 ∙ same)
      ∙ pushed (front ++ p) ps (subst Base same own.1) each.1 (unended front p each.0)
      ∙ append_assoc front p (b ∷ rows_by b ps)
      ∙ append_assoc text (b ∷ []) (p ++ b ∷ rows_by b ps)
      ∙ ap (λ t. text ++ b ∷ t) (sym (append_assoc p (b ∷ []) (rows_by b ps)))

  -- the same behind a root
  pushed-root : (p : List ℕ) (ps : List (List ℕ)) → Base (b ∷ []) → ended_with b (b ∷ []) ≡ b ∷ [] → AllByRecursion Piece (p ∷ ps) → fold push_one (b ∷ []) (p ∷ ps) ++ b ∷ [] ≡ b ∷ rows_by b (p ∷ ps)
  pushed-root p ps base ends each = grind (arith, pushed, append_assoc)

  -- all pieces of a text, the first of which is a root where it is empty
  pushed-pieces : (head : List ℕ) (others : List (List ℕ)) (text : List ℕ) → rows_by b (head ∷ others) ≡ text ++ b ∷ [] → 0 < length text → ((length head == 0) ≡ false → Base head × (ended_with b head ≡ head ++ b ∷ [])) → AllByRecursion Piece others
      → Base (b ∷ []) → ended_with b (b ∷ []) ≡ b ∷ [] → fold push_one (if length head == 0 then b ∷ [] else head) others ++ b ∷ [] ≡ text ++ b ∷ []
  pushed-pieces [] [] text rows some own each base ends = absurd (omega (arith, some, ap length rows, length-append text (b ∷ [])))
  pushed-pieces [] (p ∷ ps) text rows some own each base ends = pushed-root p ps base ends each ∙ rows
  pushed-pieces (x ∷ xs) others text rows some own each base ends = grind (arith, common_steps, false_from_ne_true, eqb-true, pushed, append_assoc)

-- a text whose end holds no separator wants one behind it
ended-piece : (s : Separators) (b : ℕ) → is_separator s b ≡ true → (front piece : List ℕ) → (length piece == 0) ≡ false → IsUnseparated (is_separator s) piece
    → ended_with b (front ++ piece) ≡ (front ++ piece) ++ b ∷ []
ended-piece s b separates front piece is unseparated = grind (arith, ended_with-append, append_assoc, eqb-false)

-- what a text is, where it is another one with a byte more behind both
unrowed : (b : ℕ) (text other : List ℕ) → text ++ b ∷ [] ≡ other ++ b ∷ [] → text ≡ other
unrowed b text other e = sym (take-ended text b) ∙ ap (λ t. take (length t - 1) t) e ∙ take-ended other b

-- how the first piece is written, by whether it is empty
first-written : (e : Dialect) (head : List ℕ) → first_text e head ≡ (if length head == 0 then root_of e else head)
first-written e head = grind arith

-- ---- pushed on Unix

-- a piece without `/` that is not empty
abbrev IsUnixPiece : List ℕ → Type 0
IsUnixPiece p = ((length p == 0) ≡ false) × IsUnseparated (is_separator Slash) p

step-unix : (text piece : List ℕ) → ⊤ → IsUnixPiece piece → (push_unix text piece ≡ ended_with slash text ++ piece) × ⊤
step-unix text piece base own = grind arith

-- what holds no separator of Windows holds none of Unix
unslashed : (piece : List ℕ) → IsUnseparated (is_separator Either) piece → IsUnseparated (is_separator Slash) piece
unslashed piece unseparated = λ k d l. (or_parts (get_or piece k d == slash) (get_or piece k d == backslash) (unseparated k d l)).0

-- ---- pushed on Windows

-- a piece without separators and `:` that is not empty
record IsWindowsPiece (piece : List ℕ) : Type 0 where
  filled : (length piece == 0) ≡ false
  unseparated : IsUnseparated (is_separator Either) piece
  step : IsStep (named_part piece)

-- without `:` no drive is read
pub undriven : (other : ℕ) (piece : List ℕ) → list_any (is_one_of (colon, other)) piece ≡ false → drive piece ≡ None
undriven other piece free = grind arith

-- such a name is plain
plain-free : (piece : List ℕ) → (length piece == 0) ≡ false → is_dot piece ≡ false → is_dot_dot piece ≡ false → IsUnseparated (is_separator Either) piece → list_any (is_one_of (colon, backslash)) piece ≡ false → IsPlain piece
plain-free piece is no_dot no_dots unseparated free = record { clean = record { filled = is; no_dot = no_dot; no_dot_dot = no_dots; unseparated = unseparated }; no_drive = undriven backslash piece free }

-- it is a parent or a plain name where it is no `.`
step-free : (piece : List ℕ) → (length piece == 0) ≡ false → is_dot piece ≡ false → IsUnseparated (is_separator Either) piece → list_any (is_one_of (colon, backslash)) piece ≡ false → IsStep (named_part piece)
step-free piece is no_dot unseparated free = grind (arith, plain-free, a_parent, a_plain)

-- pieces that are not blank are such
windows-pieces : (ps : List (List ℕ)) → list_any is_blank ps ≡ false → AllByRecursion (IsUnseparated (is_separator Either)) ps → AllByRecursion (λ p. list_any (is_one_of (colon, backslash)) p ≡ false) ps
    → AllByRecursion IsWindowsPiece ps
windows-pieces [] none unseparated free = tt
windows-pieces (p ∷ ps) none unseparated free =
    let own = or_parts (is_blank p) (list_any is_blank ps) none in
    let is = filled p own.0 in
    (record { filled = is.0; unseparated = unseparated.0; step = step-free p is.0 is.1 unseparated.0 free.0 }, windows-pieces ps own.1 unseparated.1 free.1)

-- what such a piece is written as
step-text : (piece : List ℕ) → (named_part piece).text ≡ piece
step-text piece = grind arith

-- it is put behind a text without a prefix, which stays without one
step-windows : (text piece : List ℕ) → IsBare text → IsWindowsPiece piece → (push_windows text piece ≡ ended_with backslash text ++ piece) × IsBare (ended_with backslash text ++ piece)
step-windows text piece bare own =
    let read = step-read (named_part piece) own.step in
    let is = read.2 in
    let written : read.0 ∷ read.1 ≡ piece = sym is.text ∙ step-text piece in (
      ap (push_windows text) (sym (step-text piece)) ∙ push-step text bare (named_part piece) read.0 read.1 is ∙ ap (λ t. ended_with backslash text ++ t) written,
      subst (λ t. IsBare (ended_with backslash text ++ t)) written (bare-next text bare read.0 read.1 is.unseparated),
    )

-- the first piece has no prefix
bare-first : (head : List ℕ) → (length head == 0) ≡ false → IsUnseparated (is_separator Either) head → list_any (is_one_of (colon, backslash)) head ≡ false → IsBare head
bare-first head is unseparated free = grind (arith, dot-is, bare-current, dot_dot-is, bare-parent, bare-name, plain-free)

-- the pieces of a text without blank ones, pushed on Unix one by one, are the text with its separators turned
module _ (x : ℕ) (xs : List ℕ) (head : List ℕ) (others : List (List ℕ)) (cut : pieces Either (x ∷ xs) ≡ head ∷ others) (none : list_any is_blank others ≡ false) where
  each-unseparated : AllByRecursion (IsUnseparated (is_separator Either)) (head ∷ others)
  each-unseparated = subst (AllByRecursion (IsUnseparated (is_separator Either))) cut (slice_split-unseparated (is_separator Either) (x ∷ xs))

  rows-whole : (b : ℕ) → rows_by b (head ∷ others) ≡ turned Either b (x ∷ xs) ++ b ∷ []
  rows-whole b = ap (rows_by b) (sym cut) ∙ pieces-turned Either b (x ∷ xs)

  some-bytes : (b : ℕ) → 0 < length (turned Either b (x ∷ xs))
  some-bytes b = omega arith

  turned-unix : push_all unix (first_text unix head) others ≡ turned Either slash (x ∷ xs)
  turned-unix =
      let each = both-each (λ p. (length p == 0) ≡ false) (IsUnseparated (is_separator Slash)) others (pieces-filled others none) (AllByRecursion-weaker _ _ unslashed others each-unseparated.1) in
      unrowed slash _ _
      (ap (λ t. push_all unix t others ++ slash ∷ []) (first-written unix head)
      ∙ pushed-pieces push_unix slash (λ t. ⊤) IsUnixPiece step-unix (λ front piece own. ended-piece Slash slash refl front piece own.0 own.1) head others (turned Either slash (x ∷ xs)) (rows-whole slash) (some-bytes slash)
      (λ is. (tt, ended-piece Slash slash refl [] head is (unslashed head each-unseparated.0))) each tt refl)

  -- ---- pushed on Windows, where no byte is `:` or `\`

  module _ (free : list_any (is_one_of (colon, backslash)) (x ∷ xs) ≡ false) where
    each-free : AllByRecursion (λ p. list_any (is_one_of (colon, backslash)) p ≡ false) (head ∷ others)
    each-free = subst (AllByRecursion (λ p. list_any (is_one_of (colon, backslash)) p ≡ false)) cut (pieces-free Either (is_one_of (colon, backslash)) (x ∷ xs) free)

    turned-windows : push_all windows (first_text windows head) others ≡ turned Either backslash (x ∷ xs)
    turned-windows =
        unrowed backslash _ _
        (ap (λ t. push_all windows t others ++ backslash ∷ []) (first-written windows head)
        ∙ pushed-pieces push_windows backslash IsBare IsWindowsPiece step-windows (λ front piece own. ended-piece Either backslash refl front piece own.filled own.unseparated) head others (turned Either backslash (x ∷ xs)) (rows-whole backslash) (some-bytes backslash)
        (λ is. (bare-first head is each-unseparated.0 each-free.0, ended-piece Either backslash refl [] head is each-unseparated.0))
        (windows-pieces others none each-unseparated.1 each-free.1) bare-root refl)

-- ---- a whole path

-- what its pieces are crossed to, pushed one by one
crossed-pieces : (e : Dialect) (s : Separators) (x : ℕ) (xs head : List ℕ) (others : List (List ℕ)) → pieces s (x ∷ xs) ≡ head ∷ others → list_any is_blank others ≡ false
    → map (crossed e) (body_parts s (x ∷ xs)) ≡ first_text e head ∷ others
crossed-pieces e s x xs head others cut none = ap (λ ps. map (crossed e) (first_parts s ps)) cut ∙ ap₂ ◌∷◌ (first-crossed e s head) (later-crossed e s others none)

-- a text without `\` is cut alike by both sets that hold `/`
pub pieces-slash : (text : List ℕ) → list_any (is_one_of (colon, backslash)) text ≡ false → pieces Either text ≡ pieces Slash text
pieces-slash [] free = refl
pieces-slash (b ∷ bs) free =
    let both = or_parts (is_one_of (colon, backslash) b) (list_any (is_one_of (colon, backslash)) bs) free in
    ap₂ (λ c ps. cond c ([] ∷ ps) (onto_first b ps)) (by (b == slash) (b == backslash) (or_parts (b == colon) (b == backslash) both.0).1) (pieces-slash bs both.1)
  where
    by : (c d : Bool) → d ≡ false → (c || d) ≡ c
    by c d e = grind arith

-- there is room for a text that the last push makes
fits-unix : (room : ℕ) (text path : List ℕ) (paths : List (List ℕ)) → FitsEach unix room text (path ∷ paths) → length (push_all unix text (path ∷ paths)) ≤ room
fits-unix room text path [] fits = fits.0
fits-unix room text path (p ∷ ps) fits = fits-unix room (push_unix text path) p ps fits.1

fits-windows : (room : ℕ) (text path : List ℕ) (paths : List (List ℕ)) → spells_anew windows text ≡ false → IsBare (push_windows text path) → AllByRecursion IsWindowsPiece paths → FitsEach windows room text (path ∷ paths)
    → length (push_all windows text (path ∷ paths)) ≤ room
fits-windows room text path [] plain bare each fits = fits-plain room text path plain fits.0
fits-windows room text path (p ∷ ps) plain bare each fits =
    let own = step-windows (push_windows text path) p bare each.0 in
    fits-windows room (push_windows text path) p ps (verbatim-none (push_windows text path) bare.no_prefix) (subst IsBare (sym own.0) own.1) each.1 fits.1

-- a path of Unix without blank pieces, `:` and `\` is written on Windows with its separators turned
pub crosses-windows : (path text : List ℕ) → parts_of unix path ≡ body_parts Slash text → list_any (is_one_of (colon, backslash)) text ≡ false → has_blank_behind Either text ≡ false → CrossesTurned unix windows path text
crosses-windows path [] read free none = record { is = ap (crossed_all windows) read; fits = λ room fits. omega arith }
crosses-windows path (x ∷ xs) read free none =
    let text = x ∷ xs in
    let tight = tight-pieces Either text none in
    let head = tight.0 in
    let others = tight.1 in
    let cut = tight.2 in
    let clear = tight.3 in
    let listed : map (crossed windows) (parts_of unix path) ≡ first_text windows head ∷ others =
    ap (map (crossed windows)) read ∙ crossed-pieces windows Slash x xs head others (sym (pieces-slash text free) ∙ cut) clear in
    let unseparated = each-unseparated x xs head others cut clear in
    let frees = each-free x xs head others cut clear free in
    let whole : crossed_all windows (parts_of unix path) ≡ turned Either backslash text =
    ap (push_all windows []) listed ∙ ap (λ t. push_all windows t others) (push-first (first_text windows head)) ∙ turned-windows x xs head others cut clear free in
    record {
      is = whole;
      fits = λ room fits.
          let first = bare-any head unseparated.0 frees.0 in
          let long = fits-windows room [] (first_text windows head) others refl (subst IsBare (sym (push-first (first_text windows head))) first) (windows-pieces others clear unseparated.1 frees.1) (subst (FitsEach windows room []) listed fits) in
          omega (arith, long, ap length (ap (push_all windows []) (sym listed) ∙ whole), length-map text (λ c. if is_separator Either c then backslash else c));
    }
  where
    bare-any : (head : List ℕ) → IsUnseparated (is_separator Either) head → list_any (is_one_of (colon, backslash)) head ≡ false → IsBare (first_text windows head)
    bare-any [] unseparated free = bare-root
    bare-any (b ∷ bs) unseparated free = bare-first (b ∷ bs) (false_from_ne_true (length (b ∷ bs) == 0) (λ h. absurd (omega (arith, eqb-true _ 0 h)))) unseparated free

-- the body of a path of Windows without blank pieces, and without `/` where it is read verbatim, is written on Unix with its separators turned
module _ (s : Separators) (w : OfWindows s) (x : ℕ) (xs : List ℕ) (without : IsWithoutSlash s (x ∷ xs))
    (head : List ℕ) (others : List (List ℕ)) (cut : pieces Either (x ∷ xs) ≡ head ∷ others) (clear : list_any is_blank others ≡ false) where
  body-listed : map (crossed unix) (body_parts s (x ∷ xs)) ≡ first_text unix head ∷ others
  body-listed = crossed-pieces unix s x xs head others (sym (pieces-own s w (x ∷ xs) without) ∙ cut) clear

  body-turned : push_all unix (first_text unix head) others ≡ turned Either slash (x ∷ xs)
  body-turned = turned-unix x xs head others cut clear

  -- behind nothing
  body-alone : crossed_all unix (body_parts s (x ∷ xs)) ≡ turned Either slash (x ∷ xs)
  body-alone = ap (push_all unix []) body-listed ∙ ap (λ t. push_all unix t others) (push_unix-nothing (first_text unix head)) ∙ body-turned

  -- behind a prefix, where a root stands at its front
  body-rooted : (p : Part) → is_separator Either x ≡ true → crossed_all unix (p ∷ body_parts s (x ∷ xs)) ≡ turned Either slash (x ∷ xs)
  body-rooted p separates = grind (arith, body-listed, pieces, body-turned)

  body-fits : (ps : List Part) → crossed_all unix ps ≡ turned Either slash (x ∷ xs) → (ts : List (List ℕ)) (t : List ℕ) → map (crossed unix) ps ≡ t ∷ ts → (room : ℕ) → FitsEach unix room [] (map (crossed unix) ps) → length (x ∷ xs) ≤ room
  body-fits ps whole ts t listed room fits = grind (arith, fits-unix, length-map)

-- a path of Windows without a prefix
pub crosses-unix : (path text : List ℕ) → parts_of windows path ≡ body_parts Either text → has_blank_behind Either text ≡ false → CrossesTurned windows unix path text
crosses-unix path [] read none = record { is = ap (crossed_all unix) read; fits = λ room fits. omega arith }
crosses-unix path (x ∷ xs) read none =
    let without : IsWithoutSlash Either (x ∷ xs) = λ verbatim. absurd (true≢false (sym verbatim)) in
    let tight = tight-pieces Either (x ∷ xs) none in
    let whole = ap (crossed_all unix) read ∙ body-alone Either refl x xs without tight.0 tight.1 tight.2 tight.3 in
    record {
      is = whole;
      fits = body-fits Either refl x xs without tight.0 tight.1 tight.2 tight.3 (parts_of windows path) whole _ _ (ap (map (crossed unix)) read ∙ body-listed Either refl x xs without tight.0 tight.1 tight.2 tight.3);
    }

-- a path of Windows with a prefix and a root behind it
pub crosses-rooted : (path text : List ℕ) (s : Separators) (p : Part) → OfWindows s → parts_of windows path ≡ p ∷ body_parts s text → IsWithoutSlash s text → has_blank_behind Either text ≡ false → begins_with_separator text ≡ true
    → CrossesTurned windows unix path text
crosses-rooted path [] s p w read without none rooted = absurd (true≢false (sym rooted))
crosses-rooted path (x ∷ xs) s p w read without none rooted =
    let tight = tight-pieces Either (x ∷ xs) none in
    let whole = ap (crossed_all unix) read ∙ body-rooted s w x xs without tight.0 tight.1 tight.2 tight.3 p rooted in
    record {
      is = whole;
      fits = body-fits s w x xs without tight.0 tight.1 tight.2 tight.3 (parts_of windows path) whole _ _ (ap (map (crossed unix)) read);
    }

-- one with a root and nothing else behind its prefix
pub crosses-root : (path text : List ℕ) (s : Separators) (p : Part) → OfWindows s → parts_of windows path ≡ p ∷ body_parts s text → IsWithoutSlash s text → length text ≡ 1 → begins_with_separator text ≡ true → CrossesTurned windows unix path text
crosses-root path [] s p w read without one rooted = grind arith
crosses-root path (x ∷ y ∷ xs) s p w read without one rooted = grind arith
crosses-root path (x ∷ []) s p w read without one rooted = grind (arith, first_parts, separates-own, fits-unix)

-- a byte that is no letter is not that of a drive
pub letter_is : (a c : ℕ) → is_drive_letter c ≡ false → is_drive_letter a ≡ true → (a == c) ≡ false
letter_is a c other own = false_from_ne_true _ (λ h. both_ways (is_drive_letter a) (ap is_drive_letter (eqb-true a c h) ∙ other) own)

-- a drive alone has no separator
drive-turned : (path : List ℕ) (f : Found) → Read (separators windows path) path f → is_disk f.prefix ≡ true → length path ≡ f.length → turned Either slash path ≡ path
drive-turned path f h disk whole = grind arith

-- a prefix alone is written as the root, or as it stands where it is a drive
pub crosses-prefix : (path : List ℕ) (f : Found) → prefix_of windows path ≡ Some f → length path ≡ f.length → CrossesTurned windows unix path (if is_disk f.prefix then path else slash ∷ [])
crosses-prefix path f is whole = by (is_disk f.prefix) refl
  where
    read : parts_of windows path ≡ prefix_part f.prefix path ∷ []
    read =
        parts_of-some path f is
        ∙ ap₂ (λ raw rest. prefix_part f.prefix raw ∷ body_parts (separators windows path) rest) (take_all f.length path (omega (arith, whole))) (drop_all f.length path (omega (arith, whole)))

    by : (disk : Bool) → is_disk f.prefix ≡ disk → CrossesTurned windows unix path (if disk then path else slash ∷ [])
    by true e =
        let listed : map (crossed unix) (parts_of windows path) ≡ path ∷ [] = ap (map (crossed unix)) read ∙ ap (λ d. (if not d then slash ∷ [] else path) ∷ []) e in
        record {
          is = ap (push_all unix []) listed ∙ push_unix-nothing path ∙ sym (drive-turned path f (prefix-read path f is) e whole);
          fits = λ room fits. let long = fits-unix room [] path [] (subst (FitsEach unix room []) listed fits) in omega (arith, long, ap length (push_unix-nothing path));
        }
    by false e =
        let listed : map (crossed unix) (parts_of windows path) ≡ (slash ∷ []) ∷ [] = ap (map (crossed unix)) read ∙ ap (λ d. (if not d then slash ∷ [] else path) ∷ []) e in
        record { is = ap (push_all unix []) listed; fits = λ room fits. fits-unix room [] (slash ∷ []) [] (subst (FitsEach unix room []) listed fits) }
