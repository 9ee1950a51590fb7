-- What is put between a base of Windows and what comes behind it, a list merged into another, and lists spelled and read again.
use Rattle.std.proofs.Common.{◌≡◌, ℕ, ◌-◌, ◌<◌, ◌==◌, true, false, List, [], ◌∷◌, ◌++◌, length, take, slice_index, refl, sym, ap, ◌∙◌, append_assoc, append-nil, subst, eqb-true, arith, ◌||◌, Bool, if◌then◌else◌, zero, suc, ap₂, not, ◌&&◌, cond}
use Rattle.std.proofs.lemmas.Grind.{common_steps}
use Rattle.std.proofs.lemmas.List.Splits.{slice_split_none}
use Rattle.std.proofs.lemmas.Bool.{eqb-false, and_parts, or_parts, not-true}
use Rattle.std.specs.List.{AllByRecursion, list_any, list_all, slice_split, onto_first}
use Rattle.std.proofs.lemmas.List.Folds.{list_any_none, list_any-append}
use Rattle.typed_path.specs.declared.scan.separators.Separators.{Separators}
use Rattle.typed_path.specs.declared.scan.separators.Separators.TheVariants.{Slash, Backslash, Either}
use Rattle.typed_path.specs.components.{is_separator, windows, backslash, root_text, slash, is_verbatim, name_part, kinds, Kind, prefix, root, current, parent, normal, Part, current_part, parent_part, root_part, parts_of, is_dot, is_dot_dot}
use Rattle.typed_path.specs.changes.{ended_with, is_disk_alone, ended_windows, without_last_name, merge_by_kind, merged, joint, spelled, is_component, is_row}
use Rattle.typed_path.specs.places.{overdraws, resolve}
use Rattle.typed_path.specs.queries.{begins_with_root}
use Rattle.typed_path.proofs.lemmas.lists.Lists.{slice_split-some, slice_split-append, AllByRecursion-append, IsUnseparated, slice_split-unseparated, but_last}
use Rattle.typed_path.proofs.lemmas.components.Segments.{pieces, first_parts, later_parts, body_parts, later_part, first_part, IsWritten, IsWrittenPart, IsLater, IsLaterPart, AreRead, later_parts-later, dot-is, dot_dot-is, later-relative}
use Rattle.typed_path.proofs.lemmas.components.PrefixCuts.{IsUnended}
use Rattle.typed_path.proofs.lemmas.places.Resolving.{IsKept, resolve-same, Alike, Alike-append, current-alike, no_heads}
use Rattle.typed_path.proofs.lemmas.components.Prefixes.{OfWindows, backslash-separates, backslash-free}

-- A base of Windows with a separator put behind it, where it needs one.

-- what is put behind a base: nothing behind an empty one, behind `\`, and behind a drive alone, and `\` behind another
pub data Ending (base : List ℕ) : List ℕ → Type 0 where
  empty : base ≡ [] → Ending base []
  ended : (front : List ℕ) → base ≡ front ++ backslash ∷ [] → Ending base []
  drive_alone : is_disk_alone (kinds (parts_of windows base)) ≡ true → Ending base []
  parted : is_disk_alone (kinds (parts_of windows base)) ≡ false → 0 < length base → IsUnended base → Ending base (backslash ∷ [])

-- a base, and what is put behind it
abbrev pub HasEnding : List ℕ → List ℕ → Type 0
HasEnding base text = (mid : List ℕ) × (text ≡ base ++ mid) × Ending base mid

-- a text whose last byte is another does not end with `\`
unended-last : (base : List ℕ) → (slice_index base (length base - 1) == backslash) ≡ false → IsUnended base
unended-last base other front is = grind (arith, common_steps)

-- a base that is no drive alone
ended_with-ending : (base : List ℕ) → is_disk_alone (kinds (parts_of windows base)) ≡ false → HasEnding base (ended_with backslash base)
ended_with-ending base no_drive = by (length base == 0) refl (slice_index base (length base - 1) == backslash) refl
  where
    by : (lacking : Bool) → (length base == 0) ≡ lacking → (last : Bool) → (slice_index base (length base - 1) == backslash) ≡ last
        → HasEnding base (if (lacking || last) then base else base ++ backslash ∷ [])
    by true e last h = ([], sym (append-nil base), empty (nothing base e))
      where
        nothing : (t : List ℕ) → (length t == 0) ≡ true → t ≡ []
        nothing [] e = refl
        nothing (b ∷ bs) e = absurd (omega (arith, eqb-true _ 0 e))
    by false e true h =
        ([], sym (append-nil base), ended (take (length base - 1) base) (but_last base e ∙ ap (λ c. take (length base - 1) base ++ c ∷ []) (eqb-true _ backslash h)))
    by false e false h = (backslash ∷ [], refl, parted no_drive (grind (arith, eqb-false)) (unended-last base h))

-- each base
pub ending : (base : List ℕ) → HasEnding base (ended_windows base)
ending base = by (is_disk_alone (kinds (parts_of windows base))) refl
  where
    by : (drive : Bool) → is_disk_alone (kinds (parts_of windows base)) ≡ drive → HasEnding base (if drive then base else ended_with backslash base)
    by true e = ([], sym (append-nil base), drive_alone e)
    by false e = ended_with-ending base e

-- A list of names, currents and parents that overdraws nothing, merged into another: what it resolves to is put behind.

-- a component that is a name
abbrev named : List ℕ → List ℕ → Part
named name text = record { kind = normal name; text = text }

-- so many names
data Names : ℕ → List Part → Type 0 where
  none : Names zero []
  more : {n : ℕ} {ps : List Part} (name text : List ℕ) → Names n ps → Names (suc n) (ps ++ named name text ∷ [])

-- names are kept
names-kept : (n : ℕ) (ps : List Part) → Names n ps → AllByRecursion IsKept ps
names-kept _ _ none = tt
names-kept _ _ (more {n = m} {ps = rs} name text names) = AllByRecursion-append IsKept rs (named name text ∷ []) (names-kept m rs names) (refl, tt)

-- a name with a parent behind it is nothing
named-alike : (name text word : List ℕ) (ps : List Part) → Alike (named name text ∷ record { kind = parent; text = word } ∷ ps) ps
named-alike name text word ps = record { draws = λ names. refl; resolves = refl }

-- the last name taken off a list
without_last_name-append : (ps : List Part) (name text : List ℕ) → without_last_name (ps ++ named name text ∷ []) ≡ ps
without_last_name-append [] name text = refl
without_last_name-append (p ∷ []) name text = refl
without_last_name-append (p ∷ q ∷ ps) name text = ap (λ qs. p ∷ qs) (without_last_name-append (q ∷ ps) name text)

-- names at the end of a list take in what follows
merged-names : (ps rs qs : List Part) (n : ℕ) → Names n rs → overdraws n (kinds qs) ≡ false → no_heads (kinds qs) ≡ true → merged (ps ++ rs) qs ≡ ps ++ resolve (rs ++ qs)
merged-names ps rs [] n names closed headless = ap (λ qs. ps ++ qs) (sym (ap resolve (append-nil rs) ∙ resolve-same rs (names-kept n rs names)))
merged-names ps rs (q ∷ qs) n names closed headless = by q.kind q.text n rs names closed headless (λ rs n. merged-names ps rs qs n)
  where
    by : (k : Kind) (word : List ℕ) (n : ℕ) (rs : List Part) → Names n rs → overdraws n (k ∷ kinds qs) ≡ false → no_heads (k ∷ kinds qs) ≡ true
        → ((rs : List Part) (n : ℕ) → Names n rs → overdraws n (kinds qs) ≡ false → no_heads (kinds qs) ≡ true → merged (ps ++ rs) qs ≡ ps ++ resolve (rs ++ qs))
        → merged (merge_by_kind (ps ++ rs) (record { kind = k; text = word }) k) qs ≡ ps ++ resolve (rs ++ record { kind = k; text = word } ∷ qs)
    by (prefix p) word n rs names closed headless again = cc
    by root word n rs names closed headless again = cc
    by current word n rs names closed headless again =
        again rs n names closed headless ∙ ap (λ ts. ps ++ ts) (sym (Alike-append rs _ qs (current-alike word qs)).resolves)
    by parent word zero rs names closed headless again = cc
    by parent word (suc n) _ (more {ps = ts} name text names) closed headless again =
        ap (λ us. merged (without_last_name us) qs) (sym (append_assoc ps ts (named name text ∷ [])))
        ∙ ap (λ us. merged us qs) (without_last_name-append (ps ++ ts) name text)
        ∙ again ts n names closed headless
        ∙ ap (λ us. ps ++ us) (sym (Alike-append ts _ qs (named-alike name text word qs)).resolves)
        ∙ ap (λ us. ps ++ resolve us) (sym (append_assoc ts (named name text ∷ []) (record { kind = parent; text = word } ∷ qs)))
    by (normal name) text n rs names closed headless again =
        ap (λ ts. merged ts qs) (append_assoc ps rs (named name text ∷ []))
        ∙ again (rs ++ named name text ∷ []) (suc n) (more name text names) closed headless
        ∙ ap (λ ts. ps ++ resolve ts) (append_assoc rs (named name text ∷ []) qs)

-- a list without prefixes and roots that overdraws nothing is merged as what it resolves to
pub merged-resolve : (ps qs : List Part) → overdraws zero (kinds qs) ≡ false → no_heads (kinds qs) ≡ true → merged ps qs ≡ ps ++ resolve qs
merged-resolve ps qs closed headless = ap (λ ts. merged ts qs) (sym (append-nil ps)) ∙ merged-names ps [] qs zero none closed headless

-- A list as it is read behind a prefix of Windows, spelled and read again.

-- what a text is that gives one component, as a later piece
pub record IsPiece (s : Separators) (k : Kind) (text : List ℕ) : Type 0 where
  pub unseparated : IsUnseparated (is_separator s) text
  pub later : later_part s text ≡ record { kind = k; text = text } ∷ []
  pub filled : (length text == 0) ≡ false

-- a later component is one piece
pub later-piece : (s : Separators) (k : Kind) (text : List ℕ) → IsLater s k text → IsPiece s k text
later-piece s k text later = grind arith

-- between components that are no roots stands a separator
pub joint-relative : (k l : Kind) → begins_with_root (k ∷ []) ≡ false → begins_with_root (l ∷ []) ≡ false → joint k l ≡ backslash ∷ []
joint-relative root l first second = cc
joint-relative k root first second = cc
joint-relative k l first second = refl

-- a text that is not empty is read from its pieces
body_parts-filled : (s : Separators) (text : List ℕ) → (length text == 0) ≡ false → body_parts s text ≡ first_parts s (pieces s text)
body_parts-filled s text filled = grind arith

-- so is a list
pub spelled-filled : (s : Separators) (p : Part) (ps : List Part) → IsWrittenPart s p → (length (spelled (p ∷ ps)) == 0) ≡ false
spelled-filled s p ps written = grind arith

module _ (s : Separators) (w : OfWindows s) where
  -- later components, spelled, are read again as later pieces
  pub later_parts-spelled : (p : Part) (ps : List Part) → AllByRecursion (IsLaterPart s) (p ∷ ps) → later_parts s (pieces s (spelled (p ∷ ps))) ≡ p ∷ ps
  later_parts-spelled p [] later =
      let one = later-piece s p.kind p.text later.0 in
      ap (later_parts s) (slice_split_none (is_separator s) p.text one.unseparated) ∙ append-nil (later_part s p.text) ∙ one.later
  later_parts-spelled p (q ∷ ps) later =
      let one = later-piece s p.kind p.text later.0 in
      let rest = spelled (q ∷ ps) in
      ap (λ j. later_parts s (pieces s (p.text ++ j ++ rest))) (joint-relative p.kind q.kind (later-relative s p.kind p.text later.0) (later-relative s q.kind q.text later.1.0))
      ∙ ap (λ t. later_parts s (pieces s t)) (append_assoc p.text (backslash ∷ []) rest)
      ∙ ap (later_parts s) (slice_split-append (is_separator s) p.text backslash rest (backslash-separates s w))
      ∙ ap (λ ts. later_parts s (ts ++ pieces s rest)) (slice_split_none (is_separator s) p.text one.unseparated)
      ∙ ap₂ ◌++◌ one.later (later_parts-spelled q ps later.1)

  -- behind a first component that is no root stand later ones
  first_parts-behind : (p : Part) (ps : List Part) → begins_with_root (p.kind ∷ []) ≡ false → IsUnseparated (is_separator s) p.text → first_part s p.text ≡ p
      → AllByRecursion (IsLaterPart s) ps → first_parts s (pieces s (spelled (p ∷ ps))) ≡ p ∷ ps
  first_parts-behind p [] relative unseparated first later = ap (first_parts s) (slice_split_none (is_separator s) p.text unseparated) ∙ ap (λ q. q ∷ []) first
  first_parts-behind p (q ∷ ps) relative unseparated first later =
      let rest = spelled (q ∷ ps) in
      ap (λ j. first_parts s (pieces s (p.text ++ j ++ rest))) (joint-relative p.kind q.kind relative (later-relative s q.kind q.text later.0))
      ∙ ap (λ t. first_parts s (pieces s t)) (append_assoc p.text (backslash ∷ []) rest)
      ∙ ap (first_parts s) (slice_split-append (is_separator s) p.text backslash rest (backslash-separates s w))
      ∙ ap (λ ts. first_parts s (ts ++ pieces s rest)) (slice_split_none (is_separator s) p.text unseparated)
      ∙ ap₂ ◌∷◌ first (later_parts-spelled q ps later)

  -- behind a root stands no separator
  first_parts-root : (ps : List Part) → AllByRecursion (IsLaterPart s) ps → first_parts s (pieces s (spelled (root_part (root_text s) ∷ ps))) ≡ root_part (root_text s) ∷ ps
  first_parts-root ps later = grind (arith, backslash-separates, pieces, later_parts-spelled)

  -- a first component is read again, with later ones behind it
  abbrev IsReadAgain : Kind → List Part → List ℕ → Type 0
  IsReadAgain k ps text = first_parts s (pieces s (spelled (record { kind = k; text = text } ∷ ps))) ≡ record { kind = k; text = text } ∷ ps

  -- each first component is
  first_parts-spelled : (k : Kind) (text : List ℕ) (ps : List Part) → IsWritten s k text → AllByRecursion (IsLaterPart s) ps → IsReadAgain k ps text
  first_parts-spelled k text ps written later = grind (arith, first_parts-root, first_parts-behind)

  -- a list as it is read, spelled, is read again
  pub body_parts-spelled : (p : Part) (ps : List Part) → AreRead s (p ∷ ps) → body_parts s (spelled (p ∷ ps)) ≡ p ∷ ps
  body_parts-spelled p ps read = body_parts-filled s (spelled (p ∷ ps)) (spelled-filled s p ps read.0) ∙ first_parts-spelled p.kind p.text ps read.0 read.1

-- Texts of Windows that hold components with `\` between them, as they are read.

-- pieces with `\` between them
abbrev pub joined : List (List ℕ) → List ℕ
joined [] = []
joined (piece ∷ []) = piece
joined (piece ∷ next ∷ further) = piece ++ backslash ∷ joined (next ∷ further)

-- a text is its pieces with `\` between them
pub joined-split : (text : List ℕ) → joined (slice_split (is_separator Backslash) text) ≡ text
joined-split [] = grind arith
joined-split (b ∷ bs) = grind (arith, slice_split-some, eqb-true, joined-split bs)

-- without `/` both separators split as `\` does
pub split-either : (text : List ℕ) → list_any (is_separator Slash) text ≡ false → slice_split (is_separator Either) text ≡ slice_split (is_separator Backslash) text
split-either [] lacking = refl
split-either (b ∷ bs) lacking =
    let both = or_parts (b == slash) (list_any (is_separator Slash) bs) lacking in
    ap₂ (λ x ps. cond (x || b == backslash) ([] ∷ ps) (onto_first b ps)) both.0 (split-either bs both.1)

-- a piece that is one component, and how that is written
record IsOne (s : Separators) (piece : List ℕ) : Type 0 where
  pub part : Part
  pub is : later_part s piece ≡ part ∷ []
  pub same : part.text ≡ piece
  pub relative : begins_with_root (part.kind ∷ []) ≡ false

-- so is each component of a row
one-component : (s : Separators) (piece : List ℕ) → is_component s piece ≡ true → IsOne s piece
one-component s piece h = by (length piece == 0) refl (is_dot piece) refl (is_verbatim s) refl (is_dot_dot piece) refl h
  where
    by : (blank : Bool) → (length piece == 0) ≡ blank → (dotted : Bool) → is_dot piece ≡ dotted → (verbatim : Bool) → is_verbatim s ≡ verbatim → (two : Bool) → is_dot_dot piece ≡ two
        → not (blank || (dotted && not verbatim)) ≡ true → IsOne s piece
    by false e true d true v two t h = record { part = current_part; is = rw (e, d, v) refl; same = sym (dot-is piece d); relative = refl }
    by false e false d verbatim v true t h = record { part = parent_part; is = rw (e, d, t) refl; same = sym (dot_dot-is piece t); relative = refl }
    by false e false d verbatim v false t h = record { part = name_part piece; is = rw (e, d, t) refl; same = refl; relative = refl }
    by blank e dotted d verbatim v two t h = cc

-- pieces that are components, spelled
record AreListed (s : Separators) (ps : List (List ℕ)) : Type 0 where
  pub first : Part
  pub others : List Part
  pub is : later_parts s ps ≡ first ∷ others
  pub same : spelled (first ∷ others) ≡ joined ps
  pub relative : begins_with_root (first.kind ∷ []) ≡ false

listed : (s : Separators) (piece : List ℕ) (further : List (List ℕ)) → list_all (is_component s) (piece ∷ further) ≡ true → AreListed s (piece ∷ further)
listed s piece [] h =
    let one = one-component s piece (and_parts (is_component s piece) true h).0 in
    record { first = one.part; others = []; is = ap (λ ps. ps ++ []) one.is; same = one.same; relative = one.relative }
listed s piece (next ∷ further) h =
    let both = and_parts (is_component s piece) (list_all (is_component s) (next ∷ further)) h in
    let one = one-component s piece both.0 in
    let rest = listed s next further both.1 in
    record {
      first = one.part;
      others = rest.first ∷ rest.others;
      is = ap₂ ◌++◌ one.is rest.is;
      same = ap (λ j. one.part.text ++ j ++ spelled (rest.first ∷ rest.others)) (joint-relative one.part.kind rest.first.kind one.relative rest.relative)
          ∙ append_assoc one.part.text (backslash ∷ []) (spelled (rest.first ∷ rest.others))
          ∙ ap₂ (λ t u. t ++ backslash ∷ u) one.same rest.same;
      relative = one.relative;
    }

-- a row, read as later components and spelled again
pub record IsRead (s : Separators) (text : List ℕ) : Type 0 where
  pub first : Part
  pub others : List Part
  pub later : AllByRecursion (IsLaterPart s) (first ∷ others)
  pub same : spelled (first ∷ others) ≡ text

pub row-read : (s : Separators) (text : List ℕ) → OfWindows s → is_row s text ≡ true → IsRead s text
row-read s text w h =
    let both = and_parts (is_verbatim s || not (list_any (is_separator Slash) text)) _ h in
    let some = slice_split-some (is_separator Backslash) text in
    let split : pieces s text ≡ some.0 ∷ some.1 = by s w both.0 ∙ some.2 in
    let all = listed s some.0 some.1 (ap (list_all (is_component s)) (sym some.2) ∙ both.1) in
    let is : later_parts s (pieces s text) ≡ all.first ∷ all.others = ap (later_parts s) split ∙ all.is in
    record {
      first = all.first;
      others = all.others;
      later = subst (AllByRecursion (IsLaterPart s)) is (later_parts-later s (pieces s text) (slice_split-unseparated (is_separator s) text));
      same = all.same ∙ ap joined (sym some.2) ∙ joined-split text;
    }
  where
    by : (s : Separators) → OfWindows s → (is_verbatim s || not (list_any (is_separator Slash) text)) ≡ true → pieces s text ≡ slice_split (is_separator Backslash) text
    by s w h = grind (arith, split-either, not-true)

-- a later component is a component as it stands
component-later : (s : Separators) (k : Kind) (text : List ℕ) → IsLater s k text → is_component s text ≡ true
component-later s k text later = grind arith

-- a later component holds no `/`, unless the text is read verbatim
piece-slash_free : (p : Part) → IsLaterPart Either p → list_any (is_separator Slash) p.text ≡ false
piece-slash_free p later = list_any_none (is_separator Slash) p.text (λ k d l. (or_parts _ _ ((later-piece Either p.kind p.text later).unseparated k d l)).0)

-- nor do later components, spelled
slash-free : (p : Part) (ps : List Part) → AllByRecursion (IsLaterPart Either) (p ∷ ps) → list_any (is_separator Slash) (spelled (p ∷ ps)) ≡ false
slash-free p [] later = piece-slash_free p later.0
slash-free p (q ∷ ps) later = grind (arith, common_steps, joint-relative, later-relative, list_any-append, piece-slash_free, slash-free q ps later.1)

-- each piece of later components, spelled, is one
components-spelled : (s : Separators) → OfWindows s → (p : Part) (ps : List Part) → AllByRecursion (IsLaterPart s) (p ∷ ps)
    → list_all (is_component s) (slice_split (is_separator Backslash) (spelled (p ∷ ps))) ≡ true
components-spelled s w p [] later =
    let free = backslash-free s w p.text (later-piece s p.kind p.text later.0).unseparated in
    ap (list_all (is_component s)) (slice_split_none (is_separator Backslash) p.text free) ∙ ap (λ x. x && true) (component-later s p.kind p.text later.0)
components-spelled s w p (q ∷ ps) later =
    let free = backslash-free s w p.text (later-piece s p.kind p.text later.0).unseparated in
    let rest = spelled (q ∷ ps) in
    let split = slice_split (is_separator Backslash) in
    ap (λ j. list_all (is_component s) (split (p.text ++ j ++ rest))) (joint-relative p.kind q.kind (later-relative s p.kind p.text later.0) (later-relative s q.kind q.text later.1.0))
    ∙ ap (λ t. list_all (is_component s) (split t)) (append_assoc p.text (backslash ∷ []) rest)
    ∙ ap (list_all (is_component s)) (slice_split-append (is_separator Backslash) p.text backslash rest refl ∙ ap (λ ts. ts ++ split rest) (slice_split_none (is_separator Backslash) p.text free))
    ∙ ap₂ ◌&&◌ (component-later s p.kind p.text later.0) (components-spelled s w q ps later.1)

-- so later components, spelled, are a row
pub row-spelled : (s : Separators) → OfWindows s → (p : Part) (ps : List Part) → AllByRecursion (IsLaterPart s) (p ∷ ps) → is_row s (spelled (p ∷ ps)) ≡ true
row-spelled s w p ps later = grind (arith, components-spelled, slash-free)
