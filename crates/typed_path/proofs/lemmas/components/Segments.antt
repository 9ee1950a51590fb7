-- Segments, a body taken apart at a separator, the components read off its pieces, also of a text with more put behind a separator at its end, and the first component of a clean text.
use Rattle.std.proofs.Common.{◌≡◌, ℕ, ◌==◌, Bool, true, false, cond, List, [], ◌∷◌, length, refl, eqb-true, ◌+◌, ◌<◌, ◌≤◌, ◌++◌, not, ◌&&◌, ◌||◌, eqb, take, drop, get_or, sym, ap, ◌∙◌, arith, All, inl, inr, append-nil, append_assoc, if◌then◌else◌, map, Option, Some, None, flat_map, length-take-le}
use Rattle.std.proofs.lemmas.Grind.{common_steps}
use Rattle.std.specs.List.{slice_split, before_first, after_first, position_or_len, onto_first, AllByRecursion}
use Rattle.std.proofs.lemmas.List.{drop_more, drop_all, take-append-le, map-append}
use Rattle.std.proofs.lemmas.List.Splits.{slice_split_none, slice_split_first}
use Rattle.std.proofs.lemmas.List.Sums.{prefix_len_passes, prefix_len_stops, prefix_len-le-length}
use Rattle.std.proofs.lemmas.Bool.{cases_lt, not-true, not-false, not_from_true}
use Rattle.std.proofs.lemmas.List.Concat.{flat_map-append}
use Rattle.std.specs.Prelude.{⊤}
use Rattle.typed_path.specs.declared.scan.separators.Separators.{Separators}
use Rattle.typed_path.specs.declared.scan.cursor.Begin.{Begin}
use Rattle.typed_path.specs.declared.scan.cursor.Begin.TheVariants.{Body, Inside}
use Rattle.typed_path.specs.components.{is_verbatim, root_text, is_separator, dot, Placed, current_part, parent_part, name_part, root_part, Part, Kind, prefix, root, current, parent, normal, parts, kinds, texts, prefix_part, Segment, component, later, first, is_dot, is_dot_dot, placed, segments, later_body, body_of, named, body, comps_behind, Found, unix, parts_of}
use Rattle.typed_path.specs.queries.{begins_with_root}
use Rattle.typed_path.specs.scan.{body_from, is_clean, counts, slice_after_front}
use Rattle.typed_path.proofs.lemmas.lists.Lists.{slice_split-some, slice_split-append, choice, IsUnseparated, slice_split-unseparated, AllByRecursion-weaker, map-through, before_first-byte, but_last}
use Rattle.typed_path.specs.declared.scan.separators.Separators.TheVariants.{Slash}
use Rattle.typed_path.specs.changes.{ended_with}

-- What a segment is, and what is made of it as a later one and as the first one.

-- an empty segment, a `.` that counts only in front, one that always counts, `..`, and a name
pub data Seen (s : Separators) (g : Segment) : List Placed → List Placed → Type 0 where
  empty : length g.text ≡ 0 → Seen s g [] (component (root_part (root_text s)) g.start)
  passed_dot : length g.text ≡ 1 → Seen s g [] (component current_part g.start)
  kept_dot : length g.text ≡ 1 → Seen s g (component current_part g.start) (component current_part g.start)
  dot_dot : length g.text ≡ 2 → Seen s g (component parent_part g.start) (component parent_part g.start)
  word : (length g.text == 0) ≡ false → Seen s g (component (name_part g.text) g.start) (component (name_part g.text) g.start)

-- `.` and `..` are told by their tests
pub dot-is : (piece : List ℕ) → is_dot piece ≡ true → piece ≡ dot ∷ []
dot-is piece h = grind arith

pub dot_dot-is : (piece : List ℕ) → is_dot_dot piece ≡ true → piece ≡ dot ∷ dot ∷ []
dot_dot-is piece h = grind arith

-- every segment is one of these
pub seen : (s : Separators) (g : Segment) → Seen s g (later s g) (first s g)
seen s g = by (length g.text == 0) refl (is_dot g.text) refl (is_verbatim s) (is_dot_dot g.text) refl
  where
    by : (none : Bool) → (length g.text == 0) ≡ none → (dotted : Bool) → is_dot g.text ≡ dotted → (verbatim : Bool) → (twice : Bool) → is_dot_dot g.text ≡ twice
        → Seen s g (cond none [] (cond dotted (cond verbatim (component current_part g.start) []) (cond twice (component parent_part g.start) (component (name_part g.text) g.start))))
        (cond none (component (root_part (root_text s)) g.start) (cond dotted (component current_part g.start) (cond twice (component parent_part g.start) (component (name_part g.text) g.start))))
    by true e dotted f verbatim twice h = empty (eqb-true _ 0 e)
    by false e true f true twice h = kept_dot (ap length (dot-is g.text f))
    by false e true f false twice h = passed_dot (ap length (dot-is g.text f))
    by false e false f verbatim true h = dot_dot (ap length (dot_dot-is g.text h))
    by false e false f verbatim false h = word e

-- A body, taken apart at its first separator.

-- what stands before the first separator, byte by byte
pub segment-byte : (s : Separators) (b : ℕ) (bs : List ℕ) → before_first (is_separator s) (b ∷ bs) ≡ cond (is_separator s b) [] (b ∷ before_first (is_separator s) bs)
segment-byte s b bs = before_first-byte (is_separator s) b bs

-- a separator at the front of what stands behind a component is nothing
pub later_body-separator : (s : Separators) (at x : ℕ) (xs : List ℕ) → is_separator s x ≡ true → later_body s at (x ∷ xs) ≡ later_body s (at + 1) xs
later_body-separator s at x xs h = grind arith

-- what is left of the segments once the first is taken, and the components of it
record Behind (s : Separators) (at : ℕ) (text : List ℕ) : Type 0 where
  pub rest : List Segment
  pub split : segments s at text ≡ record { text = before_first (is_separator s) text; start = at } ∷ rest
  pub components : flat_map (later s) rest ≡ later_body s (at + position_or_len (is_separator s) text) (drop (position_or_len (is_separator s) text) text)

module _ (s : Separators) (at : ℕ) (text : List ℕ) where
  none_separates : length text ≤ position_or_len (is_separator s) text → All (λ b. is_separator s b ≡ false) text
  none_separates h k d l = not-true _ (prefix_len_passes (λ b. not (is_separator s b)) text k d (omega arith))

  behind_last : length text ≤ position_or_len (is_separator s) text → Behind s at text
  behind_last h = grind (arith, common_steps, slice_split_none, none_separates, drop_all)

  behind_separator : position_or_len (is_separator s) text < length text → Behind s at text
  behind_separator h = record {
    rest = placed (at + length (before_first (is_separator s) text) + 1) (slice_split (is_separator s) (after_first (is_separator s) text));
    split = ap (placed at) (slice_split_first (is_separator s) text 0 h);
    components =
        let n = position_or_len (is_separator s) text in
        ap (λ m. flat_map (later s) (placed (at + m + 1) (slice_split (is_separator s) (after_first (is_separator s) text)))) (length-take-le n text (omega arith))
        ∙ sym (later_body-separator s (at + n) (get_or text n 0) (drop (n + 1) text) (not-false _ (prefix_len_stops (λ b. not (is_separator s b)) text 0 h)))
        ∙ ap (later_body s (at + n)) (sym (drop_more text n 0 h));
  }

  behind : Behind s at text
  behind = elim (cases_lt (position_or_len (is_separator s) text) (length text)) [ inl h ↦ behind_separator h | inr h ↦ behind_last h ]

  -- the first segment, and then the components of what stands behind it
  pub later_body-first : later_body s at text ≡ later s (record { text = before_first (is_separator s) text; start = at })
      ++ later_body s (at + position_or_len (is_separator s) text) (drop (position_or_len (is_separator s) text) text)
  later_body-first = grind (arith, behind)

  pub body_of-first : body_of s (segments s at text) ≡ first s (record { text = before_first (is_separator s) text; start = at })
      ++ later_body s (at + position_or_len (is_separator s) text) (drop (position_or_len (is_separator s) text) text)
  body_of-first = grind (arith, behind)

-- a later segment that counts is read as a first one, by the tests
later_by_tests : (empty dotted verbatim : Bool) (named rooting dotting : List Placed) → not empty && (verbatim || not dotted) ≡ true
    → cond empty [] (cond dotted (cond verbatim dotting []) named) ≡ cond empty rooting (cond dotted dotting named)
later_by_tests e dotted verbatim named rooting dotting h = grind arith

-- the same, for the segment
pub later-first : (s : Separators) (g : Segment) → counts s g.text ≡ true → later s g ≡ first s g
later-first s g h = later_by_tests (eqb (length g.text) 0) (is_dot g.text) (is_verbatim s) (named g) _ _ h

-- the first component, and then those behind it, of a text that begins with one
pub body_from-first : (begin : Begin) (s : Separators) (at b : ℕ) (bs : List ℕ) → is_clean begin s (b ∷ bs) ≡ true
    → body_from begin s at (b ∷ bs) ≡ first s (record { text = before_first (is_separator s) (b ∷ bs); start = at })
    ++ later_body s (at + position_or_len (is_separator s) (b ∷ bs)) (drop (position_or_len (is_separator s) (b ∷ bs)) (b ∷ bs))
body_from-first Body s at b bs h = body_of-first s at (b ∷ bs)
body_from-first Inside s at b bs h =
    let n = position_or_len (is_separator s) (b ∷ bs) in
    later_body-first s at (b ∷ bs)
    ∙ ap (λ cs. cs ++ later_body s (at + n) (drop n (b ∷ bs))) (later-first s (record { text = before_first (is_separator s) (b ∷ bs); start = at }) h)

-- a first segment is a component at its place
first_is_component : (s : Separators) (g : Segment) → (p : Part) × (first s g ≡ component p g.start)
first_is_component s g = by (later s g) (first s g) (seen s g)
  where
    by : (own front : List Placed) → Seen s g own front → (p : Part) × (front ≡ component p g.start)
    by _ _ (empty e) = (root_part (root_text s), refl)
    by _ _ (passed_dot e) = (current_part, refl)
    by _ _ (kept_dot e) = (current_part, refl)
    by _ _ (dot_dot e) = (parent_part, refl)
    by _ _ (word e) = (name_part g.text, refl)

-- an empty text has no component
pub body_from-empty : (begin : Begin) (s : Separators) (at : ℕ) → body_from begin s at [] ≡ []
body_from-empty begin s at = grind arith

-- a clean text begins with its first component
pub body_from-starts : (begin : Begin) (s : Separators) (at b : ℕ) (bs : List ℕ) → is_clean begin s (b ∷ bs) ≡ true
    → (p : Part) × (cs : List Placed) × (body_from begin s at (b ∷ bs) ≡ record { part = p; start = at } ∷ cs)
body_from-starts begin s at b bs clean =
    let n = position_or_len (is_separator s) (b ∷ bs) in
    let g : Segment = record { text = before_first (is_separator s) (b ∷ bs); start = at } in
    let p = first_is_component s g in
    (p.0, later_body s (at + n) (drop n (b ∷ bs)), body_from-first begin s at b bs clean ∙ ap (λ cs. cs ++ later_body s (at + n) (drop n (b ∷ bs))) p.1)

-- behind the first component the slice left begins with the next one
pub slice_after_front-first : (begin : Begin) (s : Separators) (p : Part) (at k : ℕ) (slice : List ℕ) → is_clean begin s (drop k slice) ≡ true
    → slice_after_front (component p at ++ body_from begin s (at + k) (drop k slice)) slice ≡ drop k slice
slice_after_front-first begin s p at k slice clean = grind (arith, common_steps)

-- A text with a separator in it, read as what stands before that and what stands behind.

-- where the piece behind these pieces begins
abbrev place_behind : ℕ → List (List ℕ) → ℕ
place_behind at [] = at
place_behind at (piece ∷ pieces) = place_behind (at + length piece + 1) pieces

-- pieces behind others
placed-append : (at : ℕ) (ps qs : List (List ℕ)) → placed at (ps ++ qs) ≡ placed at ps ++ placed (place_behind at ps) qs
placed-append at [] qs = refl
placed-append at (p ∷ ps) qs = ap (λ gs. record { text = p; start = at } ∷ gs) (placed-append (at + length p + 1) ps qs)

-- the piece behind a text begins one separator on
place_behind-split : (s : Separators) (at : ℕ) (us : List ℕ) → place_behind at (slice_split (is_separator s) us) ≡ at + length us + 1
place_behind-split s at [] = refl
place_behind-split s at (u ∷ us) =
    let some = slice_split-some (is_separator s) us in
    by (λ n. place_behind-split s n us) (is_separator s u) some.0 some.1 some.2
  where
    by : ((n : ℕ) → place_behind n (slice_split (is_separator s) us) ≡ n + length us + 1) → (b : Bool) (piece : List ℕ) (pieces : List (List ℕ)) → slice_split (is_separator s) us ≡ piece ∷ pieces
        → place_behind at (cond b ([] ∷ slice_split (is_separator s) us) (onto_first u (slice_split (is_separator s) us))) ≡ at + length (u ∷ us) + 1
    by again true piece pieces e = again (at + 0 + 1) ∙ omega arith
    by again false piece pieces e =
        ap (λ ps. place_behind at (onto_first u ps)) e
        ∙ ap (λ n. place_behind n pieces) (omega arith)
        ∙ ap (place_behind (at + 1)) (sym e)
        ∙ again (at + 1)
        ∙ omega arith

-- the components before a separator: an empty text is a segment too
abbrev opened : Begin → Separators → ℕ → List ℕ → List Placed
opened Body s at us = body_of s (segments s at us)
opened Inside s at us = later_body s at us

module _ (s : Separators) (at x : ℕ) (separates : is_separator s x ≡ true) where
  -- the segments before a separator, and then those behind it
  segments-append : (us vs : List ℕ) → segments s at (us ++ x ∷ vs) ≡ segments s at us ++ segments s (at + length us + 1) vs
  segments-append us vs = grind (arith, slice_split-append, placed-append, place_behind-split)

  -- the same of the components, where the first segment is the first of all
  body_of-append : (us vs : List ℕ) → body_of s (segments s at (us ++ x ∷ vs)) ≡ body_of s (segments s at us) ++ later_body s (at + length us + 1) vs
  body_of-append us vs =
      let some = slice_split-some (is_separator s) us in
      let behind = segments s (at + length us + 1) vs in
      ap (body_of s) (segments-append us vs)
      ∙ ap (λ ps. body_of s (placed at ps ++ behind)) some.2
      ∙ ap (λ cs. first s (record { text = some.0; start = at }) ++ cs) (flat_map-append (later s) (placed (at + length some.0 + 1) some.1) behind)
      ∙ sym (append_assoc (first s (record { text = some.0; start = at })) (flat_map (later s) (placed (at + length some.0 + 1) some.1)) (flat_map (later s) behind))
      ∙ ap (λ ps. body_of s (placed at ps) ++ flat_map (later s) behind) (sym some.2)

  -- the components before a separator, and then those behind it
  opened-append : (begin : Begin) (us vs : List ℕ) → body_from begin s at (us ++ x ∷ vs) ≡ opened begin s at us ++ later_body s (at + length us + 1) vs
  opened-append Body [] vs = body_of-append [] vs
  opened-append Body (u ∷ us) vs = body_of-append (u ∷ us) vs
  opened-append Inside us vs = ap (flat_map (later s)) (segments-append us vs) ∙ flat_map-append (later s) (segments s at us) (segments s (at + length us + 1) vs)

  -- nothing stands behind a separator at the end
  opened-separator : (begin : Begin) (us : List ℕ) → body_from begin s at (us ++ x ∷ []) ≡ opened begin s at us
  opened-separator begin us = opened-append begin us [] ∙ append-nil (opened begin s at us)

  -- the same, where the separator stays with what stands before it
  pub body_from-append : (begin : Begin) (us vs : List ℕ) → body_from begin s at (us ++ x ∷ vs) ≡ body_from begin s at (us ++ x ∷ []) ++ later_body s (at + length us + 1) vs
  body_from-append begin us vs = opened-append begin us vs ∙ ap (λ cs. cs ++ later_body s (at + length us + 1) vs) (sym (opened-separator begin us))

  -- a separator at the end of a text that is not empty adds no component
  pub body_from-separator : (begin : Begin) (u : ℕ) (us : List ℕ) → body_from begin s at (u ∷ us ++ x ∷ []) ≡ body_from begin s at (u ∷ us)
  body_from-separator Body u us = opened-separator Body (u ∷ us)
  body_from-separator Inside u us = opened-separator Inside (u ∷ us)

module _ (s : Separators) (x : ℕ) (separates : is_separator s x ≡ true) where
  -- the first segment ends before a separator, whatever stands behind that
  pub position-append : (us vs : List ℕ) → position_or_len (is_separator s) (us ++ x ∷ vs) ≡ position_or_len (is_separator s) us
  position-append [] vs = ap (λ b. cond b (1 + position_or_len (is_separator s) vs) 0) (not_from_true (is_separator s x) separates)
  position-append (u ∷ us) vs = ap (λ n. cond (not (is_separator s u)) (1 + n) 0) (position-append us vs)

  -- so it is the same with and without
  before_first-append : (us vs : List ℕ) → before_first (is_separator s) (us ++ x ∷ vs) ≡ before_first (is_separator s) us
  before_first-append us vs = grind (arith, position-append, take-append-le, prefix_len-le-length)

  -- what stands behind a separator may be cut
  pub is_clean-append : (begin : Begin) (us vs : List ℕ) → is_clean begin s (us ++ x ∷ vs) ≡ is_clean begin s (us ++ x ∷ [])
  is_clean-append begin us vs = grind (arith, common_steps, before_first-append)

  -- and the separator too
  pub is_clean-separator : (begin : Begin) (u : ℕ) (us : List ℕ) → is_clean begin s (u ∷ us ++ x ∷ []) ≡ is_clean begin s (u ∷ us)
  is_clean-separator begin u us = grind (arith, common_steps)

-- The components of a text, read off its pieces alone: what they are does not depend on where they stand.

-- the pieces between the separators of a text
abbrev pub pieces : Separators → List ℕ → List (List ℕ)
pieces s text = slice_split (is_separator s) text

-- the component of a piece that is neither empty nor `.`
abbrev pub named_part : List ℕ → Part
named_part piece = if is_dot_dot piece then parent_part else name_part piece

-- the component of a later piece
abbrev pub later_part : Separators → List ℕ → List Part
later_part s piece = if length piece == 0 then [] else (if is_dot piece then (if is_verbatim s then current_part ∷ [] else []) else named_part piece ∷ [])

-- the component of the first piece
abbrev pub first_part : Separators → List ℕ → Part
first_part s piece = if length piece == 0 then root_part (root_text s) else (if is_dot piece then current_part else named_part piece)

-- the components of later pieces
abbrev pub later_parts : Separators → List (List ℕ) → List Part
later_parts s pieces = flat_map (later_part s) pieces

-- the components of all pieces of a text
abbrev pub first_parts : Separators → List (List ℕ) → List Part
first_parts s [] = []
first_parts s (piece ∷ pieces) = first_part s piece ∷ later_parts s pieces

-- the components of a text without a prefix
abbrev pub body_parts : Separators → List ℕ → List Part
body_parts s [] = []
body_parts s (b ∷ bs) = first_parts s (pieces s (b ∷ bs))

-- what a later piece gives, without its place
parts-later : (s : Separators) (g : Segment) → parts (later s g) ≡ later_part s g.text
parts-later s g = simp (choice parts, choice {A = Part} (λ p. p ∷ []))

-- what the first piece gives, without its place
parts-first : (s : Separators) (g : Segment) → parts (first s g) ≡ first_part s g.text ∷ []
parts-first s g = simp (choice parts, choice {A = Part} (λ p. p ∷ []))

-- the components of later pieces do not depend on where these stand
parts-later_pieces : (s : Separators) (at : ℕ) (pieces : List (List ℕ)) → parts (flat_map (later s) (placed at pieces)) ≡ later_parts s pieces
parts-later_pieces s at [] = grind arith
parts-later_pieces s at (piece ∷ pieces) = grind (arith, map-append, parts-later, parts-later_pieces s (at + length piece + 1) pieces)

-- the components of all pieces do not depend on where these stand
parts-body_of : (s : Separators) (at : ℕ) (pieces : List (List ℕ)) → parts (body_of s (placed at pieces)) ≡ first_parts s pieces
parts-body_of s at pieces = grind (arith, parts-first, parts-later_pieces)

-- the components of a later text, read off its pieces
pub parts-later_body : (s : Separators) (at : ℕ) (text : List ℕ) → parts (later_body s at text) ≡ later_parts s (pieces s text)
parts-later_body s at text = parts-later_pieces s at (pieces s text)

-- the components behind a prefix, read off the pieces
pub parts-body : (s : Separators) (at : ℕ) (text : List ℕ) → parts (body s at text) ≡ body_parts s text
parts-body s at text = grind (arith, parts-body_of)

-- the components of a Unix text, read off its pieces
pub parts_of-unix : (t : List ℕ) → parts_of unix t ≡ body_parts Slash t
parts_of-unix t = parts-body Slash 0 t

-- a body that is read alike without the separator at its end
pub body_parts-same : (s : Separators) (text other : List ℕ) → ((at : ℕ) → body s at text ≡ body s at other) → body_parts s text ≡ body_parts s other
body_parts-same s text other same = sym (parts-body s 0 text) ∙ ap parts (same 0) ∙ parts-body s 0 other

-- so is a path of Unix
pub parts_of-same : (path text : List ℕ) → ((at : ℕ) → body Slash at path ≡ body Slash at text) → parts_of unix path ≡ body_parts Slash text
parts_of-same path text same = parts_of-unix path ∙ body_parts-same Slash path text same

-- pieces behind the first one are later pieces
pub first_parts-append : (s : Separators) (piece : List ℕ) (bs cs : List (List ℕ)) → first_parts s (piece ∷ bs ++ cs) ≡ first_parts s (piece ∷ bs) ++ later_parts s cs
first_parts-append s piece bs cs = ap (λ ps. first_part s piece ∷ ps) (flat_map-append (later_part s) bs cs)

-- a name as a path can have one: it is neither empty nor `.` nor `..`, and holds no separator
pub record IsCleanName (s : Separators) (name : List ℕ) : Type 0 where
  pub filled : (length name == 0) ≡ false
  pub no_dot : is_dot name ≡ false
  pub no_dot_dot : is_dot_dot name ≡ false
  pub unseparated : IsUnseparated (is_separator s) name

-- a component as it is read behind the prefix: the kind tells how it is written
abbrev pub IsWritten : Separators → Kind → List ℕ → Type 0
IsWritten s (prefix p) text = ⊥
IsWritten s root text = text ≡ root_text s
IsWritten s current text = text ≡ dot ∷ []
IsWritten s parent text = text ≡ dot ∷ dot ∷ []
IsWritten s (normal name) text = (text ≡ name) × IsCleanName s name

-- a later component: no root, and `.` in a verbatim text alone
abbrev pub IsLater : Separators → Kind → List ℕ → Type 0
IsLater s root text = ⊥
IsLater s current text = (is_verbatim s ≡ true) × (text ≡ dot ∷ [])
IsLater s k text = IsWritten s k text

-- the same of a component that holds its kind and its text
abbrev pub IsLaterPart : Separators → Part → Type 0
IsLaterPart s p = IsLater s p.kind p.text

-- a component that is written as its kind tells
abbrev pub IsWrittenPart : Separators → Part → Type 0
IsWrittenPart s p = IsWritten s p.kind p.text

-- a list as it is read behind the prefix: only the first component may be a root
abbrev pub AreRead : Separators → List Part → Type 0
AreRead s [] = ⊤
AreRead s (p ∷ ps) = IsWrittenPart s p × AllByRecursion (IsLaterPart s) ps

-- a later piece gives later components
later_part-later : (s : Separators) (piece : List ℕ) → IsUnseparated (is_separator s) piece → AllByRecursion (IsLaterPart s) (later_part s piece)
later_part-later s piece unseparated = grind arith

-- later pieces give later components
pub later_parts-later : (s : Separators) (pieces : List (List ℕ)) → AllByRecursion (IsUnseparated (is_separator s)) pieces → AllByRecursion (IsLaterPart s) (later_parts s pieces)
later_parts-later s [] each = tt
later_parts-later s (piece ∷ pieces) each = grind (arith, common_steps, later_part-later, later_parts-later s pieces each.1)

-- a later component is written as its kind tells
pub IsWritten-later : (s : Separators) (k : Kind) (text : List ℕ) → IsLater s k text → IsWritten s k text
IsWritten-later s root text later = absurd later
IsWritten-later s current text later = later.1
IsWritten-later s k text later = later

-- a later component is no root
pub later-relative : (s : Separators) (k : Kind) (text : List ℕ) → IsLater s k text → begins_with_root (k ∷ []) ≡ false
later-relative s root text later = absurd later
later-relative s k text later = refl

-- later components are a list as it is read
pub AreRead-later : (s : Separators) (ps : List Part) → AllByRecursion (IsLaterPart s) ps → AreRead s ps
AreRead-later s ps each = grind arith

-- later components are put behind a list as it is read
pub AreRead-append : (s : Separators) (ps qs : List Part) → AreRead s ps → AllByRecursion (IsLaterPart s) qs → AreRead s (ps ++ qs)
AreRead-append s ps qs read later = grind (arith, common_steps)

-- the first piece gives a component that is written as its kind tells
first_part-written : (s : Separators) (piece : List ℕ) → IsUnseparated (is_separator s) piece → IsWrittenPart s (first_part s piece)
first_part-written s piece unseparated = grind arith

-- all pieces of a text give a list as it is read
first_parts-read : (s : Separators) (pieces : List (List ℕ)) → AllByRecursion (IsUnseparated (is_separator s)) pieces → AreRead s (first_parts s pieces)
first_parts-read s pieces each = grind (arith, first_part-written, later_parts-later)

-- the components of a text without a prefix are a list as it is read
pub body_parts-read : (s : Separators) (text : List ℕ) → AreRead s (body_parts s text)
body_parts-read s text = grind (arith, first_parts-read, slice_split-unseparated)

-- each component of a list as it is read is written as its kind tells
pub each-written : (s : Separators) (ps : List Part) → AreRead s ps → AllByRecursion (IsWrittenPart s) ps
each-written s [] read = tt
each-written s (p ∷ ps) read = (read.0, AllByRecursion-weaker (IsLaterPart s) (IsWrittenPart s) (λ q. IsWritten-later s q.kind q.text) ps read.1)

-- how a component of a kind is written, but for a prefix
abbrev pub text_by_kind : Separators → Kind → List ℕ
text_by_kind s (prefix p) = []
text_by_kind s root = root_text s
text_by_kind s current = dot ∷ []
text_by_kind s parent = dot ∷ dot ∷ []
text_by_kind s (normal name) = name

-- a component is written as its kind tells
text-written : (s : Separators) (k : Kind) (text : List ℕ) → IsWritten s k text → text ≡ text_by_kind s k
text-written s k text written = grind arith

-- the kinds of a list as it is read tell its texts
pub texts-read : (s : Separators) (ps : List Part) → AreRead s ps → texts ps ≡ map (text_by_kind s) (kinds ps)
texts-read s ps read =
    let each = AllByRecursion-weaker (IsWrittenPart s) (λ p. p.text ≡ text_by_kind s p.kind) (λ p. text-written s p.kind p.text) ps (each-written s ps read) in
    map-through (λ p. p.kind) (λ p. p.text) (text_by_kind s) ps each

-- the components of a text, read off its pieces and its prefix
abbrev pub parts_behind : Separators → List ℕ → Option Found → List Part
parts_behind s text None = body_parts s text
parts_behind s text (Some f) = prefix_part f.prefix (take f.length text) ∷ body_parts s (drop f.length text)

-- the components of a text do not depend on where they stand
pub parts-comps_behind : (s : Separators) (text : List ℕ) (o : Option Found) → parts (comps_behind s text o) ≡ parts_behind s text o
parts-comps_behind s text o = grind (arith, parts-body)

-- The components of a text with more put behind a separator at its end.

-- a clean name behind a separator is one component
pub later_parts-name : (s : Separators) (name : List ℕ) → IsCleanName s name → later_parts s (pieces s name) ≡ name_part name ∷ []
later_parts-name s name clean = rw (slice_split_none (is_separator s) name clean.unseparated, clean.filled, clean.no_dot, clean.no_dot_dot)

-- a clean name alone is one component
pub body_parts-name : (s : Separators) (name : List ℕ) → IsCleanName s name → body_parts s name ≡ name_part name ∷ []
body_parts-name s [] clean = cc
body_parts-name s (b ∷ bs) clean = rw (slice_split_none (is_separator s) (b ∷ bs) clean.unseparated, clean.filled, clean.no_dot, clean.no_dot_dot)

-- a separator within a text parts it: what stands behind it is read as later pieces
pub body_parts-append : (s : Separators) (front : List ℕ) (b : ℕ) (rest : List ℕ) → is_separator s b ≡ true → body_parts s (front ++ b ∷ rest) ≡ first_parts s (pieces s front) ++ later_parts s (pieces s rest)
body_parts-append s front b rest separates = filled front ∙ cut_apart
  where
    filled : (text : List ℕ) → body_parts s (text ++ b ∷ rest) ≡ first_parts s (pieces s (text ++ b ∷ rest))
    filled [] = refl
    filled (c ∷ cs) = refl

    cut_apart : first_parts s (pieces s (front ++ b ∷ rest)) ≡ first_parts s (pieces s front) ++ later_parts s (pieces s rest)
    cut_apart =
        let some = slice_split-some (is_separator s) front in
        rw (slice_split-append (is_separator s) front b rest separates, some.2) (first_parts-append s some.0 some.1 (pieces s rest))

-- what is put behind a text and a separator is read as later pieces
pub body_parts-behind : (s : Separators) (b : ℕ) (base rest : List ℕ) → is_separator s b ≡ true → (length base == 0) ≡ false
    → body_parts s ((base ++ b ∷ []) ++ rest) ≡ body_parts s base ++ later_parts s (pieces s rest)
body_parts-behind s b base rest separates filled = grind (arith, append_assoc, body_parts-append)

-- what is put behind a text that ends with a separator is read as later pieces
pub body_parts-more : (s : Separators) (b : ℕ) (front rest : List ℕ) → is_separator s b ≡ true → body_parts s ((front ++ b ∷ []) ++ rest) ≡ body_parts s (front ++ b ∷ []) ++ later_parts s (pieces s rest)
body_parts-more s b front rest separates = grind (arith, append_assoc, body_parts-append)

-- what is put behind a text, once that ends with a separator, is read as later pieces
pub body_parts-ended : (s : Separators) (b : ℕ) (base rest : List ℕ) → is_separator s b ≡ true → (length base == 0) ≡ false
    → body_parts s (ended_with b base ++ rest) ≡ body_parts s base ++ later_parts s (pieces s rest)
body_parts-ended s b base rest separates filled = grind (arith, common_steps, body_parts-behind, but_last, eqb-true, body_parts-more)
