-- Names that are taken off the end of a list one after another: what is left and what was taken, whether these can stand, and the rows and texts that they make from their ends.
use Rattle.std.proofs.Common.{◌≡◌, ℕ, zero, suc, ◌+◌, ◌-◌, ◌<◌, ◌≤◌, ◌==◌, true, false, not, ◌&&◌, List, [], ◌∷◌, ◌++◌, length, take, drop, reverse, refl, sym, ap, ap₂, ◌∙◌, append_assoc, append-nil, arith, take-append-drop, length-append}
use Rattle.std.specs.Prelude.{Option, MatchOption}
use Rattle.std.specs.List.{list_any, join_with_byte}
use Rattle.std.proofs.lemmas.List.{length-take-le, take_at, drop_at, drop_all, take_all, drop-drop, reverse-append, reverse-reverse, length-reverse}
use Rattle.std.proofs.lemmas.Grind.{flat_map-append}
use Rattle.typed_path.specs.declared.scan.separators.Separators.{Separators}
use Rattle.typed_path.specs.components.{Dialect, unix, windows, slash, dialect_of}
use Rattle.typed_path.specs.places.{bare_separators, can_stand, dots, row_end, rows_of, steps_text, unheaded}
use Rattle.typed_path.proofs.lemmas.places.CleanTexts.{row_end-own, rows-joined}

-- one more is taken off: what is left, and what was taken
pub record Took {X : Type 0} (f : X → List ℕ) (whole next : List (List ℕ)) (n : ℕ) (x : X) : Type 0 where
  pub left : next ≡ take (length whole - (n + 1)) whole
  pub taken : drop (length whole - (n + 1)) whole ≡ f x ∷ drop (length whole - n) whole

pub took : {X : Type 0} (f : X → List ℕ) (whole left next : List (List ℕ)) (n : ℕ) (x : X) → left ≡ take (length whole - n) whole → n < length whole → left ≡ next ++ f x ∷ [] → Took f whole next n x
took f whole left next n x is less e =
    let size : length next + 1 ≡ length whole - n = omega (arith, sym (length-append next (f x ∷ [])), ap length e, ap length is, length-take-le (length whole - n) whole (omega (arith, less))) in
    let shape : whole ≡ next ++ (f x ∷ drop (length whole - n) whole) =
    sym (take-append-drop (length whole - n) whole) ∙ ap (λ l. l ++ drop (length whole - n) whole) (sym is ∙ e) ∙ append_assoc next (f x ∷ []) (drop (length whole - n) whole) in
    record {
      left = sym (take_at next (f x ∷ drop (length whole - n) whole) (length whole - (n + 1)) (omega (arith, size))) ∙ ap (take (length whole - (n + 1))) (sym shape);
      taken = ap (drop (length whole - (n + 1))) shape ∙ drop_at next (f x ∷ drop (length whole - n) whole) (length whole - (n + 1)) (omega (arith, size));
    }

-- there is one to be taken
pub some-left : (whole left : List (List ℕ)) (n : ℕ) → left ≡ take (length whole - n) whole → n < length whole → left ≡ [] → ⊥
some-left whole left n is less none = omega (arith, less, ap length none, ap length is, length-take-le (length whole - n) whole (omega (arith, less)))

-- whatever it is, it is one less
pub took-any : {X : Type 0} (f : X → List ℕ) (whole left next : List (List ℕ)) (n : ℕ) (o : Option X) → left ≡ take (length whole - n) whole → n < length whole
    → MatchOption o (left ≡ []) (λ x. left ≡ next ++ f x ∷ []) → next ≡ take (length whole - (n + 1)) whole
took-any f whole left next n o is less h = grind (arith, some-left, took)

-- none is taken yet
pub none-taken : (whole : List (List ℕ)) → whole ≡ take (length whole - 0) whole
none-taken whole = sym (take_all (length whole - 0) whole (omega arith))

pub none-behind : (whole : List (List ℕ)) → drop (length whole - 0) whole ≡ []
none-behind whole = drop_all (length whole - 0) whole (omega arith)

-- Whether names can stand.

pub stands-more : (name : List ℕ) (names : List (List ℕ)) → list_any (λ b. b == slash) name ≡ false → can_stand names ≡ true → can_stand (name ∷ names) ≡ true
stands-more name names none rest = ap₂ (λ b c. not b && c) none rest

stands-one : (name : List ℕ) (names : List (List ℕ)) → list_any (λ b. b == slash) name ≡ true → can_stand (name ∷ names) ≡ false
stands-one name names some = ap (λ b. not b && can_stand names) some

stands-drop : (n : ℕ) (names : List (List ℕ)) → can_stand (drop n names) ≡ false → can_stand names ≡ false
stands-drop zero names h = grind arith
stands-drop (suc n) [] h = grind arith
stands-drop (suc n) (name ∷ names) h = grind (arith, stands-drop n names h)

-- one of the last names that can't stand is one of more
pub stands-not : (whole : List (List ℕ)) (n count : ℕ) (name : List ℕ) (behind : List (List ℕ)) → n + 1 ≤ count → drop (length whole - (n + 1)) whole ≡ name ∷ behind → list_any (λ b. b == slash) name ≡ true
    → can_stand (drop (length whole - count) whole) ≡ false
stands-not whole n count name behind less is some =
    let more : (length whole - count) + ((length whole - (n + 1)) - (length whole - count)) ≡ length whole - (n + 1) = omega (arith, less) in
    stands-drop ((length whole - (n + 1)) - (length whole - count)) (drop (length whole - count) whole)
    (ap can_stand (drop-drop ((length whole - (n + 1)) - (length whole - count)) (length whole - count) whole ∙ ap (λ m. drop m whole) more ∙ is) ∙ stands-one name behind some)

-- Rows that are put from their ends.

-- the list that is left where the part from a place on was replaced
abbrev pub patched : ℕ → ℕ → List ℕ → List ℕ → List ℕ → List ℕ
patched len start d r items =
    take len ((take start d ++ (r ++ drop (length d - start) (drop start d))) ++ drop (length (take start d ++ (r ++ drop (length d - start) (drop start d)))) items)

pub patched-turned : (len start : ℕ) (d r items old name : List ℕ) → d ≡ items → items ≡ old ++ name → start ≡ length old → len ≡ length items → r ≡ reverse (take (length d - start) (drop start d))
    → patched len start d r items ≡ old ++ reverse name
patched-turned len start d r items old name same is place size turned = grind (arith, length-append, take_at, drop_at, take_all, drop_all, append-nil, length-reverse)

-- a separator and a name from its end, behind a text: read from the end, the name, the separator, and the text
pub turned-name : (text name : List ℕ) (sep : ℕ) → reverse ((text ++ sep ∷ []) ++ reverse name) ≡ (name ++ sep ∷ []) ++ reverse text
turned-name text name sep = grind (arith, reverse-append, reverse-reverse, append_assoc)

module _ (s : Separators) where
  pub turned-row : (new text name : List ℕ) (segments : List (List ℕ)) → reverse new ≡ (name ++ row_end s ∷ []) ++ reverse text → reverse text ≡ rows_of s segments → reverse new ≡ rows_of s (name ∷ segments)
  turned-row new text name segments h is = h ∙ ap (λ bs. (name ++ row_end s ∷ []) ++ bs) is

  -- how long rows are
  pub row-size : (name : List ℕ) (names : List (List ℕ)) → length (rows_of s (name ∷ names)) ≡ length name + 1 + length (rows_of s names)
  row-size name names = omega (arith, length-append (name ++ row_end s ∷ []) (rows_of s names), length-append name (row_end s ∷ []))

  pub rows-drop : (n : ℕ) (names : List (List ℕ)) → length (rows_of s (drop n names)) ≤ length (rows_of s names)
  rows-drop zero names = omega arith
  rows-drop (suc n) [] = omega arith
  rows-drop (suc n) (name ∷ names) = omega (arith, rows-drop n names, row-size name names)

  -- fewer of the last names take no more room, with one more of them
  pub row-fits : (whole : List (List ℕ)) (n count : ℕ) (name : List ℕ) → n + 1 ≤ count → drop (length whole - (n + 1)) whole ≡ name ∷ drop (length whole - n) whole
      → length (rows_of s (drop (length whole - n) whole)) + length name + 1 ≤ length (rows_of s (drop (length whole - count) whole))
  row-fits whole n count name less is =
      let more : (length whole - count) + ((length whole - (n + 1)) - (length whole - count)) ≡ length whole - (n + 1) = omega (arith, less) in
      let h = rows-drop ((length whole - (n + 1)) - (length whole - count)) (drop (length whole - count) whole) in
      let e = ap (λ ns. length (rows_of s ns)) (drop-drop ((length whole - (n + 1)) - (length whole - count)) (length whole - count) whole ∙ ap (λ m. drop m whole) more ∙ is) in
      omega (arith, h, e, row-size name (drop (length whole - n) whole))

-- Rows without their last separator are the steps as they are written.

-- the last byte is taken off, where there is one
pub unended : (s : Separators) (segments : List (List ℕ)) (old new : List ℕ) → old ≡ rows_of s segments → (0 < length old → new ≡ take (length old - 1) old) → (length old ≤ 0 → new ≡ old)
    → new ≡ join_with_byte (row_end s) segments
unended s [] old new is named alone = grind arith
unended s (segment ∷ segments) old new is named alone = grind (arith, rows-joined, length-append, take_at)

-- it has a byte less, or none
pub unended-size : (old new : List ℕ) → (0 < length old → new ≡ take (length old - 1) old) → (length old ≤ 0 → new ≡ old) → length new ≤ length old - 1
unended-size old new named alone = grind (arith, length-take-le)

pub dialect-bare : (d : Dialect) → dialect_of (bare_separators d) ≡ d
dialect-bare unix = refl
dialect-bare windows = refl

-- what is written from its end
pub rows-steps : (d : Dialect) (n : ℕ) (names : List (List ℕ)) (s : Separators) (turned cut all : List ℕ) → s ≡ bare_separators d → turned ≡ rows_of s (dots n) ++ rows_of s names
    → (0 < length turned → cut ≡ take (length turned - 1) turned) → (length turned ≤ 0 → cut ≡ turned) → all ≡ unheaded (dialect_of s) cut → all ≡ steps_text d n names
rows-steps d n names s turned cut all is rowed named alone e =
    e
    ∙ ap (unheaded (dialect_of s)) (unended s (dots n ++ names) turned cut (rowed ∙ sym (flat_map-append (λ name. name ++ row_end s ∷ []) (dots n) names)) named alone)
    ∙ ap (λ sep. unheaded (dialect_of s) (join_with_byte sep (dots n ++ names))) (row_end-own s)
    ∙ ap (λ c. steps_text c n names) (ap dialect_of is ∙ dialect-bare d)
