-- Components are written as their kinds tell, roots as their dialect writes them, and where prefixes and roots stand in a list.
use Rattle.std.proofs.Common.{◌≡◌, ℕ, List, [], ◌∷◌, ◌++◌, true, drop, refl, ◌∙◌, ◌-◌, length, take, map, Bool, false, if◌then◌else◌, sym, ap, subst, Option, Some, None, arith}
use Rattle.std.specs.List.{flat_map}
use Rattle.std.proofs.lemmas.List.{take-map, map-append}
use Rattle.std.proofs.lemmas.Option.{same_Some}
use Rattle.typed_path.specs.declared.scan.separators.Separators.{Separators}
use Rattle.typed_path.specs.declared.scan.step.Piece.{Piece}
use Rattle.typed_path.specs.declared.scan.separators.Separators.TheVariants.{Slash, Backslash, Either}
use Rattle.typed_path.specs.components.{Dialect, separators, unix, windows, root_text, begins_verbatim, Placed, kinds, parts, Part, current_part, parent_part, name_part, root_part, prefix_part, Found, prefix_of, Segment, segments, first, later, body_of, body, comps_behind, parts_of, written, as_written, is_separator, Kind}
use Rattle.typed_path.specs.scan.{but_last, first_part, last_part}
use Rattle.typed_path.specs.views.PieceViews.{part_of}
use Rattle.typed_path.proofs.lemmas.components.Segments.{Seen, empty, passed_dot, kept_dot, dot_dot, word, seen, body_parts, first_parts}
use Rattle.typed_path.proofs.lemmas.places.Resolving.{no_heads, heads_first, no_heads-first}
use Rattle.typed_path.proofs.lemmas.scan.Steps.{last_pushed, last_part-push}
use Rattle.std.proofs.lemmas.List.Splits.{slice_split-cons_yes}
use Rattle.typed_path.specs.queries.{begins_with_root}

-- Where prefixes and roots stand in a component list.

-- a body with a root begins with a separator
pub rooted-separated : (s : Separators) (b : ℕ) (bs : List ℕ) → begins_with_root (kinds (body_parts s (b ∷ bs))) ≡ true → is_separator s b ≡ true
rooted-separated s b bs rooted = grind arith

-- and one that begins with a separator has a root
pub separated-rooted : (s : Separators) (b : ℕ) (bs : List ℕ) → is_separator s b ≡ true → begins_with_root (kinds (body_parts s (b ∷ bs))) ≡ true
separated-rooted s b bs separates = ap (λ some. begins_with_root (kinds (first_parts s some))) (slice_split-cons_yes (is_separator s) b bs separates)

-- a list that begins with a root does so with more behind it
pub begins-append : (ks ls : List Kind) → begins_with_root ks ≡ true → begins_with_root (ks ++ ls) ≡ true
begins-append ks ls e = grind arith

-- a later segment is no prefix and no root
no_heads-later : (s : Separators) (gs : List Segment) → no_heads (kinds (parts (flat_map (later s) gs))) ≡ true
no_heads-later s [] = refl
no_heads-later s (g ∷ gs) = by (later s g) (first s g) (seen s g) ∙ no_heads-later s gs
  where
    by : (own front : List Placed) → Seen s g own front → no_heads (kinds (parts (own ++ flat_map (later s) gs))) ≡ no_heads (kinds (parts (flat_map (later s) gs)))
    by _ _ (empty e) = refl
    by _ _ (passed_dot e) = refl
    by _ _ (kept_dot e) = refl
    by _ _ (dot_dot e) = refl
    by _ _ (word e) = refl

heads_first-body_of : (s : Separators) (gs : List Segment) → heads_first (kinds (parts (body_of s gs))) ≡ true
heads_first-body_of s [] = refl
heads_first-body_of s (g ∷ gs) = by (later s g) (first s g) (seen s g)
  where
    by : (own front : List Placed) → Seen s g own front → heads_first (kinds (parts (front ++ flat_map (later s) gs))) ≡ true
    by _ _ (empty e) = no_heads-first (kinds (parts (flat_map (later s) gs))) (no_heads-later s gs)
    by _ _ (passed_dot e) = no_heads-later s gs
    by _ _ (kept_dot e) = no_heads-later s gs
    by _ _ (dot_dot e) = no_heads-later s gs
    by _ _ (word e) = no_heads-later s gs

heads_first-body : (s : Separators) (at : ℕ) (text : List ℕ) → heads_first (kinds (parts (body s at text))) ≡ true
heads_first-body s at [] = refl
heads_first-body s at (b ∷ bs) = heads_first-body_of s (segments s at (b ∷ bs))

heads_first-behind : (s : Separators) (text : List ℕ) (f : Option Found) → heads_first (kinds (parts (comps_behind s text f))) ≡ true
heads_first-behind s text None = heads_first-body s 0 text
heads_first-behind s text (Some f) = heads_first-body s f.length (drop f.length text)

-- a prefix stands first, and a root first or right behind it
pub heads_first-parts_of : (d : Dialect) (text : List ℕ) → heads_first (kinds (parts_of d text)) ≡ true
heads_first-parts_of d text = heads_first-behind (separators d text) text (prefix_of d text)

-- Components are written as their kinds tell.

module _ (write : Part → Part) where
  abbrev Written : List Placed → Type 0
  Written cs = parts cs ≡ map write (parts cs)

  written-cons : (p : Part) (ps : List Part) → write p ≡ p → ps ≡ map write ps → p ∷ ps ≡ map write (p ∷ ps)
  written-cons p ps e h = ap (λ q. q ∷ ps) (sym e) ∙ ap (λ qs. write p ∷ qs) h

  -- the components that are read behind a prefix are written as their kinds tell
  pub record WritesBody (s : Separators) : Type 0 where
    pub root : write (root_part (root_text s)) ≡ root_part (root_text s)
    pub current : write current_part ≡ current_part
    pub parent : write parent_part ≡ parent_part
    pub name : (text : List ℕ) → write (name_part text) ≡ name_part text

  module _ (s : Separators) (writes : WritesBody s) where
    written-later : (gs : List Segment) → Written (flat_map (later s) gs)
    written-later [] = refl
    written-later (g ∷ gs) = by (later s g) (first s g) (seen s g) (written-later gs)
      where
        by : (own front : List Placed) → Seen s g own front → Written (flat_map (later s) gs) → Written (own ++ flat_map (later s) gs)
        by _ _ (empty e) h = h
        by _ _ (passed_dot e) h = h
        by _ _ (kept_dot e) h = written-cons current_part (parts (flat_map (later s) gs)) writes.current h
        by _ _ (dot_dot e) h = written-cons parent_part (parts (flat_map (later s) gs)) writes.parent h
        by _ _ (word e) h = written-cons (name_part g.text) (parts (flat_map (later s) gs)) (writes.name g.text) h

    written-body_of : (gs : List Segment) → Written (body_of s gs)
    written-body_of [] = refl
    written-body_of (g ∷ gs) = by (later s g) (first s g) (seen s g)
      where
        by : (own front : List Placed) → Seen s g own front → Written (front ++ flat_map (later s) gs)
        by _ _ (empty e) = written-cons (root_part (root_text s)) (parts (flat_map (later s) gs)) writes.root (written-later gs)
        by _ _ (passed_dot e) = written-cons current_part (parts (flat_map (later s) gs)) writes.current (written-later gs)
        by _ _ (kept_dot e) = written-cons current_part (parts (flat_map (later s) gs)) writes.current (written-later gs)
        by _ _ (dot_dot e) = written-cons parent_part (parts (flat_map (later s) gs)) writes.parent (written-later gs)
        by _ _ (word e) = written-cons (name_part g.text) (parts (flat_map (later s) gs)) (writes.name g.text) (written-later gs)

    pub written-body : (at : ℕ) (text : List ℕ) → Written (body s at text)
    written-body at [] = refl
    written-body at (b ∷ bs) = written-body_of (segments s at (b ∷ bs))

  -- and stays so as components are taken
  pub written-drop : (cs : List Placed) → parts cs ≡ map write (parts cs) → parts (drop 1 cs) ≡ map write (parts (drop 1 cs))
  written-drop [] h = refl
  written-drop (c ∷ cs) h = cc

  pub written-but_last : (cs : List Placed) → parts cs ≡ map write (parts cs) → parts (but_last cs) ≡ map write (parts (but_last cs))
  written-but_last cs h =
      sym (take-map (λ c. c.part) n cs) ∙ ap (take n) h ∙ take-map write n (parts cs) ∙ ap (map write) (take-map (λ c. c.part) n cs)
    where
      n : ℕ
      n = length cs - 1

  written-end : (ps : List Part) (q : Part) → ps ++ q ∷ [] ≡ map write (ps ++ q ∷ []) → q ≡ write q
  written-end [] q h = cc
  written-end (p ∷ ps) q h = written-end ps q cc

  -- the component taken from the back is written so too
  pub written-last : (p : Piece) (cs : List Placed) → parts cs ≡ map write (parts cs) → Some (part_of p) ≡ last_part cs → part_of p ≡ write (part_of p)
  written-last p [] h e = cc
  written-last p (c ∷ cs) h e =
      let d = last_pushed c cs in
      let whole = subst (λ ds. parts ds ≡ map write (parts ds)) d.1 h in
      let split = map-append (λ x. x.part) (but_last (c ∷ cs)) (d.0 ∷ []) in
      let end = written-end (parts (but_last (c ∷ cs))) d.0.part (subst (λ ps. ps ≡ map write ps) split whole) in
      subst (λ q. q ≡ write q) (sym (same_Some _ _ (e ∙ ap last_part d.1 ∙ last_part-push (but_last (c ∷ cs)) d.0))) end

  -- and the one taken from the front
  pub written-first : (p : Piece) (cs : List Placed) → parts cs ≡ map write (parts cs) → Some (part_of p) ≡ first_part cs → part_of p ≡ write (part_of p)
  written-first p [] h e = cc
  written-first p (c ∷ cs) h e = subst (λ q. q ≡ write q) (sym (same_Some _ _ e)) cc

-- what is read behind a prefix is written as its dialect writes it
writes_unix : WritesBody (written unix) Slash
writes_unix = record { root = refl; current = refl; parent = refl; name = λ name. refl }

writes_windows : (verbatim : Bool) → WritesBody (written windows) (if verbatim then Backslash else Either)
writes_windows true = record { root = refl; current = refl; parent = refl; name = λ name. refl }
writes_windows false = record { root = refl; current = refl; parent = refl; name = λ name. refl }

-- and so is the whole list
pub written-parts_of : (d : Dialect) (text : List ℕ) → parts_of d text ≡ as_written d (parts_of d text)
written-parts_of unix text = written-body (written unix) Slash writes_unix 0 text
written-parts_of windows text = behind (prefix_of windows text)
  where
    s : Separators
    s = separators windows text

    behind : (f : Option Found) → parts (comps_behind s text f) ≡ as_written windows (parts (comps_behind s text f))
    behind None = written-body (written windows) s (writes_windows (begins_verbatim text)) 0 text
    behind (Some f) =
        written-cons (written windows) (prefix_part f.prefix (take f.length text)) (parts (body s f.length (drop f.length text))) refl
        (written-body (written windows) s (writes_windows (begins_verbatim text)) f.length (drop f.length text))
