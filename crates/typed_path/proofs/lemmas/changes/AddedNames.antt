-- A path with more behind its file name is read as before, but for that name.
use Rattle.std.proofs.Common.{◌≡◌, ℕ, ◌+◌, ◌-◌, ◌<◌, ◌≤◌, true, false, List, [], ◌∷◌, ◌++◌, length, take, drop, inl, inr, ◌⊎◌, refl, sym, ap, ap₂, subst, ◌∙◌, arith, append-nil, append_assoc, length-append, length-drop, Some, None, Option, option_map, option_and_then, unwrap_or, slice_get, not, suc}
use Rattle.std.proofs.lemmas.Grind.{common_steps}
use Rattle.std.proofs.lemmas.Bool.{cases_lt, cond-true, lt-ltb, both_ways}
use Rattle.std.proofs.lemmas.List.{take_all, take-take, take-append-le, drop-append-le, drop-take, length-take-le}
use Rattle.std.proofs.lemmas.List.Elements.{All-append}
use Rattle.std.proofs.lemmas.List.Splits.{slice_split_none, slice_split-cons_yes}
use Rattle.std.proofs.lemmas.Option.{same_Some}
use Rattle.std.specs.List.{suffix_len}
use Rattle.typed_path.specs.declared.scan.separators.Separators.{Separators}
use Rattle.typed_path.specs.declared.scan.cursor.Begin.TheVariants.{Body}
use Rattle.typed_path.specs.components.{Dialect, unix, windows, is_separator, separators, root_text, Kind, root, normal, prefix, Part, Placed, parts, is_name, end_of, component, name_part, root_part, prefix_part, first, later, body, body_of, placed, comps, comps_behind, Found, prefix_of, written, as_written}
use Rattle.typed_path.specs.components.Written.{written_unix, written_windows}
use Rattle.typed_path.specs.scan.{last_of, but_last, end_at, slice_after_back, AreInOrder, last_part}
use Rattle.typed_path.specs.queries.{name_of, file_name_of, parent_of, is_root}
use Rattle.typed_path.proofs.lemmas.lists.Lists.{IsUnseparated, IsLastPlace, last_place, behind_last-unseparated, cut_last}
use Rattle.typed_path.proofs.lemmas.components.Segments.{body_from-append, body_from-separator}
use Rattle.typed_path.proofs.lemmas.components.Cuts.{body_in_order, body-take, comps-laid_out}
use Rattle.typed_path.proofs.lemmas.components.WrittenForms.{written-parts_of}
use Rattle.typed_path.proofs.lemmas.scan.LastComponent.{later_body-last}
use Rattle.typed_path.proofs.lemmas.scan.Readings.{between-last, between-all}
use Rattle.typed_path.proofs.lemmas.scan.Steps.{last_of-push, but_last-push, last_of-behind, but_last-behind, last_pushed}
use Rattle.typed_path.proofs.lemmas.queries.Parents.{HasName, last-filled, parent_left}
use Rattle.typed_path.proofs.lemmas.components.FirmPrefixes.{filled-long}

-- Lists of components: their last one.

-- a list whose last component is known
pushed : (cs : List Placed) (c : Placed) → last_of cs ≡ Some c → cs ≡ but_last cs ++ c ∷ []
pushed [] c is = cc
pushed (b ∷ cs) c is =
    let last = last_pushed b cs in
    let same : last.0 ≡ c = same_Some _ _ (sym (last_of-push (but_last (b ∷ cs)) last.0) ∙ ap last_of (sym last.1) ∙ is) in
    last.1 ∙ ap (λ d. but_last (b ∷ cs) ++ d ∷ []) same

-- the last of components that stand in order
ordered-last : (at end : ℕ) (cs : List Placed) (c : Placed) → last_of cs ≡ Some c → AreInOrder at end cs → (at ≤ c.start) × (end_of c ≤ end)
ordered-last at end [] c is h = grind arith
ordered-last at end (p ∷ []) c is h = grind (arith, same_Some)
ordered-last at end (p ∷ q ∷ cs) c is h = grind (arith, last_of-behind, ordered-last (end_of p) end (q ∷ cs) c (sym (last_of-behind p q cs) ∙ is) h.1)

-- and the one before it
ordered-before : (at end : ℕ) (cs : List Placed) (b c : Placed) → last_of cs ≡ Some b → AreInOrder at end (cs ++ c ∷ []) → end_of b ≤ c.start
ordered-before at end [] b c is h = cc
ordered-before at end (p ∷ []) b c is h = let same : p ≡ b = same_Some _ _ is in subst (λ q. end_of q ≤ c.start) same h.1.0
ordered-before at end (p ∷ q ∷ cs) b c is h = ordered-before (end_of p) end (q ∷ cs) b c (sym (last_of-behind p q cs) ∙ is) h.1

-- the last component ends where the list does
end_of_last : (cs : List Placed) (c : Placed) → last_of cs ≡ Some c → end_at cs (length cs - 1) ≡ end_of c
end_of_last cs c is =
    let some = last-filled cs c is in
    let got = cond-true _ (slice_get cs (length cs - 0 - 1)) None (lt-ltb 0 (length cs) some) in
    let same : length cs - 1 ≡ length cs - 0 - 1 = omega arith in
    let told : slice_get cs (length cs - 1) ≡ Some c = ap (slice_get cs) same ∙ sym got ∙ sym (between-last cs 0 0) ∙ ap last_of (between-all cs) ∙ is in
    ap (λ o. unwrap_or (option_map end_of o) 0) told

-- a kind that is no name is none
pub clash : (k : Kind) (name : List ℕ) → k ≡ normal name → is_name k ≡ false → ⊥
clash k name is other = both_ways (is_name k) other (ap is_name is)

-- A body that ends in a name, with more of that name behind it.

-- three bytes or more between separators are a name
long-name : (s : Separators) (v : List ℕ) (at : ℕ) → 2 < length v
    → (first s (record { text = v; start = at }) ≡ component (name_part v) at) × (later s (record { text = v; start = at }) ≡ component (name_part v) at)
long-name s v at long = grind arith

-- a text without a separator is one component
alone : (s : Separators) (at : ℕ) (v : List ℕ) → 0 < length v → IsUnseparated (is_separator s) v → body s at v ≡ first s (record { text = v; start = at })
alone s at [] some unseparated = absurd (omega arith)
alone s at (b ∷ bs) some unseparated = ap (λ pieces. body_of s (placed at pieces)) (slice_split_none (is_separator s) (b ∷ bs) unseparated) ∙ append-nil (first s (record { text = b ∷ bs; start = at }))

-- where the last component of some is a name
record IsNameAt (cs others : List Placed) (text : List ℕ) (at : ℕ) (name : List ℕ) (c : Placed) : Type 0 where
  pub same : text ≡ name
  pub place : at ≡ c.start
  pub before : but_last cs ≡ others
  pub filled : 0 < length text

module _ (text : List ℕ) (at : ℕ) (name : List ℕ) (c : Placed) (part : c.part ≡ name_part name) where
  -- a component is no other one
  no_other : (others : List Placed) (p : Part) (q : ℕ) → is_name p.kind ≡ false → last_of (others ++ component p q) ≡ Some c → ⊥
  no_other others p q other is = grind (arith, last_of-push, clash)

  -- a name is that name
  that_name : (others : List Placed) → 0 < length text → last_of (others ++ component (name_part text) at) ≡ Some c → IsNameAt (others ++ component (name_part text) at) others text at name c
  that_name others h is = grind (arith, last_of-push, but_last-push)

  -- of a first segment
  first_name : (s : Separators) → last_of (first s (record { text = text; start = at })) ≡ Some c → IsNameAt (first s (record { text = text; start = at })) [] text at name c
  first_name s is = grind arith

  -- of a later one, unless it is none
  later_name : (s : Separators) (others : List Placed) → last_of (others ++ later s (record { text = text; start = at })) ≡ Some c
      → (last_of others ≡ Some c) ⊎ IsNameAt (others ++ later s (record { text = text; start = at })) others text at name c
  later_name s others is = grind (arith, append-nil, no_other, that_name, filled-long)

module _ (s : Separators) (at : ℕ) (b x : List ℕ) (unseparated : IsUnseparated (is_separator s) x) (long : 1 < length x) (c : Placed) (name : List ℕ)
    (is_last : last_of (body s at b) ≡ Some c) (part : c.part ≡ name_part name) (ends : c.start + length name ≡ at + length b) where
  abbrev Goal : List ℕ → Type 0
  Goal text = (0 < length name) × (body s at (text ++ x) ≡ but_last (body s at text) ++ component (name_part (name ++ x)) c.start)

  -- where the name is all there is
  by_alone : IsUnseparated (is_separator s) b → 0 < length b → Goal b
  by_alone none some =
      let h = first_name b at name c part s (sym (ap last_of (alone s at b some none)) ∙ is_last) in (
        omega (arith, h.filled, ap length h.same),
        alone s at (b ++ x) (omega (arith, length-append b x)) (All-append (λ y. is_separator s y ≡ false) b x none unseparated)
            ∙ (long-name s (b ++ x) at (omega (arith, length-append b x))).0
            ∙ ap₂ (λ v n. component (name_part (v ++ x)) n) h.same h.place
            ∙ ap (λ cs. cs ++ component (name_part (name ++ x)) c.start) (sym h.before ∙ ap but_last (sym (alone s at b some none))),
      )

  -- a list ends before a separator that stands behind it
  too_early : (us : List ℕ) (m : ℕ) (vs : List ℕ) → b ≡ us ++ m ∷ vs → is_separator s m ≡ true → last_of (body s at (us ++ m ∷ [])) ≡ Some c → ⊥
  too_early [] m vs whole separates is =
      let root_alone : body s at (m ∷ []) ≡ component (root_part (root_text s)) at = ap (λ pieces. body_of s (placed at pieces)) (slice_split-cons_yes (is_separator s) m [] separates) in
      let same : record { part = root_part (root_text s); start = at } ≡ c = same_Some _ _ (sym (ap last_of root_alone) ∙ is) in
      clash root name (ap (λ d. d.part.kind) same ∙ ap (λ r. r.kind) part) refl
  too_early (u ∷ us) m vs whole separates is =
      let h = ordered-last at (at + length (u ∷ us)) (body s at (u ∷ us)) c (sym (ap last_of (body_from-separator s at m separates Body u us)) ∙ is) (body_in_order s at (u ∷ us)) in
      absurd (omega (arith, h.1, ap (λ r. length r.text) part, ends, ap length whole, length-append (u ∷ us) (m ∷ vs)))

  -- where it stands behind a separator
  by_parted : (us : List ℕ) (m : ℕ) (vs : List ℕ) → b ≡ us ++ m ∷ vs → is_separator s m ≡ true → IsUnseparated (is_separator s) vs → Goal (us ++ m ∷ vs)
  by_parted us m vs whole separates none = elim (later_name vs place name c part s kept (sym (ap last_of cut) ∙ ap (λ t. last_of (body s at t)) (sym whole) ∙ is_last)) [
    | inl early ↦ absurd (too_early us m vs whole separates early)
    | inr h ↦ (
      omega (arith, h.filled, ap length h.same),
      ap (body s at) (append_assoc us (m ∷ vs) x)
          ∙ body_from-append s at m separates Body us (vs ++ x)
          ∙ ap (λ cs. kept ++ cs)
          (later_body-last s place (vs ++ x) (All-append (λ y. is_separator s y ≡ false) vs x none unseparated)
          ∙ (long-name s (vs ++ x) place (omega (arith, length-append vs x, h.filled))).1
          ∙ ap₂ (λ v n. component (name_part (v ++ x)) n) h.same h.place)
          ∙ ap (λ cs. cs ++ component (name_part (name ++ x)) c.start) (sym h.before ∙ ap but_last (sym cut)),
    )
  ]
    where
      place : ℕ
      place = at + length us + 1

      kept : List Placed
      kept = body s at (us ++ m ∷ [])

      cut : body s at (us ++ m ∷ vs) ≡ kept ++ later s (record { text = vs; start = place })
      cut = body_from-append s at m separates Body us vs ∙ ap (λ cs. kept ++ cs) (later_body-last s place vs none)

  -- a body with more behind its last name
  grown : Goal b
  grown = elim (cases_lt 0 start) [
    | inl behind ↦
        let split = cut_last (is_separator s) b start 0 h behind in
        subst Goal (sym split.whole) (by_parted split.before split.mark (drop start b) split.whole split.passes (behind_last-unseparated (is_separator s) b start h))
    | inr least ↦
        let first : start ≡ 0 = omega arith in
        by_alone (subst (λ n. IsUnseparated (is_separator s) (drop n b)) first (behind_last-unseparated (is_separator s) b start h)) (filled b is_last)
  ]
    where
      start : ℕ
      start = length b - suffix_len (λ y. not (is_separator s y)) b

      h : IsLastPlace (is_separator s) b start
      h = last_place (is_separator s) b

      filled : (text : List ℕ) → last_of (body s at text) ≡ Some c → 0 < length text
      filled text is = grind arith

-- A path with more behind its file name, where that leaves its separators and its prefix.

-- a path has the separators and the prefix of another
pub record KeepsFront (d : Dialect) (t u : List ℕ) : Type 0 where
  pub same_separators : separators d u ≡ separators d t
  pub same_prefix : prefix_of d u ≡ prefix_of d t

-- a name that is last is written as it is
of_name : (k : Kind) (name : List ℕ) → name_of k ≡ Some name → k ≡ normal name
of_name k name e = grind arith

heads : {q r : Part} {qs rs : List Part} → q ∷ qs ≡ r ∷ rs → (q ≡ r) × (qs ≡ rs)
heads h = (cc, cc)

written-last_of : (d : Dialect) (cs : List Placed) (c : Placed) → parts cs ≡ as_written d (parts cs) → last_of cs ≡ Some c → c.part ≡ written d c.part
written-last_of d [] c all is = cc
written-last_of d (p ∷ []) c all is = let same : p ≡ c = same_Some _ _ is in subst (λ q. q.part ≡ written d q.part) same (heads all).0
written-last_of d (p ∷ q ∷ cs) c all is = written-last_of d (q ∷ cs) c (heads all).1 (sym (last_of-behind p q cs) ∙ is)

pub name-last : (d : Dialect) (t name : List ℕ) → file_name_of d t ≡ Some name → HasName d t name
name-last d t name e = by (last_of (comps d t)) refl e
  where
    as_named : (d : Dialect) (p : Part) → p.kind ≡ normal name → written d p ≡ name_part name
    as_named unix p k = ap written_unix k
    as_named windows p k = ap (written_windows p.text) k

    by : (o : Option Placed) → last_of (comps d t) ≡ o → option_and_then (λ c. name_of c.part.kind) o ≡ Some name → HasName d t name
    by None is h = cc
    by (Some c) is h = record {
      last = c;
      is_last = is;
      part = written-last_of d (comps d t) c (written-parts_of d t) is ∙ as_named d c.part (of_name c.part.kind name h);
    }

module _ (d : Dialect) (t name x : List ℕ) (h : HasName d t name) (long : 1 < length x) (unseparated : IsUnseparated (is_separator (separators d t)) x) where
  abbrev c : Placed
  c = h.last

  abbrev end : ℕ
  end = c.start + length name

  abbrev grown_text : List ℕ
  grown_text = take end t ++ x

  ends : end_of c ≡ end
  ends = ap (λ p. c.start + length p.text) h.part

  pub within : end ≤ length t
  within = omega (arith, ends, (ordered-last 0 (length t) (comps d t) c h.is_last (comps-laid_out d t).in_order).1)

  pub fits : length (take end t) ≡ end
  fits = length-take-le end t within

  abbrev s : Separators
  s = separators d t

  -- the components behind so many bytes are those of the text up to the name's end
  pub cut_body : (at : ℕ) → last_of (body s at (drop at t)) ≡ Some c → at ≤ end → body s at (drop at (take end t)) ≡ body s at (drop at t)
  cut_body at is low =
      let B = body s at (drop at t) in
      let size : at + (end - at) ≡ end = omega arith in
      let cut : drop at (take end t) ≡ take (end - at) (drop at t) = ap (λ n. drop at (take n t)) (sym size) ∙ drop-take at (end - at) t in
      let some = last-filled B c is in
      let all : suc (length B - 1) ≡ length B = omega arith in
      let last : end_at B (length B - 1) - at ≡ end - at = ap (λ n. n - at) (end_of_last B c is ∙ ends) in
      let up_to : body s at (take (end_at B (length B - 1) - at) (drop at t)) ≡ take (suc (length B - 1)) B = body-take s at (drop at t) (length B - 1) (omega arith) in
      let whole : take (suc (length B - 1)) B ≡ B = ap (λ n. take n B) all ∙ take_all (length B) B (omega arith) in
      ap (body s at) (cut ∙ ap (λ n. take n (drop at t)) (sym last)) ∙ up_to ∙ whole

  -- they begin with or before the name, which is not empty, and are those of before, with more of the name
  pub behind : (at : ℕ) → last_of (body s at (drop at t)) ≡ Some c
      → (at ≤ c.start) × (0 < length name) × (body s at (drop at (take end t) ++ x) ≡ but_last (body s at (drop at t)) ++ component (name_part (name ++ x)) c.start)
  behind at is =
      let low = (ordered-last at (at + length (drop at t)) (body s at (drop at t)) c is (body_in_order s at (drop at t))).0 in
      let same = cut_body at is (omega (arith, low)) in
      let place : c.start + length name ≡ at + length (drop at (take end t)) = omega (arith, length-drop at (take end t), fits, low) in
      let told = grown s at (drop at (take end t)) x unseparated long c name (ap last_of same ∙ is) h.part place in
      (low, told.0, told.1 ∙ ap (λ cs. but_last cs ++ component (name_part (name ++ x)) c.start) same)

  grown_behind : (o : Option Found) → last_of (comps_behind s t o) ≡ Some c → comps_behind s grown_text o ≡ but_last (comps_behind s t o) ++ component (name_part (name ++ x)) c.start
  grown_behind None is = (behind 0 is).2
  grown_behind (Some f) is = by (body s f.length (drop f.length t)) refl is
    where
      p : Placed
      p = record { part = prefix_part f.prefix (take f.length t); start = 0 }

      by : (B : List Placed) → body s f.length (drop f.length t) ≡ B → last_of (p ∷ B) ≡ Some c
          → component (prefix_part f.prefix (take f.length grown_text)) 0 ++ body s f.length (drop f.length grown_text) ≡ but_last (p ∷ B) ++ component (name_part (name ++ x)) c.start
      by [] e is =
          let same : p ≡ c = same_Some _ _ is in
          absurd (clash (prefix f.prefix) name (ap (λ q. q.part.kind) same ∙ ap (λ r. r.kind) h.part) refl)
      by (q ∷ B) e is =
          let told = behind f.length (ap last_of e ∙ sym (last_of-behind p q B) ∙ is) in
          let inside : f.length ≤ end = omega (arith, told.0) in
          let low : f.length ≤ length (take end t) = omega (arith, inside, fits) in
          ap₂ (λ raw cs. component (prefix_part f.prefix raw) 0 ++ cs)
          (take-append-le f.length (take end t) x low ∙ take-take f.length end t inside)
          (ap (body s f.length) (drop-append-le f.length (take end t) x low) ∙ told.2 ∙ ap (λ cs. but_last cs ++ component (name_part (name ++ x)) c.start) e)
          ∙ ap (λ cs. cs ++ component (name_part (name ++ x)) c.start) (sym (but_last-behind p q B))

  -- its list is that of before, with more of the name
  pub grown-comps : KeepsFront d t grown_text → comps d grown_text ≡ but_last (comps d t) ++ component (name_part (name ++ x)) c.start
  grown-comps front = ap₂ (λ r o. comps_behind r grown_text o) front.same_separators front.same_prefix ∙ grown_behind (prefix_of d t) h.is_last

  -- so it has that name, and the parent of before
  pub grown-name : KeepsFront d t grown_text → file_name_of d grown_text ≡ Some (name ++ x)
  grown-name front = ap (λ cs. option_and_then (λ last. name_of last.part.kind) (last_of cs)) (grown-comps front) ∙ ap (option_and_then (λ last. name_of last.part.kind)) (last_of-push (but_last (comps d t)) (record { part = name_part (name ++ x); start = c.start }))

  pub same_front : (n : ℕ) → n ≤ end → take n t ≡ take n grown_text
  same_front n low = sym (take-append-le n (take end t) x (omega (arith, fits)) ∙ take-take n end t low)

  same_cut : (above : List Placed) → AreInOrder 0 (length t) (above ++ c ∷ []) → slice_after_back (above ++ c ∷ []) t ≡ slice_after_back (above ++ record { part = name_part (name ++ x); start = c.start } ∷ []) grown_text
  same_cut above order = grind (arith, common_steps, ordered-before, same_front)

  pub grown-parent : KeepsFront d t grown_text → parent_of d grown_text ≡ parent_of d t
  grown-parent front =
      let cs = comps d t in
      let new : Placed = record { part = name_part (name ++ x); start = c.start } in
      let whole = pushed cs c h.is_last in
      let own : Some c.part ≡ last_part cs = ap (option_map (λ q. q.part)) (sym h.is_last) in
      let last : Some new.part ≡ last_part (comps d grown_text) = ap (option_map (λ q. q.part)) (sym (ap last_of (grown-comps front) ∙ last_of-push (but_last cs) new)) in
      parent_left d grown_text new.part last refl
      ∙ ap (λ ds. Some (slice_after_back ds grown_text)) (grown-comps front)
      ∙ ap Some (sym (same_cut (but_last cs) (subst (AreInOrder 0 (length t)) whole (comps-laid_out d t).in_order)))
      ∙ ap (λ ds. Some (slice_after_back ds t)) (sym whole)
      ∙ sym (parent_left d t c.part own (ap (λ q. is_root q.kind) h.part))
