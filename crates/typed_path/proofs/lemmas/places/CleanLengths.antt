-- How long clean texts are, and paths that lead from a base.
use Rattle.std.proofs.Common.{◌≡◌, ℕ, zero, suc, ◌+◌, ◌*◌, ◌-◌, ◌≤◌, ◌==◌, ◌||◌, not, Bool, true, false, if◌then◌else◌, List, [], ◌∷◌, ◌++◌, length, take, drop, Option, Some, None, is_some, IfSome, refl, sym, ap, subst, ◌∙◌, arith, eqb-true, length-append, length-take, length-drop}
use Rattle.std.proofs.lemmas.Grind.{common_steps}
use Rattle.std.specs.List.{AllByRecursion, join_with_byte}
use Rattle.std.proofs.lemmas.Bool.{cond_both, both_ways, eqb-false}
use Rattle.std.proofs.lemmas.List.Elements.{All-head}
use Rattle.std.proofs.lemmas.List.Sums.{sum_by-cons}
use Rattle.typed_path.specs.declared.scan.separators.Separators.{Separators}
use Rattle.typed_path.specs.declared.scan.separators.Separators.TheVariants.{Slash, Either}
use Rattle.typed_path.specs.components.{Dialect, unix, windows, dot, backslash, separators, is_separator, is_dot, is_dot_dot, root_text, Kind, prefix, root, current, parent, normal, Part, parts, kinds, root_part, current_part, parent_part, name_part, Found, drive, prefix_of, body, comps_behind, parts_of}
use Rattle.typed_path.specs.queries.{begins_with_root, is_disk}
use Rattle.typed_path.specs.changes.{room_of}
use Rattle.typed_path.specs.places.{unmet, kept_names, is_anchored, rising, dots, kept_segments, own_separator, unheaded, behind_head, cleaned, clean_text, row_end, met_count, steps_up, names_down, is_reached, steps_text, relative_text}
use Rattle.typed_path.proofs.lemmas.lists.Lists.{width, slice_split-some, slice_split-unseparated, IsUnseparated, first-piece}
use Rattle.typed_path.proofs.lemmas.components.FirmPrefixes.{parted, drive-apart, drive-stays}
use Rattle.typed_path.proofs.lemmas.components.Segments.{pieces, named_part, first_part, first_parts, later_parts, body_parts, body_parts-read, parts-body, parts_behind, parts-comps_behind, IsWritten, IsWrittenPart, each-written}
use Rattle.typed_path.proofs.lemmas.components.PrefixCuts.{parts_of-none}
use Rattle.typed_path.proofs.lemmas.changes.Lengths.{size}
use Rattle.typed_path.proofs.lemmas.changes.MergedInPlace.{room-body}
use Rattle.typed_path.proofs.lemmas.places.CleanTexts.{cleaned-rooted, cleaned-bare, cleaned-prefixed}
use Rattle.typed_path.proofs.lemmas.components.Prefixes.{prefix_of-unseparated}

-- The room that components take by their kinds, each but a root with a separator.

abbrev weight : Kind → ℕ
weight (prefix p) = 0
weight root = 1
weight current = 2
weight parent = 3
weight (normal name) = length name + 1

abbrev weights : List Kind → ℕ
weights [] = 0
weights (k ∷ ks) = weight k + weights ks

weight-size : (s : Separators) (k : Kind) (text : List ℕ) → IsWritten s k text → weight k ≤ size (record { kind = k; text = text })
weight-size s k text written = grind arith

weights-room : (s : Separators) (ps : List Part) → AllByRecursion (IsWrittenPart s) ps → weights (kinds ps) ≤ room_of ps
weights-room s [] each = omega arith
weights-room s (p ∷ ps) each = omega (arith, weight-size s p.kind p.text each.0, weights-room s ps each.1, sum_by-cons size p ps)

weights-body : (s : Separators) (t : List ℕ) → weights (kinds (body_parts s t)) ≤ length t + 1
weights-body s t = omega (arith, weights-room s (body_parts s t) (each-written s (body_parts s t) (body_parts-read s t)), room-body s t)

-- What is kept of a list takes no more room than the list.

width-append : (xs ys : List (List ℕ)) → width (xs ++ ys) ≡ width xs + width ys
width-append [] ys = omega arith
width-append (x ∷ xs) ys = omega (arith, width-append xs ys)

width-dots : (n : ℕ) → width (dots n) ≡ n * 3
width-dots zero = omega arith
width-dots (suc n) = omega (arith, width-dots n)

kept-weight : (ks : List Kind) → unmet ks * 3 + width (kept_names ks) ≤ weights ks
kept-weight [] = omega arith
kept-weight (prefix p ∷ ks) = omega (arith, kept-weight ks)
kept-weight (root ∷ ks) = omega (arith, kept-weight ks)
kept-weight (current ∷ ks) = omega (arith, kept-weight ks)
kept-weight (parent ∷ ks) = omega (arith, kept-weight ks)
kept-weight (normal name ∷ ks) = grind (arith, common_steps, cond_both, width, kept-weight ks)

segments-weight : (anchored : Bool) (ks : List Kind) → width (kept_segments anchored ks) ≤ weights ks
segments-weight anchored ks = grind (arith, kept-weight, width-append, width-dots)

-- behind a root, which is kept apart from them, they take less
rooted-weight : (anchored : Bool) (ks : List Kind) → width (kept_segments anchored ks) + (if begins_with_root ks then 1 else 0) ≤ weights ks
rooted-weight anchored ks = grind (arith, segments-weight)

-- segments with a separator between
joined-width : (c : ℕ) (segment : List ℕ) (segments : List (List ℕ)) → length (join_with_byte c (segment ∷ segments)) + 1 ≡ width (segment ∷ segments)
joined-width c segment [] = omega arith
joined-width c segment (next ∷ segments) = omega (arith, joined-width c next segments, length-append segment (c ∷ join_with_byte c (next ∷ segments)))

joined-length : (c : ℕ) (segments : List (List ℕ)) → length (join_with_byte c segments) ≤ width segments - 1
joined-length c [] = omega arith
joined-length c (segment ∷ segments) = omega (arith, joined-width c segment segments)

-- behind a head
parted-length : (sep : ℕ) (raw text : List ℕ) (there : Bool) → length ((raw ++ (if there then sep ∷ [] else [])) ++ text) ≤ length raw + length text + 1
parted-length sep raw text there = grind (arith, length-append)

headed-length : (sep : ℕ) (raw : List ℕ) (rooted implied : Bool) (segments : List (List ℕ))
    → length (behind_head sep raw rooted implied segments) ≤ length raw + width segments + (if rooted then 1 else 0)
headed-length sep raw true implied segments = omega (arith, parted-length sep raw (join_with_byte sep segments) true, joined-length sep segments)
headed-length sep raw false true [] = omega (arith, length-append (raw ++ []) [], length-append raw [])
headed-length sep raw false false [] = omega (arith, length-append (raw ++ []) [], length-append raw [])
headed-length sep raw false implied (segment ∷ segments) = grind (arith, common_steps, parted-length, joined-width)

-- Behind neither a prefix nor a root: what is read as a prefix there begins with another segment than the path, so some bytes of that are gone.

-- a first name that is kept is no prefix, whatever stands behind it
named-none : (t piece x : List ℕ) (segments : List (List ℕ)) → prefix_of windows t ≡ None → t ≡ piece ++ x → (length piece == 0) ≡ false → IsUnseparated (is_separator Either) piece
    → prefix_of windows (join_with_byte backslash (piece ∷ segments)) ≡ None
named-none t [] x segments none is filled unseparated = cc
named-none t (b ∷ bs) x segments none is filled unseparated =
    let undriven : drive (b ∷ bs) ≡ None = by (drive (b ∷ bs)) refl in
    behind segments undriven
  where
    plain : is_separator Either b ≡ false
    plain = All-head (λ c. is_separator Either c ≡ false) b bs unseparated

    by : (o : Option ℕ) → drive (b ∷ bs) ≡ o → o ≡ None
    by None e = refl
    by (Some letter) e = let found = drive-stays (b ∷ bs) x letter e in cc

    behind : (segments : List (List ℕ)) → drive (b ∷ bs) ≡ None → prefix_of windows (join_with_byte backslash ((b ∷ bs) ∷ segments)) ≡ None
    behind segments undriven = grind (arith, prefix_of-unseparated, plain, drive-apart, parted)

-- nor is `..`
dotted-none : (segments : List (List ℕ)) → prefix_of windows (join_with_byte backslash ((dot ∷ dot ∷ []) ∷ segments)) ≡ None
dotted-none segments = grind arith

abbrev IsPrefixed : List (List ℕ) → Type 0
IsPrefixed segments = is_some (prefix_of windows (join_with_byte backslash segments)) ≡ true

unprefixed : {A : Type 0} (segments : List (List ℕ)) → prefix_of windows (join_with_byte backslash segments) ≡ None → IsPrefixed segments → A
unprefixed segments none some = absurd (both_ways _ (ap is_some none) some)

-- so it is where other kinds are first
abbrev Saves : Kind → List Kind → Type 0
Saves k ks = IsPrefixed (kept_segments false (k ∷ ks)) → begins_with_root (k ∷ ks) ≡ false → width (kept_segments false (k ∷ ks)) + 2 ≤ weights (k ∷ ks)

saves-name : (t piece x : List ℕ) (ks : List Kind) → prefix_of windows t ≡ None → t ≡ piece ++ x → (length piece == 0) ≡ false → IsUnseparated (is_separator Either) piece → Saves (normal piece) ks
saves-name t piece x ks h is filled unseparated h1 relative = grind (arith, width, eqb-true, unprefixed, named-none, eqb-false, kept-weight, width-append, width-dots)

saves-first : (t piece x : List ℕ) (ks : List Kind) → prefix_of windows t ≡ None → t ≡ piece ++ x → IsUnseparated (is_separator Either) piece → Saves (first_part Either piece).kind ks
saves-first t piece x ks none is unseparated =
    cond_both (length piece == 0) (root_part (root_text Either)) _ (λ p. Saves p.kind ks) (λ e some relative. cc)
    (λ filled. cond_both (is_dot piece) current_part (named_part piece) (λ p. Saves p.kind ks)
    (λ e some relative. omega (arith, segments-weight false ks))
    (λ no_dot. cond_both (is_dot_dot piece) parent_part (name_part piece) (λ p. Saves p.kind ks)
    (λ e some relative. unprefixed (kept_segments false (parent ∷ ks)) (dotted-none (dots (unmet ks) ++ kept_names ks)) some)
    (λ no_dot_dot. saves-name t piece x ks none is filled unseparated)))

saves-body : (t : List ℕ) → prefix_of windows t ≡ None → IsPrefixed (kept_segments false (kinds (body_parts Either t))) → begins_with_root (kinds (body_parts Either t)) ≡ false
    → width (kept_segments false (kinds (body_parts Either t))) + 2 ≤ weights (kinds (body_parts Either t))
saves-body [] none some relative = cc
saves-body (b ∷ bs) none some relative = let h = slice_split-some (is_separator Either) (b ∷ bs) in by (pieces Either (b ∷ bs)) refl h.0 h.1 h.2 some relative
  where
    by : (all : List (List ℕ)) → pieces Either (b ∷ bs) ≡ all → (piece : List ℕ) (more : List (List ℕ)) → all ≡ piece ∷ more
        → IsPrefixed (kept_segments false (kinds (first_parts Either all))) → begins_with_root (kinds (first_parts Either all)) ≡ false
        → width (kept_segments false (kinds (first_parts Either all))) + 2 ≤ weights (kinds (first_parts Either all))
    by [] is piece more e = cc
    by (one ∷ others) is piece more e =
        let begins = first-piece (is_separator Either) (b ∷ bs) one others is in
        let each = subst (AllByRecursion (IsUnseparated (is_separator Either))) is (slice_split-unseparated (is_separator Either) (b ∷ bs)) in
        saves-first (b ∷ bs) one begins.0 (kinds (later_parts Either others)) none begins.1 each.0

-- Clean texts.

unheaded-length : (d : Dialect) (text : List ℕ) → length (unheaded d text) ≤ length text + 2
unheaded-length d text = grind arith

-- what stands behind no head takes a byte less than its segments, or is read as a prefix
bare-length : (d : Dialect) (segments : List (List ℕ)) (room : ℕ) → width segments ≤ room + 1
    → (is_some (prefix_of d (join_with_byte (own_separator d) segments)) ≡ true → width segments + 2 ≤ room + 1)
    → length (unheaded d (join_with_byte (own_separator d) segments)) ≤ room + 1
bare-length d [] room fits saves = omega arith
bare-length d (segment ∷ segments) room fits saves = by (join_with_byte (own_separator d) (segment ∷ segments)) (joined-width (own_separator d) segment segments) saves
  where
    by : (text : List ℕ) → length text + 1 ≡ width (segment ∷ segments) → (is_some (prefix_of d text) ≡ true → width (segment ∷ segments) + 2 ≤ room + 1) → length (unheaded d text) ≤ room + 1
    by text size saves = grind (arith, size, cond_both)

-- without a prefix
plain-length : (d : Dialect) (t : List ℕ) (ps : List Part) → ps ≡ parts (body (separators d t) 0 t) → weights (kinds ps) ≤ length t + 1
    → (begins_with_root (kinds ps) ≡ false → is_some (prefix_of d (join_with_byte (own_separator d) (kept_segments false (kinds ps)))) ≡ true → width (kept_segments false (kinds ps)) + 2 ≤ weights (kinds ps))
    → length (cleaned d ps) ≤ length t + 1
plain-length d t ps is fits saves = by (begins_with_root (kinds ps)) refl
  where
    by : (b : Bool) → begins_with_root (kinds ps) ≡ b → length (cleaned d ps) ≤ length t + 1
    by true e = omega (
      arith,
      ap length (cleaned-rooted d ps e),
      headed-length (own_separator d) [] true false (kept_segments true (kinds ps)),
      rooted-weight true (kinds ps),
      ap {B = ℕ} (λ b. if b then 1 else 0) e,
      fits,
    )
    by false e =
        let bare = ap (cleaned d) is ∙ cleaned-bare d (separators d t) t (ap (λ qs. begins_with_root (kinds qs)) (sym is) ∙ e)
        ∙ ap (λ qs. unheaded d (join_with_byte (own_separator d) (kept_segments false (kinds qs)))) (sym is) in
        subst (λ u. length u ≤ length t + 1) (sym bare)
        (bare-length d (kept_segments false (kinds ps)) (length t) (omega (arith, segments-weight false (kinds ps), fits)) (λ some. omega (arith, saves e some, fits)))

pub clean_text_length : (d : Dialect) (t : List ℕ) → length (clean_text d t) ≤ length t + 1
clean_text_length unix t =
    let is = parts-body Slash 0 t in
    plain-length unix t (parts (body Slash 0 t)) refl (subst (λ ps. weights (kinds ps) ≤ length t + 1) (sym is) (weights-body Slash t)) (λ e some. cc)
clean_text_length windows t = by (prefix_of windows t) refl
  where
    by : (o : Option Found) → prefix_of windows t ≡ o → length (clean_text windows t) ≤ length t + 1
    by None none = subst (λ ps. length (cleaned windows ps) ≤ length t + 1) (sym (parts_of-none t none))
        (plain-length windows t (body_parts Either t) (sym (parts_of-none t none) ∙ ap (λ o. parts (comps_behind (separators windows t) t o)) none) (weights-body Either t) (λ e some. saves-body t none some e))
    by (Some f) some =
        let s = separators windows t in
        let ks = kinds (parts (body s 0 (drop f.length t))) in
        let fits : weights ks ≤ length (drop f.length t) + 1 = subst (λ ps. weights (kinds ps) ≤ length (drop f.length t) + 1) (sym (parts-body s 0 (drop f.length t))) (weights-body s (drop f.length t)) in
        let anchored = not (is_disk f.prefix) || begins_with_root ks in
        omega (
          arith,
          ap length (cleaned-prefixed t f some),
          headed-length (row_end s) (take f.length t) (begins_with_root ks) (not (is_disk f.prefix)) (kept_segments anchored ks),
          rooted-weight anchored ks,
          fits,
          length-take f.length t,
          length-drop f.length t,
        )

-- Paths that lead from a base.

-- each name that is kept takes two bytes at least
few-names : (s : Separators) (ps : List Part) → AllByRecursion (IsWrittenPart s) ps → length (kept_names (kinds ps)) * 2 ≤ weights (kinds ps)
few-names s [] each = grind arith
few-names s (p ∷ ps) each = grind (arith, cond_both, few-names s ps each.1)

-- the same of a whole path, whose prefix holds none
record Weighs (ks : List Kind) (room : ℕ) : Type 0 where
  fits : weights ks ≤ room
  few : length (kept_names ks) * 2 ≤ room

weighs-body : (s : Separators) (t : List ℕ) → Weighs (kinds (body_parts s t)) (length t + 1)
weighs-body s t = record {
  fits = weights-body s t;
  few = omega (arith, few-names s (body_parts s t) (each-written s (body_parts s t) (body_parts-read s t)), weights-body s t);
}

weighs-whole : (d : Dialect) (t : List ℕ) → Weighs (kinds (parts_of d t)) (length t + 1)
weighs-whole d t = subst (λ ps. Weighs (kinds ps) (length t + 1)) (sym (parts-comps_behind (separators d t) t (prefix_of d t))) (by (prefix_of d t))
  where
    by : (o : Option Found) → Weighs (kinds (parts_behind (separators d t) t o)) (length t + 1)
    by None = weighs-body (separators d t) t
    by (Some f) =
        let h = weighs-body (separators d t) (drop f.length t) in
        record { fits = omega (arith, h.fits, length-drop f.length t); few = omega (arith, h.few, length-drop f.length t) }

width-drop : (n : ℕ) (names : List (List ℕ)) → width (drop n names) ≤ width names
width-drop zero names = omega arith
width-drop (suc n) [] = omega arith
width-drop (suc n) (name ∷ names) = omega (arith, width-drop n names)

few-rising : (ks : List Kind) → rising ks ≤ unmet ks
few-rising ks = cond_both (is_anchored ks) 0 (unmet ks) (λ n. n ≤ unmet ks) (λ e. omega arith) (λ e. omega arith)

pub relative_text_length : (d : Dialect) (path base : List ℕ) → IfSome (relative_text d path base) (λ text. length text ≤ length path + 2 * length base + 3)
relative_text_length d path base =
    let ks = kinds (parts_of d path) in
    let ls = kinds (parts_of d base) in
    let segments = dots (steps_up ks ls) ++ names_down ks ls in
    let own = weighs-whole d path in
    let other = weighs-whole d base in
    cond_both (is_reached ks ls) (Some (steps_text d (steps_up ks ls) (names_down ks ls))) None (λ o. IfSome o (λ text. length text ≤ length path + 2 * length base + 3))
    (λ e. omega (
      arith,
      unheaded-length d (join_with_byte (own_separator d) segments),
      joined-length (own_separator d) segments,
      width-append (dots (steps_up ks ls)) (names_down ks ls),
      width-dots (steps_up ks ls),
      width-drop (met_count ks ls) (kept_names ks),
      kept-weight ks,
      few-rising ks,
      own.fits,
      other.few,
    ))
    (λ e. tt)
