-- The beginning and the end of a path compared with another, and a base taken off.
use Rattle.std.proofs.Common.{◌≡◌, ℕ, zero, suc, ◌+◌, ◌<◌, ◌≤◌, List, [], ◌∷◌, Bool, true, false, ◌&&◌, cond, length, drop, replicate, refl, sym, ap, ◌∙◌, arith, ◌++◌, take, length-take, Some, None, Option, drop-drop, length-drop, length-append}
use Rattle.std.proofs.lemmas.Grind.{common_steps}
use Rattle.std.specs.List.{starts_with, ends_with}
use Rattle.std.specs.Str.{bytes_eq}
use Rattle.std.proofs.Math.Seq.{take-append_seam}
use Rattle.std.proofs.lemmas.List.{map-append, drop-append-le, take-append-le, length-map}
use Rattle.std.proofs.lemmas.Option.{same_Some}
use Rattle.std.proofs.Math.Bool.{and-false, and-true, and_assoc}
use lib.Pointwise.{pointwise}
use Rattle.std.proofs.lemmas.Slice.Eq.{starts_is, bytes_eq-Decides}
use Rattle.typed_path.specs.declared.scan.separators.Separators.{Separators}
use Rattle.typed_path.specs.declared.scan.cursor.Begin.TheVariants.{Inside}
use Rattle.typed_path.specs.components.{Dialect, windows, separators, Part, Placed, parts, texts, prefix_part, comps, comps_behind, component, body, later_body, Found, prefix_of}
use Rattle.typed_path.specs.scan.{first_part, last_part, is_clean, front, left, slice_after_front, but_last, start_at, slice_after, fronts, backs}
use Rattle.typed_path.specs.queries.{path_starts_with, stripped}
use Rattle.typed_path.specs.changes.{raw_length}
use Rattle.typed_path.proofs.lemmas.components.Cuts.{comps-laid_out, body-filled}
use Rattle.typed_path.proofs.lemmas.scan.Readings.{stepwise_slices, left-taken, left-front}
use Rattle.typed_path.proofs.lemmas.scan.Steps.{last_pushed, last_part-push}
use Rattle.typed_path.proofs.lemmas.components.Segments.{body_from-starts}
use Rattle.typed_path.proofs.lemmas.components.Prefixes.{prefix-fits}

-- A base taken off a path, component by component.

fronts-replicate : (k : ℕ) → fronts (replicate k front) ≡ k
fronts-replicate zero = refl
fronts-replicate (suc k) = ap (λ n. 1 + n) (fronts-replicate k) ∙ omega arith

backs-replicate : (k : ℕ) → backs (replicate k front) ≡ 0
backs-replicate zero = refl
backs-replicate (suc k) = backs-replicate k

-- one more step from the front
pub slice_after-more : (k : ℕ) (cs : List Placed) (slice : List ℕ) → slice_after cs slice (replicate (suc k) front) ≡ slice_after_front (drop k cs) (slice_after cs slice (replicate k front))
slice_after-more zero cs slice = grind arith
slice_after-more (suc k) cs slice = grind (arith, drop-drop, slice_after-more k (drop 1 cs) (slice_after_front cs slice))

-- the slice left behind the first components
pub left-fronts : (d : Dialect) (t : List ℕ) (k : ℕ) → k ≤ length (comps d t) → slice_after (comps d t) t (replicate k front) ≡ left (comps d t) t k 0
left-fronts d t k within = grind (arith, fronts-replicate, backs-replicate, stepwise_slices, comps-laid_out)

abbrev pub begins : List Placed → List Placed → Bool
begins rest wanted = starts_with bytes_eq (texts (parts rest)) (texts (parts wanted))

begins-step : (rest wanted : List Placed) (p q : Part) → Some p ≡ first_part wanted → Some q ≡ first_part rest → begins rest wanted ≡ (bytes_eq p.text q.text && begins (drop 1 rest) (drop 1 wanted))
begins-step rest wanted p q h own = grind arith

filled_from : (cs : List Placed) (p : Part) → Some p ≡ first_part cs → 0 < length cs
filled_from cs p h = grind arith

-- how far a base was taken off: as many components of each, all alike so far
pub record Strips (d : Dialect) (t b : List ℕ) (rest wanted : List Placed) (slice : List ℕ) : Type 0 where
  pub taken : ℕ
  pub items : rest ≡ drop taken (comps d t)
  pub base : wanted ≡ drop taken (comps d b)
  pub slice_left : slice ≡ slice_after (comps d t) t (replicate taken front)
  pub within : taken ≤ length (comps d t)
  pub within_base : taken ≤ length (comps d b)
  pub alike : path_starts_with d t b ≡ begins rest wanted

pub Strips-start : (d : Dialect) (t b : List ℕ) (rest wanted : List Placed) (slice : List ℕ) → rest ≡ comps d t → wanted ≡ comps d b → slice ≡ t → Strips d t b rest wanted slice
Strips-start d t b rest wanted slice e f g = grind arith

module _ {d : Dialect} {t b : List ℕ} {rest wanted : List Placed} {slice : List ℕ} (s : Strips d t b rest wanted slice) where
  -- no component is wanted any more
  pub Strips-end : wanted ≡ [] → stripped d t b ≡ Some slice
  Strips-end h = grind (arith, common_steps, length-drop, left-fronts)

  -- a component is wanted, and the path has no other
  pub Strips-short : (p : Part) → Some p ≡ first_part wanted → None ≡ first_part rest → stripped d t b ≡ None
  Strips-short p h h1 = grind arith

  -- the components differ
  pub Strips-differ : (p q : Part) → Some p ≡ first_part wanted → Some q ≡ first_part rest → bytes_eq p.text q.text ≡ false → stripped d t b ≡ None
  Strips-differ p q h own differ = grind arith

  -- they are alike, and both are taken
  pub Strips-step : (p q : Part) (rest' wanted' : List Placed) (slice' : List ℕ) → Some p ≡ first_part wanted → Some q ≡ first_part rest → bytes_eq p.text q.text ≡ true
      → rest' ≡ drop 1 rest → wanted' ≡ drop 1 wanted → slice' ≡ slice_after_front rest slice → Strips d t b rest' wanted' slice'
  Strips-step p q rest' wanted' slice' some own alike e f g =
      let size = length-drop s.taken (comps d t) in
      let base_size = length-drop s.taken (comps d b) in
      let filled = filled_from rest q own in
      let base_filled = filled_from wanted p some in
      let next : s.taken + 1 ≡ suc s.taken = omega arith in record {
        taken = suc s.taken;
        items = e ∙ ap (drop 1) s.items ∙ drop-drop 1 s.taken (comps d t) ∙ ap (λ n. drop n (comps d t)) next;
        base = f ∙ ap (drop 1) s.base ∙ drop-drop 1 s.taken (comps d b) ∙ ap (λ n. drop n (comps d b)) next;
        slice_left = g ∙ ap (λ cs. slice_after_front cs slice) s.items ∙ ap (slice_after_front (drop s.taken (comps d t))) s.slice_left ∙ sym (slice_after-more s.taken (comps d t) t);
        within = omega (arith, ap length s.items);
        within_base = omega (arith, ap length s.base);
        alike = s.alike ∙ begins-step rest wanted p q some own ∙ ap (λ test. test && begins (drop 1 rest) (drop 1 wanted)) alike
            ∙ ap (λ cs. begins cs (drop 1 wanted)) (sym e) ∙ ap (begins rest') (sym f);
      }

-- nothing is left of a path that does not begin with a base
pub stripped-not : (d : Dialect) (t b : List ℕ) → path_starts_with d t b ≡ false → stripped d t b ≡ None
stripped-not d t b apart = ap (λ test. cond test (Some (left (comps d t) t (length (comps d b)) 0)) None) apart

-- The end of a path compared with another, component by component.

abbrev pub ends : List Placed → List Placed → Bool
ends rest wanted = ends_with bytes_eq (texts (parts rest)) (texts (parts wanted))

module _ {X : Type 0} (eq : X → X → Bool) where
  pointwise-longer : (xs : List X) (x : X) → pointwise eq [] (xs ++ x ∷ []) ≡ false
  pointwise-longer xs x = grind (arith, common_steps)

  pointwise-shorter : (xs : List X) (x : X) → pointwise eq (xs ++ x ∷ []) [] ≡ false
  pointwise-shorter xs x = grind (arith, common_steps)

  -- two lists are alike where their last elements are, and those before
  pub pointwise-push : (xs ys : List X) (x y : X) → pointwise eq (xs ++ x ∷ []) (ys ++ y ∷ []) ≡ (pointwise eq xs ys && eq x y)
  pointwise-push [] [] x y = and-true (eq x y)
  pointwise-push [] (z ∷ zs) x y = ap (λ b. eq x z && b) (pointwise-longer zs y) ∙ and-false (eq x z)
  pointwise-push (w ∷ ws) [] x y = ap (λ b. eq w y && b) (pointwise-shorter ws x) ∙ and-false (eq w y)
  pointwise-push (w ∷ ws) (z ∷ zs) x y = ap (λ b. eq w z && b) (pointwise-push ws zs x y) ∙ sym (and_assoc (eq w z) (pointwise eq ws zs) (eq x y))

  -- the end of a list
  pub ends_with-push : (xs ns : List X) (x n : X) → ends_with eq (xs ++ x ∷ []) (ns ++ n ∷ []) ≡ (ends_with eq xs ns && eq n x)
  ends_with-push xs ns x n = grind (arith, length-append, pointwise, drop-append-le, pointwise-push)

texts-push : (cs : List Placed) (c : Placed) → texts (parts (cs ++ c ∷ [])) ≡ texts (parts cs) ++ c.part.text ∷ []
texts-push cs c = ap texts (map-append (λ x. x.part) cs (c ∷ [])) ∙ map-append (λ x. x.text) (parts cs) (c.part ∷ [])

-- nothing is wanted any more
pub ends-nothing : (rest wanted : List Placed) → None ≡ last_part wanted → ends rest wanted ≡ true
ends-nothing rest wanted h = grind (arith, common_steps)

-- a component is wanted, and the path has no other
pub ends-short : (rest wanted : List Placed) (p : Part) → Some p ≡ last_part wanted → None ≡ last_part rest → ends rest wanted ≡ false
ends-short rest wanted p h h1 = grind (arith, common_steps)

-- both have a last component
pub ends-step : (rest wanted : List Placed) (p q : Part) → Some p ≡ last_part wanted → Some q ≡ last_part rest
    → ends rest wanted ≡ (ends (but_last rest) (but_last wanted) && bytes_eq p.text q.text)
ends-step rest [] p q some own = cc
ends-step [] (w ∷ ws) p q some own = cc
ends-step (c ∷ cs) (w ∷ ws) p q some own =
    let d = last_pushed c cs in
    let e = last_pushed w ws in
    let own_part = same_Some _ _ (own ∙ ap last_part d.1 ∙ last_part-push (but_last (c ∷ cs)) d.0) in
    let wanted_part = same_Some _ _ (some ∙ ap last_part e.1 ∙ last_part-push (but_last (w ∷ ws)) e.0) in
    ap (λ xs. ends_with bytes_eq xs (texts (parts (w ∷ ws)))) (ap (λ xs. texts (parts xs)) d.1 ∙ texts-push (but_last (c ∷ cs)) d.0)
    ∙ ap (λ ns. ends_with bytes_eq (texts (parts (but_last (c ∷ cs))) ++ d.0.part.text ∷ []) ns) (ap (λ xs. texts (parts xs)) e.1 ∙ texts-push (but_last (w ∷ ws)) e.0)
    ∙ ends_with-push bytes_eq (texts (parts (but_last (c ∷ cs)))) (texts (parts (but_last (w ∷ ws)))) d.0.part.text e.0.part.text
    ∙ ap (λ x. ends (but_last (c ∷ cs)) (but_last (w ∷ ws)) && bytes_eq x.text d.0.part.text) (sym wanted_part)
    ∙ ap (λ x. ends (but_last (c ∷ cs)) (but_last (w ∷ ws)) && bytes_eq p.text x.text) (sym own_part)

-- A text that begins with the bytes of another, read as that one and what stands behind it.

-- what stands before a place in a text that begins with another stands there in that, and what stands behind it
-- begins with what does there
module _ (n : ℕ) (text base : List ℕ) (begun : text ≡ base ++ drop (length base) text) (low : n ≤ length base) where
  pub front-begun : take n text ≡ take n base
  front-begun = ap (take n) begun ∙ take-append-le n base (drop (length base) text) low

  pub behind-begun : take (length (drop n base)) (drop n text) ≡ drop n base
  behind-begun = grind (arith, drop-append-le, take-append_seam)

-- where the components of a text are some written as those of a base are, and then those behind a place, that is what is left of the text behind the base
module _ (d : Dialect) (s : Separators) (t b : List ℕ) (n : ℕ) (cs : List Placed) (some : 0 < length cs) (alike : texts (parts cs) ≡ texts (parts (comps d b)))
    (split : comps d t ≡ cs ++ later_body s n (drop n t)) (clean : is_clean Inside s (drop n t) ≡ true) where
  starts : path_starts_with d t b ≡ true
  starts =
      let R = later_body s n (drop n t) in
      (starts_is bytes_eq-Decides (texts (parts (comps d t))) (texts (parts (comps d b))) _ refl).1 (texts (parts R))
      (ap (λ es. texts (parts es)) split ∙ ap texts (map-append (λ c. c.part) cs R) ∙ map-append (λ p. p.text) (parts cs) (parts R) ∙ ap (λ ts. ts ++ texts (parts R)) alike)

  count : length (comps d t) ≡ length cs + length (later_body s n (drop n t))
  count = ap length split ∙ length-append cs (later_body s n (drop n t))

  size : length (comps d b) ≡ length cs
  size = grind (arith, length-map)

  -- the component at the border
  start_at-append : (bs : List Placed) (c : Placed) (es : List Placed) → start_at (bs ++ c ∷ es) (length bs) ≡ c.start
  start_at-append [] c es = refl
  start_at-append (d ∷ bs) c es = start_at-append bs c es

  rest_of : (rest : List ℕ) → rest ≡ drop n t → left (comps d t) t (length cs) 0 ≡ drop n t
  rest_of [] e =
      let all : length (comps d t) ≡ length cs + 0 = count ∙ ap (λ r. length cs + length (later_body s n r)) (sym e) in
      left-taken (comps d t) t (length cs) 0 (sym all) (omega arith) ∙ e
  rest_of (x ∷ xs) e =
      let next = body_from-starts Inside s n x xs (ap (is_clean Inside s) e ∙ clean) in
      let later : later_body s n (drop n t) ≡ record { part = next.0; start = n } ∷ next.1 = ap (later_body s n) (sym e) ∙ next.2 in
      let whole : comps d t ≡ cs ++ record { part = next.0; start = n } ∷ next.1 = split ∙ ap (λ es. cs ++ es) later in
      left-front (comps d t) t (length cs) some (omega (arith, count, ap length later))
      ∙ ap (λ es. drop (start_at es (length cs)) t) whole
      ∙ ap (λ m. drop m t) (start_at-append cs (record { part = next.0; start = n }) next.1)

  pub stripped-split : stripped d t b ≡ Some (drop n t)
  stripped-split =
      ap (λ test. cond test (Some (left (comps d t) t (length (comps d b)) 0)) None) starts
      ∙ ap (λ m. Some (left (comps d t) t m 0)) size
      ∙ ap Some (rest_of (drop n t) refl)

-- what is left of a path behind a base is so of two texts of Windows whose raw prefixes are one text, by what stands behind these
pub stripped-behind_prefix : (t b : List ℕ) (n : ℕ) → (o p : Option Found) → prefix_of windows t ≡ o → prefix_of windows b ≡ p
    → separators windows t ≡ separators windows b → take (raw_length o) t ≡ take (raw_length p) b → 0 < length (drop (raw_length p) b)
    → ((at : ℕ) → body (separators windows t) at (drop (raw_length o) t) ≡ body (separators windows t) at (drop (raw_length p) b) ++ later_body (separators windows t) (at + n) (drop n (drop (raw_length o) t)))
    → is_clean Inside (separators windows t) (drop n (drop (raw_length o) t)) ≡ true
    → stripped windows t b ≡ Some (drop n (drop (raw_length o) t))
stripped-behind_prefix t b n None None e f same raw some items clean =
    let s = separators windows t in
    let zero : 0 + n ≡ n = omega arith in
    stripped-split windows s t b n (body s 0 b) (body-filled s 0 b some)
    (ap (λ r. texts (parts (body r 0 b))) same ∙ ap (λ q. texts (parts (comps_behind (separators windows b) b q))) (sym f))
    (ap (comps_behind s t) e ∙ items 0 ∙ ap (λ m. body s 0 b ++ later_body s m (drop n t)) zero) clean
stripped-behind_prefix t b n (Some f) (Some g) e h same raw some items clean =
    let s = separators windows t in
    let fits = prefix-fits windows t f e in
    let base_fits = prefix-fits windows b g h in
    let within = fits.fits in
    let base_within = base_fits.fits in
    let long : f.length ≡ g.length = omega (arith, ap length raw, length-take f.length t, length-take g.length b) in
    let P = component (prefix_part f.prefix (take f.length t)) 0 in
    let B = body s f.length (drop g.length b) in
    let whole = drop-drop n f.length t in
    stripped-split windows s t b (f.length + n) (P ++ B) (omega arith)
    (ap (λ r. r ∷ texts (parts B)) raw ∙ ap (λ m. take g.length b ∷ texts (parts (body s m (drop g.length b)))) long
    ∙ ap (λ r. take g.length b ∷ texts (parts (body r g.length (drop g.length b)))) same ∙ ap (λ q. texts (parts (comps_behind (separators windows b) b q))) (sym h))
    (ap (comps_behind s t) e ∙ ap (λ cs. P ++ cs) (items f.length) ∙ ap (λ r. P ++ (B ++ later_body s (f.length + n) r)) whole)
    (ap (is_clean Inside s) (sym whole) ∙ clean)
    ∙ ap Some (sym whole)
stripped-behind_prefix t b n None (Some g) e h same raw some items clean =
    let base_fits = prefix-fits windows b g h in
    let filled = base_fits.filled in
    let within = base_fits.fits in
    absurd (omega (arith, ap length raw, length-take g.length b, length-take 0 t))
stripped-behind_prefix t b n (Some f) None e h same raw some items clean =
    let fits = prefix-fits windows t f e in
    let filled = fits.filled in
    let within = fits.fits in
    absurd (omega (arith, ap length raw, length-take f.length t, length-take 0 b))
