-- What two paths begin with: how far they have been read alike, and that it is the longest that both begin with.
use Rattle.std.proofs.Common.{◌≡◌, ℕ, zero, suc, ◌+◌, ◌-◌, ◌<◌, ◌≤◌, List, [], ◌∷◌, true, false, if◌then◌else◌, length, drop, replicate, refl, sym, ap, ap₂, ◌∙◌, arith, length-drop, ◌&&◌, take}
use Rattle.std.proofs.lemmas.Grind.{common_steps}
use Rattle.std.specs.Prelude.{Some, None}
use Rattle.std.specs.Str.{bytes_eq}
use Rattle.std.proofs.lemmas.Bool.{cases_lt, and_parts}
use Rattle.std.proofs.lemmas.List.{drop-drop}
use Rattle.std.proofs.lemmas.Option.{same_Some}
use Rattle.std.specs.List.{starts_with}
use Rattle.std.proofs.lemmas.Slice.Eq.{bytes_eq-Decides}
use Rattle.typed_path.specs.components.{Dialect, Part, Placed, parts, texts, comps, parts_of}
use Rattle.typed_path.specs.scan.{front, left, start_at, end_at, slice_after_front, slice_after, IsLaidOut, first_part}
use Rattle.typed_path.specs.queries.{shared_count, end_of_first, shared_end}
use Rattle.typed_path.proofs.lemmas.components.Cuts.{comps-laid_out, ends-within, start-end}
use Rattle.typed_path.proofs.lemmas.queries.Bases.{slice_after-more, left-fronts}
use Rattle.typed_path.proofs.lemmas.scan.Readings.{left-all, left-front, left-taken}

-- it is no longer than the text
left-fits : (cs : List Placed) (t : List ℕ) (k : ℕ) → k ≤ length cs → length (left cs t k 0) ≤ length t
left-fits cs t k within = grind (arith, left-all, cases_lt, left-front, length-drop, left-taken)

abbrev shared : List Placed → List Placed → ℕ
shared cs ds = shared_count (texts (parts cs)) (texts (parts ds))

-- how far two paths have been read: as many components of each, all alike so far, and where the last of them ends
pub record Shares (d : Dialect) (t u : List ℕ) (own others : List Placed) (slice : List ℕ) (end : ℕ) : Type 0 where
  pub taken : ℕ
  pub items : own ≡ drop taken (comps d t)
  pub slice_left : slice ≡ slice_after (comps d t) t (replicate taken front)
  pub within : taken ≤ length (comps d t)
  pub ends : end ≡ end_of_first (comps d t) taken
  pub fits : end ≤ length t
  pub alike : shared (comps d t) (comps d u) ≡ taken + shared own others

pub shares_start : (d : Dialect) (t u : List ℕ) (own others : List Placed) (slice : List ℕ) → own ≡ comps d t → others ≡ comps d u → slice ≡ t → Shares d t u own others slice 0
shares_start d t u own others slice e f g = grind arith

-- where one of the lists is at its end, or the texts differ, no more is shared
abbrev IsEnd : List Placed → List Placed → Type 0
IsEnd own others = shared own others ≡ 0

pub no_own : (own others : List Placed) → None ≡ first_part own → IsEnd own others
no_own own others h = grind arith

pub no_other : (own others : List Placed) → None ≡ first_part others → IsEnd own others
no_other [] [] none = refl
no_other (c ∷ cs) [] none = refl
no_other own (e ∷ es) none = cc

-- one step more of two lists
pub shared_step : (own others : List Placed) (p q : Part) → Some p ≡ first_part own → Some q ≡ first_part others
    → shared own others ≡ (if bytes_eq p.text q.text then suc (shared (drop 1 own) (drop 1 others)) else 0)
shared_step own others p q h other = grind arith

-- the first component that is left is the next one of the path
first_left : (cs : List Placed) (k : ℕ) (p : Part) → Some p ≡ first_part (drop k cs) → (k < length cs) × (end_at cs k ≡ start_at cs k + length p.text)
first_left [] zero p some = cc
first_left [] (suc k) p some = cc
first_left (c ∷ cs) zero p some = (omega arith, ap (λ q. c.start + length q.text) (sym (same_Some _ _ some)))
first_left (c ∷ cs) (suc k) p some = let h = first_left cs k p some in (omega arith, h.1)

module _ {d : Dialect} {t u : List ℕ} {own others : List Placed} {slice : List ℕ} {end : ℕ} (h : Shares d t u own others slice end) where
  -- nothing more is shared
  pub shares_end : IsEnd own others → end ≡ shared_end d t u
  shares_end none = grind arith

  -- what is left is no longer than the path
  pub slice_fits : length slice ≤ length t
  slice_fits = omega (arith, ap length (h.slice_left ∙ left-fronts d t h.taken h.within), left-fits (comps d t) t h.taken h.within)

  -- where what is left begins
  pub begins_at : h.taken < length (comps d t) → length t - length slice ≡ start_at (comps d t) h.taken
  begins_at inside = by h.taken inside (h.slice_left ∙ left-fronts d t h.taken h.within)
    where
      laid : IsLaidOut (comps d t) t
      laid = comps-laid_out d t

      by : (k : ℕ) → k < length (comps d t) → slice ≡ left (comps d t) t k 0 → length t - length slice ≡ start_at (comps d t) k
      by zero inside is = omega (arith, ap length (is ∙ left-all (comps d t) t), laid.from_start)
      by (suc k) inside is = grind (arith, left-front, length-drop, start-end, ends-within, laid)

  -- the next component of the path: where it begins and ends
  pub next_ends : (p : Part) → Some p ≡ first_part own → (length t - length slice + length p.text ≡ end_at (comps d t) h.taken) × (end_at (comps d t) h.taken ≤ length t)
  next_ends p some =
      let first = first_left (comps d t) h.taken p (some ∙ ap first_part h.items) in
      (omega (arith, begins_at first.0, first.1), ends-within 0 (length t) (comps d t) h.taken (comps-laid_out d t).in_order first.0)

  -- both next components are alike
  pub shares_step : (p q : Part) (own' others' : List Placed) (slice' : List ℕ) (end' : ℕ) → Some p ≡ first_part own → Some q ≡ first_part others → bytes_eq p.text q.text ≡ true
      → own' ≡ drop 1 own → others' ≡ drop 1 others → slice' ≡ slice_after_front own slice → end' ≡ length t - length slice + length p.text
      → Shares d t u own' others' slice' end'
  shares_step p q own' others' slice' end' some other alike e f g ends =
      let first = first_left (comps d t) h.taken p (some ∙ ap first_part h.items) in
      let next = next_ends p some in
      let more : h.taken + 1 ≡ suc h.taken = omega arith in
      record {
        taken = suc h.taken;
        items = e ∙ ap (drop 1) h.items ∙ drop-drop 1 h.taken (comps d t) ∙ ap (λ n. drop n (comps d t)) more;
        slice_left = g ∙ ap₂ slice_after_front h.items h.slice_left ∙ sym (slice_after-more h.taken (comps d t) t);
        within = omega (arith, first.0);
        ends = ends ∙ next.0;
        fits = omega (arith, ends, next.0, next.1);
        alike =
            h.alike
            ∙ ap (λ n. h.taken + n) (shared_step own others p q some other ∙ ap (λ b. if b then suc (shared (drop 1 own) (drop 1 others)) else 0) alike
            ∙ ap suc (ap₂ shared (sym e) (sym f)))
            ∙ omega arith;
      }

-- texts that differ end what is shared
pub differ : (own others : List Placed) (p q : Part) → Some p ≡ first_part own → Some q ≡ first_part others → bytes_eq p.text q.text ≡ false → IsEnd own others
differ own others p q h other unlike = grind arith

-- a path has as many texts as components
pub texts-length : (d : Dialect) (t : List ℕ) → length (texts (parts_of d t)) ≡ length (comps d t)
texts-length d t = grind (arith, common_steps)

-- so does the other list, with what is shared
pub starts_other : (xs ys : List (List ℕ)) → starts_with bytes_eq ys (take (shared_count xs ys) xs) ≡ true
starts_other [] ys = grind arith
starts_other (x ∷ xs) [] = grind arith
starts_other (x ∷ xs) (y ∷ ys) = grind (arith, starts_other xs ys)

-- and what both begin with begins what is shared
pub starts_shared : (xs ys zs : List (List ℕ)) → starts_with bytes_eq xs zs ≡ true → starts_with bytes_eq ys zs ≡ true → starts_with bytes_eq (take (shared_count xs ys) xs) zs ≡ true
starts_shared xs ys [] one other = refl
starts_shared [] ys (z ∷ zs) one other = one
starts_shared (x ∷ xs) [] (z ∷ zs) one other = cc
starts_shared (x ∷ xs) (y ∷ ys) (z ∷ zs) one other =
    let own = and_parts (bytes_eq z x) (starts_with bytes_eq xs zs) one in
    let their = and_parts (bytes_eq z y) (starts_with bytes_eq ys zs) other in
    let first : z ≡ x = (bytes_eq-Decides z x).0 own.0 in
    let second : z ≡ y = (bytes_eq-Decides z y).0 their.0 in
    let same : bytes_eq x y ≡ true = (bytes_eq-Decides x y).1 (sym first ∙ second) in
    ap (λ b. starts_with bytes_eq (take (if b then suc (shared_count xs ys) else 0) (x ∷ xs)) (z ∷ zs)) same
    ∙ ap₂ (λ a b. a && b) own.0 (starts_shared xs ys zs own.1 their.1)
