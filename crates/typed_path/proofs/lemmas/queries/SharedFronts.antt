-- What two paths begin with, as the front of the one that their bytes tell of.
use Rattle.std.proofs.Common.{◌≡◌, ℕ, zero, suc, ◌+◌, ◌≤◌, List, [], ◌∷◌, ◌++◌, true, false, if◌then◌else◌, length, take, drop, Ordering, refl, sym, ap, ap₂, ◌∙◌, append-nil, arith, zero-le}
use Rattle.std.specs.Option.{unwrap_or}
use Rattle.std.specs.Prelude.{option_map}
use Rattle.std.specs.List.{before_first}
use Rattle.std.specs.Ordering.{is_ne}
use Rattle.std.specs.Cmp.Lexicographic.{bytes_decides}
use Rattle.typed_path.specs.declared.scan.separators.Separators.{Separators}
use Rattle.typed_path.specs.declared.scan.cursor.Begin.{Begin}
use Rattle.typed_path.specs.declared.scan.cursor.Begin.TheVariants.{Body, Inside}
use Rattle.typed_path.specs.declared.scan.cursor.Body.{Body as Reading}
use Rattle.typed_path.specs.components.{Dialect, is_separator, kinds, Placed, body, comps, end_of, later_body, parts, parts_of, texts}
use Rattle.typed_path.specs.scan.{IsParting, begins_with_name, body_from, end_at, end_from, last_of}
use Rattle.typed_path.specs.queries.{IsSharedEnd, ShareFront, behind_prefix, end_of_first, has_prefix, shared_count, shared_end}
use Rattle.typed_path.specs.views.BodyViews.{body_items, body_slice}
use Rattle.typed_path.proofs.lemmas.components.Cuts.{comps-laid_out, ends-within}
use Rattle.typed_path.proofs.lemmas.order.SharedNames.{AreInOrder, begins-name, ends-order, other-at, own-at, unlike}
use Rattle.typed_path.proofs.lemmas.queries.Shared.{texts-length}
use Rattle.typed_path.proofs.lemmas.scan.Steps.{last_of-behind}
use Rattle.typed_path.proofs.lemmas.places.SharedFromBack.{shared_count-fits}
use Rattle.typed_path.proofs.lemmas.places.NearSteps.{none-shared}

-- Where the components of a front end.

end-last : (c : Placed) (cs more : List Placed) → end_at (c ∷ cs ++ more) (length cs) ≡ unwrap_or (option_map end_of (last_of (c ∷ cs))) 0
end-last c [] more = refl
end-last c (e ∷ es) more = end-last e es more ∙ ap (λ o. unwrap_or (option_map end_of o) 0) (sym (last_of-behind c e es))

end-front : (cs more : List Placed) → end_of_first (cs ++ more) (length cs) ≡ end_from 0 cs
end-front [] more = refl
end-front (c ∷ cs) more = end-last c cs more

count-behind : (cs ds es : List Placed) → shared_count (texts (parts (cs ++ ds))) (texts (parts (cs ++ es))) ≡ length cs + shared_count (texts (parts ds)) (texts (parts es))
count-behind [] ds es = omega arith
count-behind (c ∷ cs) ds es =
    let same : shared_count (texts (parts (c ∷ cs ++ ds))) (texts (parts (c ∷ cs ++ es))) ≡ suc (shared_count (texts (parts (cs ++ ds))) (texts (parts (cs ++ es)))) =
    ap (λ b. if b then suc (shared_count (texts (parts (cs ++ ds))) (texts (parts (cs ++ es)))) else 0) ((bytes_decides c.part.text c.part.text).1 refl) in
    omega (arith, same, count-behind cs ds es)

pub front-end : (s : Separators) (t u front : List ℕ) → ShareFront s t u front → IsSharedEnd (body s 0 t) (body s 0 u) (end_from 0 (body s 0 front))
front-end s t u front share =
    let cs = body s 0 front in
    let count : shared_count (texts (parts (body s 0 t))) (texts (parts (body s 0 u))) ≡ length cs =
    ap₂ (λ xs ys. shared_count (texts (parts xs)) (texts (parts ys))) share.own share.other_is ∙ count-behind cs share.more share.others ∙ omega (arith, share.apart) in
    sym (end-front cs share.more) ∙ ap₂ end_of_first (sym share.own) (sym count)

-- a reading of a whole body at the front of its text
pub whole-items : (b : Reading) (s : Separators) (text : List ℕ) → s ≡ b.separators → text ≡ body_slice b → b.begin ≡ Begin.Body → b.from ≡ 0 → body s 0 text ≡ body_items b
whole-items b s text same slice begins first = grind arith

-- what is shared ends within the path
pub shared-within : (d : Dialect) (t u : List ℕ) → shared_end d t u ≤ length t
shared-within d t u = by (shared_count (texts (parts_of d t)) (texts (parts_of d u))) (omega (arith, (shared_count-fits (texts (parts_of d t)) (texts (parts_of d u))).0, texts-length d t))
  where
    by : (k : ℕ) → k ≤ length (comps d t) → end_of_first (comps d t) k ≤ length t
    by zero less = zero-le
    by (suc k) less = ends-within 0 (length t) (comps d t) k (comps-laid_out d t).in_order (omega (arith, less))

-- Which front it is.

module _ (s : Separators) (t beginning : List ℕ) (n : ℕ) (is : body s 0 t ≡ body s 0 beginning ++ later_body s (0 + n) (drop n t)) where
  pub longer-front : ShareFront s t beginning beginning
  longer-front = grind (arith, append-nil, none-shared)

  pub shorter-front : ShareFront s beginning t beginning
  shorter-front = record {
    more = [];
    others = later_body s (0 + n) (drop n t);
    own = sym (append-nil (body s 0 beginning));
    other_is = is;
    apart = refl;
  }

module _ (s : Separators) (t u : List ℕ) (k n : ℕ) (o : Ordering) (parted : IsParting s t u k n) (own : begins_with_name s (drop n t) ≡ true) (other : begins_with_name s (drop n u) ≡ true)
    (is : AreInOrder s t u k o) (differ : is_ne o ≡ true) where
  apart : (begin : Begin) (at : ℕ) → shared_count (texts (parts (body_from begin s at (drop n t)))) (texts (parts (body_from begin s at (drop n u)))) ≡ 0
  apart begin at =
      let a = begins-name begin s at (drop n t) own in
      let b = begins-name begin s at (drop n u) other in
      ap₂ (λ xs ys. shared_count (texts (parts xs)) (texts (parts ys))) a.1 b.1 ∙ ap (λ same. if same then suc (shared_count (texts (parts a.0)) (texts (parts b.0))) else 0)
      (unlike (before_first (is_separator s) (drop n t)) (before_first (is_separator s) (drop n u)) o (ends-order s t u k n parted o is) differ).0

  pub parted-front : ShareFront s t u (take n t)
  parted-front = by n refl
    where
      by : (m : ℕ) → n ≡ m → ShareFront s t u (take n t)
      by zero e = record {
        more = body s 0 (drop n t);
        others = body s 0 (drop n u);
        own = ap (λ m. body s 0 (drop m t)) (sym e) ∙ ap (λ m. body s 0 (take m t) ++ body s 0 (drop n t)) (sym e);
        other_is = ap (λ m. body s 0 (drop m u)) (sym e) ∙ ap (λ m. body s 0 (take m t) ++ body s 0 (drop n u)) (sym e);
        apart = apart Body 0;
      }
      by (suc j) e = record {
        more = later_body s n (drop n t);
        others = later_body s n (drop n u);
        own = own-at s t u k n parted j e;
        other_is = other-at s t u k n parted j e;
        apart = apart Inside n;
      }

-- a list without a prefix is all that stands behind one
pub unprefixed : (cs : List Placed) → has_prefix (kinds (parts cs)) ≡ false → behind_prefix cs ≡ cs
unprefixed cs e = grind arith
