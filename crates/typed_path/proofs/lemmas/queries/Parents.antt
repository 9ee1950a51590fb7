-- The list of a parent, of the paths above and of a path without its name.
use Rattle.std.proofs.Common.{◌≡◌, ℕ, zero, suc, ◌-◌, ◌<◌, Bool, true, false, if◌then◌else◌, List, [], ◌∷◌, ◌≤◌, length, take, cond, Option, Some, None, option_and_then, option_map, refl, sym, ap, ◌∙◌, arith, inl, inr, ◌+◌, ◌++◌, drop, ap₂, le_refl, subst, length-take-le, ◌⊎◌, ◌↔◌, reverse, ◌&&◌, is_some, length-append, take_all, take-take, unwrap_or}
use Rattle.std.proofs.lemmas.Grind.{common_steps}
use Rattle.std.specs.List.{last_or}
use Rattle.std.proofs.lemmas.Bool.{false_from_ne_true, both_ways}
use Rattle.std.proofs.lemmas.Option.{same_Some}
use Rattle.std.proofs.lemmas.List.{drop-take, drop_all, nil_from_length, reverse-append, map-append}
use Rattle.std.proofs.Math.Seq.{take-append_seam}
use Rattle.std.specs.Cmp.{Equal-is, eq_by_cmp_equiv}
use Rattle.std.specs.Ordering.{is_eq}
use Rattle.typed_path.specs.declared.scan.separators.Separators.{Separators}
use Rattle.typed_path.specs.declared.scan.separators.Separators.TheVariants.{Slash}
use Rattle.typed_path.specs.declared.scan.step.Piece.{Piece}
use Rattle.typed_path.specs.declared.scan.unread.PlacedPiece.{PlacedPiece}
use Rattle.typed_path.specs.components.{Dialect, unix, windows, separators, is_separator, Part, Placed, prefix_part, Kind, prefix, root, current, parent, normal, parts, kinds, is_name, end_of, name_part, comps, body, comps_behind, component, parts_of, Found, prefix_of}
use Rattle.typed_path.specs.scan.{last_part, back, left, last_of, but_last, end_at, slice_after_back, first_of, AreInOrder}
use Rattle.typed_path.specs.queries.{is_root, parent_of, name_of, file_name_of, upwards, is_top, upwards_from, readings_behind, readings_above, ancestors_of, is_read_as, is_child_of, IsOneBelow, stem_of}
use Rattle.typed_path.specs.order.{kinds_cmp, kinds_cmp_total, exact_lists, exact_kinds}
use Rattle.typed_path.specs.views.PieceViews.{part_of}
use Rattle.typed_path.specs.views.UnreadViews.{placed_of}
use Rattle.typed_path.specs.changes.{popped, without_file_name, stem_end, name_end}
use Rattle.typed_path.proofs.lemmas.scan.Readings.{left-taken, left-parent, stepwise_slices}
use Rattle.typed_path.proofs.lemmas.components.Cuts.{body-take, comps-laid_out}
use Rattle.typed_path.proofs.lemmas.components.Prefixes.{FoundFits, prefix-fits}
use Rattle.typed_path.proofs.lemmas.components.PrefixCuts.{IsBehind, SamePrefix, same-found, same-none}
use Rattle.typed_path.proofs.lemmas.scan.Steps.{last_of-push, last_pushed}
use Rattle.typed_path.proofs.lemmas.lists.Options.{some_is}
use Rattle.typed_path.proofs.lemmas.lists.Lists.{take-front}

-- The list of a parent: the list without its last component.

-- what a parent tells: a last component that is no root, and the slice left without it
pub record HasParent (d : Dialect) (t p : List ℕ) : Type 0 where
  pub last : Placed
  pub is_last : last_of (comps d t) ≡ Some last
  pub no_root : is_root last.part.kind ≡ false
  pub slice : p ≡ left (comps d t) t 0 1

-- each parent tells so
pub has_parent : (d : Dialect) (t p : List ℕ) → parent_of d t ≡ Some p → HasParent d t p
has_parent d t p h = grind arith

-- a list with a last component is not empty
pub last-filled : (cs : List Placed) (c : Placed) → last_of cs ≡ Some c → 0 < length cs
last-filled cs c e = grind (arith, common_steps)

-- without a prefix, the slice left without the last component is read as the others
pub body_parent : (s : Separators) (t : List ℕ) (read : List ℕ → List Placed) → read [] ≡ [] → ((e : ℕ) → read (take e t) ≡ body s 0 (take e t)) → 0 < length (body s 0 t)
    → read (left (body s 0 t) t 0 1) ≡ but_last (body s 0 t)
body_parent s t read nothing front some = by (length cs) refl some
  where
    cs : List Placed
    cs = body s 0 t

    by : (n : ℕ) → length cs ≡ n → 0 < n → read (left cs t 0 1) ≡ but_last cs
    by zero size h = absurd (omega arith)
    by (suc zero) size h =
        let none : 0 ≡ length cs - 1 = omega arith in
        ap read (left-taken cs t 0 1 (omega arith) (omega arith)) ∙ nothing ∙ ap (λ n. take n cs) none
    by (suc (suc k)) size h =
        let last : length cs - 1 - 1 ≡ k = omega arith in
        let most : suc k ≡ length cs - 1 = omega arith in
        let place : end_at cs (length cs - 1 - 1) ≡ end_at cs k - 0 = ap (end_at cs) last ∙ omega arith in
        ap read (left-parent cs t (omega arith) ∙ ap (λ n. take n t) place) ∙ front (end_at cs k - 0) ∙ body-take s 0 t k (omega arith) ∙ ap (λ n. take n cs) most

-- the list of a Unix parent
pub unix_parent_of : (t p : List ℕ) → parent_of unix t ≡ Some p → comps unix p ≡ but_last (comps unix t)
unix_parent_of t p some =
    let has = has_parent unix t p some in
    ap (comps unix) has.slice ∙ body_parent Slash t (comps unix) refl (λ e. refl) (last-filled (comps unix t) has.last has.is_last)

-- a list with a last component has one at least
some_last : (cs : List Placed) (p : Part) → Some p ≡ last_part cs → 1 ≤ length cs
some_last cs p h = grind (arith, common_steps)

-- the parent behind a last component that is no root
above : (o : Option Placed) (p : Part) (rest : List ℕ) → Some p ≡ option_map (λ c. c.part) o → is_root p.kind ≡ false
    → option_and_then (λ last. cond (is_root last.part.kind) None (Some rest)) o ≡ Some rest
above o p rest h e = grind arith

-- the parent is the slice left behind one step from the back
pub parent_left : (d : Dialect) (t : List ℕ) (p : Part) → Some p ≡ last_part (comps d t) → is_root p.kind ≡ false → parent_of d t ≡ Some (slice_after_back (comps d t) t)
parent_left d t p h e =
    let some = some_last (comps d t) p h in
    above (last_of (comps d t)) p (left (comps d t) t 0 1) h e ∙ ap Some (sym (stepwise_slices (comps d t) t (back ∷ []) (comps-laid_out d t) (omega arith)))

-- a parent is a front of its path
pub parent-front : (d : Dialect) (t p : List ℕ) → parent_of d t ≡ Some p → take (length p) t ≡ p
parent-front d t p h = grind (arith, left-parent, take-front, left-taken)

-- The list of a Windows parent: the list without its last component.

-- a text that is cut, and keeps its prefix, is read with that
same_comps : (t : List ℕ) (e : ℕ) (o : Option Found) → prefix_of windows t ≡ o → SamePrefix t e → comps windows (take e t) ≡ comps_behind (separators windows t) (take e t) o
same_comps t e o is same = ap₂ (λ s p. comps_behind s (take e t) p) same.same_separators (same.same_prefix ∙ is)

-- what begins with a separator begins with the root
root-first : (s : Separators) (at b : ℕ) (bs : List ℕ) (c : Placed) → is_separator s b ≡ true → body s at (b ∷ bs) ≡ c ∷ [] → is_root c.part.kind ≡ true
root-first s at b bs c separates is = grind arith

-- what is cut behind a place and has a component reaches beyond that place
pub nonempty-cut : (s : Separators) (at e : ℕ) (text : List ℕ) (c : Placed) (cs : List Placed) → body s at (take (e - at) text) ≡ c ∷ cs → at < e
nonempty-cut s at e text c cs is = grind arith

module _ (s : Separators) (t : List ℕ) (f : Found) (fits : FoundFits t f) (read : List ℕ → List Placed) (nothing : read [] ≡ [])
    (front : (e : ℕ) → IsBehind s t e f → read (take e t) ≡ comps_behind s (take e t) (Some f)) where
  -- behind a prefix, the slice left without the last component is read as the others
  found_parent : (B : List Placed) (last : Placed) → body s f.length (drop f.length t) ≡ B → last_of (component (prefix_part f.prefix (take f.length t)) 0 ++ B) ≡ Some last → is_root last.part.kind ≡ false
      → read (left (component (prefix_part f.prefix (take f.length t)) 0 ++ B) t 0 1) ≡ but_last (component (prefix_part f.prefix (take f.length t)) 0 ++ B)
  found_parent [] last is is_last no_root = ap read (left-taken (component (prefix_part f.prefix (take f.length t)) 0) t 0 1 (omega arith) (omega arith)) ∙ nothing
  found_parent (c ∷ []) last is is_last no_root =
      let L = f.length in
      let cs = component (prefix_part f.prefix (take L t)) 0 ++ c ∷ [] in
      let long : 0 + length (take L t) ≡ L = omega (arith, length-take-le L t fits.fits) in
      ap read (left-parent cs t (omega arith) ∙ ap (λ n. take n t) long)
      ∙ front L (record { fits = le_refl L; joint = λ e b bs rest. no_separator b bs rest })
      ∙ ap₂ (λ u v. component (prefix_part f.prefix u) 0 ++ body s L v) (take-take L L t (le_refl L)) (drop_all L (take L t) (omega (arith, length-take-le L t fits.fits)))
    where
      no_separator : (b : ℕ) (bs : List ℕ) → drop f.length t ≡ b ∷ bs → is_separator s b ≡ false
      no_separator b bs rest = grind (arith, false_from_ne_true, both_ways, some_is, root-first)
  found_parent (c ∷ d ∷ B) last is is_last no_root =
      let L = f.length in
      let cs = component (prefix_part f.prefix (take L t)) 0 ++ c ∷ d ∷ B in
      let k = length B in
      let e = end_at (c ∷ d ∷ B) k in
      let place : length cs - 1 - 1 ≡ suc k = omega arith in
      let most : suc (suc k) ≡ length cs - 1 = omega arith in
      let kept : body s L (take (e - L) (drop L t)) ≡ take (suc k) (c ∷ d ∷ B) =
      subst (λ ds. body s L (take (end_at ds k - L) (drop L t)) ≡ take (suc k) ds) is (body-take s L (drop L t) k (omega (arith, ap length is))) in
      let less : L < e = nonempty-cut s L e (drop L t) c (take k (d ∷ B)) kept in
      let size : e ≡ L + (e - L) = omega arith in
      ap read (left-parent cs t (omega arith) ∙ ap (λ n. take (end_at cs n) t) place)
      ∙ front e (record { fits = omega arith; joint = λ same b bs rest. absurd (omega arith) })
      ∙ ap₂ (λ u v. component (prefix_part f.prefix u) 0 ++ body s L v) (take-take L e t (omega arith)) (ap (λ n. drop L (take n t)) size ∙ drop-take L (e - L) t)
      ∙ ap (λ ds. component (prefix_part f.prefix (take L t)) 0 ++ ds) kept
      ∙ ap (λ n. take n cs) most

-- the components of every Windows text but the last are those of its parent
windows_parent : (t : List ℕ) (o : Option Found) → prefix_of windows t ≡ o → (last : Placed) → last_of (comps_behind (separators windows t) t o) ≡ Some last → is_root last.part.kind ≡ false
    → comps windows (left (comps_behind (separators windows t) t o) t 0 1) ≡ but_last (comps_behind (separators windows t) t o)
windows_parent t None is last is_last no_root =
    body_parent (separators windows t) t (comps windows) refl (λ e. same_comps t e None is (same-none t e is)) (last-filled (body (separators windows t) 0 t) last is_last)
windows_parent t (Some f) is last is_last no_root =
    found_parent (separators windows t) t f (prefix-fits windows t f is) (comps windows) refl (λ e behind. same_comps t e (Some f) is (same-found t e f is behind))
    (body (separators windows t) f.length (drop f.length t)) last refl is_last no_root

-- the list of a parent is the list without its last component
pub parent_list : (d : Dialect) (t p : List ℕ) → parent_of d t ≡ Some p → comps d p ≡ but_last (comps d t)
parent_list unix t p some = unix_parent_of t p some
parent_list windows t p some =
    let has = has_parent windows t p some in
    ap (comps windows) has.slice ∙ windows_parent t (prefix_of windows t) refl has.last has.is_last has.no_root

-- A path and those above it, one step up.

upwards-none : (d : Dialect) (n : ℕ) → upwards d n None ≡ []
upwards-none d n = grind arith

-- a path and those above it are what is left of its reading as that goes on from the back
upwards-reading : (d : Dialect) (n : ℕ) (t : List ℕ) → upwards d n (Some t) ≡ upwards_from n (comps d t) t
upwards-reading d zero t = refl
upwards-reading d (suc n) t = ap (λ ts. t ∷ ts) (by (upwards-reading d n (slice_after_back (comps d t) t)) (last_of (comps d t)) refl)
  where
    p : List ℕ
    p = slice_after_back (comps d t) t

    parent_by : (o : Option Placed) → last_of (comps d t) ≡ o → parent_of d t ≡ option_and_then (λ last. cond (is_root last.part.kind) None (Some (left (comps d t) t 0 1))) o
    parent_by o e = ap (option_and_then (λ last. cond (is_root last.part.kind) None (Some (left (comps d t) t 0 1)))) e

    top : upwards d n (Some p) ≡ upwards_from n (comps d p) p → (c : Placed) → last_of (comps d t) ≡ Some c → (b : Bool) → is_root c.part.kind ≡ b
        → upwards d n (parent_of d t) ≡ cond b [] (upwards_from n (but_last (comps d t)) p)
    top again c e b is = grind (arith, parent_by, upwards-none, above, parent_left, p, parent_list)

    by : upwards d n (Some p) ≡ upwards_from n (comps d p) p → (o : Option Placed) → last_of (comps d t) ≡ o → upwards d n (parent_of d t) ≡ cond (is_top o) [] (upwards_from n (but_last (comps d t)) p)
    by again o e = grind (arith, parent_by, upwards-none, top)

pub ancestors-reading : (d : Dialect) (t : List ℕ) → readings_above (comps d t) t ≡ ancestors_of d t
ancestors-reading d t = sym (upwards-reading d (length (comps d t)) t)

-- going up so many parents, there is at most one text more, which is the first
pub upwards-length : (d : Dialect) (n : ℕ) (o : Option (List ℕ)) → length (upwards d n o) ≤ n + 1
upwards-length d zero None = omega arith
upwards-length d zero (Some t) = omega arith
upwards-length d (suc n) None = omega arith
upwards-length d (suc n) (Some t) = let less = upwards-length d n (parent_of d t) in omega arith

-- the last of a path and those above it has no parent, where one goes up all components
pub upwards-top : (d : Dialect) (n : ℕ) (t u : List ℕ) → length (comps d t) ≤ n → last_or None (upwards d n (Some t)) ≡ Some u → parent_of d u ≡ None
upwards-top d zero t u few is = subst (λ x. parent_of d x ≡ None) (same_Some _ _ is) (by (parent_of d t) refl)
  where
    by : (o : Option (List ℕ)) → parent_of d t ≡ o → parent_of d t ≡ None
    by o e = grind (arith, has_parent, last-filled)
upwards-top d (suc n) t u few is = by (λ p. upwards-top d n p u) (parent_of d t) refl
  where
    onward : (m : ℕ) (p : List ℕ) → last_or (Some t) (upwards d m (Some p)) ≡ last_or None (upwards d m (Some p))
    onward m p = grind arith

    by : ((p : List ℕ) → length (comps d p) ≤ n → last_or None (upwards d n (Some p)) ≡ Some u → parent_of d u ≡ None) → (o : Option (List ℕ)) → parent_of d t ≡ o → parent_of d u ≡ None
    by again None e =
        let alone : last_or (Some t) (upwards d n (parent_of d t)) ≡ Some t = ap (λ o. last_or (Some t) (upwards d n o)) e ∙ ap (last_or (Some t)) (upwards-none d n) in
        subst (λ x. parent_of d x ≡ None) (same_Some _ _ (sym alone ∙ is)) e
    by again (Some p) e =
        let cut = length-take-le (length (comps d t) - 1) (comps d t) (omega arith) in
        let less : length (comps d p) ≤ n = omega (arith, ap length (parent_list d t p e)) in
        again p less (sym (ap (λ o. last_or (Some t) (upwards d n o)) e ∙ onward n p) ∙ is)

-- what is left of a reading, and then what is left behind its last component
pub readings-step : (cs : List Placed) (slice : List ℕ) → readings_above cs slice ≡ slice ∷ readings_behind cs slice
readings-step cs slice = grind (arith, nil_from_length, length-take-le)

-- A path that ends in a name is read as its parent and that name behind it.

module _ {X : Type 0} where
  -- a list is empty, or ends in an element
  abbrev Ends : List X → Type 0
  Ends xs = (xs ≡ []) ⊎ ((ys : List X) × (y : X) × (xs ≡ ys ++ y ∷ []))

  ends-cons : (x : X) (xs : List X) → Ends xs → Ends (x ∷ xs)
  ends-cons x xs (inl e) = inr ([], x, ap (λ zs. x ∷ zs) e)
  ends-cons x xs (inr (ys, y, e)) = inr (x ∷ ys, y, ap (λ zs. x ∷ zs) e)

  ends : (xs : List X) → Ends xs
  ends [] = inl refl
  ends (x ∷ xs) = ends-cons x xs (ends xs)

  -- what stands before the last element
  front-snoc : (xs : List X) (x : X) → take (length (xs ++ x ∷ []) - 1) (xs ++ x ∷ []) ≡ xs
  front-snoc xs x = ap (λ n. take (n - 1) (xs ++ x ∷ [])) (length-append xs (x ∷ [])) ∙ ap (λ n. take n (xs ++ x ∷ [])) (omega arith) ∙ take-append_seam xs (x ∷ [])

  first-same : (x y : X) (xs ys : List X) → x ∷ xs ≡ y ∷ ys → x ≡ y
  first-same x y xs ys e = cc

  -- lists that end alike are alike before it, and the other way round
  snoc-fronts : (xs ys : List X) (x y : X) → xs ++ x ∷ [] ≡ ys ++ y ∷ [] → xs ≡ ys
  snoc-fronts xs ys x y e = sym (front-snoc xs x) ∙ ap (λ zs. take (length zs - 1) zs) e ∙ front-snoc ys y

  snoc-lasts : (xs ys : List X) (x y : X) → xs ++ x ∷ [] ≡ ys ++ y ∷ [] → x ≡ y
  snoc-lasts xs ys x y e = first-same x y (reverse xs) (reverse ys) (sym (reverse-append xs (x ∷ [])) ∙ ap reverse e ∙ reverse-append ys (y ∷ []))

  nil-snoc : (ys : List X) (y : X) → [] ≡ ys ++ y ∷ [] → ⊥
  nil-snoc ys y e = grind (arith, common_steps)

  some-none : (o : Option X) (x : X) → o ≡ Some x → o ≡ None → ⊥
  some-none o x e n = grind arith

module _ (d : Dialect) (above : List Kind) (t : List ℕ) where
  -- what the two say of a path
  abbrev Agrees : Type 0
  Agrees = (is_child_of d above t ≡ true) ↔ IsOneBelow above (kinds (parts_of d t))

  -- a path that ends in no name is no child
  nameless : file_name_of d t ≡ None → is_child_of d above t ≡ true → ⊥
  nameless none f = let e = sym (ap (λ n. is_some n && is_read_as d above (parent_of d t)) none) ∙ f in cc

  module _ (xs : List Placed) (c : Placed) (is : comps d t ≡ xs ++ c ∷ []) where
    last : last_of (comps d t) ≡ Some c
    last = ap last_of is ∙ ap first_of (reverse-append xs (c ∷ []))

    whole : kinds (parts_of d t) ≡ kinds (parts xs) ++ c.part.kind ∷ []
    whole = ap (λ cs. kinds (parts cs)) is ∙ ap kinds (map-append (λ p. p.part) xs (c ∷ [])) ∙ map-append (λ p. p.kind) (parts xs) (c.part ∷ [])

    no_name : (k : Kind) → c.part.kind ≡ k → name_of k ≡ None → Agrees
    no_name k e h = grind (arith, nameless, last, some-none, snoc-lasts, whole)

    below : (k : Kind) → c.part.kind ≡ k → Agrees
    below (prefix p) e = no_name (prefix p) e refl
    below root e = no_name root e refl
    below current e = no_name current e refl
    below parent e = no_name parent e refl
    below (normal name) e = (
      λ f. (name, whole ∙ ap₂ (λ ks k. ks ++ k ∷ []) (exact_lists exact_kinds _ _ ((Equal-is (kinds_cmp (kinds (parts xs)) above)).0 (sym child ∙ f))) e),
      λ b. child ∙ ap (λ ks. is_eq (kinds_cmp ks above)) (snoc-fronts _ _ _ _ (sym whole ∙ b.1)) ∙ (eq_by_cmp_equiv kinds_cmp_total).refl above,
    )
      where
        over : parent_of d t ≡ Some (left (comps d t) t 0 1)
        over = ap (option_and_then (λ p. if is_root p.part.kind then None else Some (left (comps d t) t 0 1))) last ∙ ap (λ k. if is_root k then None else Some (left (comps d t) t 0 1)) e

        child : is_child_of d above t ≡ is_eq (kinds_cmp (kinds (parts xs)) above)
        child =
            ap₂ (λ n p. is_some n && is_read_as d above p) (ap (option_and_then (λ p. name_of p.part.kind)) last ∙ ap name_of e) over
            ∙ ap (λ cs. is_eq (kinds_cmp (kinds (parts cs)) above)) (parent_list d t _ over ∙ ap but_last is ∙ front-snoc xs c)

  by_end : Ends (comps d t) → Agrees
  by_end h = grind (arith, nil-snoc, below)

-- a child is read as one name below
pub child_is_one_below : (d : Dialect) (t : List ℕ) (above : List Kind) → (is_child_of d above t ≡ true) ↔ IsOneBelow above (kinds (parts_of d t))
child_is_one_below d t above = by_end d above t (ends (comps d t))

-- A path without its file name, and where the stem of the name ends.

-- a path cut to its parent is a front of it
pub popped-front : (d : Dialect) (t : List ℕ) → take (length (popped d t)) t ≡ popped d t
popped-front d t = by (parent_of d t) refl
  where
    by : (o : Option (List ℕ)) → parent_of d t ≡ o → take (length (unwrap_or o t)) t ≡ unwrap_or o t
    by None e = take_all (length t) t (le_refl (length t))
    by (Some p) e = parent-front d t p e

-- so is a path without its file name
pub without_file_name-front : (d : Dialect) (t : List ℕ) → take (length (without_file_name d t)) t ≡ without_file_name d t
without_file_name-front d t = by (is_some (file_name_of d t))
  where
    by : (named : Bool) → take (length (if named then popped d t else t)) t ≡ (if named then popped d t else t)
    by true = popped-front d t
    by false = take_all (length t) t (le_refl (length t))

-- a name is no root
no_root : (k : Kind) → is_name k ≡ true → is_root k ≡ false
no_root k e = grind arith

named : (o : Option Placed) (p : Part) → Some p ≡ option_map (λ c. c.part) o → is_name p.kind ≡ true → is_some (option_and_then (λ last. name_of last.part.kind) o) ≡ true
named o p h e = grind arith

-- a path without its file name is the slice left behind one step from the back, where that gave a name
pub without_file_name-step : (d : Dialect) (t : List ℕ) (p : Part) → Some p ≡ last_part (comps d t) → is_name p.kind ≡ true → without_file_name d t ≡ slice_after_back (comps d t) t
without_file_name-step d t p h e = grind (arith, parent_left, no_root)

-- the last component of a list, where it is a piece that is a name
pub record HasName (d : Dialect) (t name : List ℕ) : Type 0 where
  pub last : Placed
  pub is_last : last_of (comps d t) ≡ Some last
  pub part : last.part ≡ name_part name

pub has_name : (d : Dialect) (t : List ℕ) (p : Piece) → Some (part_of p) ≡ last_part (comps d t) → is_name (part_of p).kind ≡ true → HasName d t p.text.now
has_name d t p h e = grind arith

-- where the stem of such a name ends
pub stem_end-name : (d : Dialect) (t name : List ℕ) → (h : HasName d t name) → stem_end d t ≡ Some (h.last.start + length (stem_of name))
stem_end-name d t name h = grind arith

-- and where the name itself does
pub name_end-name : (d : Dialect) (t name : List ℕ) → (h : HasName d t name) → name_end d t ≡ Some (h.last.start + length name)
name_end-name d t name h = grind arith

-- a last component ends within its text
in_order-last : (at end : ℕ) (cs : List Placed) (c : Placed) → AreInOrder at end (cs ++ c ∷ []) → end_of c ≤ end
in_order-last at end [] c h = h.1
in_order-last at end (d ∷ cs) c h = in_order-last (end_of d) end cs c h.1

pub last-within : (d : Dialect) (t : List ℕ) (c : Placed) → last_of (comps d t) ≡ Some c → end_of c ≤ length t
last-within d t c is = by (comps d t) is (comps-laid_out d t).in_order
  where
    by : (cs : List Placed) → last_of cs ≡ Some c → AreInOrder 0 (length t) cs → end_of c ≤ length t
    by [] e h = cc
    by (b ∷ cs) e h =
        let last = last_pushed b cs in
        let same : last.0 ≡ c = same_Some _ _ (sym (last_of-push (but_last (b ∷ cs)) last.0) ∙ ap last_of (sym last.1) ∙ e) in
        subst (λ l. end_of l ≤ length t) same (in_order-last 0 (length t) (but_last (b ∷ cs)) last.0 (subst (λ ds. AreInOrder 0 (length t) ds) last.1 h))

-- a last component that is a name ends where that does, and its stem where that of the name does
pub placed_name : (d : Dialect) (t : List ℕ) (p : PlacedPiece) → Some (placed_of p) ≡ last_of (comps d t) → is_name (part_of p.piece).kind ≡ true
    → (stem_end d t ≡ Some (p.start + length (stem_of p.piece.text.now))) × (name_end d t ≡ Some (p.start + length p.piece.text.now)) × (p.start + length p.piece.text.now ≤ length t)
placed_name d t p is named =
    let name = has_name d t p.piece (ap (option_map (λ c. c.part)) is) named in
    let same : name.last ≡ placed_of p = cc (is ∙ name.is_last) in (
      stem_end-name d t p.piece.text.now name ∙ ap (λ c. Some (c.start + length (stem_of p.piece.text.now))) same,
      name_end-name d t p.piece.text.now name ∙ ap (λ c. Some (c.start + length p.piece.text.now)) same,
      last-within d t (placed_of p) (sym is),
    )
