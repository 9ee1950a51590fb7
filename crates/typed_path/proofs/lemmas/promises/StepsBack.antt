-- Lists with the same heads, prefix and root. The steps that lead from one list to another, put behind the first, lead where the second leads.
-- The path that leads from a base to another, read again: parents and names, with neither a prefix nor a root.
use Rattle.std.proofs.Common.{◌≡◌, ℕ, ◌+◌, ◌-◌, ◌≤◌, ◌==◌, Bool, true, false, not, List, [], ◌∷◌, ◌++◌, if◌then◌else◌, length, take, drop, refl, sym, ap, ap₂, ◌∙◌, arith, take-append-drop, is_eq, subst, Option, Some, None, All}
use Rattle.std.proofs.lemmas.Grind.{common_steps}
use Rattle.std.specs.Prelude.{Option, Some, None}
use Rattle.std.proofs.lemmas.Bool.{and_parts, eqb-true, not-true, false_from_ne_true}
use Rattle.std.proofs.lemmas.Cmp.{tied_itself}
use Rattle.std.proofs.lemmas.Slice.Eq.{bytes_eq-Decides}
use Rattle.typed_path.specs.components.{Prefix, Kind, prefix, Dialect, unix, windows, slash, separators, kinds, parts_of, Found, prefix_of}
use Rattle.typed_path.specs.queries.{begins_with_root, first_prefix}
use Rattle.typed_path.specs.order.{are_same_prefixes, kind_cmp_total}
use Rattle.typed_path.specs.places.{can_stand, head_of, headed, is_anchored, is_reached, kept_names, names_down, rising, routed, same_heads, shared_count, steps_up, unmet, relative_text, steps_text}
use Rattle.typed_path.proofs.lemmas.places.KeptNames.{AlikeKept, unmet-append, kept_names-append}
use Rattle.typed_path.proofs.lemmas.places.SharedFromBack.{shared_count-fits}
use Rattle.typed_path.proofs.lemmas.promises.CleanRead.{LeadsAs, anchored-stays, names-ups, unmet-ups, ups, names-clean}
use Rattle.typed_path.proofs.lemmas.promises.Within.{same-prefix, same-test, test-same}
use Rattle.std.specs.List.{AllByRecursion, list_any}
use Rattle.std.proofs.lemmas.List.Folds.{list_any_at}
use Rattle.std.proofs.lemmas.Option.{same_Some}
use Rattle.typed_path.specs.declared.scan.separators.Separators.{Separators}
use Rattle.typed_path.specs.declared.scan.separators.Separators.TheVariants.{Slash, Backslash, Either}
use Rattle.typed_path.specs.promises.{IsRelative}
use Rattle.typed_path.proofs.lemmas.components.Segments.{IsCleanName, body_parts, body_parts-read, each-written, parts_behind, parts-comps_behind, parts_of-unix}
use Rattle.typed_path.proofs.lemmas.promises.CleanForms.{ReadsPlain, parts-plain, plain, reads-plain}

-- Lists that begin alike.

pub prefixes-same : (o : Option Prefix) → are_same_prefixes o o ≡ true
prefixes-same None = refl
prefixes-same (Some p) = ap is_eq (tied_itself kind_cmp_total (prefix p))

pub heads-alike : (ks ls : List Kind) → same_heads ks ls ≡ true → head_of ks ≡ head_of ls
heads-alike ks ls e =
    let both = and_parts (are_same_prefixes (first_prefix ks) (first_prefix ls)) _ e in
    ap₂ headed (same-prefix (first_prefix ks) (first_prefix ls) both.0) (same-test (is_anchored ks) (is_anchored ls) both.1)

abbrev rooted_in : List Kind → Bool
rooted_in (prefix p ∷ ks) = begins_with_root ks
rooted_in ks = begins_with_root ks

pub same_heads-all : (ks ls : List Kind) → first_prefix ks ≡ first_prefix ls → is_anchored ks ≡ is_anchored ls → same_heads ks ls ≡ true
same_heads-all ks ls prefixes anchored = grind (arith, prefixes-same, test-same)

pub alike-heads : (ks ls : List Kind) → head_of ks ≡ head_of ls → same_heads ks ls ≡ true
alike-heads ks ls same = grind (arith, same_heads-all)

-- What it tells that a path is reached.

pub record IsReached (ks ls : List Kind) : Type 0 where
  pub heads : same_heads ks ls ≡ true
  pub anchored : is_anchored ks ≡ is_anchored ls
  pub rising : rising ls ≤ rising ks
  pub stands : can_stand (names_down ks ls) ≡ true

pub reached-told : (ks ls : List Kind) → is_reached ks ls ≡ true → IsReached ks ls
reached-told ks ls e = grind (arith, and_parts)

-- names that are shared are the same
shared-same : (xs ys : List (List ℕ)) → take (shared_count xs ys) ys ≡ take (shared_count xs ys) xs
shared-same [] ys = grind arith
shared-same (x ∷ xs) [] = grind arith
shared-same (x ∷ xs) (y ∷ ys) = grind (arith, bytes_eq-Decides, shared-same xs ys)

module _ (ks ls : List Kind) (rises : rising ls ≤ rising ks) where
  -- the names of the base that stay, and then those of the path
  pub names-met : take (length (kept_names ls) - steps_up ks ls) (kept_names ls) ++ names_down ks ls ≡ kept_names ks
  names-met = by (rising ks == rising ls) refl
    where
      by : (b : Bool) → (rising ks == rising ls) ≡ b
          → take (length (kept_names ls) - ((length (kept_names ls) - (if b then shared_count (kept_names ks) (kept_names ls) else 0)) + (rising ks - rising ls))) (kept_names ls)
          ++ drop (if b then shared_count (kept_names ks) (kept_names ls) else 0) (kept_names ks) ≡ kept_names ks
      by true e =
          let n = shared_count (kept_names ks) (kept_names ls) in
          let most : n ≤ length (kept_names ls) = (shared_count-fits (kept_names ks) (kept_names ls)).1 in
          let count : length (kept_names ls) - ((length (kept_names ls) - n) + (rising ks - rising ls)) ≡ n = omega (arith, most, eqb-true (rising ks) (rising ls) e) in
          ap (λ m. take m (kept_names ls) ++ drop n (kept_names ks)) count
          ∙ ap (λ ns. ns ++ drop n (kept_names ks)) (shared-same (kept_names ks) (kept_names ls))
          ∙ take-append-drop n (kept_names ks)
      by false e =
          let count : length (kept_names ls) - ((length (kept_names ls) - 0) + (rising ks - rising ls)) ≡ 0 = omega arith in
          ap (λ m. take m (kept_names ls) ++ kept_names ks) count

  -- and the parents that are left over
  parents-met : rising ls + (steps_up ks ls - length (kept_names ls)) ≡ rising ks
  parents-met = grind arith

pub free-rising : (ks : List Kind) → is_anchored ks ≡ false → rising ks ≡ unmet ks
free-rising ks e = ap (λ b. if b then 0 else unmet ks) e

-- a list that begins as the base does, and that each list before it sees as the base and the steps
pub leads-back : (ks ls ms : List Kind) → is_reached ks ls ≡ true → is_anchored ms ≡ is_anchored ls → AlikeKept ms (ls ++ ups (steps_up ks ls) (names_down ks ls)) → LeadsAs ms ks
leads-back ks ls ms reached begins alike = grind (arith, reached-told, ups, unmet-append, unmet-ups, parents-met, kept_names-append, names-ups, names-met, anchored-stays, free-rising)

-- with the prefix of the base it has the route of the path
pub same-route : (ks ls ms : List Kind) → is_reached ks ls ≡ true → first_prefix ms ≡ first_prefix ls → LeadsAs ms ks → routed ms ≡ routed ks
same-route ks ls ms reached prefixes h = grind (arith, heads-alike, ups)

-- The names that are kept of a path can be read again, where none holds a `/`.

pub clean-drop : (s : Separators) (n : ℕ) (names : List (List ℕ)) → AllByRecursion (IsCleanName s) names → AllByRecursion (IsCleanName s) (drop n names)
clean-drop s n names each = grind (arith, common_steps)

-- a name of either kind of separators that holds no `/`
none-slash : (name : List ℕ) → list_any (λ b. b == slash) name ≡ false → All (λ b. (b == slash) ≡ false) name
none-slash name e n d less = false_from_ne_true _ (λ some. let h : true ≡ false = sym (list_any_at (λ b. b == slash) name n d less some) ∙ e in cc)

clean-stands : (verbatim : Bool) (names : List (List ℕ)) → AllByRecursion (IsCleanName (if verbatim then Backslash else Either)) names → can_stand names ≡ true → AllByRecursion (IsCleanName Either) names
clean-stands verbatim [] each stands = tt
clean-stands verbatim (name ∷ names) each stands =
    let parts = and_parts (not (list_any (λ b. b == slash) name)) (can_stand names) stands in
    (one verbatim each.0 (none-slash name (not-true _ parts.0)), clean-stands verbatim names each.1 parts.1)
  where
    one : (v : Bool) → IsCleanName (if v then Backslash else Either) name → All (λ b. (b == slash) ≡ false) name → IsCleanName Either name
    one v clean h = grind arith

pub body-clean : (s : Separators) (t : List ℕ) → AllByRecursion (IsCleanName s) (kept_names (kinds (body_parts s t)))
body-clean s t = names-clean s (body_parts s t) (each-written s (body_parts s t) (body_parts-read s t))

names-windows : (t : List ℕ) → AllByRecursion (IsCleanName (separators windows t)) (kept_names (kinds (parts_of windows t)))
names-windows t = subst (λ ps. AllByRecursion (IsCleanName (separators windows t)) (kept_names (kinds ps))) (sym (parts-comps_behind (separators windows t) t (prefix_of windows t))) (by (prefix_of windows t))
  where
    by : (o : Option Found) → AllByRecursion (IsCleanName (separators windows t)) (kept_names (kinds (parts_behind (separators windows t) t o)))
    by o = grind (arith, body-clean)

pub names-unix : (t : List ℕ) → AllByRecursion (IsCleanName Slash) (kept_names (kinds (parts_of unix t)))
names-unix t = subst (λ ps. AllByRecursion (IsCleanName Slash) (kept_names (kinds ps))) (sym (parts_of-unix t)) (body-clean Slash t)

clean-down : (d : Dialect) (path : List ℕ) (n : ℕ) → can_stand (drop n (kept_names (kinds (parts_of d path)))) ≡ true → AllByRecursion (IsCleanName (plain d)) (drop n (kept_names (kinds (parts_of d path))))
clean-down unix path n stands = clean-drop Slash n (kept_names (kinds (parts_of unix path))) (names-unix path)
clean-down windows path n stands = grind (arith, common_steps, clean-stands, clean-drop, names-windows)

-- What is read of it.

pub record IsRelativeRead (d : Dialect) (ks ls : List Kind) (r : List ℕ) : Type 0 where
  pub reached : is_reached ks ls ≡ true
  pub reads : ReadsPlain d r false (steps_up ks ls) (names_down ks ls)

module _ (d : Dialect) (path base : List ℕ) where
  abbrev ks : List Kind
  ks = kinds (parts_of d path)

  abbrev ls : List Kind
  ls = kinds (parts_of d base)

  pub read-relative : (r : List ℕ) → relative_text d path base ≡ Some r → IsRelativeRead d ks ls r
  read-relative r e = by (is_reached ks ls) refl e
    where
      by : (b : Bool) → is_reached ks ls ≡ b → (if b then Some (steps_text d (steps_up ks ls) (names_down ks ls)) else None) ≡ Some r → IsRelativeRead d ks ls r
      by true reached e =
          let is : steps_text d (steps_up ks ls) (names_down ks ls) ≡ r = same_Some _ _ e in
          let stands = (and_parts _ (can_stand (names_down ks ls)) reached).1 in
          record {
            reached = reached;
            reads = subst (λ t. ReadsPlain d t false (steps_up ks ls) (names_down ks ls)) is (reads-plain d (steps_up ks ls) (names_down ks ls) (clean-down d path _ stands) false (λ f. cc));
          }
      by false reached e = cc

pub stays_relative : (d : Dialect) (path base r : List ℕ) → relative_text d path base ≡ Some r → IsRelative d r
stays_relative d path base r e = grind (arith, read-relative, parts-plain)
