-- Two Windows texts of which one at least has a prefix, in the order of these or of what stands behind them.
use Rattle.std.proofs.Common.{◌≡◌, ℕ, List, ◌∷◌, [], ◌++◌, Bool, true, false, cond, drop, Ordering, refl, sym, ap, ap₂, ◌∙◌, Some, None}
use Rattle.std.specs.List.{before_first}
use Rattle.std.specs.Ordering.{is_ne}
use Rattle.typed_path.specs.components.{windows, separators, kinds, parts, prefix, Found, prefix_of, comps, comps_behind, Placed, body, component, is_separator, is_empty, is_dot, is_dot_dot, root_text, root_part, current_part, parent_part, name_part}
use Rattle.typed_path.specs.declared.scan.separators.Separators.{Separators}
use Rattle.typed_path.specs.declared.scan.cursor.Begin.TheVariants.{Body}
use Rattle.typed_path.specs.queries.{first_prefix, behind_prefix}
use Rattle.typed_path.specs.order.{kind_cmp, kinds_cmp, left_cmp, path_cmp}
use Rattle.typed_path.proofs.lemmas.components.Segments.{body_from-first, parts-body}
use Rattle.typed_path.proofs.lemmas.order.Comparisons.{bare, prefixes-alike, prefixes-differ}
use Rattle.typed_path.proofs.lemmas.components.PrefixCuts.{first-found}

-- two texts with different prefixes are in the order of these
pub prefixed-order : (t u : List ℕ) (f g : Found) (o : Ordering) → prefix_of windows t ≡ Some f → prefix_of windows u ≡ Some g
    → kind_cmp (prefix f.prefix) (prefix g.prefix) ≡ o → is_ne o ≡ true → path_cmp windows t u ≡ o
prefixed-order t u f g o own other is differ =
    sym (prefixes-differ (comps windows t) (comps windows u) f.prefix g.prefix o (first-found t f own) (first-found u g other) (sym is) differ)

-- two texts with prefixes that are not told apart are in the order of what stands behind these
pub alike-order : (t u : List ℕ) (f g : Found) (s v : Separators) (r o : Ordering) → prefix_of windows t ≡ Some f → prefix_of windows u ≡ Some g → separators windows t ≡ s → separators windows u ≡ v
    → kind_cmp (prefix f.prefix) (prefix g.prefix) ≡ r → is_ne r ≡ false → left_cmp (body s 0 (drop f.length t)) (body v 0 (drop g.length u)) ≡ o → path_cmp windows t u ≡ o
alike-order t u f g s v r o own other read read' is alike behind =
    sym (prefixes-alike (comps windows t) (comps windows u) f.prefix g.prefix r (first-found t f own) (first-found u g other) (sym is) alike)
    ∙ ap₂ left_cmp (ap behind_prefix (ap₂ (λ k p. comps_behind k t p) read own)) (ap behind_prefix (ap₂ (λ k p. comps_behind k u p) read' other))
    ∙ ap₂ kinds_cmp (moved s f.length (drop f.length t)) (moved v g.length (drop g.length u))
    ∙ behind
  where
    moved : (s : Separators) (n : ℕ) (v : List ℕ) → kinds (parts (body s n v)) ≡ kinds (parts (body s 0 v))
    moved s n v = ap kinds (parts-body s n v ∙ sym (parts-body s 0 v))

-- what stands behind a prefix begins with none
pub body-bare : (s : Separators) (u : List ℕ) → first_prefix (kinds (parts (body s 0 u))) ≡ None
body-bare s [] = refl
body-bare s (b ∷ bs) =
    let t = before_first (is_separator s) (b ∷ bs) in
    ap (λ cs. first_prefix (kinds (parts cs))) (body_from-first Body s 0 b bs refl) ∙ by t _ (is_empty t) (is_dot t) (is_dot_dot t)
  where
    by : (t : List ℕ) (rest : List Placed) (e d dd : Bool)
        → first_prefix (kinds (parts (cond e (component (root_part (root_text s)) 0) (cond d (component current_part 0) (cond dd (component parent_part 0) (component (name_part t) 0))) ++ rest))) ≡ None
    by t rest true d dd = refl
    by t rest false true dd = refl
    by t rest false false true = refl
    by t rest false false false = refl

-- and so do the components of a text without one
pub bare-found : (u : List ℕ) → prefix_of windows u ≡ None → None ≡ first_prefix (kinds (parts (comps windows u)))
bare-found u none = sym (ap (λ r. first_prefix (kinds (parts (comps_behind (separators windows u) u r)))) none ∙ body-bare (separators windows u) u)

-- of which none is a prefix
pub behind-bare : (u : List ℕ) (cs : List Placed) → prefix_of windows u ≡ None → cs ≡ comps windows u → cs ≡ behind_prefix (comps windows u)
behind-bare u cs none e = e ∙ sym (bare (comps windows u) (bare-found u none))
