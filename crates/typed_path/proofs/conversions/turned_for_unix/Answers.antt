use Rattle.std.proofs.Common.{◌≡◌, ℕ, List, drop, length, take, ◌-◌, refl, sym, ap, ◌∙◌, Some, ◌∷◌, subst, arith, eqb-true, length-drop}
use Rattle.std.proofs.lemmas.List.{take_rest}
use Rattle.typed_path.specs.declared.scan.separators.Separators.TheVariants.{Either}
use Rattle.typed_path.specs.declared.scan.separators.Separators.{Separators}
use Rattle.typed_path.specs.conversions.{CrossesTurned}
use Rattle.typed_path.specs.components.{unix, windows, body, parts_of, prefix_of, prefix_part, separators, Found}
use Rattle.typed_path.specs.views.PieceViews.{found_of}
use Rattle.typed_path.proofs.lemmas.components.Prefixes.{prefix-fits, separators-windows}
use Rattle.typed_path.proofs.lemmas.components.Segments.{body_parts, body_parts-same}
use Rattle.typed_path.proofs.lemmas.components.PrefixCuts.{parts_of-none, parts_of-some}
use Rattle.typed_path.proofs.lemmas.conversions.TurnedPaths.{crosses-unix, crosses-rooted, crosses-root, crosses-prefix}
use Rattle.typed_path.proofs.conversions.turned_for_unix.Goals as goal
use Rattle.typed_path.proofs.conversions.turned_for_unix.Goals.{then-text-eq1, else-text-eq1}

pub returns-then-has_no_blank_behind : goal.returns-then-has_no_blank_behind
returns-then-has_no_blank_behind c =
    let path = c.args.path.now in
    let text = c.before_last_separator-text.result.now in
    let read = parts_of-none path (sym c.in_default.ensures) ∙ body_parts-same Either path text c.before_last_separator-text.ensures.body in
    crosses-unix path text read (c.has_no_blank_behind.ensures c.if-has_no_blank_behind.true)

pub slice_bounds-behind-count : goal.slice_bounds-behind-count
slice_bounds-behind-count c = (prefix-fits windows c.args.path.now (found_of c.in-Some.found) (sym c.in-Some.ensures)).fits

pub slice_bounds-behind-start : goal.slice_bounds-behind-start
slice_bounds-behind-start c = (prefix-fits windows c.args.path.now (found_of c.in-Some.found) (sym c.in-Some.ensures)).fits

-- what a path with a prefix is read as, by what stands behind that
behind_read : (path behind text : List ℕ) (f : Found) (s : Separators) → s ≡ separators windows path → prefix_of windows path ≡ Some f → behind ≡ take (length path - f.length) (drop f.length path)
    → ((at : ℕ) → body s at behind ≡ body s at text) → parts_of windows path ≡ prefix_part f.prefix (take f.length path) ∷ body_parts (separators windows path) text
behind_read path behind text f s own is e same = grind (arith, parts_of-some, body_parts, take_rest, body_parts-same)

pub returns-then-is_empty : goal.returns-then-is_empty
returns-then-is_empty c =
    let path = c.args.path.now in
    let f = found_of c.in-Some.found in
    let is = sym c.in-Some.ensures in
    let none : length (drop f.length path) ≡ 0 = ap length (sym (take_rest path f.length)) ∙ eqb-true _ 0 (sym c.is_empty.ensures ∙ c.if-is_empty.true) in
    let whole : length path ≡ f.length = omega (arith, none, length-drop f.length path, (prefix-fits windows path f is).fits) in
    subst (CrossesTurned windows unix path) (sym c.prefix_alone.ensures) (crosses-prefix path f is whole)

pub returns-then-has_no_blank_behind-2 : goal.returns-then-has_no_blank_behind-2
returns-then-has_no_blank_behind-2 c =
    let path = c.args.path.now in
    let text = c.before_last_separator-text-2.result.now in
    let f = found_of c.in-Some.found in
    let is = sym c.in-Some.ensures in
    let s = separators windows path in
    let w = separators-windows path in
    let p = prefix_part f.prefix (take f.length path) in
    let rooted = c.is_rooted.ensures.rooted c.if-is_rooted.true in
    let without = c.is_rooted.ensures.slashless c.if-is_rooted.true in
    let read = behind_read path _ text f c.of_windows.result c.of_windows.ensures is refl c.before_last_separator-text-2.ensures.body in
    elim c.if-text-eq1.branch [
      | then-text-eq1 w1 ↦ crosses-root path text s p w read without w1.if-text-eq1.true rooted
      | else-text-eq1 w1 ↦ crosses-rooted path text s p w read without (w1.has_no_blank_behind-else-text-eq1.ensures (sym w1.value-is ∙ c.if-has_no_blank_behind-2.true)) rooted
    ]
