use Rattle.std.proofs.Common.{◌≡◌, ◌++◌, ◌-◌, ℕ, List, None, Some, length, drop, take, slice_range, refl, sym, ap, ◌∙◌, arith, if◌then◌else◌}
use Rattle.std.proofs.lemmas.List.{length-drop, take_all}
use Rattle.typed_path.specs.declared.scan.separators.Separators.TheVariants.{Backslash, Either}
use Rattle.typed_path.specs.components.{Prefix, Placed, body, windows, component, dialect_of, comps_behind, prefix_part, separators}
use Rattle.typed_path.specs.views.PieceViews.{found_of}
use Rattle.typed_path.proofs.lemmas.components.Prefixes.{prefix-fits, separators-windows}
use Rattle.typed_path.proofs.lemmas.components.PrefixCuts.{plain-none}
use Rattle.typed_path.proofs.scan.cursor.Cursor.of_windows.Goals as goal

-- the whole text is left, and what stands behind the prefix
from-prefix : (text : List ℕ) (n : ℕ) → slice_range text (n - n) (length text) ≡ text
from-prefix text n =
    let none : n - n ≡ 0 = omega arith in
    ap (λ k. slice_range text k (length text)) none ∙ take_all (length text - 0) (drop 0 text) (omega (arith, length-drop 0 text))

behind : (text : List ℕ) (n : ℕ) → slice_range text n (length text) ≡ drop n text
behind text n = take_all (length text - n) (drop n text) (omega (arith, length-drop n text))

placed : (p : Prefix) (n : ℕ) (text left : List ℕ) (rest others : List Placed) → left ≡ text → rest ≡ others
    → component (prefix_part p (take n left)) (n - n) ++ rest ≡ component (prefix_part p (take n text)) 0 ++ others
placed p n text left rest others same e =
    let none : n - n ≡ 0 = omega arith in
    λ i. component (prefix_part p (take n (same i))) (none i) ++ e i

pub invariant_of-result : goal.invariant_of-result
invariant_of-result c =
    let fits = (prefix-fits windows c.args.text.now (found_of c.in-Some.found) (sym c.in-Some.ensures)).fits in
    record { ordered = fits; in_range = omega arith; starts_clean = refl; fits = omega arith }

pub returns-clause-items : goal.returns-clause-items
returns-clause-items c =
    let text = c.args.text.now in
    let f = found_of c.in-Some.found in
    placed f.prefix f.length text _ _ (body c.of_windows.result f.length (drop f.length text)) (from-prefix text f.length) (ap (body c.of_windows.result f.length) (behind text f.length))
    ∙ ap (λ s. comps_behind s text (Some f)) c.of_windows.ensures
    ∙ ap (comps_behind (separators windows text) text) c.in-Some.ensures

pub returns-clause-slice : goal.returns-clause-slice
returns-clause-slice c = from-prefix c.args.text.now c.in-Some.found.length

pub returns-clause-dialect : goal.returns-clause-dialect
returns-clause-dialect c = ap dialect_of c.of_windows.ensures ∙ separators-windows c.args.text.now

pub returns-in_default-clause-items : goal.returns-in_default-clause-items
returns-in_default-clause-items c =
    let text = c.args.text.now in
    let none = sym c.in_default.ensures in
    c.new.ensures.items
    ∙ ap (λ b. comps_behind (if b then Backslash else Either) text None) (sym (plain-none text none))
    ∙ ap (comps_behind (separators windows text) text) (sym none)
