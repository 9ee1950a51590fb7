use Rattle.std.proofs.Common.{◌≡◌, true, refl, sym, ap, ◌∙◌, arith, get_or}
use Rattle.typed_path.specs.components.{is_separator, separators, windows, prefix_of}
use Rattle.std.specs.Prelude.{Some}
use Rattle.typed_path.specs.views.PieceViews.{found_of}
use Rattle.typed_path.proofs.lemmas.components.PartedPrefixes.{shares-prefix}
use Rattle.typed_path.proofs.lemmas.order.SharedNames.{alike-before}
use Rattle.typed_path.proofs.windows.encoding.begins_with_prefix.Goals as goal

-- the text begins with the bytes of the prefix, and a separator
shared : (c : goal.After-contains) → c.contains.result ≡ true
    → (separators windows c.args.text.now ≡ separators windows c.args.path.now) × (prefix_of windows c.args.text.now ≡ Some (found_of c.args.found))
shared c same =
    let t = c.args.path.now in
    let u = c.args.text.now in
    let f = found_of c.args.found in
    let kind = c.if-not-stays_before_parted.ensures refl in
    shares-prefix t u f c.requires.found kind.0 kind.1 (omega (arith, c.if-path-end.false)) (omega (arith, c.if-text-end.false))
    (ap (λ s. is_separator s (get_or u f.length 0)) (sym c.of_windows.ensures) ∙ sym c.contains.ensures ∙ same)
    (alike-before t u c.args.shared f.length c.requires.place (omega (arith, c.if-shared-end.false)))

pub returns-clause-prefix : goal.returns-clause-prefix
returns-clause-prefix c = λ same. (shared c same).1

pub returns-clause-separators : goal.returns-clause-separators
returns-clause-separators c = λ same. (shared c same).0
