use Rattle.std.proofs.Common.{◌∙◌, ◌++◌, ◌∷◌, [], ap, sym, refl, length, map, arith}
use Rattle.typed_path.specs.components.{comps}
use Rattle.typed_path.specs.scan.{first_of}
use Rattle.typed_path.specs.views.PathViews.{components_items}
use Rattle.typed_path_c.specs.Parts.{over, told}
use Rattle.typed_path_c.proofs.Spans.{starts, first-told, all-seen, length-more, length-told, over-told, shorter, seen-within}
use Rattle.typed_path_c.proofs.parts.list.Goals as goal

pub components-init : goal.components-init
components-init g c = (
  [],
  starts g.T.Encoding.dialect c.args.path.now _ _
      (c.components-rest.ensures.items ∙ ap (comps g.T.Encoding.dialect) c.new.ensures) (c.components-rest.ensures.slice ∙ c.new.ensures),
  refl,
  refl,
)

pub overflow_add-at : goal.overflow_add-at
overflow_add-at g c =
    let (seen, behind, long, is) = c.components.invariant in
    let found = first-told (first_of (components_items c.components.rest)) c.in-Some.component (c.in-Some.ensures.told seen behind) in
    omega (arith, seen-within g.T.Encoding.dialect c.args.path.now seen (components_items c.components.rest) found.0 found.1 behind.0, long, c.next.ensures.fits)

pub components-smaller : goal.components-smaller
components-smaller g c =
    let (seen, behind, long, is) = c.components.invariant in
    let (first, there, same) = first-told _ _ (c.in-Some.ensures.told seen behind) in
    shorter _ _ first there c.in-Some.ensures.items

pub components-preserved : goal.components-preserved
components-preserved g c =
    let (seen, behind, long, is) = c.components.invariant in
    let (first, there, same) = first-told _ _ (c.in-Some.ensures.told seen behind) in (
      seen ++ first ∷ [],
      c.in-Some.ensures.behind seen first there behind,
      length-more seen first _ long,
      c.put_item.ensures (map told seen) c.args.out.now (length-told seen ∙ long) is ∙ ap (λ xs. over xs c.args.out.now) (over-told seen first _ same),
    )

pub returns-then-at-out : goal.returns-then-at-out
returns-then-at-out g c =
    let (seen, behind, long, is) = c.components.invariant in
    let all = all-seen g.T.Encoding.dialect c.args.path.now seen _ _ behind (c.in_default.ensures.told seen behind) in
    (is ∙ ap (λ cs. over (map told cs) c.args.out.now) (sym all), sym long ∙ ap length (sym all), λ fits. refl, λ more. absurd (omega (arith, more, long, ap length all, c.if-at-out.true)))

pub returns-else-at-out : goal.returns-else-at-out
returns-else-at-out g c =
    let (seen, behind, long, is) = c.components.invariant in
    let all = all-seen g.T.Encoding.dialect c.args.path.now seen _ _ behind (c.in_default.ensures.told seen behind) in
    (is ∙ ap (λ cs. over (map told cs) c.args.out.now) (sym all), sym long ∙ ap length (sym all), λ fits. absurd (omega (arith, fits, long, ap length all, c.if-at-out.false)), λ more. refl)
