use Rattle.std.proofs.Common.{◌∙◌, ◌++◌, ◌∷◌, [], ap, sym, refl, option_map, drop, arith}
use Rattle.std.proofs.lemmas.List.{drop_all}
use Rattle.typed_path.specs.components.{comps}
use Rattle.typed_path.specs.scan.{first_of}
use Rattle.typed_path_c.specs.Parts.{told}
use Rattle.typed_path_c.proofs.Spans.{starts, left-behind, first-told, all-seen, length-more, shorter}
use Rattle.typed_path_c.proofs.parts.component_at.Goals as goal

pub components-init : goal.components-init
components-init g c = (
  [],
  starts g.T.Encoding.dialect c.args.path.now _ _
      (c.components-rest.ensures.items ∙ ap (comps g.T.Encoding.dialect) c.new.ensures) (c.components-rest.ensures.slice ∙ c.new.ensures),
  refl,
  omega arith,
)

pub returns-then-at-index : goal.returns-then-at-index
returns-then-at-index g c =
    let (seen, behind, long, within) = c.components.invariant in
    c.in-Some.ensures.told seen behind
    ∙ ap (λ cs. option_map told (first_of cs)) (sym (left-behind g.T.Encoding.dialect c.args.path.now seen _ _ c.args.index behind (long ∙ c.if-at-index.true)))

pub overflow_add-at : goal.overflow_add-at
overflow_add-at g c =
    let (seen, behind, long, within) = c.components.invariant in
    omega (arith, within, c.ranges.index.fits, c.if-at-index.false)

pub components-smaller : goal.components-smaller
components-smaller g c =
    let (seen, behind, long, within) = c.components.invariant in
    let (first, is, same) = first-told _ _ (c.in-Some.ensures.told seen behind) in
    shorter _ _ first is c.in-Some.ensures.items

pub components-preserved : goal.components-preserved
components-preserved g c =
    let (seen, behind, long, within) = c.components.invariant in
    let (first, is, same) = first-told _ _ (c.in-Some.ensures.told seen behind) in
    (seen ++ first ∷ [], c.in-Some.ensures.behind seen first is behind, length-more seen first _ long, omega (arith, within, c.if-at-index.false))

pub returns : goal.returns
returns g c =
    let (seen, behind, long, within) = c.components.invariant in
    let all = all-seen g.T.Encoding.dialect c.args.path.now seen _ _ behind (c.in_default.ensures.told seen behind) in
    ap (λ cs. option_map told (first_of cs)) (sym (ap (drop c.args.index) all ∙ drop_all c.args.index seen (omega (arith, long, within))))
