use Rattle.std.proofs.Common.{sym, ap, ap₂, ◌∙◌, length, arith, ◌-◌, ◌+◌}
use Rattle.typed_path.specs.views.PathViews.{path_bytes, components_items}
use Rattle.typed_path.specs.views.PieceViews.{part_of}
use Rattle.typed_path.proofs.lemmas.queries.Shared.{shares_start, shares_step, shares_end, slice_fits, no_own, no_other}
use Rattle.typed_path.proofs.common.within.shared_by_components.Goals as goal

pub pieces-init : goal.pieces-init
pieces-init g c = shares_start g.T.Encoding.dialect (path_bytes c.args.path) (path_bytes c.args.other) _ _ _ c.components-own.ensures.items c.components-others.ensures.items c.components-own.ensures.slice

pub overflow_sub-start : goal.overflow_sub-start
overflow_sub-start g c = omega (arith, slice_fits c.pieces.invariant, ap length c.as_bytes.ensures, ap length c.as_bytes-len.ensures)

pub pieces-preserved : goal.pieces-preserved
pieces-preserved g c =
    shares_step c.pieces.invariant (part_of c.in-Some-next.piece) (part_of c.in-Some.wanted) _ _ _ _ c.in-Some-next.ensures.taken c.in-Some.ensures.taken
    (sym c.eq.ensures ∙ c.if-eq.true) c.in-Some-next.ensures.items c.in-Some.ensures.items c.in-Some-next.ensures.slice
    (ap₂ (λ a b. length a - length b + length c.in-Some-next.piece.text.now) c.as_bytes-len.ensures c.as_bytes.ensures)

pub returns-in_default-next-clause-end : goal.returns-in_default-next-clause-end
returns-in_default-next-clause-end g c = grind (arith, c.pieces.invariant, c.in-Some-next.ensures.taken, c.in-Some.ensures.taken, c.eq.ensures, c.if-eq.false)

pub returns-in_default-next-2-clause-end : goal.returns-in_default-next-2-clause-end
returns-in_default-next-2-clause-end g c = grind (arith, shares_end, no_own)

pub returns-clause-end : goal.returns-clause-end
returns-clause-end g c = shares_end c.pieces.invariant (no_other (components_items c.pieces.own) (components_items c.pieces.others) c.in_default.ensures.taken)
