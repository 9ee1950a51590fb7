use Rattle.std.proofs.Common.{◌&&◌, arith, length, sym, ap, ap₂, ◌∙◌, drop}
use Rattle.typed_path.specs.order.{lowered_begins}
use Rattle.typed_path.specs.views.PathViews.{components_items, path_bytes}
use Rattle.typed_path.specs.views.PieceViews.{part_of}
use Rattle.typed_path.proofs.lemmas.scan.Steps.{taken-first}
use Rattle.typed_path.proofs.lemmas.order.LoweredLists.{begins-lowered, begins-step, begins-short, begins-all}
use Rattle.typed_path.proofs.common.path.Path.starts_with_ignore_ascii_case.Goals as goal

pub pieces-init : goal.pieces-init
pieces-init g c =
    begins-lowered g.T.Encoding.dialect (path_bytes c.args.self) (path_bytes c.args.base) (components_items c.components-rest.result) (components_items c.components-wanted.result) c.components-rest.ensures.items c.components-wanted.ensures.items

pub returns-in_default-next : goal.returns-in_default-next
returns-in_default-next g c =
    sym (c.pieces.invariant ∙ begins-short (components_items c.pieces.rest) (components_items c.pieces.wanted) (part_of c.in-Some.piece) c.in-Some.ensures.taken c.in_default-next.ensures.taken)

pub returns-then-not-is_written_alike : goal.returns-then-not-is_written_alike
returns-then-not-is_written_alike g c =
    sym (c.pieces.invariant
    ∙ begins-step (components_items c.pieces.rest) (components_items c.pieces.wanted) (part_of c.in-Some.piece) (part_of c.in-Some-next.own) c.in-Some.ensures.taken c.in-Some-next.ensures.taken
    ∙ ap (λ b. b && lowered_begins (drop 1 (components_items c.pieces.rest)) (drop 1 (components_items c.pieces.wanted))) (sym c.is_written_alike.ensures ∙ c.if-not-is_written_alike.true))

pub pieces-preserved : goal.pieces-preserved
pieces-preserved g c =
    c.pieces.invariant
    ∙ begins-step (components_items c.pieces.rest) (components_items c.pieces.wanted) (part_of c.in-Some.piece) (part_of c.in-Some-next.own) c.in-Some.ensures.taken c.in-Some-next.ensures.taken
    ∙ ap (λ b. b && lowered_begins (drop 1 (components_items c.pieces.rest)) (drop 1 (components_items c.pieces.wanted))) (sym c.is_written_alike.ensures ∙ c.if-not-is_written_alike.false)
    ∙ ap₂ lowered_begins (sym c.in-Some-next.ensures.items) (sym c.in-Some.ensures.items)

pub returns : goal.returns
returns g c = sym (c.pieces.invariant ∙ begins-all (components_items c.pieces.rest) (components_items c.pieces.wanted) c.in_default.ensures.taken)

pub pieces-smaller : goal.pieces-smaller
pieces-smaller g c = omega (arith, (taken-first (components_items c.pieces.wanted) _ c.in-Some.ensures.taken).1, ap length c.in-Some.ensures.items)
