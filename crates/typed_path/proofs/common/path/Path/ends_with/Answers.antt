use Rattle.std.proofs.Common.{◌&&◌, sym, ap, ◌∙◌}
use Rattle.std.proofs.lemmas.Bool.{not-true, not-false}
use Rattle.std.proofs.Math.Bool.{and-false, and-true}
use Rattle.typed_path.specs.scan.{but_last}
use Rattle.typed_path.specs.views.PathViews.{components_items}
use Rattle.typed_path.specs.views.PieceViews.{part_of}
use Rattle.typed_path.proofs.lemmas.queries.Bases.{ends, ends-nothing, ends-short, ends-step}
use Rattle.typed_path.proofs.common.path.Path.ends_with.Goals as goal

pub returns-in_default-next_back : goal.returns-in_default-next_back
returns-in_default-next_back g c =
    sym (c.pieces.invariant ∙ ends-short (components_items c.pieces.rest) (components_items c.pieces.wanted) (part_of c.in-Some.piece) c.in-Some.ensures.taken c.in_default-next_back.ensures.taken)

pub returns-then-ne : goal.returns-then-ne
returns-then-ne g c =
    sym (c.pieces.invariant
    ∙ ends-step (components_items c.pieces.rest) (components_items c.pieces.wanted) (part_of c.in-Some.piece) (part_of c.in-Some-next_back.own) c.in-Some.ensures.taken c.in-Some-next_back.ensures.taken
    ∙ ap (λ b. ends (but_last (components_items c.pieces.rest)) (but_last (components_items c.pieces.wanted)) && b) (not-true _ (sym c.ne.ensures ∙ c.if-ne.true))
    ∙ and-false _)

pub pieces-preserved : goal.pieces-preserved
pieces-preserved g c =
    c.pieces.invariant
    ∙ ends-step (components_items c.pieces.rest) (components_items c.pieces.wanted) (part_of c.in-Some.piece) (part_of c.in-Some-next_back.own) c.in-Some.ensures.taken c.in-Some-next_back.ensures.taken
    ∙ ap (λ b. ends (but_last (components_items c.pieces.rest)) (but_last (components_items c.pieces.wanted)) && b) (not-false _ (sym c.ne.ensures ∙ c.if-ne.false))
    ∙ and-true _
    ∙ ap (λ cs. ends cs (but_last (components_items c.pieces.wanted))) (sym c.in-Some-next_back.ensures.items)
    ∙ ap (ends (components_items c.next_back-in-Some.new.self)) (sym c.in-Some.ensures.items)

pub returns : goal.returns
returns g c = sym (c.pieces.invariant ∙ ends-nothing (components_items c.pieces.rest) (components_items c.pieces.wanted) c.in_default.ensures.taken)
