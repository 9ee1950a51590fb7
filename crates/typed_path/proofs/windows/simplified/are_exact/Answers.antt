use Rattle.std.proofs.Common.{◌&&◌, sym, ap, ◌∙◌}
use Rattle.std.specs.List.{list_all}
use Rattle.typed_path.specs.components.{kinds, parts}
use Rattle.typed_path.specs.views.PathViews.{components_items}
use Rattle.typed_path.specs.views.PieceViews.{part_of}
use Rattle.typed_path.specs.queries.{is_exact}
use Rattle.typed_path.proofs.lemmas.queries.Simplified.{none_exact, one_less, step_exact}
use Rattle.typed_path.proofs.windows.simplified.are_exact.Goals as goal

pub returns-then-not-is_exact : goal.returns-then-not-is_exact
returns-then-not-is_exact c =
    let rest = list_all is_exact (kinds (parts (components_items c.next.new.self))) in
    sym (ap (λ b. b && rest) (sym c.is_exact.ensures ∙ c.if-not-is_exact.true))
    ∙ sym (step_exact (components_items c.pieces.rest) (components_items c.next.new.self) (part_of c.in-Some.piece) c.in-Some.ensures.taken c.in-Some.ensures.items)
    ∙ c.pieces.invariant

pub pieces-preserved : goal.pieces-preserved
pieces-preserved c =
    let rest = list_all is_exact (kinds (parts (components_items c.next.new.self))) in
    sym (ap (λ b. b && rest) (sym c.is_exact.ensures ∙ c.if-not-is_exact.false))
    ∙ sym (step_exact (components_items c.pieces.rest) (components_items c.next.new.self) (part_of c.in-Some.piece) c.in-Some.ensures.taken c.in-Some.ensures.items)
    ∙ c.pieces.invariant

pub returns : goal.returns
returns c = none_exact (components_items c.pieces.rest) c.in_default.ensures.taken ∙ c.pieces.invariant

pub pieces-smaller : goal.pieces-smaller
pieces-smaller c = one_less (components_items c.pieces.rest) (components_items c.next.new.self) (part_of c.in-Some.piece) c.in-Some.ensures.taken c.in-Some.ensures.items
