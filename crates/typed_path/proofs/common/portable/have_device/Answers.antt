use Rattle.std.proofs.Common.{◌||◌, sym, ap, ◌∙◌}
use Rattle.std.specs.List.{list_any}
use Rattle.typed_path.specs.components.{kinds, parts}
use Rattle.typed_path.specs.views.PathViews.{components_items}
use Rattle.typed_path.specs.views.PieceViews.{part_of}
use Rattle.typed_path.specs.queries.{kind_may_be_device}
use Rattle.typed_path.proofs.lemmas.queries.Portable.{step_device}
use Rattle.typed_path.proofs.common.portable.have_device.Goals as goal

pub returns-then-piece_may_be_device : goal.returns-then-piece_may_be_device
returns-then-piece_may_be_device g c =
    let rest = list_any kind_may_be_device (kinds (parts (components_items c.next.new.self))) in
    sym (ap (λ b. b || rest) (sym c.piece_may_be_device.ensures ∙ c.if-piece_may_be_device.true))
    ∙ sym (step_device (components_items c.pieces.rest) (components_items c.next.new.self) (part_of c.in-Some.piece) c.in-Some.ensures.taken c.in-Some.ensures.items)
    ∙ c.pieces.invariant
