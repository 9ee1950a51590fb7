use Rattle.std.proofs.Common.{◌∙◌}
use Rattle.typed_path.specs.views.PathViews.{components_items}
use Rattle.typed_path.specs.views.PieceViews.{part_of}
use Rattle.typed_path.proofs.lemmas.queries.Portable.{none_offender, some_offender, later_offender}
use Rattle.typed_path.proofs.lemmas.queries.Simplified.{one_less}
use Rattle.typed_path.proofs.common.portable.first_unportable.Goals as goal

pub returns-in-Some-piece_fault : goal.returns-in-Some-piece_fault
returns-in-Some-piece_fault g c =
    some_offender (components_items c.pieces.rest) (components_items c.next.new.self) (part_of c.in-Some.piece) c.in-Some-piece_fault.fault c.in-Some.ensures.taken c.in-Some.ensures.items
    c.in-Some-piece_fault.ensures ∙ c.pieces.invariant

pub returns : goal.returns
returns g c = none_offender (components_items c.pieces.rest) c.in_default.ensures.taken ∙ c.pieces.invariant

pub pieces-smaller : goal.pieces-smaller
pieces-smaller g c = one_less (components_items c.pieces.rest) (components_items c.next.new.self) (part_of c.in-Some.piece) c.in-Some.ensures.taken c.in-Some.ensures.items

pub pieces-preserved : goal.pieces-preserved
pieces-preserved g c =
    later_offender (components_items c.pieces.rest) (components_items c.next.new.self) (part_of c.in-Some.piece) c.in-Some.ensures.taken c.in-Some.ensures.items c.in_default-piece_fault.ensures
    ∙ c.pieces.invariant
