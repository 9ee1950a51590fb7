use Rattle.std.proofs.Common.{rules}
use Rattle.typed_path.specs.views.PathViews.{components_items, components_parts}
use Rattle.typed_path_uses.proofs.RulesLeft.{end-answer}
use Rattle.typed_path_uses.proofs.ignore.fits_path.Goals as goal

pub returns : goal.returns
returns g c =
    end-answer c.next-2.result (components_parts c.pieces.wanted-iterator) (components_items c.pieces.rest) c.is_none.result _ (search rules) c.next-2.ensures.taken c.is_none.ensures c.pieces.invariant
