use Rattle.typed_path.specs.views.PathViews.{components_items}
use Rattle.typed_path.specs.views.PieceViews.{part_of}
use Rattle.typed_path_uses.proofs.NextFits.{fits-some, fits-none}
use Rattle.typed_path_uses.proofs.ignore.fits_next.Goals as goal

pub returns-in-Some : goal.returns-in-Some
returns-in-Some g c =
    λ others. fits-some (part_of c.args.wanted).kind others (components_items c.args.rest.now) (components_items c.next.new.self) (part_of c.in-Some.piece) c.fits_piece.result c.in-Some.ensures.taken c.in-Some.ensures.items c.fits_piece.ensures

pub returns-in-None : goal.returns-in-None
returns-in-None g c =
    λ others. fits-none (part_of c.args.wanted).kind others (components_items c.args.rest.now) c.in-None.ensures.taken
