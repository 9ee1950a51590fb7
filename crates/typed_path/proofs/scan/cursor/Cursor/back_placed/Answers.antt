use Rattle.typed_path.specs.scan.{last_of}
use Rattle.typed_path.specs.views.CursorViews.{items_left}
use Rattle.typed_path.specs.views.PieceViews.{part_of}
use Rattle.typed_path.proofs.lemmas.scan.Unread.{placed_fits, placed_to}
use Rattle.typed_path.proofs.scan.cursor.Cursor.back_placed.Goals as goal

pub overflow_sub-result : goal.overflow_sub-result
overflow_sub-result c = placed_fits (last_of (items_left c.args.self.now)) (part_of c.in_ok-piece.piece) c.in_ok-piece.end c.in_ok-piece.ensures.taken c.in_ok-piece.ensures.end

pub returns-clause-taken : goal.returns-clause-taken
returns-clause-taken c = placed_to (last_of (items_left c.args.self.now)) (part_of c.in_ok-piece.piece) c.in_ok-piece.end c.in_ok-piece.ensures.taken c.in_ok-piece.ensures.end
