use Rattle.typed_path.specs.scan.{first_of}
use Rattle.typed_path.specs.views.CursorViews.{items_left}
use Rattle.typed_path.proofs.lemmas.scan.Unread.{placed_none}
use Rattle.typed_path.proofs.scan.cursor.Cursor.front_placed.Goals as goal

pub returns-in-None-clause-taken : goal.returns-in-None-clause-taken
returns-in-None-clause-taken c = placed_none (first_of (items_left c.args.self.now)) c.in-None.ensures.taken
