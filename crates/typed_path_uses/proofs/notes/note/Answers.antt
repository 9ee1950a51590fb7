use Rattle.typed_path.proofs.lemmas.order.Maps.{inserted}
use Rattle.typed_path_uses.proofs.notes.note.Goals as goal

pub returns-clause-puts : goal.returns-clause-puts
returns-clause-puts g c =
    inserted g.T.Encoding.dialect _ _ _ _ c.in_ok-before.ensures.updates.1 c.in_ok-before.ensures.entries
