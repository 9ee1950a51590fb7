use Rattle.typed_path.proofs.lemmas.scan.Steps.{shown_last, progress_last}
use Rattle.typed_path.proofs.common.components.ReadingDoubleEndedIterator.next_back.Goals as goal

pub returns-clause-steps : goal.returns-clause-steps
returns-clause-steps g c =
    (shown_last g.I.ReadAs.seen g.I.ReadAs.shown c.next_back.result _ _ c.next_back.ensures.taken c.next_back.ensures.items, (c.next_back.ensures.items, c.next_back.ensures.slice))

pub returns-clause-goes : goal.returns-clause-goes
returns-clause-goes g c = progress_last g.I.ReadAs.seen _ _ (λ s. tt) _ _ c.next_back.result (returns-clause-steps g c).0
