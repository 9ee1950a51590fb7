use Rattle.typed_path.proofs.lemmas.scan.Steps.{shown_first, progress_first}
use Rattle.typed_path.proofs.common.components.ReadingIterator.next.Goals as goal

pub returns-clause-steps : goal.returns-clause-steps
returns-clause-steps g c =
    (shown_first g.I.ReadAs.seen g.I.ReadAs.shown c.next.result _ _ c.next.ensures.taken c.next.ensures.items, (c.next.ensures.items, c.next.ensures.slice))

pub returns-clause-goes : goal.returns-clause-goes
returns-clause-goes g c = progress_first g.I.ReadAs.seen _ _ (λ s. tt) _ _ c.next.result (returns-clause-steps g c).0
