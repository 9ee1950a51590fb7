use Rattle.std.proofs.Common.{◌≡◌, option_map, Some, None, ap, ◌∙◌, rules}
use Rattle.typed_path.specs.views.ReadingViews.{reading_parts}
use Rattle.typed_path.proofs.lemmas.scan.Steps.{seen_first, progress_seen_first}
use Rattle.typed_path.proofs.utf8.reading.Utf8ReadingIterator.next.Goals as goal

pub returns-in_err-piece-clause-steps : goal.returns-in_err-piece-clause-steps
returns-in_err-piece-clause-steps g c =
    let none : option_map g.I.FromPiece.seen c.from_residual.result ≡ None = search rules in (
      seen_first g.I.FromPiece.seen g.I.FromPiece.seen_of c.from_residual.result _ _
          (none ∙ ap (option_map g.I.FromPiece.seen_of) c.in_err-piece.ensures.taken) c.in_err-piece.ensures.items,
      (c.in_err-piece.ensures.items, c.in_err-piece.ensures.slice),
    )

pub returns-clause-steps : goal.returns-clause-steps
returns-clause-steps g c = (
  seen_first g.I.FromPiece.seen g.I.FromPiece.seen_of (Some c.from_piece.result) _ _
      (ap Some c.from_piece.ensures ∙ ap (option_map g.I.FromPiece.seen_of) c.in_ok-piece.ensures.taken) c.in_ok-piece.ensures.items,
  (c.in_ok-piece.ensures.items, c.in_ok-piece.ensures.slice),
)

pub returns-clause-goes : goal.returns-clause-goes
returns-clause-goes g c = progress_seen_first g.I.FromPiece.seen g.I.FromPiece.seen_of reading_parts _ (λ s. tt) _ _ (Some c.from_piece.result) (returns-clause-steps g c).0
