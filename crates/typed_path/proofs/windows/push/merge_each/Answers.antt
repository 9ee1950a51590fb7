use Rattle.std.proofs.Common.{true≢false, sym, ◌∙◌, arith, Some, None}
use Rattle.typed_path.specs.views.CursorViews.{items_left}
use Rattle.typed_path.specs.views.PieceViews.{part_of}
use Rattle.typed_path.proofs.lemmas.scan.Steps.{yields_first}
use Rattle.typed_path.proofs.lemmas.changes.SpelledTexts.{merging-next, merging-end, room-next}
use Rattle.typed_path.proofs.windows.push.merge_each.Goals as goal

pub returns-in_err-apart-clause-succeeds : goal.returns-in_err-apart-clause-succeeds
returns-in_err-apart-clause-succeeds c = λ fits.
    let taken = yields_first part_of (Some c.in-Some.piece) (items_left c.pieces.rest) (items_left c.front.new.self) c.in-Some.ensures.taken c.in-Some.ensures.items in
    absurd (true≢false (sym (c.in_err-apart.ensures.succeeds (omega (arith, c.pieces.invariant.room fits, room-next (part_of c.in-Some.piece) _ _ taken)))))

pub pieces-preserved : goal.pieces-preserved
pieces-preserved c =
    let taken = yields_first part_of (Some c.in-Some.piece) (items_left c.pieces.rest) (items_left c.front.new.self) c.in-Some.ensures.taken c.in-Some.ensures.items in
    record {
      merging = merging-next (part_of c.in-Some.piece) _ _ _ _ c.pieces.invariant.merging taken c.in_ok-apart.ensures.stands;
      kept = c.in_ok-apart.ensures.kept ∙ c.pieces.invariant.kept;
      long = c.in_ok-apart.ensures.long;
      capacity = omega (arith, c.in_ok-apart.ensures.capacity, c.pieces.invariant.capacity);
      room = λ fits. omega (arith, c.pieces.invariant.room fits, room-next (part_of c.in-Some.piece) _ _ taken, c.in_ok-apart.ensures.room, c.in_ok-apart.ensures.capacity);
    }

pub returns-clause-stands : goal.returns-clause-stands
returns-clause-stands c =
    let none = (yields_first part_of None (items_left c.pieces.rest) (items_left c.front.new.self) c.in_default.ensures.taken c.in_default.ensures.items).0 in
    merging-end _ c.pieces.invariant.merging none
