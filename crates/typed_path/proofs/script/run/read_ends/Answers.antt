use Rattle.std.proofs.Common.{option_map, ap, ◌∙◌, arith}
use Rattle.typed_path.specs.declared.script.run.End.TheVariants.{Front, Back}
use Rattle.typed_path.specs.views.PieceViews.{part_of}
use Rattle.typed_path.specs.views.PathViews.{components_items, components_slice}
use Rattle.typed_path.proofs.lemmas.scan.Readings.{items-step, slice-step, answers-step}
use Rattle.typed_path.proofs.script.run.read_ends.Goals.{in-Front, in-Back}
use Rattle.typed_path.proofs.script.run.read_ends.Goals as goal

pub ends-preserved : goal.ends-preserved
ends-preserved g c =
    let ends = c.args.ends.now in
    let i = c.ends.end-index in
    let more = c.ends-test.true in
    let pushed = c.in_ok-push.ensures.items in
    elim c.match-end.branch [
      | in-Front w ↦
          let items = ap components_items w.components-is ∙ w.next-answer.ensures.items in
          let slice = ap components_slice w.components-is ∙ w.next-answer.ensures.slice in
          let taken = ap (option_map part_of) w.answer-is ∙ w.next-answer.ensures.taken in
          record {
            answers = answers-step ends i more Front w.in-Front.is _ _ items _ _ _ pushed taken ∙ c.ends.invariant.answers;
            items = items-step ends i more Front w.in-Front.is _ _ items ∙ c.ends.invariant.items;
            slice = slice-step ends i more Front w.in-Front.is _ _ items _ _ slice ∙ c.ends.invariant.slice;
            room = omega (arith, c.in_ok-push.ensures.len, c.in_ok-push.ensures.capacity, c.ends.invariant.room, more);
          }
      | in-Back w ↦
          let items = ap components_items w.components-is ∙ w.next_back-answer.ensures.items in
          let slice = ap components_slice w.components-is ∙ w.next_back-answer.ensures.slice in
          let taken = ap (option_map part_of) w.answer-is ∙ w.next_back-answer.ensures.taken in
          record {
            answers = answers-step ends i more Back w.in-Back.is _ _ items _ _ _ pushed taken ∙ c.ends.invariant.answers;
            items = items-step ends i more Back w.in-Back.is _ _ items ∙ c.ends.invariant.items;
            slice = slice-step ends i more Back w.in-Back.is _ _ items _ _ slice ∙ c.ends.invariant.slice;
            room = omega (arith, c.in_ok-push.ensures.len, c.in_ok-push.ensures.capacity, c.ends.invariant.room, more);
          }
    ]
