use Rattle.typed_path.specs.views.PieceViews.{part_of, step_part}
use Rattle.typed_path.proofs.lemmas.scan.Steps.{step-items, step-slice, back-none}
use Rattle.typed_path.proofs.scan.cursor.Cursor.back_ended.Goals as goal

pub returns-in-Some-clause-items : goal.returns-in-Some-clause-items
returns-in-Some-clause-items c = step-items c.args.self.now c.back_ended.new.self c.in-Some.ensures.from c.in-Some.ensures.text (step_part c.in-Some.step) c.in-Some.ensures.taken c.in-Some.ensures.items

pub returns-in-Some-clause-slice : goal.returns-in-Some-clause-slice
returns-in-Some-clause-slice c =
    step-slice c.args.self.now c.back_ended.new.self c.in-Some.ensures.from c.in-Some.ensures.text (step_part c.in-Some.step) c.in-Some.ensures.taken c.in-Some.ensures.items
    c.in-Some.ensures.shorter c.in-Some.ensures.left c.in-Some.ensures.slice

pub returns-clause-taken : goal.returns-clause-taken
returns-clause-taken c = back-none c.args.self.now c.in_ok-found.found c.in_ok-found.was (part_of c.take_prefix.result) c.in_default.ensures.taken c.take_prefix.ensures.taken
