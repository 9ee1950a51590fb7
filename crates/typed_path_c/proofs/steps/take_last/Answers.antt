use Rattle.typed_path.specs.scan.{but_last, last_of}
use Rattle.typed_path.specs.typed.{typed_dialect}
use Rattle.typed_path.specs.views.TypedViews.{typed_bytes}
use Rattle.typed_path_c.proofs.Stepped.{stepped, told_within}
use Rattle.typed_path_c.proofs.steps.take_last.Goals as goal

pub returns-clause-step : goal.returns-clause-step
returns-clause-step c =
    stepped (typed_bytes c.args.path) c.args.component.now c.tell.new.component c.tell.result last_of but_last (typed_dialect c.args.path) c.args.reading.now c.step_back.new.unread c.step_back.result
    c.step_back.ensures.told c.step_back.ensures.taken c.step_back.ensures.items c.step_back.ensures.kept c.tell.ensures

pub returns-clause-within : goal.returns-clause-within
returns-clause-within c = told_within (typed_bytes c.args.path) c.args.component.now c.tell.new.component c.tell.result c.step_back.result c.step_back.ensures.within c.tell.ensures
