use Rattle.std.proofs.Common.{drop}
use Rattle.typed_path.specs.scan.{first_of}
use Rattle.typed_path.specs.typed.{typed_dialect}
use Rattle.typed_path.specs.views.TypedViews.{typed_bytes}
use Rattle.typed_path_c.proofs.Stepped.{stepped, told_within}
use Rattle.typed_path_c.proofs.steps.take_first.Goals as goal

pub returns-clause-step : goal.returns-clause-step
returns-clause-step c =
    stepped (typed_bytes c.args.path) c.args.component.now c.tell.new.component c.tell.result first_of (drop 1) (typed_dialect c.args.path) c.args.reading.now c.step_front.new.unread c.step_front.result
    c.step_front.ensures.told c.step_front.ensures.taken c.step_front.ensures.items c.step_front.ensures.kept c.tell.ensures

pub returns-clause-within : goal.returns-clause-within
returns-clause-within c = told_within (typed_bytes c.args.path) c.args.component.now c.tell.new.component c.tell.result c.step_front.result c.step_front.ensures.within c.tell.ensures
