use Rattle.std.proofs.Common.{◌≡◌, [], ◌∷◌, length, sym, ap, subst, ◌∙◌, arith, Some, Result, length-take-le, length-drop}
use Rattle.std.proofs.lemmas.Grind.{common_steps}
use Rattle.typed_path.specs.components.{kinds, parts, dialect_of}
use Rattle.typed_path.specs.views.BodyViews.{body_items}
use Rattle.typed_path.specs.views.PieceViews.{step_part}
use Rattle.typed_path.specs.changes.{fault_behind, fault_at, error_of}
use Rattle.typed_path.proofs.lemmas.queries.FileNames.{AllowsEach, allowed-body_from}
use Rattle.std.specs.Result.{IsErrAnd}
use Rattle.typed_path.proofs.lemmas.components.Cuts.{body_from-count}
use Rattle.typed_path.proofs.lemmas.changes.Faults.{fault_behind-at}
use Rattle.typed_path.proofs.lemmas.scan.Steps.{taken-first}
use Rattle.typed_path.proofs.scan.cursor.Body.check.Goals as goal
use Rattle.typed_path.proofs.scan.cursor.Body.check.Goals.{After-depth_behind}

pub steps-init : goal.steps-init
steps-init c = grind (arith, fault_behind-at, allowed-body_from)

pub depth_behind-requires : goal.depth_behind-requires
depth_behind-requires c = grind (arith, common_steps, taken-first, body_from-count, length-drop, length-take-le)

-- the error that a call passes on
error-is : {A E : Type 0} (r : Result A E) (e : E) → IsErrAnd r (λ y. y ≡ e) → error_of r ≡ Some e
error-is r e is = grind arith

module _ (c : After-depth_behind) where
  -- the fault of the whole list, by what this component is
  step : fault_behind (dialect_of c.args.self.separators) [] (kinds (parts (body_items c.args.self)))
      ≡ fault_at (dialect_of c.front.new.self.separators) c.steps.depth ((step_part c.in-Some.step).kind ∷ kinds (parts (body_items c.front.new.self)))
  step = grind (arith, c.steps.invariant.fault, c.in-Some.ensures.taken, c.in-Some.ensures.items, c.in-Some.ensures.separators)

pub returns-in_err-depth : goal.returns-in_err-depth
returns-in_err-depth c = grind (arith, error-is, step)

pub steps-preserved : goal.steps-preserved
steps-preserved c =
    let some = taken-first (body_items c.steps.self) _ c.in-Some.ensures.taken in
    record {
      fault = step c.before.before ∙ c.in_ok-depth.ensures.judged (kinds (parts (body_items c.front.new.self)));
      allowed = λ told.
          subst (λ s. AllowsEach (dialect_of s) (kinds (parts (body_items c.front.new.self)))) (sym c.in-Some.ensures.separators)
          (subst (λ cs. AllowsEach (dialect_of c.steps.self.separators) (kinds (parts cs))) (sym c.in-Some.ensures.items)
          (subst (AllowsEach (dialect_of c.steps.self.separators)) some.0 (c.steps.invariant.allowed told)).1);
      deep = omega (arith, some.1, c.steps.invariant.deep, c.in_ok-depth.ensures.within, ap length c.in-Some.ensures.items);
    }

pub returns : goal.returns
returns c = grind arith
