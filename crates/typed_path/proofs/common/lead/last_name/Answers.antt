use Rattle.std.proofs.Common.{arith, sym, ap, ◌∙◌, length}
use Rattle.std.proofs.lemmas.Grind.{common_steps}
use Rattle.typed_path.specs.views.BodyViews.{body_items}
use Rattle.typed_path.specs.views.PieceViews.{step_part}
use Rattle.typed_path.proofs.lemmas.places.KeptFromBack.{taken-last, goes-parent, goes-met, goes-passed, stays-name, stays-unmet, none-names, unmet-parents}
use Rattle.typed_path.proofs.lemmas.scan.Steps.{empty-last}
use Rattle.typed_path.proofs.common.lead.last_name.Goals as goal

pub steps-preserved-in-ParentDir : goal.steps-preserved-in-ParentDir
steps-preserved-in-ParentDir c = grind (arith, common_steps, goes-parent, taken-last)

pub steps-preserved-in-Normal-2 : goal.steps-preserved-in-Normal-2
steps-preserved-in-Normal-2 c = grind (arith, common_steps, goes-met, taken-last)

pub steps-preserved : goal.steps-preserved
steps-preserved c =
    let cs = body_items c.steps.rest in
    let ds = body_items c.back.new.self in
    let step = c.in-Some.step in
    let ensured = c.in-Some.ensures in
    let h = goes-passed cs ds step.kind step.text.now ensured.taken ensured.items c.steps.owed c.in_default-kind.not-ParentDir c.in_default-kind.not-Normal in
    let size = taken-last cs (step_part step) ensured.taken in
    record {
      names = sym h.names ∙ c.steps.invariant.names;
      unmet = sym h.unmet ∙ c.steps.invariant.unmet;
      within = omega (arith, size.1, ap (length) ensured.items, c.steps.invariant.within);
    }

pub returns-in-Normal-clause-name : goal.returns-in-Normal-clause-name
returns-in-Normal-clause-name c = grind (arith, stays-name)

pub returns-in-Normal-clause-unmet : goal.returns-in-Normal-clause-unmet
returns-in-Normal-clause-unmet c = grind (arith, stays-unmet)

pub returns-clause-name : goal.returns-clause-name
returns-clause-name c = sym c.steps.invariant.names ∙ none-names (body_items c.steps.rest) c.steps.owed c.in_default.ensures.taken

pub returns-clause-unmet : goal.returns-clause-unmet
returns-clause-unmet c = grind arith

pub returns-clause-end : goal.returns-clause-end
returns-clause-end c = grind (arith, unmet-parents, empty-last)
