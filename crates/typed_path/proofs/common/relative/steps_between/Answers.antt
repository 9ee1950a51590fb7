use Rattle.std.proofs.Common.{arith}
use Rattle.std.proofs.lemmas.Bool.{and_parts, leb-true}
use Rattle.typed_path.proofs.lemmas.places.KeptFromBack.{kept_behind_prefix}
use Rattle.typed_path.proofs.lemmas.places.Reached.{few-steps, met-fits, met-told, names-down, not-standing, reached-all}
use Rattle.typed_path.proofs.common.relative.steps_between.Goals as goal

pub overflow_sub-down : goal.overflow_sub-down
overflow_sub-down c = grind (arith, met-told, kept_behind_prefix, met-fits, c.lead_of-lead.ensures.anchored, c.lead_of-lead.ensures.unmet, c.lead_of-start.ensures.anchored, c.lead_of-start.ensures.unmet, c.met_count-met.ensures, c.body.ensures, c.body-2.ensures, c.lead_of-lead.ensures.names)

pub overflow_sub-result : goal.overflow_sub-result
overflow_sub-result c = grind (arith, met-told, kept_behind_prefix, met-fits, c.lead_of-lead.ensures.anchored, c.lead_of-lead.ensures.unmet, c.lead_of-start.ensures.anchored, c.lead_of-start.ensures.unmet, c.met_count-met.ensures, c.body.ensures, c.body-2.ensures, c.lead_of-start.ensures.names)

pub overflow_add-result : goal.overflow_add-result
overflow_add-result c = grind (arith, few-steps, c.lead_of-lead.ensures.anchored, c.lead_of-lead.ensures.unmet, c.requires, c.rising.ensures, c.lead_of-start.ensures.names)

pub returns-then-not-can_stand : goal.returns-then-not-can_stand
returns-then-not-can_stand c = grind (arith, met-told, kept_behind_prefix, names-down, not-standing, c.lead_of-lead.ensures.anchored, c.lead_of-lead.ensures.unmet, c.lead_of-start.ensures.anchored, c.lead_of-start.ensures.unmet, c.met_count-met.ensures, c.body.ensures, c.body-2.ensures, c.lead_of-lead.ensures.names, c.can_stand.ensures, c.body-3.ensures)

pub returns : goal.returns
returns c = grind (arith, met-told, kept_behind_prefix, names-down, and_parts, leb-true, reached-all, c.lead_of-lead.ensures.anchored, c.lead_of-lead.ensures.unmet, c.lead_of-start.ensures.anchored, c.lead_of-start.ensures.unmet, c.met_count-met.ensures, c.body.ensures, c.body-2.ensures, c.lead_of-lead.ensures.names, c.can_stand.ensures, c.body-3.ensures)
