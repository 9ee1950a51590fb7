use Rattle.std.proofs.Common.{◌∙◌, ap, sym, arith}
use Rattle.std.proofs.lemmas.Grind.{common_steps}
use Rattle.std.proofs.lemmas.List.{take_rest}
use Rattle.typed_path.specs.scan.{begins_with_name}
use Rattle.typed_path.proofs.lemmas.order.SharedNames.{shared-begins}
use Rattle.typed_path.proofs.lemmas.queries.SharedFronts.{longer-front, parted-front, shorter-front}
use Rattle.typed_path.proofs.scan.cut.shared_front.Goals as goal

pub returns-in-Some-clause-front : goal.returns-in-Some-clause-front
returns-in-Some-clause-front c = grind (arith, shared-begins, longer-front)

pub returns-in-Some-end_behind-clause-front : goal.returns-in-Some-end_behind-clause-front
returns-in-Some-end_behind-clause-front c = grind (arith, common_steps, shorter-front, c.if-shared-text.true, c.in-Some-end_behind.ensures.items)

pub returns-then-begins_with_name-2-clause-front : goal.returns-then-begins_with_name-2-clause-front
returns-then-begins_with_name-2-clause-front c =
    let s = c.args.separators in
    let t = c.args.text.now in
    let u = c.args.other.now in
    let n = c.last_start-start.result in
    let told = c.in_ok-_order.ensures in
    parted-front s t u c.first_difference-shared.result n c.in_ok-_order._order (c.first_difference-shared.ensures, c.last_start-start.ensures.last, c.last_start-start.ensures.within)
    (ap (begins_with_name s) (sym (take_rest t n)) ∙ c.begins_with_name.ensures c.if-begins_with_name.true)
    (ap (begins_with_name s) (sym (take_rest u n)) ∙ c.begins_with_name-then-begins_with_name.ensures c.if-begins_with_name-2.true)
    told.1 told.0
