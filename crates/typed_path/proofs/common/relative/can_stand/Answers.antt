use Rattle.std.proofs.Common.{◌-◌, ◌<◌, length, drop, sym, ap, ◌∙◌, arith}
use Rattle.typed_path.specs.views.BodyViews.{body_items}
use Rattle.typed_path.specs.places.{can_stand, names_under}
use Rattle.typed_path.proofs.lemmas.places.KeptFromBack.{names-alone}
use Rattle.typed_path.proofs.lemmas.places.TakenNames.{none-behind, none-taken, some-left, stands-more, stands-not, took}
use Rattle.typed_path.proofs.common.relative.can_stand.Goals as goal
use Rattle.typed_path.proofs.common.relative.can_stand.Goals.{in-Some+else-contains, in_default}

pub names-init : goal.names-init
names-init c = grind (arith, none-taken, none-behind)

pub returns-then-contains : goal.returns-then-contains
returns-then-contains c =
    let whole = names_under 0 (body_items c.args.rest) in
    let left = names_under c.names.owed (body_items c.names.rest) in
    let next = names_under c.last_name.new.owed (body_items c.last_name.new.rest) in
    let less : c.names.counter < length whole = omega (arith, c.names-test.true, c.requires.count, ap length (names-alone (body_items c.args.rest))) in
    let step = took (λ x. x.now) whole left next c.names.counter c.in-Some.name c.names.invariant.left less c.in-Some.ensures.name in
    sym (ap (λ ns. can_stand (drop (length ns - c.args.count) ns)) (sym (names-alone (body_items c.args.rest)))
    ∙ stands-not whole c.names.counter c.args.count c.in-Some.name.now (drop (length whole - c.names.counter) whole) (omega (arith, c.names-test.true)) step.taken (sym c.contains.ensures.value ∙ c.if-contains.true))

pub names-preserved : goal.names-preserved
names-preserved c =
    let whole = names_under 0 (body_items c.args.rest) in
    let left = names_under c.names.owed (body_items c.names.rest) in
    let next = names_under c.last_name.new.owed (body_items c.last_name.new.rest) in
    let less : c.names.counter < length whole = omega (arith, c.names-test.true, c.requires.count, ap length (names-alone (body_items c.args.rest))) in
    elim c.match-last_name.branch [
      | in-Some+else-contains w ↦
          let step = took (λ x. x.now) whole left next c.names.counter w.in-Some.name c.names.invariant.left less w.in-Some.ensures.name in
          record {
            left = step.left;
            fits = omega (arith, c.last_name.ensures.within, c.names.invariant.fits);
            stand = ap can_stand step.taken ∙ stands-more w.in-Some.name.now (drop (length whole - c.names.counter) whole) (sym w.contains.ensures.value ∙ w.if-contains.false) c.names.invariant.stand;
          }
      | in_default w ↦ absurd (some-left whole left c.names.counter c.names.invariant.left less w.in_default.ensures.name)
    ]
