use Rattle.std.proofs.Common.{arith}
use Rattle.typed_path.specs.views.BodyViews.{body_items}
use Rattle.typed_path.specs.places.{names_under}
use Rattle.typed_path.proofs.lemmas.places.TakenNames.{none-taken, took-any}
use Rattle.typed_path.proofs.common.relative.skip.Goals as goal

pub names-init : goal.names-init
names-init c = record { left = none-taken (names_under c.args.owed.now (body_items c.args.rest.now)); fits = omega arith }

pub names-preserved : goal.names-preserved
names-preserved c =
    let whole = names_under c.args.owed.now (body_items c.args.rest.now) in
    record {
      left = took-any (λ x. x.now) whole (names_under c.names.owed (body_items c.names.rest)) (names_under c.last_name.new.owed (body_items c.last_name.new.rest)) c.names.counter c.last_name.result
          c.names.invariant.left (omega (arith, c.names-test.true, c.requires.count)) c.last_name.ensures.name;
      fits = omega (arith, c.last_name.ensures.within, c.names.invariant.fits);
    }
