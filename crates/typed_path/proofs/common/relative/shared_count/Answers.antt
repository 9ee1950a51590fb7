use Rattle.std.proofs.Common.{◌≡◌, length, sym, ap, ◌∙◌, arith, refl}
use Rattle.std.proofs.lemmas.Grind.{common_steps}
use Rattle.typed_path.specs.views.BodyViews.{body_items}
use Rattle.typed_path.specs.places.{names_under}
use Rattle.typed_path.proofs.lemmas.places.KeptFromBack.{names-alone}
use Rattle.typed_path.proofs.lemmas.places.SharedFromBack.{tells-start, step-same, step-other}
use Rattle.typed_path.proofs.common.relative.shared_count.Goals as goal

pub names-init : goal.names-init
names-init c =
    let own = names_under 0 (body_items c.args.rest) in
    let other = names_under 0 (body_items c.args.base) in
    let size : length own ≡ c.args.names = ap length (names-alone (body_items c.args.rest)) ∙ sym c.requires.names in
    let others : length other ≡ c.args.base_names = ap length (names-alone (body_items c.args.base)) ∙ sym c.requires.base_names in
    record {
      fits = omega (arith, c.skip.ensures.within);
      base_fits = omega (arith, c.skip-2.ensures.within);
      tells = tells-start own other _ _ c.args.names c.args.base_names _ _ _ size others c.saturating_sub-deeper.ensures c.saturating_sub.ensures refl c.skip.ensures.names c.skip-2.ensures.names;
    }

pub names-preserved-then-not-is_last : goal.names-preserved-then-not-is_last
names-preserved-then-not-is_last c =
    record {
      fits = omega (arith, c.is_last.ensures.within, c.names.invariant.fits);
      base_fits = omega (arith, c.last_name.ensures.within, c.names.invariant.base_fits);
      tells = step-other _ (names_under c.names.owed (body_items c.names.rest)) (names_under c.names.base_owed (body_items c.names.base)) (names_under c.is_last.new.owed (body_items c.is_last.new.rest)) (names_under c.last_name.new.owed (body_items c.last_name.new.rest)) c.names.below c.names.met c.in-Some.name.now c.in-Some.ensures.name c.names.invariant.tells c.is_last.result c.if-not-is_last.true c.is_last.ensures.is;
    }

pub names-preserved : goal.names-preserved
names-preserved c =
    record {
      fits = omega (arith, c.is_last.ensures.within, c.names.invariant.fits);
      base_fits = omega (arith, c.last_name.ensures.within, c.names.invariant.base_fits);
      tells = step-same _ (names_under c.names.owed (body_items c.names.rest)) (names_under c.names.base_owed (body_items c.names.base)) (names_under c.is_last.new.owed (body_items c.is_last.new.rest)) (names_under c.last_name.new.owed (body_items c.last_name.new.rest)) c.names.below c.names.met c.in-Some.name.now c.in-Some.ensures.name c.names.invariant.tells c.is_last.result c.if-not-is_last.false c.is_last.ensures.is;
    }

pub returns : goal.returns
returns c = grind (arith, common_steps)
