use Rattle.std.proofs.Common.{◌∙◌, sym, ap₂, arith}
use Rattle.std.specs.List.{starts_with}
use Rattle.std.specs.Str.{bytes_eq}
use Rattle.typed_path.specs.views.BodyViews.{body_items}
use Rattle.typed_path.specs.places.{names_under}
use Rattle.typed_path.proofs.lemmas.places.KeptFromBack.{ends-taken}
use Rattle.typed_path.proofs.lemmas.places.KeptFromBack.{names-alone}
use Rattle.typed_path.proofs.common.within.begin_alike.Goals as goal

pub names-preserved : goal.names-preserved
names-preserved c =
    let own = c.last_name-in-Some.new in
    let base = c.last_name-in-names.new in
    let h = ends-taken (names_under own.owed (body_items own.rest)) (names_under base.owed (body_items base.rest)) _ _
    c.in-Some-last_name.own.now c.in-Some.name.now c.eq.result c.in-Some-last_name.ensures.name c.in-Some.ensures.name c.names.invariant.size c.eq.ensures in
    record {
      fits = omega arith;
      base_fits = omega arith;
      size = h.size;
      answer = sym (h.alike c.if-eq.true) ∙ c.names.invariant.answer;
    }

pub returns-in_default-last_name : goal.returns-in_default-last_name
returns-in_default-last_name c =
    let own = c.last_name-in-Some.new in
    let base = c.last_name-in-names.new in
    let h = ends-taken (names_under own.owed (body_items own.rest)) (names_under base.owed (body_items base.rest)) _ _
    c.in-Some-last_name.own.now c.in-Some.name.now c.eq.result c.in-Some-last_name.ensures.name c.in-Some.ensures.name c.names.invariant.size c.eq.ensures in
    sym (h.unlike c.if-eq.false) ∙ c.names.invariant.answer
    ∙ ap₂ (starts_with bytes_eq) (names-alone (body_items c.args.rest)) (names-alone (body_items c.args.base))
