use Rattle.std.proofs.Common.{sym, ◌∙◌}
use Rattle.std.proofs.lemmas.Option.{IfSome_then}
use Rattle.typed_path.specs.components.{kinds, parts}
use Rattle.typed_path.specs.views.BodyViews.{body_items}
use Rattle.typed_path.specs.views.CursorViews.{items_left}
use Rattle.typed_path.proofs.lemmas.places.KeptFromBack.{kept_behind_prefix, unmet_behind_prefix}
use Rattle.typed_path.proofs.lemmas.places.NearSteps.{near-steps}
use Rattle.typed_path.proofs.common.relative.near_steps.Goals as goal

pub returns : goal.returns
returns c =
    let cs = items_left c.args.own in
    let ds = items_left c.args.other in
    let xs = body_items c.body.result in
    let ys = body_items c.body-2.result in
    IfSome_then c.near_behind.result c.near_behind.ensures
    (λ near part.
    near-steps c.args.separators (kinds (parts cs)) (kinds (parts ds)) (kinds (parts xs)) (kinds (parts ys)) near.up near.rest.now near.ended c.requires
    (sym c.have_same_heads.ensures ∙ c.if-not-have_same_heads.false)
    (kept_behind_prefix cs xs c.body.ensures)
    (kept_behind_prefix ds ys c.body-2.ensures)
    (unmet_behind_prefix cs xs c.body.ensures)
    (unmet_behind_prefix ds ys c.body-2.ensures)
    part)
