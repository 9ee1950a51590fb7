use Rattle.typed_path.specs.views.BodyViews.{body_items}
use Rattle.typed_path.specs.views.CursorViews.{items_left}
use Rattle.typed_path.proofs.lemmas.places.KeptFromBack.{few, few_behind_prefix}
use Rattle.typed_path.proofs.common.relative.body_of.Goals as goal

pub returns-clause-fits : goal.returns-clause-fits
returns-clause-fits g c =
    few_behind_prefix (items_left c.cursor.result) (body_items c.body.result) c.body.ensures
    (few g.T.Encoding.dialect c.args.path.now (items_left c.cursor.result) c.cursor.ensures.items c.requires)
