use Rattle.std.proofs.Common.{◌||◌, ap₂, ◌∙◌}
use Rattle.typed_path.specs.components.{kinds, parts}
use Rattle.typed_path.specs.places.{holds_all, leads_within}
use Rattle.typed_path.specs.views.CursorViews.{items_left}
use Rattle.typed_path.proofs.lemmas.places.Reached.{near-within}
use Rattle.typed_path.proofs.common.within.is_within.Goals as goal

pub returns-in-Some : goal.returns-in-Some
returns-in-Some g c =
    let near = c.in-Some.near in
    near-within c.bare_separators.result (kinds (parts (items_left c.cursor.result))) (kinds (parts (items_left c.cursor-2.result))) near.up near.rest.now near.ended c.in-Some.ensures
    ∙ ap₂ (λ xs ys. leads_within (kinds (parts xs)) (kinds (parts ys)) || holds_all (kinds (parts xs)) (kinds (parts ys))) c.cursor.ensures.items c.cursor-2.ensures.items
