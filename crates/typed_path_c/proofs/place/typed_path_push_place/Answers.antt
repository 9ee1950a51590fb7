use Rattle.std.proofs.Common.{subst}
use Rattle.typed_path.specs.typed.{typed_dialect}
use Rattle.typed_path.specs.views.TypedViews.{typed_bytes}
use Rattle.typed_path_c.specs.declared.place.Place.{Place}
use Rattle.typed_path_c.specs.Answers.{done}
use Rattle.typed_path_c.specs.Places.{Places}
use Rattle.typed_path_c.proofs.Placed.{placed_told}
use Rattle.typed_path_c.proofs.place.typed_path_push_place.Goals as goal

pub returns-in-Some-push_place : goal.returns-in-Some-push_place
returns-in-Some-push_place c =
    let place : Place = record { kept = c.in-Some-push_place.found.kept; separator = c.separator_number.result } in
    subst (λ t. Places c.args.dialect t c.args.other.now c.args.place.now place done) c.in-Some.ensures.bytes
    (placed_told c.args.dialect (typed_dialect c.in-Some.path) (typed_bytes c.in-Some.path) c.args.other.now c.in-Some-push_place.found.separator.now c.args.place.now place
    c.in-Some.ensures.dialect c.in-Some-push_place.ensures.none c.in-Some-push_place.ensures.within c.in-Some-push_place.ensures.place c.in-Some-push_place.ensures.separator c.separator_number.ensures)
