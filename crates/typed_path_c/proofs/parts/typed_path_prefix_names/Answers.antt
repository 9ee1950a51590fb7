use Rattle.std.proofs.Common.{◌-◌, subst}
use Rattle.typed_path.specs.typed.{typed_dialect}
use Rattle.typed_path.specs.views.TypedViews.{typed_bytes}
use Rattle.typed_path_c.specs.Answers.{done}
use Rattle.typed_path_c.specs.Places.{Names}
use Rattle.typed_path_c.proofs.Placed.{names_told}
use Rattle.typed_path_c.proofs.parts.typed_path_prefix_names.Goals as goal

pub returns-in-Some-prefix_names : goal.returns-in-Some-prefix_names
returns-in-Some-prefix_names c =
    let n = c.in-Some-prefix_names.names in
    subst (λ t. Names c.args.dialect t c.args.first.now (record { start = n.first; length = n.first_end - n.first }) c.args.second.now (record { start = n.second; length = n.second_end - n.second }) done)
    c.in-Some.ensures.bytes
    (names_told (typed_bytes c.in-Some.path) n c.args.first.now c.args.second.now c.args.dialect (typed_dialect c.in-Some.path) c.in-Some.ensures.dialect c.in-Some-prefix_names.ensures)
