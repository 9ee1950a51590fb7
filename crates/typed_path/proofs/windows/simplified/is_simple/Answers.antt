use Rattle.std.proofs.Common.{◌&&◌, sym, ap, ◌∙◌}
use Rattle.std.specs.List.{list_all}
use Rattle.typed_path.specs.components.{kinds, parts}
use Rattle.typed_path.specs.views.PathViews.{components_items}
use Rattle.typed_path.specs.views.PieceViews.{part_of}
use Rattle.typed_path.specs.queries.{is_exact}
use Rattle.typed_path.proofs.lemmas.queries.Simplified.{two_simple}
use Rattle.typed_path.proofs.windows.simplified.is_simple.Goals as goal

pub returns-then-are_drive_and_root : goal.returns-then-are_drive_and_root
returns-then-are_drive_and_root c =
    let cs = components_items c.args.rest in
    let ds = components_items c.next.new.self in
    let es = components_items c.next-2.new.self in
    let names = list_all is_exact (kinds (parts es)) in
    c.are_exact.ensures
    ∙ sym (ap (λ b. b && names) (sym c.are_drive_and_root.ensures ∙ c.if-are_drive_and_root.true))
    ∙ two_simple cs ds es (part_of c.in-Some.first) (part_of c.in-Some-next.second) c.in-Some.ensures.taken c.in-Some.ensures.items c.in-Some-next.ensures.taken c.in-Some-next.ensures.items
