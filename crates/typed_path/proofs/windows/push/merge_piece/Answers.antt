use Rattle.std.proofs.Common.{drop, refl, sym, subst}
use Rattle.typed_path.specs.changes.{merge_by_kind, Stands}
use Rattle.typed_path.specs.views.PieceViews.{part_of, kind_view}
use Rattle.typed_path.proofs.lemmas.conversions.Crossings.{cut-behind}
use Rattle.typed_path.proofs.windows.push.merge_piece.Goals as goal
use Rattle.typed_path.proofs.lemmas.lists.Lists.{whole_range}

pub returns-in-ParentDir-clause-stands : goal.returns-in-ParentDir-clause-stands
returns-in-ParentDir-clause-stands c = λ ps stands.
    let head = c.args.head in
    let old = c.args.text.now.items in
    let base = c.deref.result.now in
    let left = c.len_without_name-kept.ensures.left ps (subst (Stands c.args.parted ps) (sym (whole_range old base head c.deref.ensures.value)) stands) in
    subst (λ k. Stands c.args.parted (merge_by_kind ps (part_of c.args.piece) (kind_view k c.args.piece.text.now)) (drop head c.truncate-in-ParentDir.new.self.items)) (sym c.in-ParentDir.is)
    (subst (Stands c.args.parted _) (cut-behind old c.truncate-in-ParentDir.new.self.items base _ head c.len_without_name-kept.result c.deref.ensures.value refl c.truncate-in-ParentDir.ensures.items) left)
