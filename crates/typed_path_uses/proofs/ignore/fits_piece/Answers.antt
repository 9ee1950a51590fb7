use Rattle.std.proofs.Common.{◌&&◌, ◌||◌, true, is_eq, sym, ap, ap₂, ◌∙◌}
use Rattle.typed_path.specs.components.{normal}
use Rattle.typed_path.specs.order.{kind_cmp}
use Rattle.typed_path.specs.views.PieceViews.{kind_view}
use Rattle.typed_path_uses.specs.Ignore.{fits_kind}
use Rattle.typed_path_uses.proofs.Names.{same-name}
use Rattle.typed_path_uses.proofs.ignore.fits_piece.Goals as goal

pub returns-else-is_star : goal.returns-else-is_star
returns-else-is_star c =
    let a = c.args.wanted.text.now in
    let b = c.args.piece.text.now in
    c.eq.ensures ∙ same-name a b
    ∙ ap (λ s. (s && true) || is_eq (kind_cmp (normal a) (normal b))) (sym c.if-is_star.false ∙ c.is_star.ensures)
    ∙ ap₂ (λ k l. fits_kind (kind_view k a) (kind_view l b)) (sym c.in-Normal-Normal.is-0) (sym c.in-Normal-Normal.is-1)
