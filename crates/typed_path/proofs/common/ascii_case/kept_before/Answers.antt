use Rattle.std.proofs.Common.{subst, sym, ap, ◌∙◌}
use Rattle.typed_path.specs.order.{IsLoweredBehind}
use Rattle.typed_path.specs.components.{kinds, parts}
use Rattle.typed_path.specs.queries.{first_prefix}
use Rattle.typed_path.specs.views.PieceViews.{prefix_view}
use Rattle.typed_path.proofs.lemmas.order.LoweredLists.{kept-none, kept-some}
use Rattle.typed_path.proofs.common.ascii_case.kept_before.Goals as goal

pub returns-in-Some : goal.returns-in-Some
returns-in-Some g c =
    let d = g.T.Encoding.dialect in
    subst (IsLoweredBehind d c.args.path.now) (sym c.mark_len.ensures)
    (kept-some d c.args.path.now (prefix_view c.in-Some.prefix) (c.in-Some.ensures ∙ ap (λ cs. first_prefix (kinds (parts cs))) c.cursor.ensures.items))

pub returns-in-None : goal.returns-in-None
returns-in-None g c =
    let d = g.T.Encoding.dialect in
    kept-none d c.args.path.now (c.in-None.ensures ∙ ap (λ cs. first_prefix (kinds (parts cs))) c.cursor.ensures.items)
