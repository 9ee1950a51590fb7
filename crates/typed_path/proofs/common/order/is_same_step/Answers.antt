use Rattle.std.proofs.Common.{sym, ap₂, ◌∙◌}
use Rattle.std.specs.Ordering.{is_eq}
use Rattle.typed_path.specs.order.{kind_cmp}
use Rattle.typed_path.specs.views.PieceViews.{step_view}
use Rattle.typed_path.proofs.lemmas.order.Comparisons.{same-name}
use Rattle.typed_path.proofs.common.order.is_same_step.Goals as goal

pub returns-in-Normal-Normal : goal.returns-in-Normal-Normal
returns-in-Normal-Normal c =
    let a = c.args.step.text.now in
    let b = c.args.other.text.now in
    c.eq.ensures ∙ same-name a b ∙ ap₂ (λ k l. is_eq (kind_cmp (step_view k a) (step_view l b))) (sym c.in-Normal-Normal.is-0) (sym c.in-Normal-Normal.is-1)
