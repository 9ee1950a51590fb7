use Rattle.std.proofs.Common.{sym, subst, ◌∙◌}
use Rattle.typed_path.specs.components.{windows, comps, disk, IsPartedDrive}
use Rattle.typed_path.specs.views.BodyViews.{body_items}
use Rattle.typed_path.proofs.lemmas.order.Comparisons.{prefixed-bare, bare-prefixed}
use Rattle.typed_path.proofs.lemmas.order.DifferentPrefixes.{bare-found, behind-bare}
use Rattle.typed_path.proofs.windows.encoding.order_by_prefixes.Goals as goal
use Rattle.typed_path.proofs.lemmas.components.PrefixCuts.{first-found}

pub returns-in-Some-None : goal.returns-in-Some-None
returns-in-Some-None c =
    let t = c.args.path.now in
    let u = c.args.other.now in
    let own = subst (λ d. IsPartedDrive t d c.in-Some-Some.field-0-1-0.now) c.in-Some-None.is-0 c.in-Some-Some.ensures in
    let none = (subst (λ d. IsPartedDrive u d c.in-Some-Some.field-0-1-1.now) c.in-Some-None.is-1 c.in-Some-Some.ensures').1 in
    sym (prefixed-bare (comps windows t) (comps windows u) (body_items c.whole.result) (disk c.in-Some-None.field-0-0) c.order_of_prefixed.result
    (first-found t _ own.1) (bare-found u none) (behind-bare u (body_items c.whole.result) none (c.whole.ensures none)) c.order_of_prefixed.ensures)

pub returns-in-None-Some : goal.returns-in-None-Some
returns-in-None-Some c =
    let t = c.args.path.now in
    let u = c.args.other.now in
    let none = (subst (λ d. IsPartedDrive t d c.in-Some-Some.field-0-1-0.now) c.in-None-Some.is-0 c.in-Some-Some.ensures).1 in
    let others = subst (λ d. IsPartedDrive u d c.in-Some-Some.field-0-1-1.now) c.in-None-Some.is-1 c.in-Some-Some.ensures' in
    sym (c.reverse.ensures
    ∙ bare-prefixed (comps windows u) (comps windows t) (body_items c.whole-in-None-Some.result) (disk c.in-None-Some.field-0-1) c.order_of_prefixed-in-None-Some.result
    (first-found u _ others.1) (bare-found t none) (behind-bare t (body_items c.whole-in-None-Some.result) none (c.whole-in-None-Some.ensures none)) c.order_of_prefixed-in-None-Some.ensures)
