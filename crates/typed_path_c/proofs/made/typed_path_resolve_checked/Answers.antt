use Rattle.std.proofs.Common.{◌≡◌, true, take, sym, subst, ◌∙◌}
use Rattle.typed_path.specs.promises.{keeps_prefix}
use Rattle.typed_path.specs.typed.{typed_dialect}
use Rattle.typed_path.specs.views.TypedViews.{typed_bytes, owned_bytes}
use Rattle.typed_path_c.specs.Answers.{IsHeld}
use Rattle.typed_path_c.proofs.Held.{resolved-held}
use Rattle.typed_path_c.proofs.made.typed_path_resolve_checked.Goals as goal

pub returns-in-Some-clause-contained : goal.returns-in-Some-clause-contained
returns-in-Some-clause-contained c d named accepted kept =
    let own = typed_dialect c.in-Some.path in
    let out = take c.put_made.new.len c.put_made.new.out in
    let same : own ≡ d = cc (sym c.in-Some.ensures.dialect ∙ named) in
    subst (λ e. keeps_prefix e c.args.path.now ≡ true → IsHeld e c.args.path.now c.args.other.now out) same
    (subst (λ t. keeps_prefix own t ≡ true → IsHeld own t c.args.other.now out) c.in-Some.ensures.bytes
    (resolved-held owned_bytes c.resolve.result own (typed_bytes c.in-Some.path) c.args.other.now out c.resolve.ensures.refused c.resolve.ensures.resolved (c.put_made.ensures.stands accepted)))
    kept
