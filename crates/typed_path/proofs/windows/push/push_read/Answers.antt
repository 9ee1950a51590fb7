use Rattle.std.proofs.Common.{◌≡◌, true≢false, length, drop, slice_range, refl, sym, ap, subst, ◌∙◌}
use Rattle.typed_path.specs.components.{windows}
use Rattle.typed_path.specs.changes.{FitsPush, IsKnown}
use Rattle.typed_path.proofs.windows.push.push_read.Goals as goal
use Rattle.typed_path.proofs.lemmas.lists.Lists.{whole_range}

pub returns-in_err-push_at-clause-succeeds : goal.returns-in_err-push_at-clause-succeeds
returns-in_err-push_at-clause-succeeds c = λ room within known fits.
    let old = c.args.text.now.items in
    let size : c.len-len.result ≡ length old = c.len-len.ensures ∙ c.args.text.now.ok.0 in
    let whole : drop c.args.start old ≡ slice_range old c.args.start c.len-len.result = sym (whole_range old old c.args.start refl) ∙ ap (slice_range old c.args.start) (sym size) in
    absurd (true≢false (sym (c.in_err-push_at.ensures.succeeds room within (subst (IsKnown windows c.args.known) whole known) (subst (λ t. FitsPush windows room t c.args.other.now) whole fits))))
