use Rattle.std.proofs.Common.{◌≡◌, ◌≤◌, ◌++◌, List, ℕ, true≢false, false, length, take, drop, slice_range, sym, ap, subst, ◌∙◌}
use Rattle.typed_path.specs.components.{windows, parts_of, kinds}
use Rattle.typed_path.specs.queries.{has_any_verbatim_prefix}
use Rattle.typed_path.proofs.lemmas.changes.WindowsPushes.{push-put_behind, fits-plain}
use Rattle.typed_path.proofs.windows.push.push_next.Goals as goal
use Rattle.typed_path.proofs.lemmas.lists.Lists.{whole_range}

-- what is told of the end of a text that is another's
unmarked : (old items : List ℕ) (start : ℕ) → items ≡ old → has_any_verbatim_prefix (kinds (parts_of windows (slice_range items start (length items)))) ≡ false
    → has_any_verbatim_prefix (kinds (parts_of windows (drop start old))) ≡ false
unmarked old items start same none = ap (λ t. has_any_verbatim_prefix (kinds (parts_of windows t))) (sym (whole_range old items start same)) ∙ none

pub returns-in_err-put_behind-clause-succeeds : goal.returns-in_err-put_behind-clause-succeeds
returns-in_err-put_behind-clause-succeeds c = λ room within known fits.
    let old = c.args.text.now.items in
    let other = c.args.other.now in
    let base = drop c.args.start old in
    let none = unmarked old c.deref.result.now c.args.start c.deref.ensures.value (c.stays_unmarked.ensures c.if-stays_unmarked.true) in
    let pushed = push-put_behind base other (c.is_plain.ensures c.if-is_plain.true) none in
    absurd (true≢false (sym {a = false} (c.in_err-put_behind.ensures.succeeds room within (subst (λ t. length t ≤ room) pushed (fits-plain room base other none fits)))))

pub returns-then-stays_unmarked-clause-ok : goal.returns-then-stays_unmarked-clause-ok
returns-then-stays_unmarked-clause-ok c = λ known.
    let old = c.args.text.now.items in
    let base = drop c.args.start old in
    let none = unmarked old c.deref.result.now c.args.start c.deref.ensures.value (c.stays_unmarked.ensures c.if-stays_unmarked.true) in
    c.in_ok-put_behind.ensures.ok ∙ ap (λ u. take c.args.start old ++ u) (sym (push-put_behind base c.args.other.now (c.is_plain.ensures c.if-is_plain.true) none))
