use Rattle.std.proofs.Common.{◌≡◌, ◌++◌, take, slice_range, sym, ap, subst, ◌∙◌, append_assoc}
use Rattle.std.proofs.lemmas.Result.{on_ok_weaker}
use Rattle.typed_path.specs.changes.{push_unix}
use Rattle.typed_path.proofs.lemmas.changes.WindowsPushes.{up_to-end}
use Rattle.typed_path.proofs.unix.encoding.push_at.Goals as goal

pub returns-in-Some-clause-ok : goal.returns-in-Some-clause-ok
returns-in-Some-clause-ok c =
    let text = c.args.text.now.items in
    let start = c.args.start in
    let base = slice_range text start c.args.kept in
    let separator = c.in-Some.separator.now in
    let other = c.args.other.now in
    let behind = subst (λ t. push_unix (slice_range t start c.args.kept) other ≡ slice_range t start c.args.kept ++ separator ++ other) c.deref.ensures.value c.in-Some.ensures.behind in
    on_ok_weaker c.put_over.result
    (λ e. e ∙ ap (λ u. u ++ separator ++ other) (up_to-end text start c.args.kept c.requires.ordered c.requires.within)
    ∙ ap (λ u. u ++ other) (append_assoc (take start text) base separator)
    ∙ append_assoc (take start text) (base ++ separator) other
    ∙ ap (λ u. take start text ++ u) (sym behind))
    c.put_over.ensures.ok
