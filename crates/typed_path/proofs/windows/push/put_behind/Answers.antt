use Rattle.std.proofs.Common.{◌≡◌, ◌++◌, List, ℕ, length, drop, subst, ◌∙◌, length-append, length-drop, arith}
use Rattle.std.proofs.lemmas.Result.{on_ok_weaker}
use Rattle.typed_path.specs.changes.{ended_windows}
use Rattle.typed_path.proofs.lemmas.conversions.Crossings.{put-ended}
use Rattle.typed_path.proofs.windows.push.put_behind.Goals as goal
use Rattle.typed_path.proofs.lemmas.lists.Lists.{whole_range}

module _ (c : goal.After-put_over) where
  abbrev old : List ℕ
  old = c.args.text.now.items

  abbrev separator : List ℕ
  separator = c.separator_behind-separator.result.now

  size : c.len-len.result ≡ length old
  size = c.len-len.ensures ∙ c.args.text.now.ok.0

  ended : ended_windows (drop c.args.start old) ≡ drop c.args.start old ++ separator
  ended = subst (λ t. ended_windows t ≡ t ++ separator) (whole_range old c.deref.result.now c.args.start c.deref.ensures.value) c.separator_behind-separator.ensures.text

pub returns-clause-ok : goal.returns-clause-ok
returns-clause-ok c = grind (arith, on_ok_weaker, put-ended, size, ended)

pub returns-clause-succeeds : goal.returns-clause-succeeds
returns-clause-succeeds c = grind (arith, ended, length-append, length-drop, size)
