use Rattle.std.proofs.Common.{◌≡◌, min, length, take, drop, slice_range, sym, ap, subst, ◌∙◌, arith}
use Rattle.std.proofs.lemmas.List.{take_min, drop_min}
use Rattle.typed_path.specs.components.{windows}
use Rattle.typed_path.specs.changes.{FitsPush}
use Rattle.typed_path.proofs.windows.encoding.WindowsEncodingEncoding.push_behind.Goals as goal
use Rattle.typed_path.proofs.lemmas.lists.Lists.{whole_range}

-- the place is at most the end of the text
module _ (c : goal.After-push_at) where
  place : c.min-start.result ≡ min c.args.start (length c.args.text.now.items)
  place = omega (arith, c.min-start.ensures, c.len.ensures, c.args.text.now.ok)

  front : take c.min-start.result c.args.text.now.items ≡ take c.args.start c.args.text.now.items
  front = ap (λ n. take n c.args.text.now.items) place ∙ take_min c.args.start c.args.text.now.items

  rest : slice_range c.args.text.now.items c.min-start.result c.len-len.result ≡ drop c.args.start c.args.text.now.items
  rest = grind (arith, whole_range, place, drop_min)

pub returns-clause-ok : goal.returns-clause-ok
returns-clause-ok c = grind (arith, rest, front)

pub returns-clause-succeeds : goal.returns-clause-succeeds
returns-clause-succeeds c = λ room within fits.
    c.push_at.ensures.succeeds room (omega (arith, place c, within)) tt (subst (λ t. FitsPush windows room t c.args.other.now) (sym (rest c)) fits)
