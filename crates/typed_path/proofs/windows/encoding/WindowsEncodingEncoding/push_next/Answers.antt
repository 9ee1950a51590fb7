use Rattle.std.proofs.Common.{◌≡◌, min, List, length, take, drop, sym, ap, subst, ◌∙◌, arith, ℕ}
use Rattle.std.proofs.lemmas.List.{take_min, drop_min}
use Rattle.typed_path.specs.components.{windows}
use Rattle.typed_path.specs.changes.{FitsPush, IsKnown}
use Rattle.typed_path.proofs.windows.encoding.WindowsEncodingEncoding.push_next.Goals as goal

-- the place is at most the end of the text
module _ (c : goal.After-push_next) where
  abbrev old : List ℕ
  old = c.args.text.now.items

  place : c.min-start.result ≡ min c.args.start (length old)
  place = omega (arith, c.min-start.ensures, c.len.ensures, c.args.text.now.ok)

  front : take c.min-start.result old ≡ take c.args.start old
  front = ap (λ n. take n old) place ∙ take_min c.args.start old

  rest : drop c.min-start.result old ≡ drop c.args.start old
  rest = ap (λ n. drop n old) place ∙ drop_min c.args.start old

  before : IsKnown windows c.args.known (drop c.args.start old) → IsKnown windows c.args.known (drop c.min-start.result old)
  before = subst (IsKnown windows c.args.known) (sym rest)

pub returns-clause-ok : goal.returns-clause-ok
returns-clause-ok c = grind (arith, rest, front, before)

pub returns-clause-known : goal.returns-clause-known
returns-clause-known c = grind arith

pub returns-clause-succeeds : goal.returns-clause-succeeds
returns-clause-succeeds c = λ room within known fits.
    c.push_next.ensures.succeeds room (omega (arith, place c, within)) (before c known) (subst (λ t. FitsPush windows room t c.args.other.now) (sym (rest c)) fits)
