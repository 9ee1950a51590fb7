use Rattle.std.proofs.Common.{◌≡◌, ◌==◌, ℕ, List, length, sym, arith}
use Rattle.std.proofs.Math.Bool.{or_self}
use Rattle.std.specs.List.{position_or_len}
use Rattle.std.proofs.lemmas.List.{take_rest}
use Rattle.typed_path.specs.scan.{IsFirstOf}
use Rattle.typed_path.proofs.lemmas.scan.Searches.{first-of}
use Rattle.typed_path.proofs.lemmas.lists.Lists.{split-none_passes, split-at_first, open-at_first}
use Rattle.typed_path.proofs.scan.cut.cut_at.Goals as goal

first : (byte : ℕ) (text : List ℕ) (at : ℕ) → IsFirstOf (byte, byte) text 0 (length text) at → at ≡ position_or_len (λ b. b == byte) text
first byte = first-of _ (λ b. b == byte) (λ b. sym (or_self (b == byte)))

pub returns-then-at-text-clause-pieces : goal.returns-then-at-text-clause-pieces
returns-then-at-text-clause-pieces c = grind (arith, take_rest, split-at_first, first)

pub returns-then-at-text-clause-open : goal.returns-then-at-text-clause-open
returns-then-at-text-clause-open c = open-at_first (λ b. b == c.args.byte) c.args.text.now c.first_between-at.result (first c.args.byte c.args.text.now _ c.first_between-at.ensures) c.if-at-text.true

pub returns-clause-pieces : goal.returns-clause-pieces
returns-clause-pieces c = split-none_passes (λ b. b == c.args.byte) c.args.text.now (omega (arith, first c.args.byte c.args.text.now _ c.first_between-at.ensures, c.if-at-text.false))
