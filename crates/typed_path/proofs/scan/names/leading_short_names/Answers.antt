use Rattle.std.proofs.Common.{◌≡◌, ◌+◌, ℕ, true, refl, sym, ap, ◌∙◌, arith, slice_index}
use Rattle.std.specs.Int.{bit_at}
use Rattle.std.proofs.lemmas.Bool.{and_parts}
use Rattle.std.proofs.lemmas.Nat.Bits.{bit_at-zero}
use Rattle.typed_path.specs.scan.{is_one_of}
use Rattle.typed_path.specs.changes.{begins_no_name_at}
use Rattle.typed_path.proofs.lemmas.changes.NamePieces.{names-before}
use Rattle.typed_path.proofs.scan.names.leading_short_names.Goals as goal

-- a place behind none at all
from_zero : (k : ℕ) → k ≡ 0 + k
from_zero k = omega arith

pub names_behind-requires-clause-passed : goal.names_behind-requires-clause-passed
names_behind-requires-clause-passed c = λ k low high.
    ap (begins_no_name_at c.args.pair c.args.text.now) (from_zero k)
    ∙ c.no_names_among-others.ensures.clear k high (ap (λ m. bit_at m k) c.if-others-eq0.true ∙ bit_at-zero k)

pub returns : goal.returns
returns c =
    let text = c.args.text.now in
    let pair = c.args.pair in
    let run = c.lowest-run.result in
    let others = c.no_names_among-others.ensures in
    let own = others.set run c.lowest-run.ensures.set in
    let is : begins_no_name_at pair text run ≡ true = ap (begins_no_name_at pair text) (from_zero run) ∙ own.1 in
    names-before pair text _ _ run (omega (arith, own.0, c.if-text-lt34.false)) refl refl (sym c.begins_no_name.ensures ∙ c.if-begins_no_name.false)
    (and_parts (is_one_of pair (slice_index text run)) _ is).0
    (λ k low high. ap (begins_no_name_at pair text) (from_zero k) ∙ others.clear k (omega (arith, high, own.0)) (c.lowest-run.ensures.below k high))
