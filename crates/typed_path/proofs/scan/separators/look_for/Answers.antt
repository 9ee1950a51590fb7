use Rattle.std.proofs.Common.{◌≡◌, ◌≤◌, true, false, ◌||◌, Bool, List, ℕ, ap, ◌∙◌, ◌+◌, ◌-◌, ◌/◌, ◌^◌, bit_and, length, subst, arith, refl}
use Rattle.std.specs.Slice.Scan.{HoldsNowhere}
use Rattle.std.proofs.lemmas.Bool.{both_ways, cases_lt}
use Rattle.std.proofs.Math.Bool.{or-false}
use Rattle.typed_path.specs.changes.{TellsBegins, has_dot_pair, dot_pair_at}
use Rattle.typed_path.proofs.lemmas.changes.MayBegins.{block-front, tells-later}
use Rattle.typed_path.proofs.lemmas.changes.ValidPaths.{behind-end, nowhere-dots, nowhere-strays}
use Rattle.typed_path.proofs.scan.separators.look_for.Goals as goal
use Rattle.typed_path.proofs.scan.separators.look_for.Goals.{else-dots-via-then-dots+else-has_dot_pair_at, else-dots-via-else-dots, else-dots-2-via-then-dots-2+else-has_dot_pair_at-2, else-dots-2-via-else-dots-2}

pub wholes-init : goal.wholes-init
wholes-init c = grind arith

pub overflow_sub-len : goal.overflow_sub-len
overflow_sub-len c = c.wholes.invariant.within

pub has_device_at-requires-clause-marked : goal.has_device_at-requires-clause-marked
has_device_at-requires-clause-marked c =
    let marks = c.may_begins_at-marks.ensures in
    let size : 27 ≡ c.wholes.at + 27 - c.wholes.at = omega arith in
    subst (λ n. TellsBegins c.args.text.now c.wholes.at n (bit_and c.may_begins_at-marks.result 134217727)) size (block-front c.args.text.now c.wholes.at c.may_begins_at-marks.result marks.separates marks.passed)

-- a device that is found in a range is one of the whole
found : (told rest whole behind : Bool) → whole ≡ behind → behind ≡ (told || rest) → told ≡ true → whole ≡ true
found told rest whole behind same own is = same ∙ own ∙ ap (λ b. b || rest) is

pub returns-then-has_device_at-clause-offence : goal.returns-then-has_device_at-clause-offence
returns-then-has_device_at-clause-offence c = grind arith

pub wholes-smaller : goal.wholes-smaller
wholes-smaller c = omega (arith, c.wholes-test.true)

pub wholes-preserved : goal.wholes-preserved
wholes-preserved c = grind arith

-- no two dots stand side by side in the whole, where these are asked for
unpaired : (text : List ℕ) (at : ℕ) → at ≤ length text → 32 ≤ length text → length text - at ≤ 32 → HoldsNowhere (dot_pair_at text) 0 at → HoldsNowhere (dot_pair_at text) (length text - 32) (length text - 32 + 31) → has_dot_pair text ≡ false
unpaired text at within long last before behind = grind (arith, nowhere-dots, cases_lt)

pub returns-then-has_stray_at-2-clause-whole : goal.returns-then-has_stray_at-2-clause-whole
returns-then-has_stray_at-2-clause-whole c = λ asked same. elim c.else-dots-2.branch [
  | else-dots-2-via-then-dots-2+else-has_dot_pair_at-2 w ↦
      unpaired c.args.text.now c.wholes.at c.wholes.invariant.within (omega (arith, c.if-len-lt-ONE_BLOCK.false)) (omega (arith, c.wholes-test.false)) (c.wholes.invariant.unpaired asked) (w.has_dot_pair_at-then-dots-2.ensures w.if-has_dot_pair_at-2.false)
  | else-dots-2-via-else-dots-2 w ↦ absurd (both_ways _ w.if-dots-2.false asked)
]

pub overflow_sub-outside : goal.overflow_sub-outside
overflow_sub-outside c = c.wholes.invariant.within

pub has_device_at-requires-2-clause-ordered : goal.has_device_at-requires-2-clause-ordered
has_device_at-requires-2-clause-ordered c = c.wholes.invariant.within

pub has_device_at-requires-2-clause-marked : goal.has_device_at-requires-2-clause-marked
has_device_at-requires-2-clause-marked c =
    let text = c.args.text.now in
    let marks = c.may_begins_at-marks-2.ensures in
    let left = length text - c.wholes.at in
    let within = c.wholes.invariant.within in
    let outside : length text - 32 + (32 - left) ≡ c.wholes.at = omega (arith, within, c.wholes-test.false, c.if-len-lt-ONE_BLOCK.false) in
    let whole : 32 ≡ 32 - left + left = omega (arith, c.wholes-test.false) in
    let last = marks.last (omega (arith, c.if-len-lt-ONE_BLOCK.false)) refl in
    subst (λ at. TellsBegins text at left (c.may_begins_at-marks-2.result / 2 ^ (32 - left))) outside
    (tells-later text (length text - 32) left (32 - left) c.may_begins_at-marks-2.result
    (subst (λ n. TellsBegins text (length text - 32) n c.may_begins_at-marks-2.result) whole (record { separates = marks.separates; none = last })))

pub returns-then-has_device_at-2-clause-offence : goal.returns-then-has_device_at-2-clause-offence
returns-then-has_device_at-2-clause-offence c = grind arith

pub returns-then-has_device_at-2-clause-whole : goal.returns-then-has_device_at-2-clause-whole
returns-then-has_device_at-2-clause-whole c = grind (arith, else-dots-2-via-then-dots-2+else-has_dot_pair_at-2, unpaired, else-dots-2-via-else-dots-2, both_ways, c.wholes.invariant.within, c.if-len-lt-ONE_BLOCK.false, c.wholes-test.false, c.wholes.invariant.unpaired) steps 1000000

pub returns-clause-clean : goal.returns-clause-clean
returns-clause-clean c = grind (arith, nowhere-strays, cases_lt, behind-end, or-false, else-dots-2-via-then-dots-2+else-has_dot_pair_at-2, unpaired, else-dots-2-via-else-dots-2, both_ways, c.wholes.invariant.passed, c.if-has_stray_at-2.ensures, c.wholes-test.false, c.if-len-lt-ONE_BLOCK.false, c.wholes.invariant.same, c.has_device_at-2.ensures, c.if-has_device_at-2.false, c.wholes.invariant.within, c.wholes.invariant.unpaired) steps 1000000
