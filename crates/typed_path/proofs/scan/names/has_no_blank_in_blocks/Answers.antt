use Rattle.std.proofs.Common.{◌≡◌, ◌+◌, ◌-◌, ◌&&◌, ℕ, suc, false, length, drop, slice_index, arith, inl, inr, subst, eqb-true}
use Rattle.std.proofs.lemmas.Bool.{cases_lt}
use Rattle.typed_path.specs.components.{is_separator}
use Rattle.typed_path.specs.scan.{begins_blank}
use Rattle.typed_path.proofs.lemmas.scan.Blanks.{nowhere, block-passed, block-last}
use Rattle.typed_path.proofs.scan.names.has_no_blank_in_blocks.Goals as goal

pub wholes-preserved : goal.wholes-preserved
wholes-preserved g c =
    let s = c.args.separators in
    let text = c.args.text.now in
    let P : ℕ → Type 0 = λ j. (is_separator s (slice_index text j) && begins_blank s (drop (suc j) text)) ≡ false in
    record {
      within = omega (arith, c.wholes-test.true, c.requires.lanes.0);
      passed = λ j low. elim (cases_lt j c.wholes.at) [
        | inl before ↦ c.wholes.invariant.passed j before
        | inr behind ↦
            let k = j - c.wholes.at in
            let same : c.wholes.at + k ≡ j = omega (arith, behind) in
            subst P same (block-passed s c.pair.result c.pair.ensures text c.wholes.at g.row.N c.marks_at-marks.result c.marks_at-dots.result (omega (arith, c.wholes-test.true)) c.marks_at-marks.ensures c.marks_at-dots.ensures
            (c.blanks_behind.ensures (omega (arith, c.if-blanks_behind-ne0.false))) k (omega (arith, low, behind)))
      ];
    }

pub returns : goal.returns
returns g c = λ told.
    let s = c.args.separators in
    let text = c.args.text.now in
    let last = length text - g.row.N in
    let P : ℕ → Type 0 = λ j. (is_separator s (slice_index text j) && begins_blank s (drop (suc j) text)) ≡ false in
    nowhere s text (λ j low. elim (cases_lt j last) [
      | inl before ↦ c.wholes.invariant.passed j (omega (arith, before, c.wholes-test.false, c.wholes.invariant.within, c.requires.size))
      | inr behind ↦
          let k = j - last in
          let same : last + k ≡ j = omega (arith, behind) in
          let whole : last + g.row.N ≡ length text = omega (arith, c.requires.size) in
          subst P same (block-last s c.pair-2.result c.pair-2.ensures text last g.row.N c.marks_at-marks-2.result c.marks_at-dots-2.result (omega (arith, whole)) c.marks_at-marks-2.ensures c.marks_at-dots-2.ensures
          whole (omega (arith, c.requires.lanes.1)) (c.blanks_behind-2.ensures (eqb-true _ 0 told)) k (omega (arith, low, behind, c.requires.size)))
    ])
