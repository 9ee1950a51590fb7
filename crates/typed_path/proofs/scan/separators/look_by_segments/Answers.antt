use Rattle.std.proofs.Common.{◌||◌, sym, ap₂, ◌∙◌}
use Rattle.std.proofs.lemmas.Bool.{both_ways}
use Rattle.typed_path.proofs.lemmas.changes.ValidPaths.{unpaired-dots}
use Rattle.typed_path.proofs.scan.separators.look_by_segments.Goals as goal
use Rattle.typed_path.proofs.scan.separators.look_by_segments.Goals.{else-dots-via-then-dots+else-not-has_no_nul_or_dot_pair, else-dots-via-else-dots}

pub returns-then-has_stray_of-clause-whole : goal.returns-then-has_stray_of-clause-whole
returns-then-has_stray_of-clause-whole c = λ asked same. elim c.else-dots.branch [
  | else-dots-via-then-dots+else-not-has_no_nul_or_dot_pair w ↦ unpaired-dots c.args.text.now (sym w.has_no_nul_or_dot_pair.ensures ∙ w.if-not-has_no_nul_or_dot_pair.false)
  | else-dots-via-else-dots w ↦ absurd (both_ways _ w.if-dots.false asked)
]

pub returns-clause-clean : goal.returns-clause-clean
returns-clause-clean c = λ is. (
  sym c.has_stray_of.ensures ∙ c.if-has_stray_of.false,
  ap₂ (λ a b. a || b) (sym c.begins_with_device.ensures ∙ c.if-begins_with_device.false) (sym c.has_device_behind.ensures ∙ c.if-has_device_behind.false),
  λ asked. elim c.else-dots.branch [
    | else-dots-via-then-dots+else-not-has_no_nul_or_dot_pair w ↦ unpaired-dots c.args.text.now (sym w.has_no_nul_or_dot_pair.ensures ∙ w.if-not-has_no_nul_or_dot_pair.false)
    | else-dots-via-else-dots w ↦ absurd (both_ways _ w.if-dots.false asked)
  ],
)
