use Rattle.std.proofs.Common.{◌≡◌, ◌<◌, ◌≤◌, ◌⊎◌, false, ℕ, List, [], ◌∷◌, ◌++◌, length, ap, sym, ◌∙◌, subst, arith}
use Rattle.std.specs.List.{AllByRecursion, slice_split}
use Rattle.std.proofs.lemmas.Bool.{both_ways}
use Rattle.typed_path.specs.declared.scan.step.StepKind.{StepKind}
use Rattle.typed_path.specs.declared.scan.step.StepKind.TheVariants.{RootDir, CurDir}
use Rattle.typed_path.specs.declared.scan.separators.Separators.{Separators}
use Rattle.typed_path.specs.components.{dot, current, parent, normal, is_separator}
use Rattle.typed_path.specs.places.{AreKept, row_end, segment_kind}
use Rattle.typed_path.specs.views.PieceViews.{step_part, step_view}
use Rattle.typed_path.proofs.lemmas.lists.Lists.{IsUnseparated, slice_split-unseparated}
use Rattle.typed_path.proofs.lemmas.places.CleanRows.{kind_by, segment-kind, parent-dots, kept-passed, kept-name, kept-parent, kept-over}
use Rattle.typed_path.proofs.common.rows.put_segment.Goals as goal
use Rattle.typed_path.proofs.common.rows.put_segment.Goals.{then-anchored, else-anchored}

-- a segment that is one piece holds no separator
alone-unseparated : (s : Separators) (segment : List ℕ) → slice_split (is_separator s) segment ≡ segment ∷ [] → IsUnseparated (is_separator s) segment
alone-unseparated s segment alone = let each = subst (AllByRecursion (IsUnseparated (is_separator s))) alone (slice_split-unseparated (is_separator s) segment) in each.0

pub returns-in-ParentDir-2-clause-ok : goal.returns-in-ParentDir-2-clause-ok
returns-in-ParentDir-2-clause-ok c = λ head left whole alone are.
    let s = c.args.separators in
    let segment = c.args.segment.now in
    let text = c.args.text.now.items in
    let kind : segment_kind segment ≡ parent = segment-kind s segment (step_part c.step_of.result) (c.step_of.ensures 0) ∙ ap (λ k. kind_by segment (step_view k c.step_of.result.text.now)) c.in-ParentDir-2.is in
    let two : segment ≡ dot ∷ dot ∷ [] = parent-dots segment kind in
    let why : (c.args.anchored ≡ false) × (length text ≤ c.args.floor) = elim c.if-anchored.branch [
      | then-anchored w ↦ absurd (both_ways _ (sym w.value-is ∙ c.if-floor-len.false) w.if-anchored.true)
      | else-anchored w ↦ (w.if-anchored.false, grind (arith, w.value-is, c.if-floor-len.false, w.len.ensures))
    ] in
    kept-over s c.args.anchored head text c.args.floor whole _ _ left why.0 why.1
    (c.in_ok-put_row-in-ParentDir-2.ensures.ok ∙ ap (λ t. (text ++ t) ++ row_end s ∷ []) (c.requires.front ∙ two)) (omega (arith, c.len-in-ParentDir-2.ensures))
    (subst (λ k. AreKept s c.args.anchored head text c.args.floor (k ∷ left) whole) kind are)

pub returns-in-ParentDir-clause-ok : goal.returns-in-ParentDir-clause-ok
returns-in-ParentDir-clause-ok c = λ head left whole alone are.
    let s = c.args.separators in
    let segment = c.args.segment.now in
    let text = c.args.text.now.items in
    let kind : segment_kind segment ≡ parent = segment-kind s segment (step_part c.step_of.result) (c.step_of.ensures 0) ∙ ap (λ k. kind_by segment (step_view k c.step_of.result.text.now)) c.in-ParentDir.is in
    let filled : c.args.anchored ≡ false → c.args.floor < length text = λ loose. elim c.if-anchored.branch [
      | then-anchored w ↦ absurd (both_ways _ loose w.if-anchored.true)
      | else-anchored w ↦ grind (arith, w.value-is, c.if-floor-len.true, w.len.ensures)
    ] in
    kept-parent s c.args.anchored head text c.args.floor whole _ left c.drop_name.ensures.dropped filled
    (subst (λ k. AreKept s c.args.anchored head text c.args.floor (k ∷ left) whole) kind are)

pub returns-in_ok-put_row-in-Normal-clause-ok : goal.returns-in_ok-put_row-in-Normal-clause-ok
returns-in_ok-put_row-in-Normal-clause-ok c = λ head left whole alone are.
    let s = c.args.separators in
    let segment = c.args.segment.now in
    let text = c.args.text.now.items in
    let kind : segment_kind segment ≡ normal segment = segment-kind s segment (step_part c.step_of.result) (c.step_of.ensures 0) ∙ ap (λ k. kind_by segment (step_view k c.step_of.result.text.now)) c.in-Normal.is in
    kept-name s c.args.anchored head text c.args.floor whole _ segment left
    (c.in_ok-put_row-in-Normal.ensures.ok ∙ ap (λ t. (text ++ t) ++ row_end s ∷ []) c.requires.front) (alone-unseparated s segment alone)
    (subst (λ k. AreKept s c.args.anchored head text c.args.floor (k ∷ left) whole) kind are)

-- every other component counts for nothing
other : (k : StepKind) (text segment : List ℕ) → (k ≡ RootDir) ⊎ (k ≡ CurDir) → kind_by segment (step_view k text) ≡ current
other k text segment h = grind arith

pub returns-in-RootDir-clause-ok : goal.returns-in-RootDir-clause-ok
returns-in-RootDir-clause-ok c = λ head left whole alone are.
    let s = c.args.separators in
    let segment = c.args.segment.now in
    let text = c.args.text.now.items in
    let kind : segment_kind segment ≡ current = segment-kind s segment (step_part c.step_of.result) (c.step_of.ensures 0) ∙ other c.step_of.result.kind c.step_of.result.text.now segment c.in-RootDir.is in
    kept-passed s c.args.anchored head text c.args.floor whole left (subst (λ k. AreKept s c.args.anchored head text c.args.floor (k ∷ left) whole) kind are)
