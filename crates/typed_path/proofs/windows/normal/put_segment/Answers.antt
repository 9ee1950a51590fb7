use Rattle.std.proofs.Common.{◌≡◌, List, [], ◌∷◌, ℕ, ◌++◌, ◌⊎◌, Option, None, is_some, false, refl, ap, sym, ◌∙◌, arith}
use Rattle.typed_path.specs.declared.scan.separators.Separators.TheVariants.{Either}
use Rattle.typed_path.specs.declared.scan.step.StepKind.{StepKind}
use Rattle.typed_path.specs.declared.scan.step.StepKind.TheVariants.{RootDir, CurDir}
use Rattle.typed_path.specs.components.{backslash}
use Rattle.typed_path.specs.views.PieceViews.{step_part, step_view}
use Rattle.typed_path.specs.places.{rows_of}
use Rattle.typed_path.proofs.lemmas.places.UnixRows.{settled_by, by_kind, rows-more}
use Rattle.typed_path.proofs.windows.normal.put_segment.Goals as goal

pub returns-in-ParentDir-clause-ok : goal.returns-in-ParentDir-clause-ok
returns-in-ParentDir-clause-ok c = λ _ head names size are.
    let kind = settled_by Either names c.args.segment.now (step_part c.step_of.result) (c.step_of.ensures 0) ∙ ap (λ k. by_kind names c.args.segment.now (step_view k c.step_of.result.text.now)) c.in-ParentDir.is in
    c.drop_name.ensures.dropped head names size are ∙ ap (λ ns. head ++ rows_of Either ns) (sym kind)

pub returns-in_ok-push-in-Normal-clause-ok : goal.returns-in_ok-push-in-Normal-clause-ok
returns-in_ok-push-in-Normal-clause-ok c = λ _ head names size are.
    let kind = settled_by Either names c.args.segment.now (step_part c.step_of.result) (c.step_of.ensures 0) ∙ ap (λ k. by_kind names c.args.segment.now (step_view k c.step_of.result.text.now)) c.in-Normal.is in
    c.in_ok-push-in-Normal.ensures.items
    ∙ ap (λ bs. bs ++ backslash ∷ []) ((c.in_ok-append_first-in-Normal.ensures.ok ∙ ap (λ bs. c.args.text.now.items ++ bs) c.requires.front) ∙ ap (λ bs. bs ++ c.args.segment.now) are.is)
    ∙ sym (rows-more Either head names c.args.segment.now)
    ∙ ap (λ ns. head ++ rows_of Either ns) (sym kind)

-- every other component leaves the names as they are
other : (k : StepKind) (text segment : List ℕ) (names : List (List ℕ)) → (k ≡ RootDir) ⊎ (k ≡ CurDir) → by_kind names segment (step_view k text) ≡ names
other k text segment names h = grind arith

is_none : (o : Option ℕ) → is_some o ≡ false → o ≡ None
is_none o h = grind arith

pub returns-in-RootDir : goal.returns-in-RootDir
returns-in-RootDir c = record {
  ok = λ _ head names size are.
      let kind = settled_by Either names c.args.segment.now (step_part c.step_of.result) (c.step_of.ensures 0)
      ∙ other c.step_of.result.kind c.step_of.result.text.now c.args.segment.now names c.in-RootDir.is in
      are.is ∙ ap (λ ns. head ++ rows_of Either ns) (sym kind);
  plain = λ _. sym c.drive.ensures ∙ is_none c.drive.result (sym c.if-is_some.ensures);
  kept = refl;
  told = λ _. refl;
  long = c.requires.within;
  room = omega arith;
  capacity = omega arith;
  succeeds = λ _. refl;
}
