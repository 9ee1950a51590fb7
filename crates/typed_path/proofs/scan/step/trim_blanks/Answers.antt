use Rattle.std.proofs.Common.{◌≡◌, ℕ, ◌-◌, ◌≤◌, List, length, take, false, arith, take-take, length-take-le}
use Rattle.std.proofs.lemmas.Bool.{not-true}
use Rattle.typed_path.specs.declared.scan.separators.Separators.{Separators}
use Rattle.typed_path.specs.scan.{is_trimmed}
use Rattle.typed_path.proofs.lemmas.scan.LastComponent.{IsTrimOf, trim_once}
use Rattle.typed_path.proofs.scan.step.trim_blanks.Goals as goal

-- one byte less of what is left
one_less : (s : Separators) (text : List ℕ) (end : ℕ) → end ≤ length text → is_trimmed s (take end text) ≡ false → IsTrimOf s (take (end - 1) text) (take end text)
one_less s text end fits h = grind (arith, length-take-le, take-take, trim_once)

pub blanks-preserved : goal.blanks-preserved
blanks-preserved c = grind (arith, one_less, not-true, length-take-le, c.blanks.invariant.within, c.ends_blank.ensures, c.blanks-test.true, c.blanks.invariant)
