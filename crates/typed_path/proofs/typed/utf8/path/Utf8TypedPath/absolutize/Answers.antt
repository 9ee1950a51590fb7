use Rattle.std.proofs.Common.{◌≡◌, Err, ap}
use Rattle.typed_path.specs.declared.errors.AbsolutizeError.TheVariants.{Ambiguous}
use Rattle.typed_path.proofs.typed.utf8.path.Utf8TypedPath.absolutize.Goals as goal

pub returns-in-Ok-absolutize-clause-absolute : goal.returns-in-Ok-absolutize-clause-absolute
returns-in-Ok-absolutize-clause-absolute c = (rw c.in-Windows.is c.in-Ok-absolutize.ensures.0, λ e. cc e)

pub returns-in-Err-absolutize-clause-absolute : goal.returns-in-Err-absolutize-clause-absolute
returns-in-Err-absolutize-clause-absolute c =
    (tt, λ e. let same : c.in-Err-absolutize.error ≡ Ambiguous = cc e in rw c.in-Windows.is (c.in-Err-absolutize.ensures.1 (ap Err same)))
