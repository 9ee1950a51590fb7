use Rattle.std.proofs.Common.{◌≡◌, Err, ap}
use Rattle.typed_path.specs.declared.errors.AbsolutizeError.TheVariants.{Ambiguous}
use Rattle.typed_path.proofs.typed.utf8.path.Utf8TypedPath.absolutize_from.Goals as goal

pub returns-in-Ok-absolutize_from-clause-absolute : goal.returns-in-Ok-absolutize_from-clause-absolute
returns-in-Ok-absolutize_from-clause-absolute c = (rw c.in-Windows-self.is (rw c.in-Unix.is c.in-Ok-absolutize_from.ensures.0), λ e. cc e)

pub returns-in-Err-absolutize_from-clause-absolute : goal.returns-in-Err-absolutize_from-clause-absolute
returns-in-Err-absolutize_from-clause-absolute c =
    (tt, λ e. let same : c.in-Err-absolutize_from.error ≡ Ambiguous = cc e in rw c.in-Windows-self.is (rw c.in-Unix.is (c.in-Err-absolutize_from.ensures.1 (ap Err same))))

pub returns-in-Ok-absolutize_from-2-clause-absolute : goal.returns-in-Ok-absolutize_from-2-clause-absolute
returns-in-Ok-absolutize_from-2-clause-absolute c = (rw c.in-Unix-self-2.is (rw c.in-Windows.is c.in-Ok-absolutize_from-2.ensures.0), λ e. cc e)

pub returns-in-Err-absolutize_from-2-clause-absolute : goal.returns-in-Err-absolutize_from-2-clause-absolute
returns-in-Err-absolutize_from-2-clause-absolute c =
    (tt, λ e. let same : c.in-Err-absolutize_from-2.error ≡ Ambiguous = cc e in rw c.in-Unix-self-2.is (rw c.in-Windows.is (c.in-Err-absolutize_from-2.ensures.1 (ap Err same))))

pub returns-in-Ok-absolutize_from-3-clause-absolute : goal.returns-in-Ok-absolutize_from-3-clause-absolute
returns-in-Ok-absolutize_from-3-clause-absolute c = (rw c.in-Windows-self-2.is (rw c.in-Windows.is c.in-Ok-absolutize_from-3.ensures.0), λ e. cc e)

pub returns-in-Err-absolutize_from-3-clause-absolute : goal.returns-in-Err-absolutize_from-3-clause-absolute
returns-in-Err-absolutize_from-3-clause-absolute c =
    (tt, λ e. let same : c.in-Err-absolutize_from-3.error ≡ Ambiguous = cc e in rw c.in-Windows-self-2.is (rw c.in-Windows.is (c.in-Err-absolutize_from-3.ensures.1 (ap Err same))))
