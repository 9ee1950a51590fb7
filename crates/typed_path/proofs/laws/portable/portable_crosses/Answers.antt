use Rattle.typed_path.proofs.lemmas.conversions.PortableCrossings.{portable_is_accepted, portable_is_kept, portable_comes_back, portable_is_kept_on_unix, portable_stays_portable, portable_comes_back_to_windows}
use Rattle.typed_path.proofs.laws.portable.portable_crosses.Goals as goal

pub returns-clause-accepted : goal.returns-clause-accepted
returns-clause-accepted c h = portable_is_accepted c.args.path.now h

pub returns-clause-kept : goal.returns-clause-kept
returns-clause-kept c h u is = portable_is_kept c.args.path.now h u is

pub returns-clause-back : goal.returns-clause-back
returns-clause-back c h u is = portable_comes_back c.args.path.now h u is

pub returns-clause-kept_on_unix : goal.returns-clause-kept_on_unix
returns-clause-kept_on_unix c h = portable_is_kept_on_unix c.args.path.now h

pub returns-clause-portable_on_unix : goal.returns-clause-portable_on_unix
returns-clause-portable_on_unix c h = portable_stays_portable c.args.path.now h

pub returns-clause-back_to_windows : goal.returns-clause-back_to_windows
returns-clause-back_to_windows c h u is = portable_comes_back_to_windows c.args.path.now h u is
