use Rattle.typed_path.proofs.lemmas.queries.PortablePaths.{portable_kinds_on_unix, portable_on_unix, portable_reads_alike_on_unix, portable_accepted_on_unix}
use Rattle.typed_path.proofs.laws.portable.portable_reads_alike_on_unix.Goals as goal

pub returns-clause-kinds : goal.returns-clause-kinds
returns-clause-kinds c h lacks = portable_kinds_on_unix c.args.path.now h lacks

pub returns-clause-portable : goal.returns-clause-portable
returns-clause-portable c h lacks = portable_on_unix c.args.path.now h lacks

pub returns-clause-alike : goal.returns-clause-alike
returns-clause-alike c h lacks rootless = portable_reads_alike_on_unix c.args.path.now h lacks rootless

pub returns-clause-accepted : goal.returns-clause-accepted
returns-clause-accepted c h lacks rootless low e = portable_accepted_on_unix c.args.path.now h lacks rootless low e
