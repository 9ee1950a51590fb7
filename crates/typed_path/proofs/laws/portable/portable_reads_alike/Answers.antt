use Rattle.std.proofs.Common.{ap, ◌∙◌}
use Rattle.typed_path.specs.components.{kinds}
use Rattle.typed_path.specs.queries.{kinds_fault}
use Rattle.typed_path.proofs.lemmas.queries.PortablePaths.{portable_lacks, portable_reads_alike, portable_accepted}
use Rattle.typed_path.proofs.laws.portable.portable_reads_alike.Goals as goal

pub returns-clause-lacks : goal.returns-clause-lacks
returns-clause-lacks c h = portable_lacks c.args.path.now h

pub returns-clause-alike : goal.returns-clause-alike
returns-clause-alike c h rootless = portable_reads_alike c.args.path.now h rootless

pub returns-clause-portable : goal.returns-clause-portable
returns-clause-portable c h rootless = ap (λ ps. kinds_fault (kinds ps)) (portable_reads_alike c.args.path.now h rootless) ∙ h

pub returns-clause-accepted : goal.returns-clause-accepted
returns-clause-accepted c h rootless low e = portable_accepted c.args.path.now h rootless low e
