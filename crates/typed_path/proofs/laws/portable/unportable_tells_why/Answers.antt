use Rattle.typed_path.specs.components.{parts_of}
use Rattle.typed_path.proofs.lemmas.queries.Portable.{offender-fault}
use Rattle.typed_path.proofs.laws.portable.unportable_tells_why.Goals as goal

pub returns : goal.returns
returns g c = offender-fault (parts_of g.d c.args.path.now)
