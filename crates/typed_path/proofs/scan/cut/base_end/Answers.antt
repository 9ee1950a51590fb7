use Rattle.typed_path.proofs.lemmas.order.SharedNames.{shared-begins}
use Rattle.typed_path.proofs.scan.cut.base_end.Goals as goal

pub end_behind-requires-clause-begins : goal.end_behind-requires-clause-begins
end_behind-requires-clause-begins c = (shared-begins c.args.text.now c.args.base.now c.args.shared c.requires c.if-shared-base.false).0

pub end_behind-requires-clause-long : goal.end_behind-requires-clause-long
end_behind-requires-clause-long c = (shared-begins c.args.text.now c.args.base.now c.args.shared c.requires c.if-shared-base.false).1
