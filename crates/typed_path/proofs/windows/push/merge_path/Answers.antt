use Rattle.std.proofs.Common.{sym, ap, subst, arith}
use Rattle.typed_path.specs.components.{parts}
use Rattle.typed_path.specs.changes.{AreMergeable}
use Rattle.typed_path.proofs.lemmas.changes.MergedInPlace.{text-mergeable, room-text}
use Rattle.typed_path.proofs.windows.push.merge_path.Goals as goal

pub merge_each-requires-clause-mergeable : goal.merge_each-requires-clause-mergeable
merge_each-requires-clause-mergeable c = subst AreMergeable (sym (ap parts c.of_windows.ensures.items)) (text-mergeable c.args.other.now c.requires.no_prefix)

pub returns-in_default-clause-succeeds : goal.returns-in_default-clause-succeeds
returns-in_default-clause-succeeds c = grind (arith, room-text)
