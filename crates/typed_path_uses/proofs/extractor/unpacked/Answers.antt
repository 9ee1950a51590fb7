use Rattle.std.proofs.Common.{arith}
use Rattle.typed_path.specs.views.PathViews.{path_bytes}
use Rattle.typed_path_uses.specs.Uses.{joined_entries, faulty}
use Rattle.typed_path_uses.proofs.Entries.{joined-cons, faulty-cons, one-more}
use Rattle.typed_path_uses.proofs.extractor.unpacked.Goals as goal

pub names-preserved : goal.names-preserved
names-preserved g c =
    let d = g.T.Encoding.dialect in
    let base = path_bytes c.args.base in
    let was = c.names.invariant in
    let step = c.in_ok-unpack.ensures in
    record {
      below = λ kept. c.unpack.ensures.below kept (was.below kept);
      targets = one-more (joined_entries d base) (joined-cons d base) _ _ c.args.names.now c.names.name-index _ c.names-test.true step.targets was.targets;
      names = one-more (faulty d) (faulty-cons d) _ _ c.args.names.now c.names.name-index _ c.names-test.true step.names was.names;
      refused = c.unpack.ensures.refused was.refused;
      all = omega (arith, step.all, was.all);
    }
