use Rattle.std.proofs.Common.{None}
use Rattle.typed_path.specs.views.PathViews.{path_bytes}
use Rattle.typed_path.proofs.lemmas.order.Maps.{removed}
use Rattle.typed_path_uses.proofs.Filed.{puts}
use Rattle.typed_path_uses.proofs.tree.Tree.remove.Goals as goal

pub returns-clause-removed : goal.returns-clause-removed
returns-clause-removed g c =
    let d = g.T.Encoding.dialect in
    let key = c.in_ok-key in
    puts d (path_bytes c.args.path) key.key key.ensures None c.args.self.now.files c.remove.new.self (removed d key.key c.args.self.now.files c.remove.new.self c.remove.ensures.updates.1 c.remove.ensures.entries)
