use Rattle.std.proofs.Common.{Some}
use Rattle.typed_path.specs.views.PathViews.{path_bytes}
use Rattle.typed_path.proofs.lemmas.order.Maps.{inserted}
use Rattle.typed_path_uses.proofs.Filed.{puts}
use Rattle.typed_path_uses.proofs.tree.Tree.write.Goals as goal

pub returns-clause-written : goal.returns-clause-written
returns-clause-written g c =
    let d = g.T.Encoding.dialect in
    let key = c.in_ok-key in
    let put = c.in_ok-insert.ensures in
    let file = c.in_ok-from_slice.field-0 in
    rw c.in_ok-from_slice.ensures.items at (puts d (path_bytes c.args.path) key.key key.ensures (Some file) c.args.self.now.files c.insert.new.self (inserted d key.key c.args.self.now.files c.insert.new.self file put.updates.1 put.entries))
