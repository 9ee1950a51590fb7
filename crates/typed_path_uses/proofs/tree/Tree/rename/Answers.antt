use Rattle.std.proofs.Common.{◌∙◌, Some, None}
use Rattle.typed_path.specs.views.PathViews.{path_bytes}
use Rattle.typed_path.proofs.lemmas.order.Maps.{inserted, removed}
use Rattle.typed_path_uses.proofs.Apart.{keys_apart, keys_one}
use Rattle.typed_path_uses.proofs.Filed.{puts, found-some}
use Rattle.typed_path_uses.proofs.Moves.{moved, stays}
use Rattle.typed_path_uses.proofs.tree.Tree.rename.Goals as goal
use Rattle.typed_path_uses.proofs.tree.Tree.rename.Goals.{then-ne+in_ok-bytes+in_ok-insert+in-Some-1, then-ne+in_ok-bytes+in_ok-insert+in-None-1, else-ne}

pub returns-clause-moved : goal.returns-clause-moved
returns-clause-moved g c =
    let from = path_bytes c.args.from in
    let to = path_bytes c.args.to in
    let was = found-some g.T.Encoding.dialect from c.in_ok-key.key c.in_ok-key.ensures c.args.self.now.files c.in-Some.bytes.now c.in-Some.ensures.value in
    let apart = keys_apart _ _ _ _ c.in_ok-key.ensures c.in_ok-other.ensures c.ne.result c.ne.ensures in
    λ _. elim c.if-ne.branch [
      | then-ne+in_ok-bytes+in_ok-insert+in-Some-1 w ↦ rw w.self-is (moved g.T.Encoding.dialect from to c.args.self.now.files w.in_ok-bytes.bytes.items w.insert.new.self w.remove.new.self (apart w.if-ne.true) (was ∙ cc (w.in_ok-bytes.ensures.items, w.as_slice.ensures.value)) (puts g.T.Encoding.dialect to c.in_ok-other.other c.in_ok-other.ensures (Some w.in_ok-bytes.bytes) c.args.self.now.files w.insert.new.self (inserted g.T.Encoding.dialect c.in_ok-other.other c.args.self.now.files w.insert.new.self w.in_ok-bytes.bytes w.in_ok-insert.ensures.updates.1 w.in_ok-insert.ensures.entries)) (puts g.T.Encoding.dialect from c.in_ok-key.key c.in_ok-key.ensures None w.insert.new.self w.remove.new.self (removed g.T.Encoding.dialect c.in_ok-key.key w.insert.new.self w.remove.new.self w.remove.ensures.updates.1 w.remove.ensures.entries)))
      | then-ne+in_ok-bytes+in_ok-insert+in-None-1 w ↦ rw w.self-is (moved g.T.Encoding.dialect from to c.args.self.now.files w.in_ok-bytes.bytes.items w.insert.new.self w.remove.new.self (apart w.if-ne.true) (was ∙ cc (w.in_ok-bytes.ensures.items, w.as_slice.ensures.value)) (puts g.T.Encoding.dialect to c.in_ok-other.other c.in_ok-other.ensures (Some w.in_ok-bytes.bytes) c.args.self.now.files w.insert.new.self (inserted g.T.Encoding.dialect c.in_ok-other.other c.args.self.now.files w.insert.new.self w.in_ok-bytes.bytes w.in_ok-insert.ensures.updates.1 w.in_ok-insert.ensures.entries)) (puts g.T.Encoding.dialect from c.in_ok-key.key c.in_ok-key.ensures None w.insert.new.self w.remove.new.self (removed g.T.Encoding.dialect c.in_ok-key.key w.insert.new.self w.remove.new.self w.remove.ensures.updates.1 w.remove.ensures.entries)))
      | else-ne w ↦ rw w.self-is (stays g.T.Encoding.dialect from to c.args.self.now.files (keys_one _ _ _ _ c.in_ok-key.ensures c.in_ok-other.ensures c.ne.result c.ne.ensures w.if-ne.false))
    ]
