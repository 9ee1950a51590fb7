use Rattle.std.proofs.Common.{Ordering}
use Rattle.std.proofs.lemmas.Option.{IfSome_then}
use Rattle.typed_path.proofs.lemmas.order.SharedNames.{AreInOrder, Parted, names-parted, parted-cmp, parted-begins, itself-order}
use Rattle.typed_path.proofs.scan.cut.order_behind.Goals as goal

pub returns-then-shared-other-clause-order : goal.returns-then-shared-other-clause-order
returns-then-shared-other-clause-order c = itself-order c.args.separators c.args.text.now c.args.other.now c.args.shared c.requires c.if-shared-text.true c.if-shared-other.true

-- the two texts, parted at their names
parted : (c : goal.After-order_of_ends) (o : Ordering) → AreInOrder c.args.separators c.args.text.now c.args.other.now c.args.shared o → Parted c.args.separators c.args.text.now c.args.other.now o
parted c o is =
    let named = c.part_within_names.ensures c.if-not-part_within_names.false in
    names-parted c.args.separators c.args.text.now c.args.other.now c.args.shared named.0 named.1 o named.2 named.3 is

pub returns-clause-order : goal.returns-clause-order
returns-clause-order c = IfSome_then c.order_of_ends.result c.order_of_ends.ensures (λ o h. parted-cmp c.args.separators c.args.text.now c.args.other.now o (parted c o h.1) h.0)

pub returns-clause-apart : goal.returns-clause-apart
returns-clause-apart c = IfSome_then c.order_of_ends.result c.order_of_ends.ensures (λ o h differ. parted-begins c.args.separators c.args.text.now c.args.other.now o (parted c o h.1) h.0)
