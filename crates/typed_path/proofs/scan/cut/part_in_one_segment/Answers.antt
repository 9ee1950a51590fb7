use Rattle.std.proofs.Common.{inl}
use Rattle.typed_path.proofs.lemmas.order.SharedNames.{tells-parted}
use Rattle.typed_path.proofs.scan.cut.part_in_one_segment.Goals as goal

pub returns-then-ends_with_name : goal.returns-then-ends_with_name
returns-then-ends_with_name c = λ told.
    let last = c.ends_with_name.ensures c.if-ends_with_name.true in
    inl (tells-parted c.args.separators c.args.text.now c.args.other.now c.args.shared c.requires.shared last.0 last.1 last.2 last.3)
