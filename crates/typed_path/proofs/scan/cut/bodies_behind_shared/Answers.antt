use Rattle.std.proofs.Common.{refl, ap₂, ◌∙◌}
use Rattle.typed_path.specs.order.{kinds_cmp}
use Rattle.typed_path.proofs.lemmas.order.SharedNames.{whole-body}
use Rattle.typed_path.proofs.scan.cut.bodies_behind_shared.Goals as goal

pub returns : goal.returns
returns c =
    let s = c.args.rest.separators in
    c.bodies_behind.ensures
    ∙ ap₂ kinds_cmp
    (whole-body c.args.rest s c.as_bytes-text.result.now refl c.as_bytes-text.ensures (c.is_whole.ensures c.if-not-is_whole.false))
    (whole-body c.args.wanted s c.as_bytes-other.result.now (c.is_same.ensures c.if-not-is_same.false) c.as_bytes-other.ensures (c.is_whole-else-not-is_whole.ensures c.if-not-is_whole-2.false))
