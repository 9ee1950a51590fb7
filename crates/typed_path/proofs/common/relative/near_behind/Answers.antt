use Rattle.std.proofs.Common.{subst}
use Rattle.std.proofs.lemmas.Option.{IfSome_then}
use Rattle.typed_path.specs.components.{body, kinds, parts}
use Rattle.typed_path.specs.places.{PartInNames}
use Rattle.typed_path.specs.views.BodyViews.{body_items}
use Rattle.typed_path.proofs.lemmas.order.SharedNames.{whole-body}
use Rattle.typed_path.proofs.common.relative.near_behind.Goals as goal

pub returns : goal.returns
returns c =
    let s = c.args.separators in
    let own = whole-body c.args.own s c.as_bytes.result.now (c.is_same.ensures c.if-not-is_same.false) c.as_bytes.ensures (c.is_whole.ensures c.if-not-is_whole.false) in
    let other =
    whole-body c.args.other s c.as_bytes-2.result.now (c.is_same-else-not-is_same.ensures c.if-not-is_same-2.false) c.as_bytes-2.ensures (c.is_whole-else-not-is_whole.ensures c.if-not-is_whole-2.false) in
    IfSome_then c.near_texts.result c.near_texts.ensures
    (λ near part.
    subst (λ ks. PartInNames s ks (kinds (parts (body_items c.args.other))) near.up near.rest.now near.ended) own
    (subst (λ ls. PartInNames s (kinds (parts (body s 0 c.as_bytes.result.now))) ls near.up near.rest.now near.ended) other part))
