use Rattle.std.proofs.Common.{◌≡◌, ◌++◌, ◌∙◌, sym, ap, ap₂, arith, drop, length, length-append, map, take_at}
use Rattle.std.proofs.lemmas.List.{length-map}
use Rattle.std.specs.Char.{to_ascii_lowercase}
use Rattle.typed_path.specs.order.{lowered, lowered_behind}
use Rattle.typed_path.proofs.common.path.Path.to_ascii_lowercase.Goals as goal

pub split_at_mut-rest-requires : goal.split_at_mut-rest-requires
split_at_mut-rest-requires g c = omega (arith, c.kept_before-kept.ensures.within, c.deref_mut.ensures.len, c.in_ok-lowered.ensures.len, ap length c.as_bytes-path.ensures)

pub returns : goal.returns
returns g c =
    let front = c.split_at_mut-rest.result.0.now in
    let rest = c.split_at_mut-rest.result.1.now in
    let low = c.make_ascii_lowercase.new.self in
    let items = c.in_ok-lowered.lowered.items in
    let n = c.kept_before-kept.result in
    let text : c.deref_mut.result.now ≡ c.as_bytes-path.result.now = c.deref_mut.ensures.value ∙ c.in_ok-lowered.ensures.items in
    let long : length (front ++ low) ≡ c.in_ok-lowered.lowered.len =
    length-append front low ∙ omega (arith, ap length c.make_ascii_lowercase.ensures.after, length-map rest to_ascii_lowercase, ap length c.split_at_mut-rest.ensures.value, length-append front rest, c.deref_mut.ensures.len) in
    c.from_vec.ensures.bytes
    ∙ take_at (front ++ low) (drop (length (front ++ low)) items) c.in_ok-lowered.lowered.len long
    ∙ ap₂ ◌++◌ c.split_at_mut-rest.ensures.front (c.make_ascii_lowercase.ensures.after ∙ ap (map to_ascii_lowercase) c.split_at_mut-rest.ensures.back)
    ∙ ap (lowered_behind n) text
    ∙ sym c.kept_before-kept.ensures.lowered_is
    ∙ ap (lowered g.T.Encoding.dialect) c.as_bytes-path.ensures
