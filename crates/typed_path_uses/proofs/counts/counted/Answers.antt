use Rattle.std.proofs.Common.{◌≡◌, ap, ◌∙◌, arith}
use Rattle.std.specs.Option.{unwrap_or}
use Rattle.typed_path.specs.components.{kinds, parts_of}
use Rattle.typed_path_uses.specs.Counts.{count_at}
use Rattle.typed_path_uses.proofs.OneMore.{counted-few, counted-next, counted-one}
use Rattle.typed_path_uses.proofs.counts.counted.Goals as goal

pub overflow_add-before : goal.overflow_add-before
overflow_add-before g c =
    let own = kinds (parts_of g.T.Encoding.dialect c.new-key.result.path.bytes) in
    let before : c.unwrap_or-before.result ≡ count_at g.T.Encoding.dialect own c.names.counts = c.unwrap_or-before.ensures ∙ ap (λ o. unwrap_or o 0) (c.copied.ensures ∙ c.get.ensures.value) in
    omega (arith, before, c.names.invariant.few own, c.names-test.true)

pub names-preserved : goal.names-preserved
names-preserved g c =
    let d = g.T.Encoding.dialect in
    let key = c.new-key.result in
    let was = c.names.invariant in
    let before : c.unwrap_or-before.result ≡ count_at d (kinds (parts_of d key.path.bytes)) c.names.counts = c.unwrap_or-before.ensures ∙ ap (λ o. unwrap_or o 0) (c.copied.ensures ∙ c.get.ensures.value) in
    let counted = counted-one d key _ c.names.counts c.insert.new.self before c.in_ok-insert.ensures.updates in
    let is = ap (λ p. p.bytes) c.new-key.ensures ∙ c.in_ok-from_bytes.ensures.bytes in
    record {
      each = λ ks. counted-next d ks c.args.names.now c.names.name-index _ key.path.bytes (count_at d ks c.names.counts) _ _ c.names-test.true is (counted ks) (was.each ks);
      few = λ ks. counted-few d ks key.path.bytes (count_at d ks c.names.counts) _ c.names.name-index (counted ks) (was.few ks);
    }
