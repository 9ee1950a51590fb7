use Rattle.std.proofs.Common.{◌≡◌, ◌++◌, ◌-◌, sym, ◌∙◌, arith, take, take-append-drop}
use Rattle.typed_path.specs.views.KeyViews.{chunk_bytes}
use Rattle.typed_path.proofs.lemmas.order.KeyChunks.{chunk-filled, fed_full}
use Rattle.typed_path.proofs.common.key_chunk.Chunk.put_over.Goals as goal

pub chunks-smaller : goal.chunks-smaller
chunks-smaller g c = omega (arith, c.chunks-test.true, c.split_at.ensures.back_len, c.chunks.self.fits)

pub chunks-preserved : goal.chunks-preserved
chunks-preserved g c = λ more.
    let write = g.H.Hasher.write in
    let front = c.split_at.result.0.now in
    let behind = c.split_at.result.1.now in
    let full = chunk-filled c.chunks.self.bytes front c.put_bytes.new.out c.chunks.self.used c.put_bytes.result (omega (arith, c.chunks.self.long)) (omega (arith, c.split_at.ensures.front_len, c.chunks.self.fits)) c.put_bytes.ensures in
    let split : c.chunks.left.now ≡ front ++ behind = sym (take-append-drop (128 - c.chunks.self.used) c.chunks.left.now) ∙ (λ i. sym c.split_at.ensures.front i ++ sym c.split_at.ensures.back i) in
    c.chunks.invariant more
    ∙ fed_full write c.chunks.left.now front behind (chunk_bytes c.chunks.self) (take 128 c.put_bytes.new.out) c.chunks.state c.write.new.self split full.0 full.1 (omega (arith, c.split_at.ensures.back_len, c.chunks-test.true)) c.write.ensures more
