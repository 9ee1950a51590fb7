use Rattle.std.proofs.Common.{◌≡◌, ◌+◌, ◌++◌, ℕ, List, length, fold}
use Rattle.typed_path.specs.order.{chunked}
use Rattle.typed_path.specs.views.KeyViews.{chunk_bytes}
use Rattle.typed_path.proofs.common.key_chunk.Chunk.put_over.Given as goal

abbrev pub invariant-chunks : goal.invariant-chunks
invariant-chunks g l =
    (more : List ℕ) → fold g.H.Hasher.write l.fn.state (chunked (chunk_bytes l.fn.self ++ l.bytes ++ more))
    ≡ fold g.H.Hasher.write l.state (chunked (chunk_bytes l.self ++ l.left ++ more))

abbrev pub decreases-chunks : goal.decreases-chunks
decreases-chunks g l = length l.left + l.self.used
