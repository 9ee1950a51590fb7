use Rattle.std.proofs.Common.{◌∷◌, [], ◌+◌, ◌++◌, length, sym, ap, subst, if◌then◌else◌}
use Rattle.std.specs.List.{concat}
use Rattle.std.specs.Hash.{u8, usize}
use Rattle.std.specs.Int.{w64, to_le_bytes}
use Rattle.std.proofs.lemmas.Bool.{lt-ltb}
use Rattle.typed_path.specs.order.{AreFed}
use Rattle.typed_path.specs.views.KeyViews.{chunk_bytes}
use Rattle.typed_path.proofs.lemmas.order.KeyBytes.{long_count}
use Rattle.typed_path.proofs.lemmas.order.KeyChunks.{fed_both, fed_moved, fed_name}
use Rattle.typed_path.proofs.common.keys.feed_name.Goals as goal
use Rattle.typed_path.proofs.common.keys.feed_name.Goals.{then-name-lt245, else-name-lt245}

pub returns : goal.returns
returns g c =
    let write = g.H.Hasher.write in
    let name = c.args.name.now in
    let n = length name in
    elim c.if-name-lt245.branch [
      | then-name-lt245 w ↦
          let count = ap (λ b. concat (if b then u8 (10 + n) else u8 255 ++ usize n)) (sym (lt-ltb n 245 w.if-name-lt245.true)) in
          fed_name write ((10 + n) ∷ []) name c.args.state.now c.if-name-lt245.state c.put-2.new.state (chunk_bytes c.args.chunk.now) (chunk_bytes c.if-name-lt245.chunk) (chunk_bytes c.put-2.new.self) count
          (fed_moved write ((10 + n) ∷ []) c.args.state.now w.put.new.state c.if-name-lt245.state (chunk_bytes c.args.chunk.now) (chunk_bytes w.put.new.self) (chunk_bytes c.if-name-lt245.chunk)
          w.state-is (ap chunk_bytes w.chunk-is) w.put.ensures)
          c.put-2.ensures
      | else-name-lt245 w ↦
          let mark = w.put-else-name-lt245 in
          let number = w.put-else-name-lt245-2 in
          let both = fed_both write (255 ∷ []) (to_le_bytes w64 n) c.args.state.now mark.new.state number.new.state (chunk_bytes c.args.chunk.now) (chunk_bytes mark.new.self) (chunk_bytes number.new.self) mark.ensures
          (subst (λ bs. AreFed write bs mark.new.state (chunk_bytes mark.new.self) (chunk_bytes number.new.self) number.new.state) w.to_le_bytes.ensures number.ensures) in
          fed_name write (255 ∷ to_le_bytes w64 n) name c.args.state.now c.if-name-lt245.state c.put-2.new.state (chunk_bytes c.args.chunk.now) (chunk_bytes c.if-name-lt245.chunk) (chunk_bytes c.put-2.new.self)
          (sym (long_count n w.if-name-lt245.false))
          (fed_moved write (255 ∷ to_le_bytes w64 n) c.args.state.now number.new.state c.if-name-lt245.state (chunk_bytes c.args.chunk.now) (chunk_bytes number.new.self) (chunk_bytes c.if-name-lt245.chunk)
          w.state-is (ap chunk_bytes w.chunk-is) both)
          c.put-2.ensures
    ]
