use Rattle.std.proofs.Common.{◌≡◌, ◌++◌}
use Rattle.std.specs.Str.Chunks.{utf8_chunks_rest}
use Rattle.std.specs.Str.Lossy.{utf8_lossy}
use Rattle.typed_path.proofs.common.texts.replaced.Given as goal

abbrev pub invariant-chunks : goal.invariant-chunks
invariant-chunks l = l.text.bytes.items ++ utf8_lossy (utf8_chunks_rest l.chunk-iterator) ≡ utf8_lossy l.bytes
