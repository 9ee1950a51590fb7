-- The views of keys, and of the bytes of a key that wait to be fed.
use Rattle.std.specs.Prelude.{ℕ, List, take}
use Rattle.typed_path.specs.declared.common.key_chunk.Chunk.{Chunk}
use Rattle.typed_path.specs.declared.common.keys.Key.{Key}

-- the path of a key
abbrev pub keyed_path : {P : Type 0} → Key P → P
keyed_path key = key.path

-- the bytes that wait
abbrev pub chunk_bytes : Chunk → List ℕ
chunk_bytes chunk = take chunk.used chunk.bytes
