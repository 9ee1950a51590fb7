-- The views of paths that are texts.
use Rattle.std.specs.Prelude.{ℕ, List}
use Rattle.typed_path.specs.declared.utf8.encoding.Utf8Encoding.{Ghosts}
use Rattle.typed_path.specs.declared.common.encoding.Encoding as bytes
use Rattle.typed_path.specs.declared.utf8.path.Utf8Path.{Utf8Path}
use Rattle.typed_path.specs.views.PathViews.{path_bytes}

-- the bytes of a path
abbrev pub utf8_bytes : {T Bytes : Type 0} {encoding : Ghosts T Bytes} {of_bytes : bytes.Ghosts Bytes} → Utf8Path T Bytes encoding of_bytes → List ℕ
utf8_bytes p = path_bytes p.path
