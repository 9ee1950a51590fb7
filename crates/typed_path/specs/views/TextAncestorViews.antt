-- The view of a path of text and those above it.
use Rattle.std.specs.Prelude.{ℕ, List}
use Rattle.typed_path.specs.declared.common.encoding.Encoding as bytes
use Rattle.typed_path.specs.declared.utf8.encoding.Utf8Encoding.{Ghosts}
use Rattle.typed_path.specs.declared.utf8.path.Utf8Ancestors.{Utf8Ancestors}
use Rattle.typed_path.specs.views.PathViews.{ancestors_left}

-- the texts that are still to come
abbrev pub utf8_ancestors_left : {T Bytes : Type 0} {encoding : Ghosts T Bytes} {of_bytes : bytes.Ghosts Bytes} → Utf8Ancestors T Bytes encoding of_bytes → List (List ℕ)
utf8_ancestors_left a = ancestors_left a.inner
