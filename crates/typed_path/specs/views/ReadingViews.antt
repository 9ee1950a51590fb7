-- The view of the components of a path of text that are left to be read.
use Rattle.std.specs.Prelude.{ℕ, List}
use Rattle.typed_path.specs.declared.common.encoding.Encoding as bytes
use Rattle.typed_path.specs.declared.utf8.encoding.Utf8Encoding.{Ghosts}
use Rattle.typed_path.specs.declared.utf8.reading.Utf8Reading.{Utf8Reading}
use Rattle.typed_path.specs.components.Parts.{Part, Placed, parts}
use Rattle.typed_path.specs.views.PathViews.{components_items, components_slice}

-- the components left, each with its place, and the slice left
abbrev pub reading_items : {T Bytes I : Type 0} {encoding : Ghosts T Bytes} {of_bytes : bytes.Ghosts Bytes} → Utf8Reading T I Bytes encoding of_bytes → List Placed
reading_items r = components_items r.components

abbrev pub reading_slice : {T Bytes I : Type 0} {encoding : Ghosts T Bytes} {of_bytes : bytes.Ghosts Bytes} → Utf8Reading T I Bytes encoding of_bytes → List ℕ
reading_slice r = components_slice r.components

abbrev pub reading_parts : {T Bytes I : Type 0} {encoding : Ghosts T Bytes} {of_bytes : bytes.Ghosts Bytes} → Utf8Reading T I Bytes encoding of_bytes → List Part
reading_parts r = parts (reading_items r)
