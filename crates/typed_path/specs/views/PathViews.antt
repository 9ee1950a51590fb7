-- The views of paths, of their iterators, and of what prints them.
use Rattle.std.specs.Prelude.{ℕ, List, [], Bool, true, false}
use Rattle.typed_path.specs.declared.common.path.Path.{Path}
use Rattle.typed_path.specs.declared.common.encoding.Encoding.{Ghosts}
use Rattle.typed_path.specs.declared.common.components.Reading.{Reading}
use Rattle.typed_path.specs.components.Parts.{Part, Placed, parts, texts}
use Rattle.typed_path.specs.views.CursorViews.{slice_left, items_left}
use Rattle.typed_path.specs.declared.common.components.Ancestors.{Ancestors}
use Rattle.typed_path.specs.queries.Ancestry.{readings_above}
use Rattle.typed_path.specs.declared.common.texts.Display.{Display}

-- the bytes of a path
abbrev pub path_bytes : {T : Type 0} → Path T → List ℕ
path_bytes p = p.bytes.now

-- the components left, each with its place, and the slice left
abbrev pub components_items : {T I : Type 0} {encoding : Ghosts T} → Reading T I encoding → List Placed
components_items r = items_left r.cursor

abbrev pub components_slice : {T I : Type 0} {encoding : Ghosts T} → Reading T I encoding → List ℕ
components_slice r = slice_left r.cursor

abbrev pub components_parts : {T I : Type 0} {encoding : Ghosts T} → Reading T I encoding → List Part
components_parts r = parts (components_items r)

-- the texts of the components left
abbrev pub iter_texts : {T I : Type 0} {encoding : Ghosts T} → Reading T I encoding → List (List ℕ)
iter_texts r = texts (components_parts r)

abbrev pub ancestors_from : {T I : Type 0} {encoding : Ghosts T} → Bool → Reading T I encoding → List (List ℕ)
ancestors_from true r = []
ancestors_from false r = readings_above (components_items r) (components_slice r)

-- the texts that are still to come
abbrev pub ancestors_left : {T : Type 0} {encoding : Ghosts T} → Ancestors T encoding → List (List ℕ)
ancestors_left a = ancestors_from a.done a.rest

abbrev pub displayed : {T : Type 0} → Display T → List ℕ
displayed d = path_bytes d.path
