-- The views of paths of bytes whose dialect is chosen when the program runs, and of what is read of them.
use Rattle.std.specs.Prelude.{ℕ, List}
use Rattle.typed_path.specs.declared.common.encoding.Encoding.{Ghosts}
use Rattle.typed_path.specs.declared.common.path.Path.{Path}
use Rattle.typed_path.specs.declared.common.components.Reading.{Reading}
use Rattle.typed_path.specs.declared.common.components.Ancestors.{Ancestors}
use Rattle.typed_path.specs.declared.common.texts.Display.{Display}
use Rattle.typed_path.specs.declared.unix.component.UnixComponent.{UnixComponent}
use Rattle.typed_path.specs.declared.windows.component.WindowsComponent.{WindowsComponent}
use Rattle.typed_path.specs.declared.typed.variant.Typed.{Typed}
use Rattle.typed_path.specs.declared.typed.variant.Typed.TheVariants.{Unix, Windows}
use Rattle.typed_path.specs.declared.typed.reading.TypedReading.{TypedReading}
use Rattle.typed_path.specs.declared.typed.reading.TypedReading.TheVariants as reading
use Rattle.typed_path.specs.components.Dialects.{Dialect, unix, windows}
use Rattle.typed_path.specs.components.Parts.{Part, Placed, parts}
use Rattle.typed_path.specs.views.OwnedViews.{Owned}
use Rattle.typed_path.specs.views.PathViews.{path_bytes, components_items, components_slice, iter_texts, ancestors_left, displayed}
use Rattle.typed_path.specs.views.UnixViews.{unix_part}
use Rattle.typed_path.specs.views.WindowsViews.{windows_part}

-- the bytes of a path
abbrev pub typed_bytes : {T V : Type 0} → Typed (Path T) (Path V) → List ℕ
typed_bytes (Unix p) = path_bytes p
typed_bytes (Windows p) = path_bytes p

-- bytes and room of an owned path
abbrev pub typed_owned : Typed Owned Owned → Owned
typed_owned (Unix p) = p
typed_owned (Windows p) = p

abbrev pub owned_bytes : Typed Owned Owned → List ℕ
owned_bytes p = (typed_owned p).bytes

-- the component that a value is
abbrev pub typed_part : Typed UnixComponent WindowsComponent → Part
typed_part (Unix c) = unix_part c
typed_part (Windows c) = windows_part c

-- the components whose texts are left, each with its place, the slice left, and the texts
abbrev pub typed_iter_items : {T V I J : Type 0} {e : Ghosts T} {f : Ghosts V} → Typed (Reading T I e) (Reading V J f) → List Placed
typed_iter_items (Unix i) = components_items i
typed_iter_items (Windows i) = components_items i

abbrev pub typed_iter_slice : {T V I J : Type 0} {e : Ghosts T} {f : Ghosts V} → Typed (Reading T I e) (Reading V J f) → List ℕ
typed_iter_slice (Unix i) = components_slice i
typed_iter_slice (Windows i) = components_slice i

abbrev pub typed_iter_texts : {T V I J : Type 0} {e : Ghosts T} {f : Ghosts V} → Typed (Reading T I e) (Reading V J f) → List (List ℕ)
typed_iter_texts (Unix i) = iter_texts i
typed_iter_texts (Windows i) = iter_texts i

-- the texts that are still to come
abbrev pub typed_ancestors_left : {T V : Type 0} {e : Ghosts T} {f : Ghosts V} → Typed (Ancestors T e) (Ancestors V f) → List (List ℕ)
typed_ancestors_left (Unix a) = ancestors_left a
typed_ancestors_left (Windows a) = ancestors_left a

abbrev pub typed_displayed : {T V : Type 0} → Typed (Display T) (Display V) → List ℕ
typed_displayed (Unix d) = displayed d
typed_displayed (Windows d) = displayed d

-- the dialect that a reading is of
abbrev pub reading_dialect : {U W : Type 0} → TypedReading U W → Dialect
reading_dialect (reading.Unix u) = unix
reading_dialect (reading.Windows w) = windows

-- the components left, each with its place, and the slice left
abbrev pub typed_items : {T V I J : Type 0} {e : Ghosts T} {f : Ghosts V} → TypedReading (Reading T I e) (Reading V J f) → List Placed
typed_items (reading.Unix r) = components_items r
typed_items (reading.Windows r) = components_items r

abbrev pub typed_slice : {T V I J : Type 0} {e : Ghosts T} {f : Ghosts V} → TypedReading (Reading T I e) (Reading V J f) → List ℕ
typed_slice (reading.Unix r) = components_slice r
typed_slice (reading.Windows r) = components_slice r

abbrev pub typed_parts : {T V I J : Type 0} {e : Ghosts T} {f : Ghosts V} → TypedReading (Reading T I e) (Reading V J f) → List Part
typed_parts r = parts (typed_items r)
