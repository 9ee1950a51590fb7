-- The views of paths of text whose dialect is chosen when the program runs, and of what is read of them.
use Rattle.std.specs.Prelude.{ℕ, List}
use Rattle.typed_path.specs.declared.common.encoding.Encoding as bytes
use Rattle.typed_path.specs.declared.utf8.encoding.Utf8Encoding.{Ghosts}
use Rattle.typed_path.specs.declared.utf8.path.Utf8Path.{Utf8Path}
use Rattle.typed_path.specs.declared.utf8.reading.Utf8Reading.{Utf8Reading}
use Rattle.typed_path.specs.declared.utf8.path.Utf8Ancestors.{Utf8Ancestors}
use Rattle.typed_path.specs.declared.utf8.unix.Utf8UnixComponent.{Utf8UnixComponent}
use Rattle.typed_path.specs.declared.utf8.windows.Utf8WindowsComponent.{Utf8WindowsComponent}
use Rattle.typed_path.specs.declared.typed.variant.Typed.{Typed}
use Rattle.typed_path.specs.declared.typed.variant.Typed.TheVariants.{Unix, Windows}
use Rattle.typed_path.specs.declared.typed.reading.TypedReading.{TypedReading}
use Rattle.typed_path.specs.declared.typed.reading.TypedReading.TheVariants as reading
use Rattle.typed_path.specs.components.Parts.{Part, Placed, parts, texts}
use Rattle.typed_path.specs.views.TextViews.{utf8_bytes}
use Rattle.typed_path.specs.views.ReadingViews.{reading_items, reading_slice, reading_parts}
use Rattle.typed_path.specs.views.TextAncestorViews.{utf8_ancestors_left}
use Rattle.typed_path.specs.views.TextComponentViews.{text_unix_part, text_windows_part}

-- the bytes of a path
abbrev pub typed_text : {T A V B : Type 0} {e : Ghosts T A} {f : Ghosts V B} {g : bytes.Ghosts A} {h : bytes.Ghosts B} → Typed (Utf8Path T A e g) (Utf8Path V B f h) → List ℕ
typed_text (Unix p) = utf8_bytes p
typed_text (Windows p) = utf8_bytes p

-- the component that a value is
abbrev pub typed_text_part : Typed Utf8UnixComponent Utf8WindowsComponent → Part
typed_text_part (Unix c) = text_unix_part c
typed_text_part (Windows c) = text_windows_part c

-- the components whose texts are left, each with its place, the slice left, and the texts
abbrev pub typed_text_iter_items : {T A V B I J : Type 0} {e : Ghosts T A} {f : Ghosts V B} {g : bytes.Ghosts A} {h : bytes.Ghosts B} → Typed (Utf8Reading T I A e g) (Utf8Reading V J B f h) → List Placed
typed_text_iter_items (Unix r) = reading_items r
typed_text_iter_items (Windows r) = reading_items r

abbrev pub typed_text_iter_slice : {T A V B I J : Type 0} {e : Ghosts T A} {f : Ghosts V B} {g : bytes.Ghosts A} {h : bytes.Ghosts B} → Typed (Utf8Reading T I A e g) (Utf8Reading V J B f h) → List ℕ
typed_text_iter_slice (Unix r) = reading_slice r
typed_text_iter_slice (Windows r) = reading_slice r

abbrev pub typed_text_iter_texts : {T A V B I J : Type 0} {e : Ghosts T A} {f : Ghosts V B} {g : bytes.Ghosts A} {h : bytes.Ghosts B} → Typed (Utf8Reading T I A e g) (Utf8Reading V J B f h) → List (List ℕ)
typed_text_iter_texts (Unix r) = texts (reading_parts r)
typed_text_iter_texts (Windows r) = texts (reading_parts r)

-- the texts that are still to come
abbrev pub typed_text_ancestors_left : {T A V B : Type 0} {e : Ghosts T A} {f : Ghosts V B} {g : bytes.Ghosts A} {h : bytes.Ghosts B} → Typed (Utf8Ancestors T A e g) (Utf8Ancestors V B f h) → List (List ℕ)
typed_text_ancestors_left (Unix a) = utf8_ancestors_left a
typed_text_ancestors_left (Windows a) = utf8_ancestors_left a

-- the components left, each with its place, and the slice left
abbrev pub typed_text_items : {T A V B I J : Type 0} {e : Ghosts T A} {f : Ghosts V B} {g : bytes.Ghosts A} {h : bytes.Ghosts B} → TypedReading (Utf8Reading T I A e g) (Utf8Reading V J B f h) → List Placed
typed_text_items (reading.Unix r) = reading_items r
typed_text_items (reading.Windows r) = reading_items r

abbrev pub typed_text_slice : {T A V B I J : Type 0} {e : Ghosts T A} {f : Ghosts V B} {g : bytes.Ghosts A} {h : bytes.Ghosts B} → TypedReading (Utf8Reading T I A e g) (Utf8Reading V J B f h) → List ℕ
typed_text_slice (reading.Unix r) = reading_slice r
typed_text_slice (reading.Windows r) = reading_slice r

abbrev pub typed_text_parts : {T A V B I J : Type 0} {e : Ghosts T A} {f : Ghosts V B} {g : bytes.Ghosts A} {h : bytes.Ghosts B} → TypedReading (Utf8Reading T I A e g) (Utf8Reading V J B f h) → List Part
typed_text_parts r = parts (typed_text_items r)
