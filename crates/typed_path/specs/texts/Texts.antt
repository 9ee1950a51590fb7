-- Components, paths that may be there, and readings that are texts in UTF-8.
use Rattle.std.specs.Prelude.{◌≡◌, ℕ, List, Bool, true, not, ◌&&◌, ◌||◌, Option, Some, None}
use Rattle.std.specs.List.{list_all}
use Rattle.std.specs.Str.{is_utf8}
use Rattle.typed_path.specs.components.Dialects.{Dialect}
use Rattle.typed_path.specs.components.Parts.{Prefix, verbatim, verbatim_unc, verbatim_disk, device_ns, unc, disk, Kind, prefix, normal, Part, Placed}
use Rattle.typed_path.specs.components.Comps.{comps}
use Rattle.typed_path.specs.scan.Left.{Side}
use Rattle.typed_path.specs.scan.Reading.{items_after, slice_after}

-- bytes that may be there are a text
abbrev pub is_text_option : Option (List ℕ) → Bool
is_text_option None = true
is_text_option (Some bytes) = is_utf8 bytes

-- each of a list of bytes is one
abbrev pub are_texts : List (List ℕ) → Bool
are_texts texts = list_all is_utf8 texts

-- the names of a prefix are texts
abbrev pub is_text_prefix : Prefix → Bool
is_text_prefix (verbatim name) = is_utf8 name
is_text_prefix (verbatim_unc server share) = is_utf8 server && is_utf8 share
is_text_prefix (verbatim_disk letter) = true
is_text_prefix (device_ns name) = is_utf8 name
is_text_prefix (unc server share) = is_utf8 server && is_utf8 share
is_text_prefix (disk letter) = true

-- the names of a kind are
abbrev pub is_text_kind : Kind → Bool
is_text_kind (prefix p) = is_text_prefix p
is_text_kind (normal name) = is_utf8 name
is_text_kind k = true

-- a component is: its text and its names
abbrev pub is_text_part : Part → Bool
is_text_part p = is_utf8 p.text && is_text_kind p.kind

-- where its text is one, its names are: they are parts of that
abbrev pub has_text_names : Part → Bool
has_text_names p = not (is_utf8 p.text) || is_text_kind p.kind

-- each of a list has such names
abbrev pub have_text_names : List Part → Bool
have_text_names ps = list_all has_text_names ps

abbrev pub is_text_part_option : Option Part → Bool
is_text_part_option None = true
is_text_part_option (Some p) = is_text_part p

abbrev pub are_text_parts : List Part → Bool
are_text_parts ps = list_all is_text_part ps

-- what some steps from either end leave of the components of a text
pub record IsTextReading (items : List Placed) (slice : List ℕ) : Type 0 where
  pub dialect : Dialect
  pub text : List ℕ
  pub sides : List Side
  pub is_text : is_utf8 text ≡ true
  pub items_left : items ≡ items_after (comps dialect text) sides
  pub slice_left : slice ≡ slice_after (comps dialect text) text sides
