-- How each dialect writes the components that it reads.
use Rattle.std.specs.Prelude.{ℕ, List, [], ◌∷◌, map}
use Rattle.typed_path.specs.components.Dialects.{Dialect, unix, windows, slash, backslash}
use Rattle.typed_path.specs.components.Parts.{Part, Kind, prefix, root, current, parent, normal, prefix_part, root_part, current_part, parent_part, name_part}

-- a kind, as Unix writes it; a prefix is never read there
abbrev pub written_unix : Kind → Part
written_unix (prefix p) = current_part
written_unix root = root_part (slash ∷ [])
written_unix current = current_part
written_unix parent = parent_part
written_unix (normal name) = name_part name

-- a kind, as Windows writes it; a prefix is written as it was read
abbrev pub written_windows : List ℕ → Kind → Part
written_windows raw (prefix p) = prefix_part p raw
written_windows raw root = root_part (backslash ∷ [])
written_windows raw current = current_part
written_windows raw parent = parent_part
written_windows raw (normal name) = name_part name

-- a component, as a dialect writes what it is
abbrev pub written : Dialect → Part → Part
written unix p = written_unix p.kind
written windows p = written_windows p.text p.kind

abbrev pub as_written : Dialect → List Part → List Part
as_written d ps = map (written d) ps
