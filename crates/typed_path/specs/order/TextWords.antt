-- What single components of texts feed to a hasher: a name as a text, and the letter of a drive as a character.
use Rattle.std.specs.Prelude.{◌++◌, [], pos}
use Rattle.std.specs.Hash.{HashWrites, isize, str, char}
use Rattle.typed_path.specs.components.Parts.{Prefix, verbatim, verbatim_unc, verbatim_disk, device_ns, unc, disk, Kind, prefix, root, current, parent, normal, Part}

-- a component of Unix: the place of its kind among those of Unix, and the name
abbrev pub text_unix_words : Kind → HashWrites
text_unix_words (prefix p) = []
text_unix_words root = isize (pos 0)
text_unix_words current = isize (pos 1)
text_unix_words parent = isize (pos 2)
text_unix_words (normal name) = isize (pos 3) ++ str name

-- a prefix: the place of its kind among the prefixes, and its names or its letter
abbrev pub text_prefix_words : Prefix → HashWrites
text_prefix_words (verbatim name) = isize (pos 0) ++ str name
text_prefix_words (verbatim_unc server share) = isize (pos 1) ++ (str server ++ str share)
text_prefix_words (verbatim_disk letter) = isize (pos 2) ++ char letter
text_prefix_words (device_ns name) = isize (pos 3) ++ str name
text_prefix_words (unc server share) = isize (pos 4) ++ (str server ++ str share)
text_prefix_words (disk letter) = isize (pos 5) ++ char letter

-- what is no name: the place of its kind among those of all components, and the prefix
abbrev pub text_kind_words : Kind → HashWrites
text_kind_words (prefix p) = isize (pos 0) ++ text_prefix_words p
text_kind_words root = isize (pos 1)
text_kind_words current = isize (pos 2)
text_kind_words parent = isize (pos 3)
text_kind_words (normal name) = isize (pos 4)

-- a component of Windows: the same, and the name
abbrev pub text_windows_words : Kind → HashWrites
text_windows_words (normal name) = isize (pos 4) ++ str name
text_windows_words k = text_kind_words k

-- a component of either dialect: its kind, and then its text
abbrev pub text_piece_words : Part → HashWrites
text_piece_words p = text_kind_words p.kind ++ str p.text
