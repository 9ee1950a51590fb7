-- What a single component and a path feed to a hasher.
use Rattle.std.specs.Prelude.{ℕ, List, [], ◌∷◌, ◌++◌, pos, sum_by, Option, Some, None}
use Rattle.std.specs.List.{flat_map}
use Rattle.std.specs.Hash.{HashWrites, isize, slice, u8, usize}
use Rattle.typed_path.specs.components.Dialects.{Dialect, dot}
use Rattle.typed_path.specs.components.Parts.{Prefix, verbatim, verbatim_unc, verbatim_disk, device_ns, unc, disk, Kind, prefix, root, current, parent, normal, Part}
use Rattle.typed_path.specs.components.Comps.{parts_of}
use Rattle.typed_path.specs.promises.Promises.{Word, prefix_word, bytes, count, words_by_kind, fed_length, fed}

-- a component of Unix: the place of its kind among those of Unix, and the name
abbrev pub unix_words : Kind → HashWrites
unix_words (prefix p) = []
unix_words root = isize (pos 0)
unix_words current = isize (pos 1)
unix_words parent = isize (pos 2)
unix_words (normal name) = isize (pos 3) ++ slice u8 name

-- a prefix: the place of its kind among the prefixes, and its names or its letter
abbrev pub prefix_words : Prefix → HashWrites
prefix_words (verbatim name) = isize (pos 0) ++ slice u8 name
prefix_words (verbatim_unc server share) = isize (pos 1) ++ (slice u8 server ++ slice u8 share)
prefix_words (verbatim_disk letter) = isize (pos 2) ++ u8 letter
prefix_words (device_ns name) = isize (pos 3) ++ slice u8 name
prefix_words (unc server share) = isize (pos 4) ++ (slice u8 server ++ slice u8 share)
prefix_words (disk letter) = isize (pos 5) ++ u8 letter

-- the prefix of a path, where it has one
abbrev pub words_before : Option Prefix → HashWrites
words_before None = []
words_before (Some p) = prefix_words p

-- a component of Windows: the place of its kind among those of Windows, and the prefix or the name
abbrev pub windows_words : Kind → HashWrites
windows_words (prefix p) = isize (pos 0) ++ prefix_words p
windows_words root = isize (pos 1)
windows_words current = isize (pos 2)
windows_words parent = isize (pos 3)
windows_words (normal name) = isize (pos 4) ++ slice u8 name

-- what a component is, beside its text: the same without the name
abbrev pub kind_words : Kind → HashWrites
kind_words (normal name) = isize (pos 4)
kind_words k = windows_words k

-- a component of either dialect: its kind, and then its text
abbrev pub piece_words : Part → HashWrites
piece_words p = kind_words p.kind ++ slice u8 p.text

-- a word of a path: a prefix as it is fed alone, a text in one write, a number as itself
abbrev pub writes_of : Word → HashWrites
writes_of (prefix_word p) = prefix_words p
writes_of (bytes text) = text ∷ []
writes_of (count n) = usize n

abbrev pub path_words : Dialect → List ℕ → HashWrites
path_words d t = flat_map writes_of (fed (parts_of d t))

-- the same, read off the kinds alone: a kind tells the text of its component, but for a prefix and the root, whose texts are not fed
abbrev pub kind_text : Kind → List ℕ
kind_text (prefix p) = []
kind_text root = []
kind_text current = dot ∷ []
kind_text parent = dot ∷ dot ∷ []
kind_text (normal name) = name

abbrev pub kind_fed : Kind → List Word
kind_fed k = words_by_kind (kind_text k) k

abbrev pub kind_length : Kind → ℕ
kind_length k = fed_length (kind_text k) k

abbrev pub kinds_fed : List Kind → List Word
kinds_fed ks = flat_map kind_fed ks ++ count (sum_by kind_length ks) ∷ []

abbrev pub kinds_words : List Kind → HashWrites
kinds_words ks = flat_map writes_of (kinds_fed ks)
