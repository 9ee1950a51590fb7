-- The components of texts, as pure data.
use Rattle.std.specs.Prelude.{ℕ, List}
use Rattle.typed_path.specs.declared.utf8.windows.Utf8WindowsPrefix.{Utf8WindowsPrefix}
use Rattle.typed_path.specs.declared.utf8.windows.Utf8WindowsPrefix.TheVariants.{Verbatim, VerbatimUNC, VerbatimDisk, DeviceNS, UNC, Disk}
use Rattle.typed_path.specs.declared.utf8.reading.Utf8Piece.{Utf8Piece}
use Rattle.typed_path.specs.declared.utf8.reading.Utf8PieceKind.{Utf8PieceKind}
use Rattle.typed_path.specs.declared.utf8.reading.Utf8PieceKind.TheVariants.{Prefix, RootDir, CurDir, ParentDir, Normal}
use Rattle.typed_path.specs.components.Parts.{verbatim, verbatim_unc, verbatim_disk, device_ns, unc, disk, Kind, prefix, root, current, parent, normal, Part}
use Rattle.typed_path.specs.components.Parts as part

-- a letter is the number of its character
abbrev pub text_prefix : Utf8WindowsPrefix → part.Prefix
text_prefix (Verbatim name) = verbatim name.now
text_prefix (VerbatimUNC server share) = verbatim_unc server.now share.now
text_prefix (VerbatimDisk letter) = verbatim_disk letter
text_prefix (DeviceNS name) = device_ns name.now
text_prefix (UNC server share) = unc server.now share.now
text_prefix (Disk letter) = disk letter

abbrev pub text_kind : Utf8PieceKind → List ℕ → Kind
text_kind (Prefix p) text = prefix (text_prefix p)
text_kind RootDir text = root
text_kind CurDir text = current
text_kind ParentDir text = parent
text_kind Normal text = normal text

-- the component that a piece is
abbrev pub text_part : Utf8Piece → Part
text_part p = record { kind = text_kind p.kind p.text.now; text = p.text.now }
