-- What the crate's values are, as pure data.
use Rattle.std.specs.Prelude.{ℕ, List}
use Rattle.typed_path.specs.declared.scan.prefix.WindowsPrefix.{WindowsPrefix}
use Rattle.typed_path.specs.declared.scan.prefix.WindowsPrefix.TheVariants.{Verbatim, VerbatimUNC, VerbatimDisk, DeviceNS, UNC, Disk}
use Rattle.typed_path.specs.declared.scan.prefix.Found.{Found}
use Rattle.typed_path.specs.declared.scan.step.Piece.{Piece}
use Rattle.typed_path.specs.declared.scan.step.PieceKind.{PieceKind}
use Rattle.typed_path.specs.declared.scan.step.PieceKind.TheVariants.{Prefix, RootDir, CurDir, ParentDir, Normal}
use Rattle.typed_path.specs.declared.scan.step.Step.{Step}
use Rattle.typed_path.specs.declared.scan.step.StepKind.{StepKind}
use Rattle.typed_path.specs.declared.scan.step.StepKind.TheVariants as step
use Rattle.typed_path.specs.components.Parts.{verbatim, verbatim_unc, verbatim_disk, device_ns, unc, disk, Kind, prefix, root, current, parent, normal, Part}
use Rattle.typed_path.specs.components.Parts as part
use Rattle.typed_path.specs.components.Prefixes as definitions

abbrev pub prefix_view : WindowsPrefix → part.Prefix
prefix_view (Verbatim name) = verbatim name.now
prefix_view (VerbatimUNC server share) = verbatim_unc server.now share.now
prefix_view (VerbatimDisk letter) = verbatim_disk letter
prefix_view (DeviceNS name) = device_ns name.now
prefix_view (UNC server share) = unc server.now share.now
prefix_view (Disk letter) = disk letter

-- the prefix that was found, and how many bytes its raw text has
abbrev pub found_of : Found → definitions.Found
found_of f = record { prefix = prefix_view f.kind; length = f.length }

abbrev pub kind_view : PieceKind → List ℕ → Kind
kind_view (Prefix p) text = prefix (prefix_view p)
kind_view RootDir text = root
kind_view CurDir text = current
kind_view ParentDir text = parent
kind_view Normal text = normal text

-- the component that a piece is
abbrev pub part_of : Piece → Part
part_of p = record { kind = kind_view p.kind p.text.now; text = p.text.now }

-- the same of a component behind the prefix
abbrev pub step_view : StepKind → List ℕ → Kind
step_view step.RootDir text = root
step_view step.CurDir text = current
step_view step.ParentDir text = parent
step_view step.Normal text = normal text

-- the place of its kind among those that stand behind the prefix
abbrev pub step_rank : StepKind → ℕ
step_rank step.RootDir = 0
step_rank step.CurDir = 1
step_rank step.ParentDir = 2
step_rank step.Normal = 3

-- the component that it is
abbrev pub step_part : Step → Part
step_part s = record { kind = step_view s.kind s.text.now; text = s.text.now }
