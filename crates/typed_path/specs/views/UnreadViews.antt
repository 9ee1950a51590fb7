-- Readings that are kept as numbers: a component at its place, and the numbers of a cursor.
use Rattle.std.specs.Prelude.{◌≡◌, ℕ, List, Option, Some, None, option_map, ⊤}
use Rattle.typed_path.specs.declared.scan.cursor.Cursor.{Cursor}
use Rattle.typed_path.specs.declared.scan.cursor.Begin.{Begin}
use Rattle.typed_path.specs.declared.scan.cursor.Begin.TheVariants.{Body, Inside}
use Rattle.typed_path.specs.declared.scan.prefix.Found.{Found}
use Rattle.typed_path.specs.declared.scan.separators.Separators.{Separators}
use Rattle.typed_path.specs.declared.scan.unread.Unread.{Unread}
use Rattle.typed_path.specs.declared.scan.unread.PlacedPiece.{PlacedPiece}
use Rattle.typed_path.specs.components.Dialects.{Dialect, separators}
use Rattle.typed_path.specs.components.Parts.{Placed}
use Rattle.typed_path.specs.components.Prefixes.{prefix_of}
use Rattle.typed_path.specs.views.PieceViews.{found_of, part_of}

abbrev pub placed_of : PlacedPiece → Placed
placed_of p = record { part = part_of p.piece; start = p.start }

-- what was looked up of a path before it is taken up: its separators, and its prefix if nothing was taken from the front
abbrev pub IsLookedUp : Dialect → List ℕ → Unread → Option Found → Separators → Type 0
IsLookedUp d t u found s = (s ≡ separators d t) × (u.stage ≡ 0 → option_map found_of found ≡ prefix_of d t)

-- the prefix that is still to be taken is that of a path, and nothing behind it was taken from the front
abbrev pub IsPending : Dialect → List ℕ → Option Found → Begin → ℕ → Type 0
IsPending d t None begin from = ⊤
IsPending d t (Some f) begin from = (Some (found_of f) ≡ prefix_of d t) × (from ≡ f.length) × (begin ≡ Body)

-- a cursor reads a path of a dialect
abbrev pub IsReadingOf : Dialect → List ℕ → Cursor → Type 0
IsReadingOf d t c = (c.text.now ≡ t) × (c.separators ≡ separators d t) × IsPending d t c.prefix c.begin c.from

-- the numbers at which it stands
abbrev pub numbers_by : Option Found → Begin → ℕ → ℕ → Unread
numbers_by (Some f) begin from to = record { from = 0; to = to; stage = 0 }
numbers_by None Body from to = record { from = from; to = to; stage = 1 }
numbers_by None Inside from to = record { from = from; to = to; stage = 2 }

abbrev pub numbers_of : Cursor → Unread
numbers_of c = numbers_by c.prefix c.begin c.from c.to
