-- Where the names of a prefix stand in the path that begins with it.
use Rattle.std.specs.Prelude.{◌≡◌, ◌≤◌, ℕ, List, [], ◌∷◌, length, slice_range}
use Rattle.typed_path.specs.components.Parts.{Prefix, verbatim, verbatim_unc, verbatim_disk, device_ns, unc, disk}
use Rattle.typed_path.specs.components.Prefixes.{to_upper}

-- between two places of a path stands a letter, in either case
abbrev pub IsLetterAt : List ℕ → ℕ → ℕ → ℕ → Type 0
IsLetterAt t letter start end = (b : ℕ) × (slice_range t start end ≡ b ∷ []) × (to_upper b ≡ letter)

-- the names of a prefix stand between these places: server and share; or a name or a letter alone, and then no second one
abbrev pub StandAt : List ℕ → Prefix → ℕ → ℕ → ℕ → ℕ → Type 0
StandAt t (verbatim_unc server share) first first_end second second_end = (slice_range t first first_end ≡ server) × (slice_range t second second_end ≡ share)
StandAt t (unc server share) first first_end second second_end = (slice_range t first first_end ≡ server) × (slice_range t second second_end ≡ share)
StandAt t (verbatim name) first first_end second second_end = (slice_range t first first_end ≡ name) × (second_end ≡ second)
StandAt t (device_ns name) first first_end second second_end = (slice_range t first first_end ≡ name) × (second_end ≡ second)
StandAt t (verbatim_disk letter) first first_end second second_end = IsLetterAt t letter first first_end × (second_end ≡ second)
StandAt t (disk letter) first first_end second second_end = IsLetterAt t letter first first_end × (second_end ≡ second)

-- and in this order within the path
pub record AreNamesOf (t : List ℕ) (p : Prefix) (first first_end second second_end : ℕ) : Type 0 where
  pub stand : StandAt t p first first_end second second_end
  pub ordered : first ≤ first_end
  pub apart : first_end ≤ second
  pub second_ordered : second ≤ second_end
  pub within : second_end ≤ length t
