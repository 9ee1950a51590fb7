-- What a path is without its `\\?\`.
use Rattle.std.specs.Prelude.{◌≡◌, ℕ, List, drop, if◌then◌else◌}
use Rattle.typed_path.specs.components.Dialects.{windows}
use Rattle.typed_path.specs.components.Parts.{kinds}
use Rattle.typed_path.specs.components.Comps.{parts_of}
use Rattle.typed_path.specs.places.Places.{resolve}
use Rattle.typed_path.specs.queries.Queries.{is_absolute, has_root, file_name_of}
use Rattle.typed_path.specs.queries.Simplified.{can_be_simplified, with_drive}

-- a Windows text is read as another, but that the verbatim drive may have become the drive
pub record IsAlikeBehind (t u : List ℕ) : Type 0 where
  pub kinds_alike : kinds (parts_of windows u) ≡ (if can_be_simplified t then with_drive (kinds (parts_of windows t)) else kinds (parts_of windows t))
  pub behind : drop 1 (parts_of windows u) ≡ drop 1 (parts_of windows t)
  pub absolute : is_absolute windows (kinds (parts_of windows u)) ≡ is_absolute windows (kinds (parts_of windows t))
  pub rooted : has_root windows (kinds (parts_of windows u)) ≡ has_root windows (kinds (parts_of windows t))
  pub named : file_name_of windows u ≡ file_name_of windows t
  pub resolved : drop 1 (resolve (parts_of windows u)) ≡ drop 1 (resolve (parts_of windows t))
