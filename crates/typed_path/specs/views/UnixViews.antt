-- The components of Unix paths, as pure data.
use Rattle.std.specs.Prelude.{◌≡◌, ◌⊎◌, ◌<◌, List, [], ◌∷◌, ℕ, codes, length, Result, MatchResult}
use Rattle.std.specs.Borrow.{Bor}
use Rattle.typed_path.specs.declared.unix.component.UnixComponent.{UnixComponent}
use Rattle.typed_path.specs.declared.unix.component.UnixComponent.TheVariants.{RootDir, CurDir, ParentDir, Normal}
use Rattle.typed_path.specs.components.Dialects.{unix, slash}
use Rattle.typed_path.specs.components.Parts.{Part, root_part, current_part, parent_part, name_part}
use Rattle.typed_path.specs.components.Comps.{parts_of}

abbrev pub unix_part : UnixComponent → Part
unix_part RootDir = root_part (slash ∷ [])
unix_part CurDir = current_part
unix_part ParentDir = parent_part
unix_part (Normal name) = name_part name.now

-- a text is one component, or it is refused for having none or for having more
abbrev pub IsUnixReading : List ℕ → Result UnixComponent (Bor (List ℕ)) → Type 0
IsUnixReading text reading = MatchResult reading
    (λ component. parts_of unix text ≡ unix_part component ∷ [])
    (λ why. (parts_of unix text ≡ []) × (why.now ≡ codes "no component found")
    ⊎ (1 < length (parts_of unix text)) × (why.now ≡ codes "found more than one component"))
