-- The components of Windows paths, as pure data.
use Rattle.std.specs.Prelude.{◌≡◌, ◌⊎◌, ◌<◌, List, [], ◌∷◌, ℕ, codes, length, None, IsSome, Result, MatchResult}
use Rattle.std.specs.Borrow.{Bor}
use Rattle.typed_path.specs.declared.scan.prefix.WindowsPrefix.{WindowsPrefix}
use Rattle.typed_path.specs.declared.windows.component.WindowsPrefixComponent.{WindowsPrefixComponent}
use Rattle.typed_path.specs.declared.windows.component.WindowsComponent.{WindowsComponent}
use Rattle.typed_path.specs.declared.windows.component.WindowsComponent.TheVariants.{Prefix, RootDir, CurDir, ParentDir, Normal}
use Rattle.typed_path.specs.components.Dialects.{windows, backslash}
use Rattle.typed_path.specs.components.Parts.{Part, prefix_part, root_part, current_part, parent_part, name_part}
use Rattle.typed_path.specs.components.Prefixes.{prefix_of}
use Rattle.typed_path.specs.components.Comps.{parts_of}
use Rattle.typed_path.specs.views.PieceViews.{prefix_view}

abbrev pub prefix_component_part : WindowsPrefixComponent → Part
prefix_component_part c = prefix_part (prefix_view c.kind) c.raw.now

abbrev pub windows_part : WindowsComponent → Part
windows_part (Prefix c) = prefix_component_part c
windows_part RootDir = root_part (backslash ∷ [])
windows_part CurDir = current_part
windows_part ParentDir = parent_part
windows_part (Normal name) = name_part name.now

-- a text is refused where it has no prefix, and where more stands behind its prefix
abbrev pub IsPrefixRefusal : List ℕ → List ℕ → Type 0
IsPrefixRefusal text why =
    (prefix_of windows text ≡ None) × (why ≡ codes "not a prefix")
    ⊎ IsSome (prefix_of windows text) × (1 < length (parts_of windows text)) × (why ≡ codes "contains more than prefix")

-- a text is one prefix, with its text and without, or it is refused
abbrev pub IsPrefixComponentReading : List ℕ → Result WindowsPrefixComponent (Bor (List ℕ)) → Type 0
IsPrefixComponentReading text reading = MatchResult reading
    (λ component. parts_of windows text ≡ prefix_component_part component ∷ [])
    (λ why. IsPrefixRefusal text why.now)

abbrev pub IsPrefixReading : List ℕ → Result WindowsPrefix (Bor (List ℕ)) → Type 0
IsPrefixReading text reading = MatchResult reading
    (λ p. parts_of windows text ≡ prefix_part (prefix_view p) text ∷ [])
    (λ why. IsPrefixRefusal text why.now)

-- a text is one component, or it is refused for having none or for having more
abbrev pub IsWindowsReading : List ℕ → Result WindowsComponent (Bor (List ℕ)) → Type 0
IsWindowsReading text reading = MatchResult reading
    (λ component. parts_of windows text ≡ windows_part component ∷ [])
    (λ why. (parts_of windows text ≡ []) × (why.now ≡ codes "no component found")
    ⊎ (1 < length (parts_of windows text)) × (why.now ≡ codes "found more than one component"))
