-- Single components of texts, as pure data, and which readings of a text are right.
use Rattle.std.specs.Prelude.{◌≡◌, ◌⊎◌, ◌<◌, ℕ, List, [], ◌∷◌, codes, length, Result, MatchResult, IfOk, IfErr, is_ok}
use Rattle.std.specs.Borrow.{Bor}
use Rattle.std.specs.declared.str.Utf8Error.{Utf8Error}
use Rattle.typed_path.specs.declared.utf8.windows.Utf8WindowsPrefix.{Utf8WindowsPrefix}
use Rattle.typed_path.specs.declared.utf8.windows.Utf8WindowsPrefixComponent.{Utf8WindowsPrefixComponent}
use Rattle.typed_path.specs.declared.unix.component.UnixComponent.{UnixComponent}
use Rattle.typed_path.specs.declared.utf8.unix.Utf8UnixComponent.{Utf8UnixComponent}
use Rattle.typed_path.specs.declared.utf8.unix.Utf8UnixComponent.TheVariants as unix
use Rattle.typed_path.specs.declared.utf8.windows.Utf8WindowsComponent.{Utf8WindowsComponent}
use Rattle.typed_path.specs.declared.utf8.windows.Utf8WindowsComponent.TheVariants as windows
use Rattle.typed_path.specs.components.Dialects.{slash, backslash}
use Rattle.typed_path.specs.components.Dialects as dialect
use Rattle.typed_path.specs.components.Parts.{Part, prefix_part, root_part, current_part, parent_part, name_part}
use Rattle.typed_path.specs.components.Comps.{parts_of}
use Rattle.typed_path.specs.views.TextPieceViews.{text_prefix}
use Rattle.typed_path.specs.texts.Texts.{is_text_part}
use Rattle.typed_path.specs.texts.TextErrors.{IsTextError, part_no_text}
use Rattle.typed_path.specs.views.UnixViews.{unix_part}
use Rattle.typed_path.specs.views.WindowsViews.{IsPrefixRefusal}

abbrev pub text_prefix_part : Utf8WindowsPrefixComponent → Part
text_prefix_part c = prefix_part (text_prefix c.kind) c.raw.now

-- a text is one prefix, with its text and without, or it is refused
abbrev pub IsTextPrefixComponentReading : List ℕ → Result Utf8WindowsPrefixComponent (Bor (List ℕ)) → Type 0
IsTextPrefixComponentReading text reading = MatchResult reading
    (λ component. parts_of dialect.windows text ≡ text_prefix_part component ∷ [])
    (λ why. IsPrefixRefusal text why.now)

abbrev pub IsTextPrefixReading : List ℕ → Result Utf8WindowsPrefix (Bor (List ℕ)) → Type 0
IsTextPrefixReading text reading = MatchResult reading
    (λ p. parts_of dialect.windows text ≡ prefix_part (text_prefix p) text ∷ [])
    (λ why. IsPrefixRefusal text why.now)

abbrev pub text_unix_part : Utf8UnixComponent → Part
text_unix_part unix.RootDir = root_part (slash ∷ [])
text_unix_part unix.CurDir = current_part
text_unix_part unix.ParentDir = parent_part
text_unix_part (unix.Normal name) = name_part name.now

abbrev pub text_windows_part : Utf8WindowsComponent → Part
text_windows_part (windows.Prefix c) = text_prefix_part c
text_windows_part windows.RootDir = root_part (backslash ∷ [])
text_windows_part windows.CurDir = current_part
text_windows_part windows.ParentDir = parent_part
text_windows_part (windows.Normal name) = name_part name.now

-- a text is one component, or it is refused for having none or for having more
abbrev pub IsTextUnixReading : List ℕ → Result Utf8UnixComponent (Bor (List ℕ)) → Type 0
IsTextUnixReading text reading = MatchResult reading
    (λ component. parts_of dialect.unix text ≡ text_unix_part component ∷ [])
    (λ why. (parts_of dialect.unix text ≡ []) × (why.now ≡ codes "no component found")
    ⊎ (1 < length (parts_of dialect.unix text)) × (why.now ≡ codes "found more than one component"))

abbrev pub IsTextWindowsReading : List ℕ → Result Utf8WindowsComponent (Bor (List ℕ)) → Type 0
IsTextWindowsReading text reading = MatchResult reading
    (λ component. parts_of dialect.windows text ≡ text_windows_part component ∷ [])
    (λ why. (parts_of dialect.windows text ≡ []) × (why.now ≡ codes "no component found")
    ⊎ (1 < length (parts_of dialect.windows text)) × (why.now ≡ codes "found more than one component"))

-- the same component of text, where its name is one, or else why it is none
abbrev pub IsTextOfUnix : UnixComponent → Result Utf8UnixComponent Utf8Error → Type 0
IsTextOfUnix component made =
    IfOk made (λ c. text_unix_part c ≡ unix_part component)
    × (is_ok made ≡ is_text_part (unix_part component))
    × IfErr made (IsTextError (part_no_text (unix_part component)))
