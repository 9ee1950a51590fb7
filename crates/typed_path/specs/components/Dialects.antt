-- The two ways of writing a path, and the bytes that separate its components.
use Rattle.std.specs.Prelude.{ℕ, List, [], ◌∷◌, Bool, true, false, ◌||◌, ◌==◌, nat_eq, codes, if◌then◌else◌}
use Rattle.std.specs.List.{starts_with}
use Rattle.typed_path.specs.declared.scan.separators.Separators.{Separators}
use Rattle.typed_path.specs.declared.scan.separators.Separators.TheVariants.{Slash, Backslash, Either}

pub data Dialect : Type 0 where
  unix windows : Dialect

-- the bytes `/`, `\`, `.`, `:` and `?`
abbrev pub slash : ℕ
slash = 47

abbrev pub backslash : ℕ
backslash = 92

abbrev pub dot : ℕ
dot = 46

abbrev pub colon : ℕ
colon = 58

abbrev pub question : ℕ
question = 63

-- whether a byte is one of the separators
abbrev pub is_separator : Separators → ℕ → Bool
is_separator Slash b = b == slash
is_separator Backslash b = b == backslash
is_separator Either b = b == slash || b == backslash

-- the text begins with exactly `\\?\`
abbrev pub begins_verbatim : List ℕ → Bool
begins_verbatim text = starts_with nat_eq text (backslash ∷ backslash ∷ question ∷ backslash ∷ [])

-- the separators of a text: a Windows text that begins with exactly `\\?\` is read verbatim
abbrev pub separators : Dialect → List ℕ → Separators
separators unix text = Slash
separators windows text = if begins_verbatim text then Backslash else Either

-- the dialect of the texts that have these separators
abbrev pub dialect_of : Separators → Dialect
dialect_of Slash = unix
dialect_of Backslash = windows
dialect_of Either = windows

-- in a text that is read verbatim a `.` is a component everywhere
abbrev pub is_verbatim : Separators → Bool
is_verbatim Slash = false
is_verbatim Backslash = true
is_verbatim Either = false

-- how the root is written
abbrev pub root_text : Separators → List ℕ
root_text Slash = slash ∷ []
root_text Backslash = backslash ∷ []
root_text Either = backslash ∷ []

-- how the root is written where a path is put together
abbrev pub root_of : Dialect → List ℕ
root_of unix = slash ∷ []
root_of windows = backslash ∷ []

-- the name of a dialect
abbrev pub label_of : Dialect → List ℕ
label_of unix = codes "unix"
label_of windows = codes "windows"

-- what the iterator over the components of a dialect is called
abbrev pub iterator_name : Dialect → List ℕ
iterator_name unix = codes "UnixComponents"
iterator_name windows = codes "WindowsComponents"
