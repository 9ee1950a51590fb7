-- What the words of a call ask the program for.
use Rattle.std.specs.Prelude.{ℕ, List, [], ◌∷◌, ◌||◌, codes, if◌then◌else◌}
use Rattle.std.specs.Str.{bytes_eq}
use Rattle.typath.specs.declared.words.Asked.{Asked}
use Rattle.typath.specs.declared.words.Asked.TheVariants.{Answers, Help, Version, Nothing}

-- what one word behind the program's name asks for
abbrev pub asked_by : List ℕ → Asked
asked_by word = if bytes_eq word (codes "--help") || bytes_eq word (codes "-h") then Help
    else if bytes_eq word (codes "--version") then Version
    else if bytes_eq word (codes "--") then Answers
    else Nothing

-- what all words ask for, of which the first is the program's name
abbrev pub asked_of : List (List ℕ) → Asked
asked_of [] = Answers
asked_of (name ∷ []) = Answers
asked_of (name ∷ word ∷ []) = asked_by word
asked_of (name ∷ word ∷ other ∷ words) = Nothing
