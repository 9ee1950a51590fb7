-- What a status says, and what a kind of component is called.
use Rattle.std.specs.Prelude.{◌≡◌, ℕ, zero, suc, List, [], ◌∷◌, codes}
use Rattle.typed_path_c.specs.Answers.{none_there, IsKept, IsPut}

-- the text of a number, and nothing behind the last
abbrev pub text_at : List (List ℕ) → ℕ → List ℕ
text_at [] n = []
text_at (text ∷ texts) zero = text
text_at (text ∷ texts) (suc n) = text_at texts n

abbrev pub status_text : ℕ → List ℕ
status_text status = text_at
    (codes "done"
    ∷ codes "path contains invalid filename" ∷ codes "path attempts to escape original path"
    ∷ codes "path contains unexpected prefix" ∷ codes "path contains unexpected root"
    ∷ codes "out of memory" ∷ codes "answer does not fit" ∷ codes "number names no dialect"
    ∷ codes "there is none" ∷ codes "path is ambiguous"
    ∷ codes "an end lies before the one before it, or behind the names" ∷ codes "no reading of the path stands there"
    ∷ codes "path contains a prefix" ∷ codes "path contains a forbidden byte" ∷ codes "path contains a name that may be a device"
    ∷ codes "path contains a name that ends in a dot or a space" ∷ codes "path contains a name that is too long"
    ∷ codes "path contains a name that is not UTF-8" ∷ [])
    status

abbrev pub kind_text : ℕ → List ℕ
kind_text kind = text_at
    (codes "root" ∷ codes "current directory" ∷ codes "parent directory" ∷ codes "name"
    ∷ codes "verbatim prefix" ∷ codes "verbatim share" ∷ codes "verbatim drive"
    ∷ codes "device" ∷ codes "share" ∷ codes "drive" ∷ [])
    kind

-- a text is put, or it is told that there is none
abbrev pub Says : List ℕ → List ℕ → ℕ → List ℕ → ℕ → ℕ → Type 0
Says [] old told new len status = (status ≡ none_there) × IsKept old told new len
Says (b ∷ bytes) old told new len status = IsPut (b ∷ bytes) old new len status
