-- The bytes that the key of a path feeds to a hasher, one word behind the other, and how bytes come into a buffer.
use Rattle.std.specs.Prelude.{◌≡◌, ◌≤◌, ◌↔◌, ◌+◌, ℕ, zero, suc, nat_lt, if◌then◌else◌, List, [], ◌∷◌, ◌++◌, length, take, drop, fold}
use Rattle.std.specs.Hash.{HashWrites}
use Rattle.typed_path.specs.order.Same.{IsSame}
use Rattle.std.specs.List.{concat}
use Rattle.typed_path.specs.components.Dialects.{Dialect}
use Rattle.typed_path.specs.components.Parts.{Placed, parts, kinds}
use Rattle.typed_path.specs.order.KeyWords.{key_words, kinds_key_words}

abbrev pub key_bytes : Dialect → List ℕ → List ℕ
key_bytes d t = concat (key_words d t)

-- what is left of these, where so many components are left
abbrev pub left_key_bytes : List Placed → List ℕ
left_key_bytes cs = concat (kinds_key_words (kinds (parts cs)))

-- so many bytes a word, and those left in the last one
abbrev pub chunked_by : ℕ → List ℕ → HashWrites
chunked_by zero bytes = bytes ∷ []
chunked_by (suc n) bytes = if nat_lt 128 (length bytes) then take 128 bytes ∷ chunked_by n (drop 128 bytes) else bytes ∷ []

-- the bytes of a key as they are fed to a hasher, 128 a word
abbrev pub chunked : List ℕ → HashWrites
chunked bytes = chunked_by (length bytes) bytes

abbrev pub key_writes : Dialect → List ℕ → HashWrites
key_writes d t = chunked (key_bytes d t)

-- bytes are taken behind some that wait, of which full words are fed, and those left wait: whatever comes behind them, all is fed in the end
abbrev pub AreFed : {S : Type 0} → (S → List ℕ → S) → List ℕ → S → List ℕ → List ℕ → S → Type 0
AreFed write bytes before waiting left after = (more : List ℕ) → fold write before (chunked (waiting ++ bytes ++ more)) ≡ fold write after (chunked (left ++ more))

-- two paths are fed alike exactly if they have the same components
abbrev pub AreFedAlike : Dialect → List ℕ → List ℕ → Type 0
AreFedAlike d t u = (key_writes d t ≡ key_writes d u) ↔ IsSame d t u

-- bytes are put into a buffer from a place on, if they fit, and where they end is told
pub record IsPutFrom (at : ℕ) (bytes old new : List ℕ) (end : ℕ) : Type 0 where
  pub ends : end ≡ at + length bytes
  pub long : length new ≡ length old
  pub put : end ≤ length old → new ≡ take at old ++ bytes ++ drop end old
