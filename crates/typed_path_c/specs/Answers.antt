-- What a call tells across the boundary: a status, an answer in a buffer, and its length.
use Rattle.std.specs.Prelude.{◌≡◌, ◌≤◌, ◌<◌, ℕ, zero, suc, List, [], ◌∷◌, ◌++◌, length, take, drop, Option, Some, None, Result, Ok, Err, IfOk, IsOk, MatchOption, Bool, false, true, fold, ℤ, pos, negsuc}
use Rattle.std.specs.declared.cmp.Ordering.{Ordering}
use Rattle.std.specs.declared.cmp.Ordering.TheVariants.{Less, Equal, Greater}
use Rattle.std.specs.Hash.DefaultHasher as sip
use Rattle.typed_path.specs.order.{key_bytes, key_words}
use Rattle.typed_path.specs.components.{Dialect, unix, windows}
use Rattle.typed_path.specs.declared.errors.CheckedPathError.{CheckedPathError}
use Rattle.typed_path.specs.declared.errors.CheckedPathError.TheVariants.{InvalidFilename, PathTraversalAttack, UnexpectedPrefix, UnexpectedRoot}
use Rattle.typed_path.specs.declared.errors.PortableError.{PortableError}
use Rattle.typed_path.specs.declared.errors.PortableError.TheVariants.{Prefix, Forbidden, Device, Ending, TooLong, NotText}
use Rattle.typed_path.specs.declared.errors.JoinError.{JoinError}
use Rattle.typed_path.specs.declared.errors.JoinError.TheVariants as join
use Rattle.typed_path.specs.declared.errors.JoinError.TheVariants.{Portable}
use Rattle.typed_path.specs.declared.errors.PathError.{PathError}
use Rattle.typed_path.specs.declared.errors.PathError.TheVariants as path
use Rattle.typed_path.specs.declared.errors.PathError.TheVariants.{Checked}
use Rattle.typed_path.specs.declared.errors.AbsolutizeError.{AbsolutizeError}
use Rattle.typed_path.specs.declared.errors.AbsolutizeError.TheVariants as absolute
use Rattle.typed_path.specs.declared.errors.AbsolutizeError.TheVariants.{Ambiguous}
use Rattle.typed_path.specs.changes.{push}
use Rattle.typed_path.specs.conversions.Convert.{converted, converted_checked, absolute_from, absolute_under}
use Rattle.typed_path.specs.places.{relative_text}
use Rattle.typed_path.specs.promises.{HasPrefixOf, LiesWithin, LiesBelow, StaysWithin, keeps_prefix}

-- the dialect that a number names
abbrev pub dialect_named : ℕ → Option Dialect
dialect_named zero = Some unix
dialect_named (suc zero) = Some windows
dialect_named (suc (suc n)) = None

-- the statuses
abbrev pub done : ℕ
done = 0

abbrev pub fault_status : CheckedPathError → ℕ
fault_status InvalidFilename = 1
fault_status PathTraversalAttack = 2
fault_status UnexpectedPrefix = 3
fault_status UnexpectedRoot = 4

abbrev pub portable_status : PortableError → ℕ
portable_status Prefix = 12
portable_status Forbidden = 13
portable_status Device = 14
portable_status Ending = 15
portable_status TooLong = 16
portable_status NotText = 17

abbrev pub out_of_memory : ℕ
out_of_memory = 5

abbrev pub too_small : ℕ
too_small = 6

abbrev pub bad_dialect : ℕ
bad_dialect = 7

abbrev pub none_there : ℕ
none_there = 8

abbrev pub ambiguous : ℕ
ambiguous = 9

abbrev pub bad_ends : ℕ
bad_ends = 10

-- a NUL at the beginning of what is left of a buffer
abbrev pub ended : List ℕ → List ℕ
ended [] = []
ended (b ∷ bytes) = 0 ∷ bytes

-- a buffer with an answer at its beginning, and a NUL behind that where there is room
abbrev pub filled : List ℕ → List ℕ → List ℕ
filled answer buffer = answer ++ ended (drop (length answer) buffer)

-- an answer is put into a buffer if it fits, and else the buffer stays; its length is told
abbrev pub IsPut : List ℕ → List ℕ → List ℕ → ℕ → ℕ → Type 0
IsPut answer old new len status =
    (length answer ≤ length old → (status ≡ done) × (new ≡ filled answer old))
    × (length old < length answer → (status ≡ too_small) × (new ≡ old))
    × (len ≡ length answer)

-- a buffer and a length are as they were
abbrev pub IsKept : List ℕ → ℕ → List ℕ → ℕ → Type 0
IsKept old told new len = (new ≡ old) × (len ≡ told)

-- an answer is put, or memory is refused and nothing changes
abbrev pub IsMade : List ℕ → List ℕ → ℕ → List ℕ → ℕ → ℕ → Type 0
IsMade answer old told new len status =
    (status ≡ out_of_memory → IsKept old told new len)
    × ((status ≡ out_of_memory → ⊥) → IsPut answer old new len status)

-- the same of an answer for each dialect, and for a number that names none
abbrev pub Makes : ℕ → (Dialect → List ℕ) → List ℕ → ℕ → List ℕ → ℕ → ℕ → Type 0
Makes number answer old told new len status =
    MatchOption (dialect_named number) ((status ≡ bad_dialect) × IsKept old told new len)
    (λ d. IsMade (answer d) old told new len status)

-- an answer is put, or it is told what it is refused for, and nothing changes
abbrev pub IsChecked : {E : Type 0} → (E → ℕ) → Option E → List ℕ → List ℕ → ℕ → List ℕ → ℕ → ℕ → Type 0
IsChecked told_by refused answer old told new len status =
    MatchOption refused (IsMade answer old told new len status) (λ e. (status ≡ told_by e) × IsKept old told new len)

-- the same of an answer and a refusal for each dialect, and for a number that names none
abbrev pub Joins : {E : Type 0} → ℕ → (E → ℕ) → (Dialect → Option E) → (Dialect → List ℕ) → List ℕ → ℕ → List ℕ → ℕ → ℕ → Type 0
Joins number told_by refused answer old told new len status =
    MatchOption (dialect_named number) ((status ≡ bad_dialect) × IsKept old told new len)
    (λ d. IsChecked told_by (refused d) (answer d) old told new len status)

-- a path that is joined to a base has the prefix of it, and lies within it
abbrev pub IsHeld : Dialect → List ℕ → List ℕ → List ℕ → Type 0
IsHeld d base path joined = HasPrefixOf d base joined × LiesWithin d base path joined × LiesBelow d base joined × StaysWithin d base joined

-- what was put does
abbrev pub LiesIn : ℕ → List ℕ → List ℕ → ℕ → List ℕ → ℕ → Type 0
LiesIn number base path status new len = (d : Dialect) → dialect_named number ≡ Some d → status ≡ done → IsHeld d base path (take len new)

-- the same where the base keeps its prefix
abbrev pub LiesInKept : ℕ → List ℕ → List ℕ → ℕ → List ℕ → ℕ → Type 0
LiesInKept number base path status new len =
    (d : Dialect) → dialect_named number ≡ Some d → status ≡ done → keeps_prefix d base ≡ true → IsHeld d base path (take len new)

-- a path that was accepted is held by each base
abbrev pub IsHeldByEach : ℕ → List ℕ → ℕ → Type 0
IsHeldByEach number path status = (d : Dialect) (base : List ℕ) → dialect_named number ≡ Some d → status ≡ done → IsHeld d base path (push d base path)

-- the status of a fault, or that there is none
abbrev pub status_by : {E : Type 0} → (E → ℕ) → Option E → ℕ
status_by status None = done
status_by status (Some e) = status e

-- a path is judged, and nothing else is told
abbrev pub Judges : ℕ → (Dialect → ℕ) → ℕ → Type 0
Judges number judged status = MatchOption (dialect_named number) (status ≡ bad_dialect) (λ d. status ≡ judged d)

-- a path in another dialect
abbrev pub Converts : ℕ → ℕ → List ℕ → List ℕ → ℕ → List ℕ → ℕ → ℕ → Type 0
Converts number other path old told new len status =
    MatchOption (dialect_named number) ((status ≡ bad_dialect) × IsKept old told new len)
    (λ d. Makes other (λ e. converted d e path) old told new len status)

-- the same unless a component is refused there: memory may be refused before that is seen
abbrev pub IsCrossed : Result (List ℕ) CheckedPathError → List ℕ → ℕ → List ℕ → ℕ → ℕ → Type 0
IsCrossed (Ok answer) old told new len status = IsMade answer old told new len status
IsCrossed (Err e) old told new len status = IsKept old told new len × ((status ≡ out_of_memory → ⊥) → status ≡ fault_status e)

abbrev pub Crosses : ℕ → ℕ → List ℕ → List ℕ → ℕ → List ℕ → ℕ → ℕ → Type 0
Crosses number other path old told new len status =
    MatchOption (dialect_named number) ((status ≡ bad_dialect) × IsKept old told new len)
    (λ d. MatchOption (dialect_named other) ((status ≡ bad_dialect) × IsKept old told new len)
    (λ e. IsCrossed (converted_checked d e path) old told new len status))

-- an absolute path is put, or told to be ambiguous
abbrev pub IsAbsolutized : Option (List ℕ) → List ℕ → ℕ → List ℕ → ℕ → ℕ → Type 0
IsAbsolutized None old told new len status = IsKept old told new len × ((status ≡ out_of_memory → ⊥) → status ≡ ambiguous)
IsAbsolutized (Some answer) old told new len status = IsMade answer old told new len status

-- a path made absolute from a directory on this machine
abbrev pub Absolutizes : ℕ → List ℕ → List ℕ → List ℕ → ℕ → List ℕ → ℕ → ℕ → Type 0
Absolutizes number directory path old told new len status =
    MatchOption (dialect_named number) ((status ≡ bad_dialect) × IsKept old told new len)
    (λ d. IsAbsolutized (absolute_from d directory path) old told new len status)

-- or from one of a dialect
abbrev pub AbsolutizesFrom : ℕ → ℕ → List ℕ → List ℕ → List ℕ → ℕ → List ℕ → ℕ → ℕ → Type 0
AbsolutizesFrom number other directory path old told new len status =
    MatchOption (dialect_named number) ((status ≡ bad_dialect) × IsKept old told new len)
    (λ d. MatchOption (dialect_named other) ((status ≡ bad_dialect) × IsKept old told new len)
    (λ e. IsAbsolutized (absolute_under d e directory path) old told new len status))

-- the statuses of errors
abbrev pub path_status : PathError → ℕ
path_status (Checked e) = fault_status e
path_status path.OutOfMemory = out_of_memory

abbrev pub join_status : JoinError → ℕ
join_status (Portable e) = portable_status e
join_status (join.Checked e) = fault_status e
join_status join.OutOfMemory = out_of_memory

abbrev pub absolute_status : AbsolutizeError → ℕ
absolute_status Ambiguous = ambiguous
absolute_status absolute.OutOfMemory = out_of_memory

-- a status is told, and nothing changes
abbrev pub IsRefused : ℕ → List ℕ → ℕ → List ℕ → ℕ → ℕ → Type 0
IsRefused why old told new len status = (status ≡ why) × IsKept old told new len

-- a question is answered, and with no where a number names no dialect
abbrev pub Tells : ℕ → (Dialect → Bool) → Bool → ℕ → Type 0
Tells number asked answer status =
    MatchOption (dialect_named number) ((status ≡ bad_dialect) × (answer ≡ false))
    (λ d. (status ≡ done) × (answer ≡ asked d))

-- an order as a number
abbrev pub order_number : Ordering → ℤ
order_number Less = negsuc 0
order_number Equal = pos 0
order_number Greater = pos 1

abbrev pub Orders : ℕ → (Dialect → Ordering) → ℤ → ℤ → ℕ → Type 0
Orders number asked old new status =
    MatchOption (dialect_named number) ((status ≡ bad_dialect) × (new ≡ old))
    (λ d. (status ≡ done) × (new ≡ order_number (asked d)))

-- the hash of a path under two keys: the words of its key, by SipHash 1-3
abbrev pub hash_of : Dialect → ℕ → ℕ → List ℕ → ℕ
hash_of d key0 key1 t = sip.finish (fold sip.write (sip.with_keys key0 key1) (key_words d t))

abbrev pub Hashes : ℕ → ℕ → ℕ → List ℕ → ℕ → ℕ → ℕ → Type 0
Hashes number key0 key1 path old new status =
    MatchOption (dialect_named number) ((status ≡ bad_dialect) × (new ≡ old))
    (λ d. (status ≡ done) × (new ≡ hash_of d key0 key1 path))

-- the words of its key are put behind each other
abbrev pub Keys : ℕ → List ℕ → List ℕ → ℕ → List ℕ → ℕ → ℕ → Type 0
Keys number path old told new len status =
    MatchOption (dialect_named number) ((status ≡ bad_dialect) × IsKept old told new len)
    (λ d. IsPut (key_bytes d path) old new len status)

-- where a call did it, what it put is the path that was made
abbrev pub StandsAsMade : {P E : Type 0} → (P → List ℕ) → Result P E → ℕ → List ℕ → Type 0
StandsAsMade bytes made status text = status ≡ done → IfOk made (λ p. bytes p ≡ text) × IsOk made

-- a buffer of so many bytes is never too small
abbrev pub Suffices : ℕ → List ℕ → ℕ → Type 0
Suffices bound buffer status = bound ≤ length buffer → status ≡ too_small → ⊥

-- a path that leads from a base is put, or it is told that there is none
abbrev pub IsFound : Option (List ℕ) → List ℕ → ℕ → List ℕ → ℕ → ℕ → Type 0
IsFound None old told new len status = (status ≡ none_there) × IsKept old told new len
IsFound (Some answer) old told new len status = IsMade answer old told new len status

abbrev pub Leads : ℕ → List ℕ → List ℕ → List ℕ → ℕ → List ℕ → ℕ → ℕ → Type 0
Leads number path base old told new len status =
    MatchOption (dialect_named number) ((status ≡ bad_dialect) × IsKept old told new len)
    (λ d. IsFound (relative_text d path base) old told new len status)
