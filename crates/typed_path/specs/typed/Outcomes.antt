-- What calls of several families do to an owned path, and what they answer.
use Rattle.std.specs.Prelude.{◌≡◌, ◌≤◌, ◌+◌, ℕ, List, [], length, max, min, is_some, Bool, None, IsSome, Option, option_map, Result, IfOk, OnOk, OnErr, IsOk, Ok, Err, Some}
use Rattle.typed_path.specs.declared.errors.PathError.{PathError}
use Rattle.typed_path.specs.declared.errors.CheckedPathError.{CheckedPathError}
use Rattle.typed_path.specs.declared.errors.JoinError.{JoinError}
use Rattle.typed_path.specs.declared.errors.AbsolutizeError.{AbsolutizeError}
use Rattle.typed_path.specs.declared.errors.AbsolutizeError.TheVariants.{Ambiguous}
use Rattle.typed_path.specs.components.Dialects.{Dialect}
use Rattle.typed_path.specs.queries.Queries.{parent_of, file_name_of}
use Rattle.typed_path.specs.changes.Push.{push, FitsPush}
use Rattle.typed_path.specs.changes.Fault.{fault}
use Rattle.typed_path.specs.changes.Changes.{popped, without_file_name, with_file_name, with_extension, with_added_extension}
use Rattle.typed_path.specs.changes.Checked.{refusal}
use Rattle.typed_path.specs.changes.Joined.{join_fault, join_refusal}
use Rattle.typed_path.specs.places.Places.{normal_text}
use Rattle.typed_path.specs.places.Relative.{relative_text}
use Rattle.typed_path.specs.conversions.Convert.{converted_checked, absolute_under, platform}
use Rattle.typed_path.specs.promises.Promises.{HasPrefixOf, LiesWithin, HasNormalForm}
use Rattle.typed_path.specs.promises.Below.{LiesBelow, StaysWithin}
use Rattle.typed_path.specs.views.OwnedViews.{Owned}

-- the text stands there, or the call was refused and the path is as it was; it has no less room
abbrev pub IsChanged : {A E : Type 0} → Result A E → Owned → List ℕ → Owned → Type 0
IsChanged done old text new =
    OnOk done (new.bytes ≡ text)
    × OnErr done (new.bytes ≡ old.bytes)
    × (old.capacity ≤ new.capacity)

abbrev pub Pushes : {A E : Type 0} → Dialect → Owned → List ℕ → Result A E → Owned → Type 0
Pushes d old path done new =
    IsChanged done old (push d old.bytes path) new
    × (FitsPush d old.capacity old.bytes path → IsOk done)

-- and what is pushed lies within the path, where that keeps its prefix
abbrev pub PushesChecked : {A : Type 0} → Dialect → Owned → List ℕ → Result A PathError → Owned → Type 0
PushesChecked d old path done new =
    (refusal done ≡ fault d path)
    × IsChanged done old (push d old.bytes path) new
    × (IsSome (refusal done) → new ≡ old)
    × (fault d path ≡ None → FitsPush d old.capacity old.bytes path → IsOk done)
    × OnOk done (HasPrefixOf d old.bytes new.bytes)
    × OnOk done (LiesWithin d old.bytes path new.bytes)

abbrev pub Pops : Dialect → Owned → Bool → Owned → Type 0
Pops d old answer new =
    (new.bytes ≡ popped d old.bytes)
    × (answer ≡ is_some (parent_of d old.bytes))
    × (new.capacity ≡ old.capacity)

abbrev pub SetsFileName : {A E : Type 0} → Dialect → Owned → List ℕ → Result A E → Owned → Type 0
SetsFileName d old name done new =
    IsChanged done old (with_file_name d old.bytes name) new
    × (FitsPush d old.capacity (without_file_name d old.bytes) name → IsOk done)

abbrev pub SetsExtension : {E : Type 0} → Dialect → Owned → List ℕ → Result Bool E → Owned → Type 0
SetsExtension d old extension done new =
    IsChanged done old (with_extension d old.bytes extension) new
    × IfOk done (λ renamed. renamed ≡ is_some (file_name_of d old.bytes))
    × (file_name_of d old.bytes ≡ None → new ≡ old)
    × (length (with_extension d old.bytes extension) ≤ old.capacity → IsOk done)

abbrev pub AddsExtension : {E : Type 0} → Dialect → Owned → List ℕ → Result Bool E → Owned → Type 0
AddsExtension d old extension done new =
    IsChanged done old (with_added_extension d old.bytes extension) new
    × IfOk done (λ renamed. renamed ≡ is_some (file_name_of d old.bytes))
    × (file_name_of d old.bytes ≡ None → new ≡ old)
    × (extension ≡ [] → new ≡ old)
    × (length (with_added_extension d old.bytes extension) ≤ old.capacity → IsOk done)

-- the empty path, with the room that there was
abbrev pub Clears : Owned → Owned → Type 0
Clears old new = (new.bytes ≡ []) × (new.capacity ≡ old.capacity)

-- room for so many bytes more, or as much as there was
abbrev pub Reserves : {A E : Type 0} → Owned → ℕ → Result A E → Owned → Type 0
Reserves old additional done new =
    (new.bytes ≡ old.bytes)
    × OnOk done (length new.bytes + additional ≤ new.capacity)
    × (old.capacity ≤ new.capacity)
    × OnErr done (new.capacity ≡ old.capacity)
    × (length old.bytes + additional ≤ old.capacity → IsOk done)

-- the same, and no more than is asked for
abbrev pub ReservesExactly : {A E : Type 0} → Owned → ℕ → Result A E → Owned → Type 0
ReservesExactly old additional done new =
    (new.bytes ≡ old.bytes)
    × OnOk done (new.capacity ≡ max old.capacity (length old.bytes + additional))
    × OnErr done (new.capacity ≡ old.capacity)
    × (length old.bytes + additional ≤ old.capacity → IsOk done)

-- no more room than there was, and at least so much as was asked for of it
abbrev pub ShrinksTo : {A E : Type 0} → Owned → ℕ → Result A E → Owned → Type 0
ShrinksTo old least done new =
    IsOk done
    × (new.bytes ≡ old.bytes)
    × (new.capacity ≤ old.capacity)
    × (min least old.capacity ≤ new.capacity)
    × (old.bytes ≡ [] → least ≡ 0 → new.capacity ≡ 0)

-- a path with another pushed onto it, which is refused for its fault and else lies within the base
abbrev pub JoinsChecked : {P : Type 0} → Dialect → (P → List ℕ) → List ℕ → List ℕ → Result P PathError → Type 0
JoinsChecked d bytes base path done =
    (refusal done ≡ fault d path)
    × IfOk done (λ p. bytes p ≡ push d base path)
    × IfOk done (λ p. HasPrefixOf d base (bytes p))
    × IfOk done (λ p. LiesWithin d base path (bytes p))
    × IfOk done (λ p. LiesBelow d base (bytes p))
    × IfOk done (λ p. StaysWithin d base (bytes p))

-- the same of a portable path, which is refused for either fault
abbrev pub JoinsPortable : {P : Type 0} → Dialect → (P → List ℕ) → List ℕ → List ℕ → Result P JoinError → Type 0
JoinsPortable d bytes base path done =
    (join_refusal done ≡ join_fault d path)
    × IfOk done (λ p. bytes p ≡ push d base path)
    × IfOk done (λ p. HasPrefixOf d base (bytes p))
    × IfOk done (λ p. LiesWithin d base path (bytes p))
    × IfOk done (λ p. LiesBelow d base (bytes p))
    × IfOk done (λ p. StaysWithin d base (bytes p))

abbrev pub Normalizes : {P E : Type 0} → Dialect → (P → List ℕ) → List ℕ → Result P E → Type 0
Normalizes d bytes path done =
    IfOk done (λ p. bytes p ≡ normal_text d path)
    × IfOk done (λ p. HasNormalForm d path (bytes p))

-- the path that leads from a base to a path, where there is one; where there is none, the call is not refused
abbrev pub LeadsFrom : {P E : Type 0} → Dialect → (P → List ℕ) → List ℕ → List ℕ → Result (Option P) E → Type 0
LeadsFrom d bytes base path done =
    IfOk done (λ found. option_map bytes found ≡ relative_text d path base)
    × (relative_text d path base ≡ None → IsOk done)

-- a path in another dialect, or what its first component that is refused there is refused for
abbrev pub ConvertsChecked : {P : Type 0} → Dialect → Dialect → (P → List ℕ) → List ℕ → Result P PathError → Type 0
ConvertsChecked d e bytes path done =
    IfOk done (λ p. converted_checked d e path ≡ Ok (bytes p))
    × ((why : CheckedPathError) → refusal done ≡ Some why → converted_checked d e path ≡ Err why)

-- a path made absolute from a directory, or refused where it is absolute neither alone nor there
abbrev pub AbsolutizesFrom : {P : Type 0} → Dialect → Dialect → (P → List ℕ) → List ℕ → List ℕ → Result P AbsolutizeError → Type 0
AbsolutizesFrom d e bytes directory path done =
    IfOk done (λ p. absolute_under d e directory path ≡ Some (bytes p))
    × (done ≡ Err Ambiguous → absolute_under d e directory path ≡ None)

-- the same from a directory on this machine
abbrev pub Absolutizes : {P : Type 0} → Dialect → (P → List ℕ) → List ℕ → List ℕ → Result P AbsolutizeError → Type 0
Absolutizes d bytes directory path done = AbsolutizesFrom d platform bytes directory path done
