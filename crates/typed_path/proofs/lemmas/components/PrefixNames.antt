-- Where the names of a prefix stand in the path that begins with it.
use Rattle.std.proofs.Common.{◌≡◌, ℕ, ◌+◌, ◌-◌, ◌≤◌, List, [], ◌∷◌, length, take, drop, slice_range, Some, refl, sym, ap, ◌∙◌, arith}
use Rattle.std.proofs.lemmas.Grind.{common_steps}
use Rattle.std.proofs.lemmas.List.{drop-drop}
use Rattle.typed_path.specs.declared.scan.separators.Separators.{Separators}
use Rattle.typed_path.specs.declared.scan.separators.Separators.TheVariants.{Either}
use Rattle.typed_path.specs.components.{windows, separators, Found, prefix_of, name, second_name, names_length, drive, Prefix, verbatim, verbatim_unc, verbatim_disk, device_ns, unc, disk}
use Rattle.typed_path.specs.queries.PrefixNames.{AreNamesOf, IsLetterAt}
use Rattle.typed_path.proofs.lemmas.components.Prefixes.{Read, of_verbatim_unc, of_verbatim_disk, of_verbatim, of_device, of_unc, of_disk, prefix-read, name-fits, names-fit, drive-size}

-- a name is the front of its text
name-front : (s : Separators) (rest : List ℕ) → take (length (name s rest)) rest ≡ name s rest
name-front s rest = grind (arith, common_steps)

-- where the second name stands behind the first
pub record StandsSecond (s : Separators) (rest : List ℕ) : Type 0 where
  pub short : length (second_name s rest) ≤ names_length s rest
  pub behind : length (name s rest) ≤ names_length s rest - length (second_name s rest)
  pub is : take (length (second_name s rest)) (drop (names_length s rest - length (second_name s rest)) rest) ≡ second_name s rest

pub second-stands : (s : Separators) (rest : List ℕ) → StandsSecond s rest
second-stands s rest = record { short = grind (arith, common_steps); behind = grind (arith, common_steps); is = grind (arith, common_steps) }

-- what stands between two places behind a mark
slice-behind : (k : ℕ) (t rest : List ℕ) → drop k t ≡ rest → (a b : ℕ) → slice_range t (k + a) (k + b) ≡ take (b - a) (drop a rest)
slice-behind k t rest e a b =
    let size : k + b - (k + a) ≡ b - a = omega arith in
    ap (λ n. take n (drop (k + a) t)) size ∙ ap (take (b - a)) (sym (drop-drop a k t) ∙ ap (drop a) e)

-- two names behind a mark
two-names : (s : Separators) (k : ℕ) (t rest : List ℕ) → drop k t ≡ rest → length t ≡ k + length rest
    → (slice_range t k (k + length (name s rest)) ≡ name s rest)
    × (slice_range t (k + names_length s rest - length (second_name s rest)) (k + names_length s rest) ≡ second_name s rest)
    × (k + length (name s rest) ≤ k + names_length s rest - length (second_name s rest))
    × (length (second_name s rest) ≤ k + names_length s rest)
    × (k + names_length s rest ≤ length t)
two-names s k t rest e size =
    let st = second-stands s rest in
    let n = names_length s rest in
    let l = length (second_name s rest) in
    let zero-place : k + 0 ≡ k = omega arith in
    let whole-name : length (name s rest) - 0 ≡ length (name s rest) = omega arith in
    let start : k + (n - l) ≡ k + n - l = omega (arith, st.short) in
    let long : n - (n - l) ≡ l = omega (arith, st.short) in (
      ap (λ from. slice_range t from (k + length (name s rest))) (sym zero-place) ∙ slice-behind k t rest e 0 (length (name s rest)) ∙ ap (λ m. take m rest) whole-name ∙ name-front s rest,
      ap (λ from. slice_range t from (k + n)) (sym start) ∙ slice-behind k t rest e (n - l) n ∙ ap (λ m. take m (drop (n - l) rest)) long ∙ st.is,
      omega (arith, st.short, st.behind),
      omega (arith, st.short),
      omega (arith, size, names-fit s rest),
    )

-- a name alone behind a mark
one-name : (s : Separators) (k : ℕ) (t rest : List ℕ) → drop k t ≡ rest → length t ≡ k + length rest
    → (slice_range t k (k + length (name s rest)) ≡ name s rest) × (k + length (name s rest) ≤ length t)
one-name s k t rest e size =
    let zero-place : k + 0 ≡ k = omega arith in
    let whole-name : length (name s rest) - 0 ≡ length (name s rest) = omega arith in
    (ap (λ from. slice_range t from (k + length (name s rest))) (sym zero-place) ∙ slice-behind k t rest e 0 (length (name s rest)) ∙ ap (λ m. take m rest) whole-name ∙ name-front s rest, omega (arith, size, name-fits s rest))

-- a letter that a text begins with
letter-front : (text : List ℕ) (letter : ℕ) → drive text ≡ Some letter → IsLetterAt text letter 0 1
letter-front (a ∷ b ∷ rest) letter e = (a, refl, grind arith)
letter-front (a ∷ []) letter e = cc e
letter-front [] letter e = cc e

letter-behind : (t rest : List ℕ) (letter : ℕ) → drop 4 t ≡ rest → drive rest ≡ Some letter → IsLetterAt t letter 4 5
letter-behind t rest letter e drives =
    let (b, is, up) = letter-front rest letter drives in
    (b, slice-behind 4 t rest e 0 1 ∙ is, up)

-- what a prefix of so many bytes promises of its names, by the places that are computed of it
abbrev pub HasNames : List ℕ → Prefix → ℕ → Type 0
HasNames t (verbatim_unc server share) n =
    (length share ≤ n) × (8 + length server ≤ length t) × AreNamesOf t (verbatim_unc server share) 8 (8 + length server) (n - length share) n
HasNames t (unc server share) n =
    (length share ≤ n) × (2 + length server ≤ length t) × AreNamesOf t (unc server share) 2 (2 + length server) (n - length share) n
HasNames t (verbatim name) n = AreNamesOf t (verbatim name) 4 n n n
HasNames t (device_ns name) n = AreNamesOf t (device_ns name) 4 n n n
HasNames t (verbatim_disk letter) n = AreNamesOf t (verbatim_disk letter) 4 5 5 5
HasNames t (disk letter) n = AreNamesOf t (disk letter) 0 1 1 1

read-has : (s : Separators) (t : List ℕ) (f : Found) → Read s t f → HasNames t f.prefix f.length
read-has s t _ (of_verbatim_unc rest mark filled) =
    let (first, second, apart, short, within) = two-names s 8 t rest mark.dropped mark.size in
    (short, omega (arith, apart, within), record { stand = (first, second); ordered = omega arith; apart = apart; second_ordered = omega (arith, short); within = within })
read-has s t _ (of_unc rest mark filled no_verbatim no_device) =
    let (first, second, apart, short, within) = two-names Either 2 t rest mark.dropped mark.size in
    (short, omega (arith, apart, within), record { stand = (first, second); ordered = omega arith; apart = apart; second_ordered = omega (arith, short); within = within })
read-has s t _ (of_verbatim rest mark filled no_unc no_drive) =
    let (first, within) = one-name s 4 t rest mark.dropped mark.size in
    record { stand = (first, refl); ordered = omega arith; apart = omega arith; second_ordered = omega arith; within = within }
read-has s t _ (of_device rest mark filled) =
    let (first, within) = one-name Either 4 t rest mark.dropped mark.size in
    record { stand = (first, refl); ordered = omega arith; apart = omega arith; second_ordered = omega arith; within = within }
read-has s t _ (of_verbatim_disk rest letter mark drives) =
    record { stand = (letter-behind t rest letter mark.dropped drives, refl); ordered = omega arith; apart = omega arith; second_ordered = omega arith; within = omega (arith, mark.size, drive-size rest letter drives) }
read-has s t _ (of_disk letter drives) =
    record { stand = (letter-front t letter drives, refl); ordered = omega arith; apart = omega arith; second_ordered = omega arith; within = omega (arith, drive-size t letter drives) }

pub names_stand : (t : List ℕ) (p : Prefix) (n : ℕ) → Some (record { prefix = p; length = n }) ≡ prefix_of windows t → HasNames t p n
names_stand t p n e = read-has (separators windows t) t (record { prefix = p; length = n }) (prefix-read t (record { prefix = p; length = n }) (sym e))
