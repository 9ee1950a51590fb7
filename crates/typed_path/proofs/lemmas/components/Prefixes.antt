-- The prefix of a Windows text: its separators and root, how many bytes it takes, its cases, their marks and what each was read from.
use Rattle.std.proofs.Common.{◌≡◌, ℕ, ◌==◌, Bool, true, false, List, [], ◌∷◌, refl, ◌+◌, ◌<◌, ◌≤◌, if◌then◌else◌, length, Option, Some, None, option_and_then, ap, arith, length-take, length-drop, zero, suc, ◌⊎◌, inl, inr, take, drop, sym, ◌∙◌, add_assoc, subst, eqb-true, drop-drop}
use Rattle.std.proofs.lemmas.Grind.{common_steps}
use Rattle.std.proofs.lemmas.Bool.{cond_both}
use Rattle.std.specs.Option.{option_or}
use Rattle.std.specs.List.{position_or_len}
use Rattle.typed_path.specs.declared.scan.separators.Separators.{Separators}
use Rattle.typed_path.specs.declared.scan.separators.Separators.TheVariants.{Backslash, Either}
use Rattle.typed_path.specs.components.{windows, dialect_of, separators, begins_verbatim, is_verbatim, backslash, dot, is_separator, root_text, Dialect, unix, question, Found, is_empty, drive, after_two, after_four, after_mark, after_unc, name, second_name, names_length, verbatim_unc_case, verbatim_disk_case, verbatim_case, device_case, unc_case, disk_case, prefix_of, found, verbatim, verbatim_unc, verbatim_disk, device_ns, unc, disk, IsPartedDrive}
use Rattle.typed_path.proofs.lemmas.lists.Options.{and_then-some, unless-some, where-some, some_is}
use Rattle.typed_path.proofs.lemmas.lists.Lists.{IsUnseparated}

-- The separators of a Windows text.

-- those of a text that is read verbatim, and those of another
abbrev pub OfWindows : Separators → Type 0
OfWindows s = dialect_of s ≡ windows

-- each Windows text has such
pub separators-windows : (text : List ℕ) → OfWindows (separators windows text)
separators-windows text = cond_both (begins_verbatim text) Backslash Either OfWindows (λ marked. refl) (λ plain. refl)

-- two texts of Windows are separated alike where both are read verbatim, or neither
pub same_separators : (t b : List ℕ) → is_verbatim (separators windows t) ≡ is_verbatim (separators windows b) → separators windows t ≡ separators windows b
same_separators t b = grind arith

-- `\` is one of them
pub backslash-separates : (s : Separators) → OfWindows s → is_separator s backslash ≡ true
backslash-separates s w = grind arith

-- and it is how a root is written
pub root_text-windows : (s : Separators) → OfWindows s → root_text s ≡ backslash ∷ []
root_text-windows s w = grind arith

-- what separates nothing holds no `\`
pub backslash-free : (s : Separators) → OfWindows s → (text : List ℕ) → IsUnseparated (is_separator s) text → IsUnseparated (is_separator Backslash) text
backslash-free s w text free = grind arith

-- a dot separates nothing
pub dot-unseparated : (s : Separators) → is_separator s dot ≡ false
dot-unseparated s = grind arith

-- How many bytes a prefix takes: more than none, and no more than the text has.

-- a mark is four bytes
after_four-size : (p q r s : ℕ → Bool) (text rest : List ℕ) → after_four p q r s text ≡ Some rest → length text ≡ 4 + length rest
after_four-size p q r s text rest e = grind arith

pub after_mark-size : (sign : ℕ) (text rest : List ℕ) → after_mark sign text ≡ Some rest → length text ≡ 4 + length rest
after_mark-size sign text rest e = after_four-size (is_separator Either) (is_separator Either) (λ b. b == sign) (is_separator Either) text rest e

pub after_unc-size : (s : Separators) (text rest : List ℕ) → after_unc s text ≡ Some rest → length text ≡ 4 + length rest
after_unc-size s text rest e = after_four-size (λ b. b == 85) (λ b. b == 78) (λ b. b == 67) (is_separator s) text rest e

-- two separators are two bytes
pub after_two-size : (text rest : List ℕ) → after_two text ≡ Some rest → length text ≡ 2 + length rest
after_two-size text rest e = grind arith

-- a drive is two bytes
pub drive-size : (text : List ℕ) (letter : ℕ) → drive text ≡ Some letter → 2 ≤ length text
drive-size text letter e = grind arith

-- a name is no longer than its text
pub name-fits : (s : Separators) (text : List ℕ) → length (name s text) ≤ length text
name-fits s text = omega (arith, length-take (position_or_len (is_separator s) text) text)

-- nor are two names with the separator between them
pub names-fit : (s : Separators) (text : List ℕ) → names_length s text ≤ length text
names-fit s text = grind (arith, length-take, name-fits, length-drop)

-- a prefix takes some bytes, and no more than the text has
pub record FoundFits (text : List ℕ) (f : Found) : Type 0 where
  pub filled : 0 < f.length
  pub fits : f.length ≤ length text

-- the verbatim share
verbatim_unc-fits : (s : Separators) (text : List ℕ) (f : Found) → verbatim_unc_case s text ≡ Some f → FoundFits text f
verbatim_unc-fits s text f e = grind (arith, after_mark-size, after_unc-size, names-fit)

-- the verbatim drive
verbatim_disk-fits : (text : List ℕ) (f : Found) → verbatim_disk_case text ≡ Some f → FoundFits text f
verbatim_disk-fits text f e = grind arith

-- the verbatim name
verbatim-fits : (s : Separators) (text : List ℕ) (f : Found) → verbatim_case s text ≡ Some f → FoundFits text f
verbatim-fits s text f e = grind (arith, after_mark-size, name-fits)

-- the device
device-fits : (text : List ℕ) (f : Found) → device_case text ≡ Some f → FoundFits text f
device-fits text f e = grind (arith, after_mark-size, name-fits)

-- the share
unc-fits : (text : List ℕ) (f : Found) → unc_case text ≡ Some f → FoundFits text f
unc-fits text f e = grind (arith, common_steps)

-- the drive
disk-fits : (text : List ℕ) (f : Found) → disk_case text ≡ Some f → FoundFits text f
disk-fits text f e = grind arith

-- the first of two cases that holds
or-fits : (text : List ℕ) (o p : Option Found) → ((f : Found) → o ≡ Some f → FoundFits text f) → ((f : Found) → p ≡ Some f → FoundFits text f) → (f : Found) → option_or o p ≡ Some f → FoundFits text f
or-fits text o p first others f e = grind arith

-- each prefix takes some bytes, and no more than the text has
pub prefix-fits : (d : Dialect) (text : List ℕ) (f : Found) → prefix_of d text ≡ Some f → FoundFits text f
prefix-fits unix text f e = cc
prefix-fits windows text f e =
    let s = separators windows text in
    or-fits text (verbatim_unc_case s text) _ (verbatim_unc-fits s text)
    (or-fits text (verbatim_disk_case text) _ (verbatim_disk-fits text)
    (or-fits text (verbatim_case s text) _ (verbatim-fits s text)
    (or-fits text (device_case text) _ (device-fits text)
    (or-fits text (unc_case text) (disk_case text) (unc-fits text) (disk-fits text))))) f e

-- The marks that a Windows prefix begins with, in a text that is cut behind them.

-- nothing, or the front of what there was
abbrev pub IsFront : Option (List ℕ) → Option (List ℕ) → Type 0
IsFront was now = (now ≡ None) ⊎ ((rest : List ℕ) × (m : ℕ) × (was ≡ Some rest) × (now ≡ Some (take m rest)))

-- what reads a mark of k bytes at the front of a text, and gives the rest, reads the same of a text that is cut behind the mark
pub record ReadsMark (k : ℕ) (read : List ℕ → Option (List ℕ)) : Type 0 where
  pub whole : (text rest : List ℕ) (m : ℕ) → read text ≡ Some rest → read (take (k + m) text) ≡ Some (take m rest)
  pub cut : (text : List ℕ) (e : ℕ) → IsFront (read text) (read (take e text))
  pub behind : (text rest : List ℕ) → read text ≡ Some rest → drop k text ≡ rest

-- a test at the front
by_test : (b : Bool) (text rest : List ℕ) (m : ℕ) → (if b then Some text else None) ≡ Some rest → (if b then Some (take m text) else None) ≡ Some (take m rest)
by_test b text rest m e = grind arith

-- the same, read back from the cut text
test_cut : (b : Bool) (text : List ℕ) (m : ℕ) → IsFront (if b then Some text else None) (if b then Some (take m text) else None)
test_cut b text m = grind arith

-- what stands behind four bytes
module _ (p q r s : ℕ → Bool) where
  after_four-short : (text : List ℕ) → length text < 4 → after_four p q r s text ≡ None
  after_four-short text h = grind arith

  pub after_four-reads : ReadsMark 4 (after_four p q r s)
  after_four-reads = record {
    whole = λ text rest m e. let size : 4 + m ≡ suc (suc (suc (suc m))) = omega arith in ap (λ n. after_four p q r s (take n text)) size ∙ whole text rest m e;
    cut = cut;
    behind = behind;
  }
    where
      whole : (text rest : List ℕ) (m : ℕ) → after_four p q r s text ≡ Some rest → after_four p q r s (take (suc (suc (suc (suc m)))) text) ≡ Some (take m rest)
      whole text rest m e = grind (arith, by_test)

      behind : (text rest : List ℕ) → after_four p q r s text ≡ Some rest → drop 4 text ≡ rest
      behind text rest e = grind (arith, where-some)

      cut : (text : List ℕ) (e : ℕ) → IsFront (after_four p q r s text) (after_four p q r s (take e text))
      cut (a ∷ b ∷ c ∷ d ∷ text) (suc (suc (suc (suc m)))) = test_cut _ text m
      cut (a ∷ b ∷ c ∷ d ∷ text) e = inl refl
      cut text e = inl (after_four-short (take e text) (omega (arith, length-take e text)))

-- a mark is four bytes, and so is `UNC` with its separator
pub after_mark-reads : (sign : ℕ) → ReadsMark 4 (after_mark sign)
after_mark-reads sign = after_four-reads (is_separator Either) (is_separator Either) (λ b. b == sign) (is_separator Either)

pub after_unc-reads : (s : Separators) → ReadsMark 4 (after_unc s)
after_unc-reads s = after_four-reads (λ b. b == 85) (λ b. b == 78) (λ b. b == 67) (is_separator s)

-- a mark has one sign
pub marks-differ : (text rest : List ℕ) → after_mark dot text ≡ Some rest → after_mark question text ≡ None
marks-differ text rest is = grind arith

-- a text of fewer than two bytes has no two separators
after_two-short : (text : List ℕ) → length text < 2 → after_two text ≡ None
after_two-short text h = grind arith

-- two separators are two bytes
pub after_two-reads : ReadsMark 2 after_two
after_two-reads = record { whole = λ text rest m e. let size : 2 + m ≡ suc (suc m) = omega arith in ap (λ n. after_two (take n text)) size ∙ whole text rest m e; cut = cut; behind = behind }
  where
    whole : (text rest : List ℕ) (m : ℕ) → after_two text ≡ Some rest → after_two (take (suc (suc m)) text) ≡ Some (take m rest)
    whole text rest m e = grind (arith, by_test)

    behind : (text rest : List ℕ) → after_two text ≡ Some rest → drop 2 text ≡ rest
    behind text rest e = grind (arith, where-some)

    cut : (text : List ℕ) (e : ℕ) → IsFront (after_two text) (after_two (take e text))
    cut (a ∷ b ∷ text) (suc (suc m)) = test_cut _ text m
    cut (a ∷ b ∷ text) e = inl refl
    cut text e = inl (after_two-short (take e text) (omega (arith, length-take e text)))

-- one mark behind another
pub both-read : (k l : ℕ) (f g : List ℕ → Option (List ℕ)) → ReadsMark k f → ReadsMark l g → ReadsMark (k + l) (λ text. option_and_then g (f text))
both-read k l f g first second = record {
  whole = λ text rest m e.
      let some = and_then-some g (f text) rest e in
      ap (λ n. option_and_then g (f (take n text))) (add_assoc k l m) ∙ ap (option_and_then g) (first.whole text some.0 (l + m) some.1) ∙ second.whole some.0 rest m some.2;
  cut = λ text e. outer text (take e text) (first.cut text e);
  behind = λ text rest e.
      let some = and_then-some g (f text) rest e in
      sym (drop-drop l k text) ∙ ap (drop l) (first.behind text some.0 some.1) ∙ second.behind some.0 rest some.2;
}
  where
    outer : (text now : List ℕ) → IsFront (f text) (f now) → IsFront (option_and_then g (f text)) (option_and_then g (f now))
    outer text now (inl none) = inl (ap (option_and_then g) none)
    outer text now (inr some) = inner (second.cut some.0 some.1)
      where
        inner : IsFront (g some.0) (g (take some.1 some.0)) → IsFront (option_and_then g (f text)) (option_and_then g (f now))
        inner h = grind arith

-- a drive is read off the first two bytes
pub drive-take : (m : ℕ) (text : List ℕ) → 2 ≤ m → drive (take m text) ≡ drive text
drive-take zero text h = absurd (omega arith)
drive-take (suc zero) text h = absurd (omega arith)
drive-take (suc (suc m)) (a ∷ b ∷ text) h = refl
drive-take (suc (suc m)) (a ∷ []) h = refl
drive-take (suc (suc m)) [] h = refl

-- a text without a drive has none where it is cut
pub drive-none : (m : ℕ) (text : List ℕ) → drive text ≡ None → drive (take m text) ≡ None
drive-none zero text none = refl
drive-none (suc zero) [] none = refl
drive-none (suc zero) (a ∷ text) none = refl
drive-none (suc (suc m)) text none = drive-take (suc (suc m)) text (omega arith) ∙ none

-- the prefix of a text whose separators are given
abbrev pub prefix_by : Separators → List ℕ → Option Found
prefix_by s text =
    option_or (verbatim_unc_case s text) (option_or (verbatim_disk_case text) (option_or (verbatim_case s text)
    (option_or (device_case text) (option_or (unc_case text) (disk_case text)))))

-- a text without a question mark has no verbatim prefix
pub prefix_by-unmarked : (s : Separators) (t : List ℕ) → after_mark question t ≡ None → prefix_by s t ≡ option_or (device_case t) (option_or (unc_case t) (disk_case t))
prefix_by-unmarked s t h = grind arith

-- a text that begins with no separator and no drive has no prefix
pub prefix_of-unseparated : (b : ℕ) (bs : List ℕ) → is_separator Either b ≡ false → drive (b ∷ bs) ≡ None → prefix_of windows (b ∷ bs) ≡ None
prefix_of-unseparated b bs plain no_drive = grind arith

-- What the prefix of a Windows text was read from.

-- what a mark of k bytes at the front of a text leaves
pub record IsBehindMark (k : ℕ) (mark : Option (List ℕ)) (text rest : List ℕ) : Type 0 where
  pub marked : mark ≡ Some rest
  pub dropped : drop k text ≡ rest
  pub size : length text ≡ k + length rest

-- the case that found a prefix, and what stands behind its mark
pub data Read (s : Separators) (text : List ℕ) : Found → Type 0 where
  of_verbatim_unc : (rest : List ℕ) → IsBehindMark 8 (option_and_then (after_unc s) (after_mark question text)) text rest → is_empty (name s rest) ≡ false
      → Read s text (found (verbatim_unc (name s rest) (second_name s rest)) (8 + names_length s rest))
  of_verbatim_disk : (rest : List ℕ) (letter : ℕ) → IsBehindMark 4 (after_mark question text) text rest → drive rest ≡ Some letter
      → Read s text (found (verbatim_disk letter) 6)
  of_verbatim : (rest : List ℕ) → IsBehindMark 4 (after_mark question text) text rest → is_empty rest ≡ false → verbatim_unc_case s text ≡ None → drive rest ≡ None
      → Read s text (found (verbatim (name s rest)) (4 + length (name s rest)))
  of_device : (rest : List ℕ) → IsBehindMark 4 (after_mark dot text) text rest → is_empty (name Either rest) ≡ false
      → Read s text (found (device_ns (name Either rest)) (4 + length (name Either rest)))
  of_unc : (rest : List ℕ) → IsBehindMark 2 (after_two text) text rest → is_empty (name Either rest) ≡ false → verbatim_case s text ≡ None → device_case text ≡ None
      → Read s text (found (unc (name Either rest) (second_name Either rest)) (2 + names_length Either rest))
  of_disk : (letter : ℕ) → drive text ≡ Some letter → Read s text (found (disk letter) 2)

-- a drive is missed where nothing is made of it
no_letter : (g : ℕ → Found) (o : Option ℕ) → option_and_then (λ letter. Some (g letter)) o ≡ None → o ≡ None
no_letter g o is = grind arith

module _ (s : Separators) (text : List ℕ) where
  -- what stands behind the mark of a verbatim prefix
  question_mark : (rest : List ℕ) → after_mark question text ≡ Some rest → IsBehindMark 4 (after_mark question text) text rest
  question_mark rest is = record { marked = is; dropped = (after_mark-reads question).behind text rest is; size = after_mark-size question text rest is }

  -- the first of two cases that holds
  or-read : (o p : Option Found) → ((f : Found) → o ≡ Some f → Read s text f) → (o ≡ None → (f : Found) → p ≡ Some f → Read s text f) → (f : Found) → option_or o p ≡ Some f → Read s text f
  or-read o p first others f is = grind arith

  -- the verbatim share
  verbatim_unc-read : (f : Found) → verbatim_unc_case s text ≡ Some f → Read s text f
  verbatim_unc-read f is =
      let outer = and_then-some _ (option_and_then (after_unc s) (after_mark question text)) f is in
      let inner = and_then-some (after_unc s) (after_mark question text) outer.0 outer.1 in
      let made = unless-some (is_empty (name s outer.0)) _ f outer.2 in
      subst (Read s text) made.1 (of_verbatim_unc outer.0 (record {
        marked = outer.1;
        dropped = (both-read 4 4 (after_mark question) (after_unc s) (after_mark-reads question) (after_unc-reads s)).behind text outer.0 outer.1;
        size = let mark = after_mark-size question text inner.0 inner.1 in let unc = after_unc-size s inner.0 outer.0 inner.2 in omega arith;
      }) made.0)

  -- the verbatim drive
  verbatim_disk-read : (f : Found) → verbatim_disk_case text ≡ Some f → Read s text f
  verbatim_disk-read f is =
      let outer = and_then-some _ (option_and_then drive (after_mark question text)) f is in
      let inner = and_then-some drive (after_mark question text) outer.0 outer.1 in
      subst (Read s text) (some_is outer.2) (of_verbatim_disk inner.0 outer.0 (question_mark inner.0 inner.1) inner.2)

  -- the verbatim name, where it is neither of these
  verbatim-read : verbatim_unc_case s text ≡ None → verbatim_disk_case text ≡ None → (f : Found) → verbatim_case s text ≡ Some f → Read s text f
  verbatim-read no_unc no_disk f is =
      let outer = and_then-some _ (after_mark question text) f is in
      let made = unless-some (is_empty outer.0) _ f outer.2 in
      let no_drive = no_letter (λ letter. found (verbatim_disk letter) 6) (drive outer.0)
      (ap (λ o. option_and_then (λ letter. Some (found (verbatim_disk letter) 6)) (option_and_then drive o)) (sym outer.1) ∙ no_disk) in
      subst (Read s text) made.1 (of_verbatim outer.0 (question_mark outer.0 outer.1) made.0 no_unc no_drive)

  -- the device
  device-read : (f : Found) → device_case text ≡ Some f → Read s text f
  device-read f is =
      let outer = and_then-some _ (after_mark dot text) f is in
      let made = unless-some (is_empty (name Either outer.0)) _ f outer.2 in
      subst (Read s text) made.1 (of_device outer.0 (record { marked = outer.1; dropped = (after_mark-reads dot).behind text outer.0 outer.1; size = after_mark-size dot text outer.0 outer.1 }) made.0)

  -- the share, where it has no mark
  unc-read : verbatim_case s text ≡ None → device_case text ≡ None → (f : Found) → unc_case text ≡ Some f → Read s text f
  unc-read no_verbatim no_device f is =
      let outer = and_then-some _ (after_two text) f is in
      let made = unless-some (is_empty (name Either outer.0)) _ f outer.2 in
      subst (Read s text) made.1 (of_unc outer.0 (record { marked = outer.1; dropped = after_two-reads.behind text outer.0 outer.1; size = after_two-size text outer.0 outer.1 }) made.0 no_verbatim no_device)

  -- the drive
  disk-read : (f : Found) → disk_case text ≡ Some f → Read s text f
  disk-read f is = let outer = and_then-some _ (drive text) f is in subst (Read s text) (some_is outer.2) (of_disk outer.0 outer.1)

-- each prefix was read from one of the six cases
pub prefix-read : (text : List ℕ) (f : Found) → prefix_of windows text ≡ Some f → Read (separators windows text) text f
prefix-read text f is =
    let s = separators windows text in
    or-read s text (verbatim_unc_case s text) _ (verbatim_unc-read s text)
    (λ no_unc. or-read s text (verbatim_disk_case text) _ (verbatim_disk-read s text)
    (λ no_disk. or-read s text (verbatim_case s text) _ (verbatim-read s text no_unc no_disk)
    (λ no_verbatim. or-read s text (device_case text) _ (device-read s text)
    (λ no_device. or-read s text (unc_case text) (disk_case text) (unc-read s text no_verbatim no_device)
    (λ none. disk-read s text))))) f is

-- no drive behind a mark is `UNC`, so either may be asked for first
pub drive_first : (s : Separators) (text : List ℕ) (o : Option Found) → option_or (verbatim_disk_case text) (option_or (verbatim_unc_case s text) o) ≡ option_or (verbatim_unc_case s text) (option_or (verbatim_disk_case text) o)
drive_first s text o = grind (arith, eqb-true)

-- what stands behind a drive is no longer than the text
pub parted-fits : (t : List ℕ) (a : Option ℕ) (v : List ℕ) → IsPartedDrive t a v → length v ≤ length t
parted-fits t a v own = grind arith
