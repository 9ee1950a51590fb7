-- The names of a prefix, a Windows text that is cut behind its prefix, what it is read as, and how many bytes a prefix takes of it.
use Rattle.std.proofs.Common.{◌≡◌, ℕ, zero, suc, ◌+◌, ◌-◌, ◌<◌, ◌≤◌, Bool, true, false, not, nat_lt, List, [], ◌∷◌, inl, inr, length, min, take, drop, sym, ap, ap₂, ◌∙◌, arith, length-take, take_all, take-take, if◌then◌else◌, Option, Some, None, option_and_then, refl, subst, ne_eqb, nat_eq, ◌⊎◌, ◌++◌, lt-ltb, le-ltb, eq-eqb, eqb-true, length-append, length-drop}
use Rattle.std.specs.List.{position_or_len, after_first}
use Rattle.std.proofs.lemmas.Bool.{cases_lt, cond-true, cond-false, cases_Bool, false_from_ne_true, eqb-false, both_ways}
use Rattle.std.proofs.lemmas.List.{drop-take, drop-append-le}
use Rattle.std.proofs.lemmas.List.Sums.{prefix_len-le-length}
use Rattle.std.specs.Option.{option_or}
use Rattle.std.specs.Cmp.Lexicographic.{pointwise}
use Rattle.std.proofs.lemmas.Bool.Decides.{Decides-eqb}
use Rattle.std.proofs.lemmas.Slice.Eq.{starts_is}
use Rattle.typed_path.specs.declared.scan.separators.Separators.{Separators}
use Rattle.typed_path.specs.declared.scan.separators.Separators.TheVariants.{Either, Backslash}
use Rattle.typed_path.specs.components.{is_separator, question, dot, windows, backslash, separators, begins_verbatim, is_empty, name, second_name, names_length, Found, found, drive, after_two, after_mark, after_unc, verbatim_unc_case, verbatim_disk_case, verbatim_case, device_case, unc_case, disk_case, prefix_of, Prefix, verbatim, verbatim_unc, verbatim_disk, device_ns, unc, disk, parts_of, kinds, parts, comps, comps_behind, prefix_part}
use Rattle.typed_path.specs.queries.{is_disk, is_verbatim_prefix, begins_with_prefix, has_any_verbatim_prefix, first_prefix}
use Rattle.typed_path.proofs.lemmas.components.Prefixes.{ReadsMark, IsFront, after_mark-reads, after_unc-reads, after_two-reads, both-read, drive-take, drive-none, OfWindows, separators-windows, backslash-separates, name-fits, Read, of_verbatim_unc, of_verbatim_disk, of_verbatim, of_device, of_unc, of_disk, prefix-read, prefix_by}
use Rattle.typed_path.proofs.lemmas.components.Segments.{position-append, body_parts, parts_behind, parts-comps_behind}
use Rattle.typed_path.proofs.lemmas.lists.Options.{and_then-some, unless-some, some_is, unless-none}
use Rattle.typed_path.proofs.lemmas.lists.Lists.{prefix_len-take}
use Rattle.std.proofs.lemmas.Grind.{common_steps}

-- The names at the front of a text that is cut behind them.

module _ (s : Separators) where
  -- a name is as long as the place where it ends
  pub name-length : (text : List ℕ) → length (name s text) ≡ position_or_len (is_separator s) text
  name-length text = omega (arith, length-take (position_or_len (is_separator s) text) text, prefix_len-le-length (λ b. not (is_separator s b)) text)

  -- where a text is cut, its name ends there at the latest
  position-take : (m : ℕ) (text : List ℕ) → position_or_len (is_separator s) (take m text) ≡ min m (position_or_len (is_separator s) text)
  position-take m text = prefix_len-take (λ b. not (is_separator s b)) m text

  -- a text that begins with no separator begins with a name
  pub name-filled : (b : ℕ) (bs : List ℕ) → is_separator s b ≡ false → 0 < length (name s (b ∷ bs))
  name-filled b bs h = rw (name-length (b ∷ bs), h) (omega arith)

  -- a text cut behind its name has the same name
  pub name-take : (m : ℕ) (text : List ℕ) → length (name s text) ≤ m → name s (take m text) ≡ name s text
  name-take m text fits = grind (arith, position-take, name-length, take-take)

  -- a text without a name has none where it is cut
  pub empty-take : (m : ℕ) (text : List ℕ) → is_empty (name s text) ≡ true → is_empty (name s (take m text)) ≡ true
  empty-take m text none = eq-eqb _ 0 (omega (arith, eqb-true _ 0 none, name-length text, name-length (take m text), position-take m text))

  -- a text cut behind two names has the same two names
  pub record SameNames (m : ℕ) (text : List ℕ) : Type 0 where
    pub first : name s (take m text) ≡ name s text
    pub second : second_name s (take m text) ≡ second_name s text
    pub size : names_length s (take m text) ≡ names_length s text

  pub names-take : (m : ℕ) (text : List ℕ) → names_length s text ≤ m → SameNames m text
  names-take m text fits = elim (cases_lt (length (name s text)) (length text)) [
    | inl less ↦
        let p = is_separator s in
        let n = position_or_len p text in
        let long : names_length s text ≡ length (name s text) + 1 + length (second_name s text) = cond-true (nat_lt (length (name s text)) (length text)) _ _ (lt-ltb _ _ less) in
        let same : name s (take m text) ≡ name s text = name-take m text (omega arith) in
        let place : position_or_len p (take m text) ≡ n = omega (arith, position-take m text, name-length text) in
        let size : m ≡ n + 1 + (m - (n + 1)) = omega (arith, name-length text) in
        let rest : after_first p (take m text) ≡ take (m - (n + 1)) (after_first p text) = ap (λ k. drop (k + 1) (take m text)) place ∙ ap (λ k. drop (n + 1) (take k text)) size ∙ drop-take (n + 1) (m - (n + 1)) text in
        let behind : second_name s (take m text) ≡ second_name s text = ap (name s) rest ∙ name-take (m - (n + 1)) (after_first p text) (omega (arith, name-length text)) in
        let inside : length (name s (take m text)) < length (take m text) = omega (arith, ap length same, length-take m text) in
        record {
          first = same;
          second = behind;
          size = cond-true (nat_lt (length (name s (take m text))) (length (take m text))) _ _ (lt-ltb _ _ inside) ∙ ap₂ (λ a b. length a + 1 + length b) same behind ∙ sym long;
        }
    | inr most ↦
        let long : names_length s text ≡ length (name s text) = cond-false (nat_lt (length (name s text)) (length text)) _ _ (le-ltb _ _ most) in
        let whole : take m text ≡ text = take_all m text (omega arith) in
        record { first = ap (name s) whole; second = ap (second_name s) whole; size = ap (names_length s) whole }
  ]

-- A Windows text that is cut behind its prefix begins with the same prefix.

-- a text is cut at or behind the end of its prefix, and where it is cut at the end, no separator stands there
pub record IsBehind (s : Separators) (text : List ℕ) (e : ℕ) (f : Found) : Type 0 where
  pub fits : f.length ≤ e
  pub joint : f.length ≡ e → (b : ℕ) (bs : List ℕ) → drop e text ≡ b ∷ bs → is_separator s b ≡ false

-- a case that reads a mark, and then names behind it
abbrev marked_case : (List ℕ → Option (List ℕ)) → (List ℕ → Bool) → (List ℕ → Found) → List ℕ → Option Found
marked_case read test make text = option_and_then (λ rest. if test rest then None else Some (make rest)) (read text)

module _ (s : Separators) (text : List ℕ) (e : ℕ) where
  -- a case finds in the text that is cut what it found in the whole text
  pub record Keeps (was now : Option Found) : Type 0 where
    pub some : (f : Found) → was ≡ Some f → IsBehind s text e f → now ≡ Some f
    pub none : was ≡ None → now ≡ None

  -- so do two cases of which the first that holds counts
  or-keeps : (was now others others_now : Option Found) → Keeps was now → Keeps others others_now → Keeps (option_or was others) (option_or now others_now)
  or-keeps was now others others_now first rest = grind arith

  -- what the names behind a mark of k bytes are, where the text is cut
  record KeepsNames (k : ℕ) (test : List ℕ → Bool) (make : List ℕ → Found) : Type 0 where
    pub long : (rest : List ℕ) → IsBehind s text e (make rest) → k ≤ e
    pub stays_empty : (rest : List ℕ) (m : ℕ) → test rest ≡ true → test (take m rest) ≡ true
    pub stays : (rest : List ℕ) (m : ℕ) → drop k text ≡ rest → e ≡ k + m → test rest ≡ false → IsBehind s text e (make rest) → (test (take m rest) ≡ false) × (make (take m rest) ≡ make rest)

  -- such a case finds in the text that is cut what it found in the whole text
  marked-keeps : (k : ℕ) (read : List ℕ → Option (List ℕ)) (test : List ℕ → Bool) (make : List ℕ → Found) → ReadsMark k read → KeepsNames k test make
      → Keeps (marked_case read test make text) (marked_case read test make (take e text))
  marked-keeps k read test make reads names = record { some = some; none = λ was. none was (reads.cut text e) }
    where
      g : List ℕ → Option Found
      g rest = if test rest then None else Some (make rest)

      some : (f : Found) → marked_case read test make text ≡ Some f → IsBehind s text e f → marked_case read test make (take e text) ≡ Some f
      some f was h =
          let found = and_then-some g (read text) f was in
          let is = unless-some (test found.0) (make found.0) f found.2 in
          let behind = subst (IsBehind s text e) (sym is.1) h in
          let m = e - k in
          let size : e ≡ k + m = omega (arith, names.long found.0 behind) in
          let same = names.stays found.0 m (reads.behind text found.0 found.1) size is.0 behind in
          ap (λ n. option_and_then g (read (take n text))) size
          ∙ ap (option_and_then g) (reads.whole text found.0 m found.1)
          ∙ cond-false (test (take m found.0)) None (Some (make (take m found.0))) same.0
          ∙ ap Some (same.1 ∙ is.1)

      none : marked_case read test make text ≡ None → IsFront (read text) (read (take e text)) → marked_case read test make (take e text) ≡ None
      none was h = grind (arith, g, unless-none, cond-true)

  -- two names with a separator between them
  two-keep : (k : ℕ) (t : Separators) (make : List ℕ → List ℕ → Prefix) → KeepsNames k (λ rest. is_empty (name t rest)) (λ rest. found (make (name t rest) (second_name t rest)) (k + names_length t rest))
  two-keep k t make = record {
    long = λ rest h. let fits = h.fits in omega arith;
    stays_empty = λ rest m h. empty-take t m rest h;
    stays = λ rest m is size filled h.
        let fits = h.fits in
        let same = names-take t m rest (omega arith) in
        (ap is_empty same.first ∙ filled, λ i. found (make (same.first i) (same.second i)) (k + same.size i));
  }

  -- one name
  one-keeps : (k : ℕ) (t : Separators) (make : List ℕ → Prefix) → KeepsNames k (λ rest. is_empty (name t rest)) (λ rest. found (make (name t rest)) (k + length (name t rest)))
  one-keeps k t make = record {
    long = λ rest h. let fits = h.fits in omega arith;
    stays_empty = λ rest m h. empty-take t m rest h;
    stays = λ rest m is size filled h.
        let fits = h.fits in
        let same = name-take t m rest (omega arith) in
        (ap is_empty same ∙ filled, ap (λ n. found (make n) (k + length n)) same);
  }

  -- a verbatim name may be empty where a separator follows it
  verbatim-keeps : KeepsNames 4 is_empty (λ rest. found (verbatim (name s rest)) (4 + length (name s rest)))
  verbatim-keeps = record {
    long = λ rest h. let fits = h.fits in omega arith;
    stays_empty = λ rest m h. eq-eqb _ 0 (omega (arith, eqb-true _ 0 h, length-take m rest));
    stays = λ rest m is size filled h.
        let fits = h.fits in
        (not_empty rest m is size filled h, ap (λ n. found (verbatim n) (4 + length n)) (name-take s m rest (omega arith)));
  }
    where
      not_empty : (rest : List ℕ) (m : ℕ) → drop 4 text ≡ rest → e ≡ 4 + m → is_empty rest ≡ false → IsBehind s text e (found (verbatim (name s rest)) (4 + length (name s rest))) → is_empty (take m rest) ≡ false
      not_empty [] m is size filled h = cc
      not_empty (b ∷ bs) (suc m) is size filled h = ne_eqb _ 0 (λ none. omega arith)
      not_empty (b ∷ bs) zero is size filled h =
          let fits = h.fits in
          let four : e ≡ 4 = omega arith in
          let ends : 4 + length (name s (b ∷ bs)) ≡ e = omega arith in
          absurd (omega (arith, name-filled s b bs (h.joint ends b bs (ap (λ n. drop n text) four ∙ is))))

  -- a drive
  disk-keeps : Keeps (disk_case text) (disk_case (take e text))
  disk-keeps = grind (arith, drive-take, drive-none)

  -- a drive behind a mark
  verbatim_disk-keeps : Keeps (verbatim_disk_case text) (verbatim_disk_case (take e text))
  verbatim_disk-keeps = record { some = some; none = λ was. none was ((after_mark-reads question).cut text e) }
    where
      g : ℕ → Option Found
      g letter = Some (found (verbatim_disk letter) 6)

      some : (f : Found) → verbatim_disk_case text ≡ Some f → IsBehind s text e f → verbatim_disk_case (take e text) ≡ Some f
      some f was h =
          let letter = and_then-some g (option_and_then drive (after_mark question text)) f was in
          let mark = and_then-some drive (after_mark question text) letter.0 letter.1 in
          let size : 6 ≡ f.length = ap (λ g. g.length) (some_is letter.2) in
          let fits = h.fits in
          let m = e - 4 in
          let long : e ≡ 4 + m = omega arith in
          ap (λ n. option_and_then g (option_and_then drive (after_mark question (take n text)))) long
          ∙ ap (λ o. option_and_then g (option_and_then drive o)) ((after_mark-reads question).whole text mark.0 m mark.1)
          ∙ ap (option_and_then g) (drive-take m mark.0 (omega arith) ∙ mark.2) ∙ letter.2

      none : verbatim_disk_case text ≡ None → IsFront (after_mark question text) (after_mark question (take e text)) → verbatim_disk_case (take e text) ≡ None
      none was (inl nothing) = ap (λ o. option_and_then g (option_and_then drive o)) nothing
      none was (inr front) =
          ap (λ o. option_and_then g (option_and_then drive o)) front.3
          ∙ ap (option_and_then g) (drive-none front.1 front.0 (no_letter (drive front.0) (ap (λ o. option_and_then g (option_and_then drive o)) (sym front.2) ∙ was)))
        where
          no_letter : (o : Option ℕ) → option_and_then g o ≡ None → o ≡ None
          no_letter o is = grind arith

  -- all six cases
  pub prefix-keeps : Keeps (prefix_by s text) (prefix_by s (take e text))
  prefix-keeps =
      or-keeps (verbatim_unc_case s text) _ _ _ (marked-keeps 8 (λ t. option_and_then (after_unc s) (after_mark question t)) _ _ (both-read 4 4 (after_mark question) (after_unc s) (after_mark-reads question) (after_unc-reads s)) (two-keep 8 s verbatim_unc))
      (or-keeps (verbatim_disk_case text) _ _ _ verbatim_disk-keeps
      (or-keeps (verbatim_case s text) _ _ _ (marked-keeps 4 (after_mark question) _ _ (after_mark-reads question) verbatim-keeps)
      (or-keeps (device_case text) _ _ _ (marked-keeps 4 (after_mark dot) _ _ (after_mark-reads dot) (one-keeps 4 Either device_ns))
      (or-keeps (unc_case text) _ _ _ (marked-keeps 2 after_two _ _ after_two-reads (two-keep 2 Either unc))
      disk-keeps))))

-- A Windows text that is cut behind its prefix keeps its separators and its prefix.

-- a text that is read verbatim is its first four bytes, and a rest
pub verbatim_text : (text : List ℕ) → begins_verbatim text ≡ true → text ≡ backslash ∷ backslash ∷ question ∷ backslash ∷ drop 4 text
verbatim_text text h = (starts_is Decides-eqb text (backslash ∷ backslash ∷ question ∷ backslash ∷ []) true (sym h)).0 refl

-- a text cut behind its first four bytes is read verbatim where the whole text is
pub verbatim-take : (text : List ℕ) (e : ℕ) → 4 ≤ e → begins_verbatim (take e text) ≡ begins_verbatim text
verbatim-take text e h = ap (pointwise nat_eq (backslash ∷ backslash ∷ question ∷ backslash ∷ [])) (take-take 4 e text h)

-- a text that is not read verbatim is not where it is cut
plain-take : (text : List ℕ) (e : ℕ) → begins_verbatim text ≡ false → begins_verbatim (take e text) ≡ false
plain-take text e plain = elim (cases_lt e 4) [
  | inl short ↦ false_from_ne_true _ (λ h. omega (arith, length-take e text, ap length (verbatim_text (take e text) h)))
  | inr long ↦ verbatim-take text e long ∙ plain
]

-- a text that is read verbatim with more behind its mark has a verbatim name
verbatim_case-some : (b : ℕ) (bs : List ℕ) → verbatim_case Backslash (backslash ∷ backslash ∷ question ∷ backslash ∷ b ∷ bs) ≡ Some (found (verbatim (name Backslash (b ∷ bs))) (4 + length (name Backslash (b ∷ bs))))
verbatim_case-some b bs = cond-false (is_empty (b ∷ bs)) None (Some (found (verbatim (name Backslash (b ∷ bs))) (4 + length (name Backslash (b ∷ bs))))) (ne_eqb _ 0 (λ none. omega arith))

-- a text that is read verbatim has a prefix of four bytes or more
pub verbatim-long : (rest : List ℕ) (f : Found) → prefix_of windows (backslash ∷ backslash ∷ question ∷ backslash ∷ rest) ≡ Some f → 4 ≤ f.length
verbatim-long rest f e = grind (arith, and_then-some, unless-some, verbatim_case-some)

-- a text that is read verbatim has a prefix
verbatim-found : (rest : List ℕ) → prefix_of windows (backslash ∷ backslash ∷ question ∷ backslash ∷ rest) ≡ None → ⊥
verbatim-found rest e = grind arith

-- a text with a prefix keeps it, and its separators
pub record SamePrefix (text : List ℕ) (e : ℕ) : Type 0 where
  pub same_separators : separators windows (take e text) ≡ separators windows text
  pub same_prefix : prefix_of windows (take e text) ≡ prefix_of windows text

-- the separators and the prefix stay where the text is read verbatim or not as before
same_from : (text : List ℕ) (e : ℕ) → begins_verbatim (take e text) ≡ begins_verbatim text → prefix_by (separators windows text) (take e text) ≡ prefix_of windows text → SamePrefix text e
same_from text e same is = grind arith

-- they stay where the text is cut behind its prefix
pub same-found : (text : List ℕ) (e : ℕ) (f : Found) → prefix_of windows text ≡ Some f → IsBehind (separators windows text) text e f → SamePrefix text e
same-found text e f is behind = same_from text e (by (cases_Bool (begins_verbatim text))) ((prefix-keeps (separators windows text) text e).some f is behind ∙ sym is)
  where
    by : (begins_verbatim text ≡ true) ⊎ (begins_verbatim text ≡ false) → begins_verbatim (take e text) ≡ begins_verbatim text
    by (inl marked) =
        let fits = behind.fits in
        verbatim-take text e (omega (arith, verbatim-long (drop 4 text) f (ap (prefix_of windows) (sym (verbatim_text text marked)) ∙ is)))
    by (inr plain) = plain-take text e plain ∙ sym plain

-- a text without a prefix is not read verbatim
pub plain-none : (text : List ℕ) → prefix_of windows text ≡ None → begins_verbatim text ≡ false
plain-none text is = false_from_ne_true _ (λ marked. verbatim-found (drop 4 text) (ap (prefix_of windows) (sym (verbatim_text text marked)) ∙ is))

-- they stay where the text has no prefix
pub same-none : (text : List ℕ) (e : ℕ) → prefix_of windows text ≡ None → SamePrefix text e
same-none text e is = same_from text e (plain-take text e (plain-none text is) ∙ sym (plain-none text is)) ((prefix-keeps (separators windows text) text e).none is ∙ sym is)

-- What a Windows text is read as, without a prefix and with one.

-- the components of a text without a prefix
pub parts_of-none : (t : List ℕ) → prefix_of windows t ≡ None → parts_of windows t ≡ body_parts Either t
parts_of-none t h = grind (arith, parts-comps_behind, parts_behind, body_parts, plain-none)

-- the components of a text begin with its prefix
pub first-found : (t : List ℕ) (f : Found) → prefix_of windows t ≡ Some f → Some f.prefix ≡ first_prefix (kinds (parts (comps windows t)))
first-found t f own = sym (ap (λ r. first_prefix (kinds (parts (comps_behind (separators windows t) t r)))) own)

-- a list without a prefix is that of a text without one
pub prefix_of-none : (t : List ℕ) → first_prefix (kinds (parts_of windows t)) ≡ None → prefix_of windows t ≡ None
prefix_of-none t bare = by (prefix_of windows t) refl
  where
    by : (o : Option Found) → prefix_of windows t ≡ o → o ≡ None
    by o e = grind (arith, first-found)

-- the components of a text with a prefix
pub parts_of-some : (t : List ℕ) (f : Found) → prefix_of windows t ≡ Some f → parts_of windows t ≡ parts_behind (separators windows t) t (Some f)
parts_of-some t f some = parts-comps_behind (separators windows t) t (prefix_of windows t) ∙ ap (parts_behind (separators windows t) t) some

-- a prefix and nothing else is read as that
pub parts_of-alone : (raw : List ℕ) (g : Found) → prefix_of windows raw ≡ Some g → g.length ≡ length raw → parts_of windows raw ≡ prefix_part g.prefix raw ∷ []
parts_of-alone raw g is whole = grind (arith, common_steps)

-- How many bytes a Windows prefix takes of its text: its kind tells, but for one separator behind a server alone.

-- the prefix tells whether a push spells its base anew
pub verbatim-some : (t : List ℕ) (f : Found) → prefix_of windows t ≡ Some f → has_any_verbatim_prefix (kinds (parts_of windows t)) ≡ is_verbatim_prefix f.prefix
verbatim-some t f is = ap (λ ps. has_any_verbatim_prefix (kinds ps)) (parts_of-some t f is)

-- without one the list begins with none
pub unprefixed : (test : Prefix → Bool) (t : List ℕ) → prefix_of windows t ≡ None → begins_with_prefix test (kinds (parts_of windows t)) ≡ false
unprefixed test t h = grind (arith, parts_of-none)

pub verbatim-none : (t : List ℕ) → prefix_of windows t ≡ None → has_any_verbatim_prefix (kinds (parts_of windows t)) ≡ false
verbatim-none t none = unprefixed is_verbatim_prefix t none

-- a text that does not end with `\`
abbrev pub IsUnended : List ℕ → Type 0
IsUnended t = (front : List ℕ) → t ≡ front ++ backslash ∷ [] → ⊥

-- a mark of k bytes and a server, with a share behind it
pub record IsShared (k : ℕ) (server share t : List ℕ) (size : ℕ) : Type 0 where
  pub less : k + length server < length t
  pub long : size ≡ k + length server + 1 + length share

-- the same, with the server alone
pub record IsAlone (k : ℕ) (server share t : List ℕ) (size : ℕ) : Type 0 where
  pub whole : size ≡ length t
  pub long : size ≡ k + length server
  pub no_share : length share ≡ 0
  pub unended : IsUnended t

-- how many bytes a prefix takes of a text
abbrev pub IsSize : Prefix → List ℕ → ℕ → Type 0
IsSize (verbatim name) t size = size ≡ 4 + length name
IsSize (verbatim_unc server share) t size = IsShared 8 server share t size ⊎ IsAlone 8 server share t size
IsSize (verbatim_disk letter) t size = size ≡ 6
IsSize (device_ns name) t size = size ≡ 4 + length name
IsSize (unc server share) t size = IsShared 2 server share t size ⊎ IsAlone 2 server share t size
IsSize (disk letter) t size = size ≡ 2

-- a name that is the whole text ends with no separator
pub name-unended : (s : Separators) (k : ℕ) (t rest : List ℕ) → OfWindows s → drop k t ≡ rest → length t ≡ k + length rest → is_empty (name s rest) ≡ false → length rest ≤ length (name s rest) → IsUnended t
name-unended s k t rest w dropped size filled most front is = grind (arith, name-fits, eqb-false, drop-append-le, length-append, position-append, backslash-separates, name-length, prefix_len-le-length)

-- two names behind a mark take one of the two sizes
names-size : (s : Separators) (k : ℕ) (t rest : List ℕ) → OfWindows s → drop k t ≡ rest → length t ≡ k + length rest → is_empty (name s rest) ≡ false
    → IsShared k (name s rest) (second_name s rest) t (k + names_length s rest) ⊎ IsAlone k (name s rest) (second_name s rest) t (k + names_length s rest)
names-size s k t rest w dropped size filled = grind (arith, le-ltb, name-fits, length-drop, name-length, name-unended)

-- so each prefix takes what its kind tells
read-size : (s : Separators) (t : List ℕ) (f : Found) → OfWindows s → Read s t f → IsSize f.prefix t f.length
read-size s t _ w (of_verbatim_unc rest mark filled) = names-size s 8 t rest w mark.dropped mark.size filled
read-size s t _ w (of_verbatim_disk rest letter mark drives) = refl
read-size s t _ w (of_verbatim rest mark filled no_unc no_drive) = refl
read-size s t _ w (of_device rest mark filled) = refl
read-size s t _ w (of_unc rest mark filled no_verbatim no_device) = names-size Either 2 t rest refl mark.dropped mark.size filled
read-size s t _ w (of_disk letter drives) = refl

-- the same, by the prefix of the text
pub prefix-size : (t : List ℕ) (f : Found) → prefix_of windows t ≡ Some f → IsSize f.prefix t f.length
prefix-size t f is = read-size (separators windows t) t f (separators-windows t) (prefix-read t f is)

-- one separator more behind a server alone
pub record IsGrown (p : Prefix) (t : List ℕ) (a b : ℕ) : Type 0 where
  pub whole : a ≡ length t
  pub more : b ≡ suc a
  pub no_drive : is_disk p ≡ false
  pub unended : IsUnended t

-- a prefix of one kind takes as much of one text as of another that is not shorter than it, or one separator more
pub same-sizes : (p : Prefix) (t u : List ℕ) (a b : ℕ) → IsSize p t a → IsSize p u b → a ≤ length u → (b ≡ a) ⊎ IsGrown p t a b
same-sizes p t u a b one other within = grind arith

-- a prefix of a verbatim kind takes four bytes or more
pub verbatim-size : (p : Prefix) (t : List ℕ) (a : ℕ) → IsSize p t a → is_verbatim_prefix p ≡ true → 4 ≤ a
verbatim-size p t a size kind = grind arith

-- what begins with exactly `\\?\` and has more behind it is of a verbatim kind
marked-kind : (b : ℕ) (bs : List ℕ) (f : Found) → Read Backslash (backslash ∷ backslash ∷ question ∷ backslash ∷ b ∷ bs) f → is_verbatim_prefix f.prefix ≡ true
marked-kind b bs f h = grind arith

-- so a longer text of another kind does not begin with it
pub plain-kind : (t : List ℕ) (f : Found) → prefix_of windows t ≡ Some f → is_verbatim_prefix f.prefix ≡ false → 4 < length t → begins_verbatim t ≡ false
plain-kind t f is kind long = false_from_ne_true _ (λ marked. by (drop 4 t) (verbatim_text t marked))
  where
    by : (rest : List ℕ) → t ≡ backslash ∷ backslash ∷ question ∷ backslash ∷ rest → ⊥
    by [] e = omega (arith, ap length e)
    by (b ∷ bs) e = both_ways (is_verbatim_prefix f.prefix) kind (marked-kind b bs f (prefix-read (backslash ∷ backslash ∷ question ∷ backslash ∷ b ∷ bs) f (ap (prefix_of windows) (sym e) ∙ is)))
