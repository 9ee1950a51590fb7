-- A prefix stays where its text is cut behind it and something put apart behind that.
use Rattle.std.proofs.Common.{◌≡◌, ℕ, ◌+◌, ◌<◌, ◌≤◌, ◌==◌, Bool, true, false, ◌&&◌, if◌then◌else◌, nat_lt, List, [], ◌∷◌, ◌++◌, length, take, Option, Some, None, option_and_then, refl, sym, ap, ◌∙◌, append-nil, length-append, length-take, arith, ◌-◌, nat_eq, codes, le_refl, lt-ltb, eqb-true, ne_eqb, take-take}
use Rattle.std.proofs.lemmas.Grind.{common_steps}
use Rattle.std.specs.List.{position_or_len}
use Rattle.std.proofs.lemmas.Bool.{cases_lt, cond-true, cond-false, and_parts, and_left, and_right, both_ways, not-true, and_from}
use Rattle.std.proofs.lemmas.List.{take-append-le, drop-append-le, drop_all}
use Rattle.std.proofs.lemmas.List.Sums.{prefix_len-le-length}
use Rattle.std.specs.Option.{option_or}
use Rattle.std.specs.Str.{bytes_eq}
use Rattle.std.specs.Cmp.Lexicographic.{pointwise}
use Rattle.typed_path.specs.declared.scan.separators.Separators.{Separators}
use Rattle.typed_path.specs.declared.scan.separators.Separators.TheVariants.{Backslash, Either}
use Rattle.typed_path.specs.components.{is_separator, slash, backslash, colon, windows, separators, begins_verbatim, question, dot, is_empty, is_drive_letter, to_upper, drive, after_two, after_four, name, second_name, names_length, Found, found, after_mark, after_unc, verbatim_case, device_case, unc_case, disk_case, prefix_of, Prefix, verbatim, verbatim_unc, verbatim_disk, device_ns, unc, disk}
use Rattle.typed_path.specs.queries.{is_disk}
use Rattle.typed_path.specs.promises.{keeps_by_prefix}
use Rattle.typed_path.proofs.lemmas.components.Prefixes.{ReadsMark, after_four-reads, name-fits, names-fit, prefix-fits, Read, of_verbatim_unc, of_verbatim_disk, of_verbatim, of_device, of_unc, of_disk, prefix-read, after_mark-reads, after_unc-reads, after_two-reads, both-read, drive-take, drive-none, marks-differ, prefix_by, prefix_by-unmarked}
use Rattle.typed_path.proofs.lemmas.components.PrefixCuts.{name-length, name-take, names-take, empty-take}
use Rattle.typed_path.proofs.lemmas.components.Segments.{position-append}
use Rattle.typed_path.proofs.lemmas.lists.Options.{and_then-some, unless-none, none_from, first-some, first-none}

-- The names and marks of a text that is cut behind them, with something put apart behind it.

-- nothing, or a separator and more: what may stand behind a whole name
pub data Apart (s : Separators) : List ℕ → Type 0 where
  nothing : Apart s []
  parted : (b : ℕ) (bs : List ℕ) → is_separator s b ≡ true → Apart s (b ∷ bs)

-- what is not empty has some bytes
pub filled-long : (bytes : List ℕ) → is_empty bytes ≡ false → 0 < length bytes
filled-long bytes h = grind arith

module _ (s : Separators) where
  -- a name ends where something stands apart behind its text
  position-apart : (text x : List ℕ) → Apart s x → position_or_len (is_separator s) (text ++ x) ≡ position_or_len (is_separator s) text
  position-apart text x nothing = ap (position_or_len (is_separator s)) (append-nil text)
  position-apart text x (parted b bs h) = position-append s b h text bs

  -- so it stays
  pub name-apart : (text x : List ℕ) → Apart s x → name s (text ++ x) ≡ name s text
  name-apart text x h = grind (arith, position-apart, take-append-le, prefix_len-le-length)

  -- a text with a second name has a separator behind the first
  pub second-inside : (text : List ℕ) → is_empty (second_name s text) ≡ false → position_or_len (is_separator s) text < length text
  second-inside text filled = grind (arith, cases_lt, drop_all)

  -- so does the second name, where a separator stands behind the first
  second-apart : (text x : List ℕ) → Apart s x → position_or_len (is_separator s) text < length text → second_name s (text ++ x) ≡ second_name s text
  second-apart text x h less = grind (arith, position-apart, drop-append-le, name-apart)

  -- two names, with a separator between them, take as many bytes as they have, and the separator
  pub names-inside : (text : List ℕ) → position_or_len (is_separator s) text < length text → names_length s text ≡ length (name s text) + 1 + length (second_name s text)
  names-inside text less = cond-true (nat_lt (length (name s text)) (length text)) _ _ (lt-ltb _ _ (omega (arith, name-length s text)))

  -- they stay and take as many bytes
  names-apart : (text x : List ℕ) → Apart s x → position_or_len (is_separator s) text < length text → names_length s (text ++ x) ≡ names_length s text
  names-apart text x h less = grind (arith, names-inside, position-apart, length-append, name-apart, second-apart)

  -- two names, of which the second is not empty, take as many bytes as they have, and the separator
  pub names-size : (text : List ℕ) → is_empty (second_name s text) ≡ false → names_length s text ≡ position_or_len (is_separator s) text + 1 + length (second_name s text)
  names-size text shared = omega (arith, names-inside text (second-inside text shared), name-length s text)

  -- they take three bytes where neither is empty
  pub names-long : (text : List ℕ) → is_empty (name s text) ≡ false → is_empty (second_name s text) ≡ false → 3 ≤ names_length s text
  names-long text filled shared = grind (arith, names-size)

  -- a name stays where its text is cut behind it, and something put apart behind that
  pub name-recut : (m : ℕ) (text x : List ℕ) → Apart s x → length (name s text) ≤ m → name s (take m text ++ x) ≡ name s text
  name-recut m text x h fits = name-apart (take m text) x h ∙ name-take s m text fits

  -- what two names and their length are of one text, they are of another
  pub record HasNamesOf (text now : List ℕ) : Type 0 where
    pub first : name s now ≡ name s text
    pub second : second_name s now ≡ second_name s text
    pub size : names_length s now ≡ names_length s text

  -- two names with a separator between them are kept where their text is cut behind them
  pub names-recut : (m : ℕ) (text x : List ℕ) → Apart s x → names_length s text ≤ m → position_or_len (is_separator s) text < length text → HasNamesOf text (take m text ++ x)
  names-recut m text x h fits less =
      let cut = names-take s m text fits in
      let still : position_or_len (is_separator s) (take m text) < length (take m text) =
      omega (arith, names-inside text less, length-take m text, ap length cut.first, name-length s text, name-length s (take m text)) in
      record {
        first = name-apart (take m text) x h ∙ cut.first;
        second = second-apart (take m text) x h still ∙ cut.second;
        size = names-apart (take m text) x h still ∙ cut.size;
      }

-- each separator is one of both
pub separates-either : (s : Separators) (b : ℕ) → is_separator s b ≡ true → is_separator Either b ≡ true
separates-either s b h = grind arith

-- what stands apart by some separators does by both
pub apart-either : (s : Separators) (x : List ℕ) → Apart s x → Apart Either x
apart-either s x nothing = nothing
apart-either s x (parted b bs h) = parted b bs (separates-either s b h)

-- a separator fails each test that `/` and `\` fail
pub separator-fails : (test : ℕ → Bool) (s : Separators) (b : ℕ) → test slash ≡ false → test backslash ≡ false → is_separator s b ≡ true → test b ≡ false
separator-fails test s b first second h = grind arith

-- what is read at the front of a text is read too where more stands behind it
abbrev pub Extends : (List ℕ → Option (List ℕ)) → Type 0
Extends read = (text rest x : List ℕ) → read text ≡ Some rest → read (text ++ x) ≡ Some (rest ++ x)

-- two separators
pub after_two-extends : Extends after_two
after_two-extends h rest x e = grind arith

module _ (p q r s : ℕ → Bool) where
  -- four bytes
  pub after_four-extends : Extends (after_four p q r s)
  after_four-extends h rest x e = grind arith

  -- the tests that four bytes pass
  pub after_four-tests : (a b c d : ℕ) (text rest : List ℕ) → after_four p q r s (a ∷ b ∷ c ∷ d ∷ text) ≡ Some rest → (p a ≡ true) × (q b ≡ true) × (r c ≡ true) × (s d ≡ true) × (text ≡ rest)
  after_four-tests a b c d text rest e = grind arith

  -- four bytes that fail go on failing
  after_four-fails : (text x : List ℕ) → 4 ≤ length text → after_four p q r s text ≡ None → after_four p q r s (text ++ x) ≡ None
  after_four-fails text x long e = grind arith

  -- also where the text is cut behind them
  pub after_four-none : (e : ℕ) (text x : List ℕ) → 4 ≤ e → e ≤ length text → after_four p q r s text ≡ None → after_four p q r s (take e text ++ x) ≡ None
  after_four-none e text x long fits is = grind (arith, after_four-fails, length-take, after_four-reads)

-- one mark behind another
pub both-extend : (f g : List ℕ → Option (List ℕ)) → Extends f → Extends g → Extends (λ text. option_and_then g (f text))
both-extend f g first second text rest x e =
    let some = and_then-some g (f text) rest e in
    ap (option_and_then g) (first text some.0 x some.1) ∙ second some.0 rest x some.2

-- what stands behind a mark of k bytes, where the text is cut behind that and has more put behind it
pub mark-recut : (k : ℕ) (read : List ℕ → Option (List ℕ)) → ReadsMark k read → Extends read → (m : ℕ) (text rest x : List ℕ) → read text ≡ Some rest → read (take (k + m) text ++ x) ≡ Some (take m rest ++ x)
mark-recut k read reads extends m text rest x e = extends (take (k + m) text) (take m rest) x (reads.whole text rest m e)

-- a drive is read off two bytes, whatever stands behind them
pub drive-extends : (text x : List ℕ) (letter : ℕ) → drive text ≡ Some letter → drive (text ++ x) ≡ Some letter
drive-extends text x letter e = grind arith

-- what stands apart makes no drive
pub drive-apart : (s : Separators) (text x : List ℕ) → Apart s x → drive text ≡ None → drive (text ++ x) ≡ None
drive-apart s (a ∷ b ∷ text) x h e = e
drive-apart s (a ∷ []) x nothing e = refl
drive-apart s (a ∷ []) x (parted b bs h) e = grind (arith, common_steps, cond-false, and_right, separator-fails)
drive-apart s [] x nothing e = refl
drive-apart s [] x (parted b [] h) e = refl
drive-apart s [] x (parted b (c ∷ bs) h) e = grind (arith, common_steps, cond-false, and_left, separator-fails)

-- A prefix stays where its text is cut behind it and something put apart behind that.

-- what the cases make of what stands behind their marks
abbrev pub share_made : (List ℕ → List ℕ → Prefix) → ℕ → Separators → List ℕ → Option Found
share_made make k s rest = if is_empty (name s rest) then None else Some (found (make (name s rest) (second_name s rest)) (k + names_length s rest))

abbrev verbatim_made : Separators → List ℕ → Option Found
verbatim_made s rest = if is_empty rest then None else Some (found (verbatim (name s rest)) (4 + length (name s rest)))

abbrev pub device_made : List ℕ → Option Found
device_made rest = if is_empty (name Either rest) then None else Some (found (device_ns (name Either rest)) (4 + length (name Either rest)))

abbrev disk_made : ℕ → Option Found
disk_made letter = Some (found (verbatim_disk letter) 6)

-- a mark is read where more stands behind it
pub mark-extends : (sign : ℕ) → Extends (after_mark sign)
mark-extends sign = after_four-extends (is_separator Either) (is_separator Either) (λ b. b == sign) (is_separator Either)

-- so is `UNC` with its separator
pub unc-extends : (s : Separators) → Extends (after_unc s)
unc-extends s = after_four-extends (λ b. b == 85) (λ b. b == 78) (λ b. b == 67) (is_separator s)

-- what stands behind a mark, once the text is cut and has more put behind it
pub mark-again : (sign m : ℕ) (text rest x : List ℕ) → after_mark sign text ≡ Some rest → after_mark sign (take (4 + m) text ++ x) ≡ Some (take m rest ++ x)
mark-again sign m text rest x is = mark-recut 4 (after_mark sign) (after_mark-reads sign) (mark-extends sign) m text rest x is

-- a text whose first name ends with a separator behind `UNC` has that name
after_unc-name : (s : Separators) (text rest : List ℕ) → after_unc s text ≡ Some rest → name s text ≡ codes "UNC"
after_unc-name s text rest is = grind (arith, after_four-tests, eqb-true)

-- a drive has a colon behind its letter
pub drive-letter : (a b : ℕ) (text : List ℕ) (letter : ℕ) → drive (a ∷ b ∷ text) ≡ Some letter → (is_drive_letter a ≡ true) × (b ≡ 58) × (to_upper a ≡ letter)
drive-letter a b text letter is = grind (arith, and_parts, eqb-true)

-- a drive is not `UNC`
drive-no_unc : (s : Separators) (text : List ℕ) (letter : ℕ) → drive text ≡ Some letter → after_unc s text ≡ None
drive-no_unc s text letter is = grind (arith, eqb-true, drive-letter)

-- a verbatim drive stays, whatever is put behind it
pub verbatim_disk-stays : (s : Separators) (text x rest : List ℕ) (letter : ℕ) → after_mark question text ≡ Some rest → drive rest ≡ Some letter → prefix_by s (take 6 text ++ x) ≡ Some (found (verbatim_disk letter) 6)
verbatim_disk-stays s text x rest letter is drives =
    let now = take 2 rest ++ x in
    let mark = mark-again question 2 text rest x is in
    let again : drive now ≡ Some letter = drive-extends (take 2 rest) x letter (drive-take 2 rest (omega arith) ∙ drives) in
    first-none _ _ _
    (ap (λ o. option_and_then (share_made verbatim_unc 8 s) (option_and_then (after_unc s) o)) mark
    ∙ ap (option_and_then (share_made verbatim_unc 8 s)) (drive-no_unc s now letter again))
    (first-some _ _ _
    (ap (λ o. option_and_then disk_made (option_and_then drive o)) mark
    ∙ ap (option_and_then disk_made) again))

module _ (s : Separators) (text x : List ℕ) (apart : Apart s x) where
  -- the verbatim share
  pub verbatim_unc-again : (rest : List ℕ) → option_and_then (after_unc s) (after_mark question text) ≡ Some rest → is_empty (name s rest) ≡ false → position_or_len (is_separator s) rest < length rest
      → prefix_by s (take (8 + names_length s rest) text ++ x) ≡ Some (found (verbatim_unc (name s rest) (second_name s rest)) (8 + names_length s rest))
  verbatim_unc-again rest is filled less =
      let now = take (names_length s rest) rest ++ x in
      let mark = mark-recut 8 (λ t. option_and_then (after_unc s) (after_mark question t)) (both-read 4 4 (after_mark question) (after_unc s) (after_mark-reads question) (after_unc-reads s))
      (both-extend (after_mark question) (after_unc s) (mark-extends question) (unc-extends s)) (names_length s rest) text rest x is in
      let names = names-recut s (names_length s rest) rest x apart (le_refl (names_length s rest)) less in
      first-some _ _ _
      (ap (option_and_then (share_made verbatim_unc 8 s)) mark
      ∙ cond-false (is_empty (name s now)) None _ (ap is_empty names.first ∙ filled)
      ∙ (λ i. Some (found (verbatim_unc (names.first i) (names.second i)) (8 + names.size i))))

  -- the verbatim name, unless it is `UNC`
  pub verbatim-again : (rest : List ℕ) → after_mark question text ≡ Some rest → drive rest ≡ None → bytes_eq (name s rest) (codes "UNC") ≡ false → 0 < length (name s rest) + length x
      → prefix_by s (take (4 + length (name s rest)) text ++ x) ≡ Some (found (verbatim (name s rest)) (4 + length (name s rest)))
  verbatim-again rest is no_drive other some =
      let m = length (name s rest) in
      let now = take m rest ++ x in
      let mark = mark-again question m text rest x is in
      let same : name s now ≡ name s rest = name-recut s m rest x apart (le_refl m) in
      let no_unc : after_unc s now ≡ None = none_from _ (λ r found.
      let unc : bytes_eq (name s rest) (codes "UNC") ≡ true = ap (λ n. bytes_eq n (codes "UNC")) (sym same ∙ after_unc-name s now r found) in
      both_ways _ other unc) in
      let filled : is_empty now ≡ false = ne_eqb (length now) 0 (λ none. omega (arith, length-append (take m rest) x, length-take m rest, name-fits s rest)) in
      first-none _ _ _ (ap (λ o. option_and_then (share_made verbatim_unc 8 s) (option_and_then (after_unc s) o)) mark ∙ ap (option_and_then (share_made verbatim_unc 8 s)) no_unc)
      (first-none _ _ _
      (ap (λ o. option_and_then disk_made (option_and_then drive o)) mark ∙ ap (option_and_then disk_made) (drive-apart s (take m rest) x apart (drive-none m rest no_drive)))
      (first-some _ _ _
      (ap (option_and_then (verbatim_made s)) mark
      ∙ cond-false (is_empty now) None _ filled
      ∙ ap (λ n. Some (found (verbatim n) (4 + length n))) same)))

  -- the device
  pub device-again : (rest : List ℕ) → after_mark dot text ≡ Some rest → is_empty (name Either rest) ≡ false
      → prefix_by s (take (4 + length (name Either rest)) text ++ x) ≡ Some (found (device_ns (name Either rest)) (4 + length (name Either rest)))
  device-again rest is filled =
      let m = length (name Either rest) in
      let whole = take (4 + m) text ++ x in
      let now = take m rest ++ x in
      let mark = mark-again dot m text rest x is in
      let same : name Either now ≡ name Either rest = name-recut Either m rest x (apart-either s x apart) (le_refl m) in
      prefix_by-unmarked s whole (marks-differ whole now mark)
      ∙ first-some (device_case whole) (option_or (unc_case whole) (disk_case whole)) _
      (ap (option_and_then device_made) mark
      ∙ cond-false (is_empty (name Either now)) None _ (ap is_empty same ∙ filled)
      ∙ ap (λ n. Some (found (device_ns n) (4 + length n))) same)

  -- no device becomes none
  no_device-again : (e : ℕ) → 4 ≤ e → e ≤ length text → device_case text ≡ None → device_case (take e text ++ x) ≡ None
  no_device-again e long fits none = by (after_mark dot text) refl
    where
      by : (o : Option (List ℕ)) → after_mark dot text ≡ o → device_case (take e text ++ x) ≡ None
      by None is = ap (option_and_then device_made) (after_four-none (is_separator Either) (is_separator Either) (λ b. b == dot) (is_separator Either) e text x long fits is)
      by (Some rest) is =
          let m = e - 4 in
          let size : e ≡ 4 + m = omega (arith, long) in
          let bare = unless-none (is_empty (name Either rest)) _ (ap (option_and_then device_made) (sym is) ∙ none) in
          ap (λ n. device_case (take n text ++ x)) size
          ∙ ap (option_and_then device_made) (mark-again dot m text rest x is)
          ∙ cond-true (is_empty (name Either (take m rest ++ x))) None _ (ap is_empty (name-apart Either (take m rest) x (apart-either s x apart)) ∙ empty-take Either m rest bare)

  -- the share, where no mark is read before it
  pub unc-again : (rest : List ℕ) → after_two text ≡ Some rest → is_empty (name Either rest) ≡ false → position_or_len (is_separator Either) rest < length rest
      → after_mark question text ≡ None → device_case text ≡ None → 2 + names_length Either rest ≤ length text
      → prefix_by s (take (2 + names_length Either rest) text ++ x) ≡ Some (found (unc (name Either rest) (second_name Either rest)) (2 + names_length Either rest))
  unc-again rest is filled less no_question no_device fits =
      let m = names_length Either rest in
      let whole = take (2 + m) text ++ x in
      let now = take m rest ++ x in
      let mark = mark-recut 2 after_two after_two-reads after_two-extends m text rest x is in
      let names = names-recut Either m rest x (apart-either s x apart) (le_refl m) less in
      let long : 4 ≤ 2 + m = omega (arith, names-inside Either rest less, filled-long (name Either rest) filled) in
      prefix_by-unmarked s whole (after_four-none (is_separator Either) (is_separator Either) (λ b. b == question) (is_separator Either) (2 + m) text x long fits no_question)
      ∙ first-none (device_case whole) (option_or (unc_case whole) (disk_case whole)) _ (no_device-again (2 + m) long fits no_device)
      (first-some (unc_case whole) (disk_case whole) _
      (ap (option_and_then (share_made unc 2 Either)) mark
      ∙ cond-false (is_empty (name Either now)) None _ (ap is_empty names.first ∙ filled)
      ∙ (λ i. Some (found (unc (names.first i) (names.second i)) (2 + names.size i)))))

-- a text that is longer than a mark and has no verbatim name has no mark of one
pub no_question : (s : Separators) (text : List ℕ) → 4 < length text → verbatim_case s text ≡ None → after_mark question text ≡ None
no_question s text long h = grind arith

-- a prefix that every path keeps behind its text
abbrev pub is_firm : Prefix → Bool
is_firm p = keeps_by_prefix [] (Some p)

-- a prefix that is firm and no drive takes four bytes or more
pub firm-long : (s : Separators) (text : List ℕ) (f : Found) → Read s text f → is_firm f.prefix ≡ true → is_disk f.prefix ≡ false → 4 ≤ f.length
firm-long s text f h firm other = grind arith

-- it is read again where its text is cut behind it and has something put apart behind that
pub firm-again : (s : Separators) (text x : List ℕ) (f : Found) → Read s text f → is_firm f.prefix ≡ true → is_disk f.prefix ≡ false → Apart s x → 4 < f.length + length x → prefix_by s (take f.length text ++ x) ≡ Some f
firm-again s text x f (of_verbatim_unc rest mark filled) firm other apart long = verbatim_unc-again s text x apart rest mark.marked filled (second-inside s rest (not-true _ firm))
firm-again s text x f (of_verbatim_disk rest letter mark drives) firm other apart long = verbatim_disk-stays s text x rest letter mark.marked drives
firm-again s text x f (of_verbatim rest mark filled no_unc no_drive) firm other apart long = verbatim-again s text x apart rest mark.marked no_drive (not-true _ firm) (omega arith)
firm-again s text x f (of_device rest mark filled) firm other apart long = device-again s text x apart rest mark.marked filled
firm-again s text x f (of_unc rest mark filled no_verbatim no_device) firm other apart long = grind (arith, common_steps, of_unc, not-true, names-fit, names-long, unc-again, second-inside, no_question)
firm-again s text x f (of_disk letter drives) firm other apart long = cc

-- so the prefix stays, and with it the separators
pub firm-stays : (text x : List ℕ) (f : Found) → prefix_of windows text ≡ Some f → is_firm f.prefix ≡ true → is_disk f.prefix ≡ false → Apart (separators windows text) x → 4 < f.length + length x
    → prefix_of windows (take f.length text ++ x) ≡ Some f
firm-stays text x f is firm other apart long =
    let read = prefix-read text f is in
    let four = firm-long (separators windows text) text f read firm other in
    let fits = (prefix-fits windows text f is).fits in
    let front : take 4 (take f.length text ++ x) ≡ take 4 text = take-append-le 4 (take f.length text) x (omega (arith, length-take f.length text)) ∙ take-take 4 f.length text four in
    let same : begins_verbatim (take f.length text ++ x) ≡ begins_verbatim text = ap (pointwise nat_eq (backslash ∷ backslash ∷ question ∷ backslash ∷ [])) front in
    ap (λ b. prefix_by (if b then Backslash else Either) (take f.length text ++ x)) same ∙ firm-again (separators windows text) text x f read firm other apart long

-- Windows texts that begin with a drive, with no two separators, or with three.

-- its prefix can only be a drive
pub prefix-apart : (a b : ℕ) (text : List ℕ) → (is_separator Either a && is_separator Either b) ≡ false → prefix_of windows (a ∷ b ∷ text) ≡ disk_case (a ∷ b ∷ text)
prefix-apart a b text apart = grind arith

-- a drive stays, whatever is put behind its text
pub drive-stays : (text x : List ℕ) (letter : ℕ) → drive text ≡ Some letter → prefix_of windows (text ++ x) ≡ Some (found (disk letter) 2)
drive-stays text x letter is = grind (arith, common_steps)

-- three separators in front are no prefix
pub three_separators : (a b c : ℕ) (text : List ℕ) → is_separator Either a ≡ true → is_separator Either b ≡ true → is_separator Either c ≡ true → prefix_of windows (a ∷ b ∷ c ∷ text) ≡ None
three_separators a b c text first second third =
    let whole = a ∷ b ∷ c ∷ text in
    prefix_by-unmarked (separators windows whole) whole (no_sign question refl refl text)
    ∙ first-none (device_case whole) (option_or (unc_case whole) (disk_case whole)) _
    (ap (option_and_then device_made) (no_sign dot refl refl text))
    (first-none (unc_case whole) (disk_case whole) _
    (ap (option_and_then (share_made unc 2 Either)) (cond-true (is_separator Either a && is_separator Either b) (Some (c ∷ text)) None (and_from (is_separator Either a) (is_separator Either b) first second))
    ∙ cond-true (is_empty (name Either (c ∷ text))) None _ (rw third refl))
    (ap (option_and_then (λ l. Some (found (disk l) 2))) (cond-false (is_drive_letter a && b == colon) (Some (to_upper a)) None (and_left (is_drive_letter a) (b == colon) (separator-fails is_drive_letter Either a refl refl first)))))
  where
    no_sign : (sign : ℕ) → (47 == sign) ≡ false → (92 == sign) ≡ false → (rest : List ℕ) → after_mark sign (a ∷ b ∷ c ∷ rest) ≡ None
    no_sign sign slash backslash rest = grind (arith, none_from, after_four-tests, both_ways, separator-fails)

-- the first two bytes of a text with a drive are a drive
pub drive-raw : (t : List ℕ) (letter : ℕ) → drive t ≡ Some letter → prefix_of windows (take 2 t) ≡ Some (found (disk letter) 2)
drive-raw t letter is = ap (prefix_of windows) (sym (append-nil (take 2 t))) ∙ drive-stays (take 2 t) [] letter (drive-take 2 t (omega arith) ∙ is)
