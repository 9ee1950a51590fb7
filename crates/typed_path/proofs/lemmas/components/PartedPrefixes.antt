-- A prefix with more of its text behind it: where it ends, and what stands right behind it; and which texts with a prefix are not read verbatim.
use Rattle.std.proofs.Common.{◌≡◌, ℕ, suc, ◌+◌, ◌<◌, Bool, true, false, not, cond, if◌then◌else◌, List, [], ◌∷◌, length, drop, Some, None, refl, sym, ap, ◌∙◌, subst, length-drop, arith, ◌≤◌, ◌++◌, take, inl, inr, length-take, ◌⊎◌, append-nil, le-ltb, eqb-true, drop-drop, take_all, get_or, take-append-drop}
use Rattle.std.proofs.lemmas.Grind.{common_steps}
use Rattle.std.specs.List.{position_or_len, after_first, list_any}
use Rattle.std.proofs.lemmas.Bool.{not-true, both_ways}
use Rattle.std.proofs.lemmas.List.{take-append-le, drop_more}
use Rattle.std.proofs.lemmas.List.Splits.{slice_split-cons_yes}
use Rattle.typed_path.specs.declared.scan.separators.Separators.{Separators}
use Rattle.typed_path.specs.declared.scan.separators.Separators.TheVariants.{Backslash, Either, Slash}
use Rattle.typed_path.specs.components.{windows, separators, is_separator, question, begins_verbatim, is_verbatim, slash, backslash, Found, after_mark, name, second_name, names_length, prefix_of, found, verbatim, Prefix, verbatim_disk, unc, kinds, drive}
use Rattle.typed_path.specs.queries.{is_disk, is_verbatim_prefix, begins_with_root}
use Rattle.typed_path.specs.promises.{is_verbatim_unc_name}
use Rattle.typed_path.specs.changes.{raw_length}
use Rattle.typed_path.specs.places.{resolve, IsPartedEither, TakesRows, IsHeadOf}
use Rattle.typed_path.proofs.lemmas.components.Prefixes.{names-fit, Read, of_verbatim_unc, of_verbatim_disk, of_verbatim, of_device, of_unc, of_disk, prefix-read, after_mark-reads, marks-differ, prefix_by}
use Rattle.typed_path.proofs.lemmas.components.PrefixCuts.{name-length, IsUnended, name-unended, verbatim-take, plain-kind}
use Rattle.typed_path.proofs.lemmas.components.FirmPrefixes.{Apart, nothing, parted, filled-long, second-inside, names-inside, names-size, names-long, is_firm, no_question, verbatim_unc-again, verbatim_disk-stays, verbatim-again, device-again, unc-again}
use Rattle.typed_path.proofs.lemmas.components.Segments.{first_parts, body_parts}

-- Where a firm prefix ends that is neither a drive nor verbatim.

module _ (s : Separators) where
  -- behind a name stands nothing, or a separator
  position-behind : (text : List ℕ) → Apart s (drop (position_or_len (is_separator s) text) text)
  position-behind [] = nothing
  position-behind (b ∷ bs) = by (is_separator s b) refl (position-behind bs)
    where
      by : (separates : Bool) → is_separator s b ≡ separates → Apart s (drop (position_or_len (is_separator s) bs) bs) → Apart s (drop (cond (not separates) (1 + position_or_len (is_separator s) bs) 0) (b ∷ bs))
      by true e rest = parted b bs e
      by false e rest = let next : suc (position_or_len (is_separator s) bs) ≡ 1 + position_or_len (is_separator s) bs = omega arith in subst (λ n. Apart s (drop n (b ∷ bs))) next rest

  -- the same, by the length of the name
  pub name-behind : (text : List ℕ) → Apart s (drop (length (name s text)) text)
  name-behind text = subst (λ n. Apart s (drop n text)) (sym (name-length s text)) (position-behind text)

  -- so it is behind two names with a separator between them
  pub names-behind : (text : List ℕ) → position_or_len (is_separator s) text < length text → Apart s (drop (names_length s text) text)
  names-behind text less =
      let n = position_or_len (is_separator s) text in
      let size : n + 1 + length (second_name s text) ≡ names_length s text = omega (arith, names-inside s text less, name-length s text) in
      subst (Apart s) (drop-drop (length (second_name s text)) (n + 1) text ∙ ap (λ m. drop m text) size) (name-behind (after_first (is_separator s) text))

-- a text without the mark of a verbatim prefix is not read verbatim
unmarked-plain : (text : List ℕ) → after_mark question text ≡ None → separators windows text ≡ Either
unmarked-plain text h = grind arith

-- behind such a prefix stands nothing, or a separator, and where it is the whole text, that does not end with `\`
pub record FirmEnd (text : List ℕ) (f : Found) : Type 0 where
  pub plain : separators windows text ≡ Either
  pub behind : Apart Either (drop f.length text)
  pub unended : f.length ≡ length text → IsUnended text

-- a prefix that is firm, no drive and not verbatim ends so
firm_end : (s : Separators) (text : List ℕ) (f : Found) → Read s text f → is_firm f.prefix ≡ true → is_disk f.prefix ≡ false → is_verbatim_prefix f.prefix ≡ false → FirmEnd text f
firm_end s text f (of_verbatim_unc rest mark filled) firm other plain = cc
firm_end s text f (of_verbatim_disk rest letter mark drives) firm other plain = cc
firm_end s text f (of_verbatim rest mark filled no_unc no_drive) firm other plain = cc
firm_end s text f (of_device rest mark filled) firm other plain = record {
  plain = unmarked-plain text (marks-differ text rest mark.marked);
  behind = subst (Apart Either) (ap (drop (length (name Either rest))) (sym mark.dropped) ∙ drop-drop (length (name Either rest)) 4 text) (name-behind Either rest);
  unended = λ whole. name-unended Either 4 text rest refl mark.dropped mark.size filled (omega (arith, mark.size));
}
firm_end s text f (of_unc rest mark filled no_verbatim no_device) firm other plain =
    let shared = not-true _ firm in
    let n = position_or_len (is_separator Either) rest in
    let less = second-inside Either rest shared in
    let size = names-size Either rest shared in
    let behind = length-drop (n + 1) rest in
    record {
      plain = unmarked-plain text (no_question s text (omega (arith, mark.size, names-long Either rest filled shared, names-fit Either rest)) no_verbatim);
      behind = subst (Apart Either) (ap (drop (names_length Either rest)) (sym mark.dropped) ∙ drop-drop (names_length Either rest) 2 text) (names-behind Either rest less);
      unended = λ whole. name-unended Either (2 + (n + 1)) text (after_first (is_separator Either) rest) refl (sym (drop-drop (n + 1) 2 text) ∙ ap (drop (n + 1)) mark.dropped) (omega (arith, mark.size)) shared (omega (arith, mark.size));
    }
firm_end s text f (of_disk letter drives) firm other plain = cc

-- so does that of a text
pub firm-end : (text : List ℕ) (f : Found) → prefix_of windows text ≡ Some f → is_firm f.prefix ≡ true → is_disk f.prefix ≡ false → is_verbatim_prefix f.prefix ≡ false → FirmEnd text f
firm-end text f is firm other plain = firm_end (separators windows text) text f (prefix-read text f is) firm other plain

-- a text with a firm prefix that is no drive has more than four bytes
pub firm-more : (s : Separators) (text : List ℕ) (f : Found) → Read s text f → is_firm f.prefix ≡ true → is_disk f.prefix ≡ false → 4 < length text
firm-more s text f h firm other = grind (arith, common_steps)

-- a text that begins with a drive is not read verbatim
pub drive-plain : (t : List ℕ) (letter : ℕ) → drive t ≡ Some letter → begins_verbatim t ≡ false
drive-plain t letter is = grind arith

-- so its separators are both
pub drive-either : (t : List ℕ) (letter : ℕ) → drive t ≡ Some letter → separators windows t ≡ Either
drive-either t letter is = ap (λ v. if v then Backslash else Either) (drive-plain t letter is)

pub either : (text : List ℕ) (f : Found) → prefix_of windows text ≡ Some f → is_verbatim_prefix f.prefix ≡ false → (is_disk f.prefix ≡ false → 4 < length text) → separators windows text ≡ Either
either text f is plain long = grind (arith, common_steps, prefix-read, plain-kind)

-- A prefix with more of its text behind it stays where something else is put apart in the place of that.

-- two names that are not the whole text have a separator between them
pub names-parted : (s : Separators) (text : List ℕ) → names_length s text < length text → position_or_len (is_separator s) text < length text
names-parted s text less = grind (arith, le-ltb, name-length)

-- a prefix that is no drive, with more behind it, takes four bytes or more
pub parted-long : (s : Separators) (text : List ℕ) (f : Found) → Read s text f → is_disk f.prefix ≡ false → f.length < length text → 4 ≤ f.length
parted-long s text f h other more = grind arith

-- it is read again with something put apart behind it, which an empty verbatim name needs
parted-again : (s : Separators) (text x : List ℕ) (f : Found) → Read s text f → is_disk f.prefix ≡ false → is_verbatim_unc_name (Some f.prefix) ≡ false → f.length < length text → Apart s x → (f.prefix ≡ verbatim [] → 0 < length x)
    → prefix_by s (take f.length text ++ x) ≡ Some f
parted-again s text x f (of_verbatim_unc rest mark filled) other no_unc more put_apart some =
    verbatim_unc-again s text x put_apart rest mark.marked filled (names-parted s rest (omega (arith, mark.size)))
parted-again s text x f (of_verbatim_disk rest letter mark drives) other no_unc more put_apart some = verbatim_disk-stays s text x rest letter mark.marked drives
parted-again s text x f (of_verbatim rest mark filled no_share no_drive) other no_unc more put_apart some =
    verbatim-again s text x put_apart rest mark.marked no_drive no_unc (by (name s rest) refl)
  where
    by : (bytes : List ℕ) → name s rest ≡ bytes → 0 < length bytes + length x
    by bytes e = grind arith
parted-again s text x f (of_device rest mark filled) other no_unc more put_apart some = device-again s text x put_apart rest mark.marked filled
parted-again s text x f (of_unc rest mark filled no_verbatim no_device) other no_unc more put_apart some =
    let names_apart = names-parted Either rest (omega (arith, mark.size)) in
    let long : 4 < length text = omega (arith, mark.size, names-inside Either rest names_apart, filled-long (name Either rest) filled, more) in
    unc-again s text x put_apart rest mark.marked filled names_apart (no_question s text long no_verbatim) no_device (omega (arith, mark.size))
parted-again s text x f (of_disk letter drives) other no_unc more put_apart some = cc

-- so the prefix stays, and with it the separators
pub parted-stays : (text x : List ℕ) (f : Found) → prefix_of windows text ≡ Some f → is_disk f.prefix ≡ false → is_verbatim_unc_name (Some f.prefix) ≡ false → f.length < length text → Apart (separators windows text) x
    → (f.prefix ≡ verbatim [] → 0 < length x) → (separators windows (take f.length text ++ x) ≡ separators windows text) × (prefix_of windows (take f.length text ++ x) ≡ Some f)
parted-stays text x f is other no_unc more put_apart some =
    let read = prefix-read text f is in
    let four = parted-long (separators windows text) text f read other more in
    let raw = take f.length text in
    let front : begins_verbatim (raw ++ x) ≡ begins_verbatim text =
    sym (verbatim-take (raw ++ x) f.length four) ∙ ap begins_verbatim (take-append-le f.length raw x (omega (arith, length-take f.length text, more)) ∙ take_all f.length raw (omega (arith, length-take f.length text))) ∙ verbatim-take text f.length four in
    let same : separators windows (raw ++ x) ≡ separators windows text = ap (λ b. if b then Backslash else Either) front in
    (same, ap (λ s. prefix_by s (raw ++ x)) same ∙ parted-again (separators windows text) text x f read other no_unc more put_apart some)

-- so another text that begins with it and a separator has it too, and is read with the same separators
pub shares-prefix : (t u : List ℕ) (f : Found) → prefix_of windows t ≡ Some f → is_disk f.prefix ≡ false → is_verbatim_unc_name (Some f.prefix) ≡ false → f.length < length t → f.length < length u
    → is_separator (separators windows t) (get_or u f.length 0) ≡ true → take f.length t ≡ take f.length u → (separators windows u ≡ separators windows t) × (prefix_of windows u ≡ Some f)
shares-prefix t u f is other no_unc more more' separates same =
    let x = drop f.length u in
    let behind : x ≡ get_or u f.length 0 ∷ drop (f.length + 1) u = drop_more u f.length 0 more' in
    let put_apart : Apart (separators windows t) x = subst (Apart (separators windows t)) (sym behind) (parted (get_or u f.length 0) (drop (f.length + 1) u) separates) in
    let stays = parted-stays t x f is other no_unc more put_apart (λ e. omega (arith, length-drop f.length u, more')) in
    let whole : take f.length t ++ x ≡ u = ap (λ front. front ++ x) same ∙ take-append-drop f.length u in
    (ap (separators windows) (sym whole) ∙ stays.0, ap (prefix_of windows) (sym whole) ∙ stays.1)

-- What stands right behind a prefix of Windows that is not the whole text: a root, unless the prefix is a drive.

-- a verbatim drive, or a prefix with something apart behind it
data BehindPrefix (text : List ℕ) : Found → Type 0 where
  behind_drive : (letter : ℕ) (n : ℕ) → BehindPrefix text (found (verbatim_disk letter) n)
  apart : {f : Found} (s : Separators) → (is_verbatim_prefix f.prefix ≡ true → s ≡ separators windows text) → (is_verbatim_prefix f.prefix ≡ false → s ≡ Either) → Apart s (drop f.length text) → BehindPrefix text f

-- what stands behind the name at the front of what is left by a mark
behind_mark : (k n : ℕ) (s : Separators) (text rest : List ℕ) → drop k text ≡ rest → Apart s (drop n rest) → Apart s (drop (k + n) text)
behind_mark k n s text rest dropped h = subst (Apart s) (ap (drop n) (sym dropped) ∙ drop-drop n k text) h

-- so it is behind each prefix with more behind it
behind_prefix : (text : List ℕ) (f : Found) → Read (separators windows text) text f → is_disk f.prefix ≡ false → f.length < length text → BehindPrefix text f
behind_prefix text _ (of_verbatim_unc rest mark filled) other more =
    let s = separators windows text in
    apart s (λ kind. refl) (λ kind. cc) (behind_mark 8 (names_length s rest) s text rest mark.dropped (names-behind s rest (names-parted s rest (omega (arith, mark.size)))))
behind_prefix text _ (of_verbatim_disk rest letter mark drives) other more = behind_drive letter 6
behind_prefix text _ (of_verbatim rest mark filled no_unc no_drive) other more =
    let s = separators windows text in
    apart s (λ kind. refl) (λ kind. cc) (behind_mark 4 (length (name s rest)) s text rest mark.dropped (name-behind s rest))
behind_prefix text _ (of_device rest mark filled) other more =
    apart Either (λ kind. cc) (λ kind. refl) (behind_mark 4 (length (name Either rest)) Either text rest mark.dropped (name-behind Either rest))
behind_prefix text _ (of_unc rest mark filled no_verbatim no_device) other more =
    apart Either (λ kind. cc) (λ kind. refl) (behind_mark 2 (names_length Either rest) Either text rest mark.dropped (names-behind Either rest (names-parted Either rest (omega (arith, mark.size)))))
behind_prefix text _ (of_disk letter drives) other more = cc

-- what stands apart begins with a root, unless it is empty
apart-root : (s : Separators) (rest : List ℕ) → Apart s rest → 0 < length rest → begins_with_root (kinds (resolve (body_parts s rest))) ≡ true
apart-root s _ nothing some = absurd (omega (arith, some))
apart-root s _ (parted b bs separates) some = ap (λ ps. begins_with_root (kinds (resolve (first_parts s ps)))) (slice_split-cons_yes (is_separator s) b bs separates)

-- a verbatim drive, or a prefix with a root behind it
abbrev pub RootBehind : List ℕ → Found → Type 0
RootBehind text f = ((letter : ℕ) × (f.prefix ≡ verbatim_disk letter)) ⊎ (begins_with_root (kinds (resolve (body_parts (separators windows text) (drop f.length text)))) ≡ true)

-- behind each prefix with more behind it stands something apart, unless it is a verbatim drive
pub apart-behind : (text : List ℕ) (f : Found) → prefix_of windows text ≡ Some f → is_disk f.prefix ≡ false → f.length < length text
    → ((letter : ℕ) × (f.prefix ≡ verbatim_disk letter)) ⊎ Apart (separators windows text) (drop f.length text)
apart-behind text f is other more = by f is more (behind_prefix text f read other more) (parted-long (separators windows text) text f read other more)
  where
    read : Read (separators windows text) text f
    read = prefix-read text f is

    by : (f : Found) → prefix_of windows text ≡ Some f → f.length < length text → BehindPrefix text f → 4 ≤ f.length
        → ((letter : ℕ) × (f.prefix ≡ verbatim_disk letter)) ⊎ Apart (separators windows text) (drop f.length text)
    by _ is more (behind_drive letter n) long = inl (letter, refl)
    by f is more (apart s kind plain h) long = inr (subst (λ r. Apart r (drop f.length text)) (same (is_verbatim_prefix f.prefix) refl) h)
      where
        same : (b : Bool) → is_verbatim_prefix f.prefix ≡ b → s ≡ separators windows text
        same b e = grind (arith, plain-kind)

-- each prefix with more behind it is one of these
pub root-behind : (text : List ℕ) (f : Found) → prefix_of windows text ≡ Some f → is_disk f.prefix ≡ false → f.length < length text → RootBehind text f
root-behind text f is other more = grind (arith, apart-behind, apart-root, length-drop)

-- a part that stands behind a place is a root and the rest, or begins with no separator
ends-parted : (s : Separators) (text root rest : List ℕ) → s ≡ Either → Apart s text → IsPartedEither text root rest → length root ≡ 0 → length rest ≡ 0
ends-parted s _ root rest e nothing (inl cut) none = cc
ends-parted s _ root rest e nothing (inr cut) none = ap length cut.1
ends-parted s _ root rest e (parted b bs separates) (inl cut) none = absurd (omega (arith, ap length cut.3, none))
ends-parted s _ root rest e (parted b bs separates) (inr cut) none =
    absurd (both_ways (is_separator s b) (ap (λ z. is_separator z b) e ∙ cut.2 b bs refl) separates)

-- names stand in rows behind each prefix that is no drive and has no verbatim kind
pub plain-takes : (text root rest : List ℕ) (f : Found) → prefix_of windows text ≡ Some f → is_disk f.prefix ≡ false → is_verbatim_prefix f.prefix ≡ false → IsPartedEither (drop f.length text) root rest
    → TakesRows text f root rest
plain-takes text root rest f is other plain cut = record { no_unc = no-unc f.prefix plain; ends = ends (drop f.length text) refl; slashless = slashless (drop f.length text) refl }
  where
    no-unc : (p : Prefix) → is_verbatim_prefix p ≡ false → is_verbatim_unc_name (Some p) ≡ false
    no-unc p e = grind arith

    more : (b : ℕ) (bs : List ℕ) → drop f.length text ≡ b ∷ bs → f.length < length text
    more b bs e = omega (arith, ap length e, length-drop f.length text)

    ends-behind : (g : Found) → is_verbatim_prefix g.prefix ≡ false → IsPartedEither (drop g.length text) root rest → BehindPrefix text g → length root ≡ 0 → length rest ≡ 0
    ends-behind g e h h1 = grind (arith, either, ends-parted)

    ends : (t : List ℕ) → drop f.length text ≡ t → length root ≡ 0 → length rest ≡ 0
    ends [] e = ends-parted Either [] root rest refl nothing (subst (λ t. IsPartedEither t root rest) e cut)
    ends (b ∷ bs) e = ends-behind f plain cut (behind_prefix text f (prefix-read text f is) other (more b bs e))

    slashless : (t : List ℕ) → drop f.length text ≡ t → is_verbatim (separators windows text) ≡ true → list_any (is_separator Slash) (drop f.length text) ≡ false
    slashless [] e v = ap (list_any (is_separator Slash)) e
    slashless (b ∷ bs) e v =
        let long = more b bs e in
        let four = parted-long (separators windows text) text f (prefix-read text f is) other long in
        absurd (both_ways (is_verbatim (separators windows text)) (ap (λ z. is_verbatim (if z then Backslash else Either)) (plain-kind text f is plain (omega (arith, long, four)))) v)

-- a path of Windows in its prefix, a root or none, and the rest
pub head-cut : (path raw root rest : List ℕ) (f : Found) → prefix_of windows path ≡ Some f → raw ≡ take f.length path → IsPartedEither (drop f.length path) root rest → IsHeadOf path raw root rest
head-cut path raw root rest f is e cut = rw is (e, cut)

-- these are no longer than it
pub head-size : (path raw root rest : List ℕ) → IsHeadOf path raw root rest → length raw + length root + length rest ≤ length path
head-size path raw root rest h =
    let behind = sizes (drop (raw_length (prefix_of windows path)) path) h.1 in
    omega (arith, behind, ap length h.0, length-take (raw_length (prefix_of windows path)) path, length-drop (raw_length (prefix_of windows path)) path)
  where
    sizes : (text : List ℕ) → IsPartedEither text root rest → length root + length rest ≤ length text
    sizes text h = grind arith

-- The raw text of a Windows prefix with more behind it, read again: it is a prefix and nothing else.

-- what holds at both separators holds at each
at_separators : (P : ℕ → Type 0) → P slash → P backslash → (b : ℕ) → is_separator Either b ≡ true → P b
at_separators P one other b h = grind arith

-- three bytes around the mark of a verbatim prefix, read as a share
abbrev IsShare : ℕ → ℕ → ℕ → Type 0
IsShare x y z = prefix_of windows (x ∷ y ∷ question ∷ z ∷ []) ≡ Some (found (unc (question ∷ []) []) 4)

-- the mark of a verbatim prefix alone is a share
mark-alone : (text : List ℕ) → after_mark question text ≡ Some [] → prefix_of windows text ≡ Some (found (unc (question ∷ []) []) 4)
mark-alone text is = grind (arith, eqb-true, at_separators)

-- an empty verbatim name stands right behind its mark
bare_name : (s : Separators) (text : List ℕ) (f : Found) → Read s text f → f.prefix ≡ verbatim [] → (f.length ≡ 4) × (after_mark question (take f.length text) ≡ Some [])
bare_name s text _ (of_verbatim_unc rest mark filled) e = cc
bare_name s text _ (of_verbatim_disk rest letter mark drives) e = cc
bare_name s text _ (of_verbatim rest mark filled no_unc no_drive) e =
    let bare : name s rest ≡ [] = cc in
    let size : 4 + length (name s rest) ≡ 4 = omega (arith, ap length bare) in
    (size, ap (λ n. after_mark question (take n text)) size ∙ (after_mark-reads question).whole text rest 0 mark.marked)
bare_name s text _ (of_device rest mark filled) e = cc
bare_name s text _ (of_unc rest mark filled no_verbatim no_device) e = cc
bare_name s text _ (of_disk letter drives) e = cc

-- whether a prefix is an empty verbatim name
abbrev is_bare : Prefix → Bool
is_bare (verbatim []) = true
is_bare p = false

-- the raw text of a prefix with more behind it is a prefix and nothing else
pub raw-whole : (text : List ℕ) (f : Found) → prefix_of windows text ≡ Some f → is_disk f.prefix ≡ false → is_verbatim_unc_name (Some f.prefix) ≡ false → f.length < length text
    → (g : Found) × (prefix_of windows (take f.length text) ≡ Some g) × (g.length ≡ length (take f.length text))
raw-whole text f is other no_unc more = by f.prefix refl
  where
    raw : List ℕ
    raw = take f.length text

    same : (f.prefix ≡ verbatim [] → ⊥) → (g : Found) × (prefix_of windows raw ≡ Some g) × (g.length ≡ length raw)
    same filled = (f, ap (prefix_of windows) (sym (append-nil raw)) ∙ (parted-stays text [] f is other no_unc more nothing (λ e. absurd (filled e))).1, omega (arith, length-take f.length text, more))

    by : (p : Prefix) → f.prefix ≡ p → (g : Found) × (prefix_of windows raw ≡ Some g) × (g.length ≡ length raw)
    by (verbatim []) e =
        let bare = bare_name (separators windows text) text f (prefix-read text f is) e in
        (found (unc (question ∷ []) []) 4, mark-alone raw bare.1, omega (arith, length-take f.length text, more, bare.0))
    by p e = same (λ h. both_ways (is_bare f.prefix) (ap is_bare e) (ap is_bare h))
