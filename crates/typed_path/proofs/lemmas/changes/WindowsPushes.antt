-- What a push of Windows asks of its base and of its end, which paths it puts behind that, and what stands behind a prefix that is written anew.
use Rattle.std.proofs.Common.{◌≡◌, ℕ, ◌+◌, ◌-◌, ◌<◌, ◌≤◌, ◌==◌, ◌||◌, Bool, true, false, if◌then◌else◌, List, [], ◌∷◌, ◌++◌, length, take, drop, slice_index, Option, Some, None, is_some, refl, sym, ap, subst, ◌∙◌, append-nil, arith, suc, not, append_assoc, length-append, option_and_then, ◌&&◌, slice_range, eq-eqb, eqb-true, length-drop, length-take-le, take-take}
use Rattle.std.proofs.lemmas.Grind.{common_steps}
use Rattle.std.specs.Option.{option_or}
use Rattle.std.proofs.lemmas.Bool.{false_from_ne_true, both_ways, or_right}
use Rattle.std.proofs.Math.Seq.{take-add, take-append_seam, drop-append-add}
use Rattle.std.proofs.lemmas.List.{nil_from_length}
use Rattle.std.specs.List.{AllByRecursion}
use Rattle.std.proofs.lemmas.List.Splits.{slice_split-cons_no}
use Rattle.std.proofs.Math.Bool.{and-false}
use Rattle.typed_path.specs.declared.scan.separators.Separators.{Separators}
use Rattle.typed_path.specs.declared.scan.separators.Separators.TheVariants.{Either, Backslash}
use Rattle.typed_path.specs.components.{windows, backslash, question, separators, is_separator, prefix, disk, verbatim, verbatim_disk, verbatim_unc, Part, kinds, is_name, root_part, Found, found, is_empty, drive, after_mark, after_two, after_unc, name, second_name, names_length, prefix_of, device_case, unc_case, disk_case, parts_of, is_dot, is_dot_dot}
use Rattle.typed_path.specs.queries.{has_prefix, has_any_verbatim_prefix, begins_with_root, is_verbatim_prefix}
use Rattle.typed_path.specs.changes.{push, push_windows, merged, without_last_name, raw_prefix, spelled, spells_anew, ended_windows, is_disk_alone, merges, FitsBy, FitsPush, IsPutBehind, names_behind, IsStanding, Stands}
use Rattle.typed_path.proofs.lemmas.components.Segments.{body_parts, body_parts-read, first_parts, later_parts}
use Rattle.typed_path.proofs.lemmas.components.Prefixes.{Read, prefix-read, prefix_of-unseparated}
use Rattle.typed_path.proofs.lemmas.components.PrefixCuts.{parts_of-none, parts_of-some, verbatim-none, verbatim-some}
use Rattle.typed_path.proofs.lemmas.promises.WindowsBases.{read-no_drive}
use Rattle.typed_path.proofs.lemmas.lists.Lists.{AllByRecursion-append, IsLastPlace, place-none, place-behind}
use Rattle.typed_path.proofs.lemmas.components.FirmPrefixes.{filled-long}

-- What a push of Windows asks of its base, and a base that is written anew.

-- a base that is empty or ends with `\\` wants nothing behind it
kept : (t u : List ℕ) (d e : Bool) → e ≡ true → (if d then t else (if e then t else u)) ≡ t ++ []
kept t u d e h = grind (arith, append-nil)

pub ended-empty : (t : List ℕ) → length t < 1 → ended_windows t ≡ t ++ []
ended-empty t h = grind arith

pub ended-ended : (t : List ℕ) → slice_index t (length t - 1) ≡ backslash → ended_windows t ≡ t ++ []
ended-ended t h = kept t (t ++ backslash ∷ []) (is_disk_alone (kinds (parts_of windows t))) (length t == 0 || slice_index t (length t - 1) == backslash) (or_right (length t == 0) _ (eq-eqb _ backslash h))

-- a list with an element is not empty
filled : (b : ℕ) (bs : List ℕ) → is_empty (b ∷ bs) ≡ false
filled b bs = false_from_ne_true _ (λ h. absurd (omega (arith, eqb-true _ 0 h)))

-- whether the mark of a verbatim kind has something behind it
abbrev pub is_marked : Option (List ℕ) → Bool
is_marked None = false
is_marked (Some rest) = not (is_empty rest)

-- whether a prefix that may have been found is of a verbatim kind
abbrev pub is_verbatim_found : Option Found → Bool
is_verbatim_found None = false
is_verbatim_found (Some f) = is_verbatim_prefix f.prefix

-- of two cases none is verbatim
plain-or : (o p : Option Found) → is_verbatim_found o ≡ false → is_verbatim_found p ≡ false → is_verbatim_found (option_or o p) ≡ false
plain-or o p e f = grind arith

plain-made : {A : Type 0} (test : A → Bool) (make : A → Found) → ((x : A) → is_verbatim_prefix (make x).prefix ≡ false) → (o : Option A)
    → is_verbatim_found (option_and_then (λ x. if test x then None else Some (make x)) o) ≡ false
plain-made test make plain o = grind arith

plain-letter : (o : Option ℕ) → is_verbatim_found (option_and_then (λ letter. Some (found (disk letter) 2)) o) ≡ false
plain-letter o = grind arith

-- the cases without the mark of a verbatim kind
plain-others : (t : List ℕ) → is_verbatim_found (option_or (device_case t) (option_or (unc_case t) (disk_case t))) ≡ false
plain-others t = grind (arith, plain-or, plain-made, plain-letter)

-- of two cases the first that holds is verbatim
verbatim-or : (o p : Option Found) → ((f : Found) → o ≡ Some f → is_verbatim_prefix f.prefix ≡ true) → is_verbatim_found p ≡ true → is_verbatim_found (option_or o p) ≡ true
verbatim-or o p first e = grind arith

-- a prefix is of a verbatim kind exactly where the mark has something behind it
verbatim_found-marked : (t : List ℕ) → is_verbatim_found (prefix_of windows t) ≡ is_marked (after_mark question t)
verbatim_found-marked t = by (after_mark question t)
  where
    s : Separators
    s = separators windows t

    others : Option Found
    others = option_or (device_case t) (option_or (unc_case t) (disk_case t))

    made : Option (List ℕ) → Option Found
    made m = option_or (option_and_then (λ rest. if is_empty (name s rest) then None else Some (found (verbatim_unc (name s rest) (second_name s rest)) (8 + names_length s rest))) (option_and_then (after_unc s) m))
        (option_or (option_and_then (λ letter. Some (found (verbatim_disk letter) 6)) (option_and_then drive m))
        (option_or (option_and_then (λ rest. if is_empty rest then None else Some (found (verbatim (name s rest)) (4 + length (name s rest)))) m) others))

    server : (o : Option (List ℕ)) (f : Found) → option_and_then (λ rest. if is_empty (name s rest) then None else Some (found (verbatim_unc (name s rest) (second_name s rest)) (8 + names_length s rest))) o ≡ Some f → is_verbatim_prefix f.prefix ≡ true
    server None f e = cc
    server (Some rest) f e = test (is_empty (name s rest)) e
      where
        test : (b : Bool) → (if b then None else Some (found (verbatim_unc (name s rest) (second_name s rest)) (8 + names_length s rest))) ≡ Some f → is_verbatim_prefix f.prefix ≡ true
        test b e = grind arith

    letter : (o : Option ℕ) (f : Found) → option_and_then (λ letter. Some (found (verbatim_disk letter) 6)) o ≡ Some f → is_verbatim_prefix f.prefix ≡ true
    letter o f e = grind arith

    named : (rest : List ℕ) → is_empty rest ≡ false → is_verbatim_found (made (Some rest)) ≡ true
    named rest e = verbatim-or _ _ (server (after_unc s rest)) (verbatim-or _ _ (letter (drive rest)) (test (is_empty rest) e))
      where
        test : (b : Bool) → b ≡ false → is_verbatim_found (option_or (if b then None else Some (found (verbatim (name s rest)) (4 + length (name s rest)))) others) ≡ true
        test b h = grind arith

    by : (m : Option (List ℕ)) → is_verbatim_found (made m) ≡ is_marked m
    by None = plain-others t
    by (Some []) = plain-others t
    by (Some (b ∷ bs)) = let e = filled b bs in named (b ∷ bs) e ∙ sym (ap not e)

-- so the list tells it too
pub verbatim-marked : (t : List ℕ) → has_any_verbatim_prefix (kinds (parts_of windows t)) ≡ is_marked (after_mark question t)
verbatim-marked t = by (prefix_of windows t) refl ∙ verbatim_found-marked t
  where
    by : (o : Option Found) → prefix_of windows t ≡ o → has_any_verbatim_prefix (kinds (parts_of windows t)) ≡ is_verbatim_found (prefix_of windows t)
    by None e = verbatim-none t e ∙ sym (ap is_verbatim_found e)
    by (Some f) e = verbatim-some t f e ∙ sym (ap is_verbatim_found e)

-- and a text that does not begin with two separators has none of these kinds
pub unmarked-two : (t : List ℕ) → is_some (after_two t) ≡ false → has_any_verbatim_prefix (kinds (parts_of windows t)) ≡ false
unmarked-two t h = grind (arith, verbatim-marked)

-- nor has one of which the third byte is no `?`
pub unmarked-third : (t : List ℕ) → 3 ≤ length t → (slice_index t 2 == question) ≡ false → has_any_verbatim_prefix (kinds (parts_of windows t)) ≡ false
unmarked-third t long other = grind (arith, verbatim-marked)

-- a drive alone is two bytes
drive_read : (t : List ℕ) (f : Found) → Read (separators windows t) t f → is_disk_alone (prefix f.prefix ∷ kinds (body_parts (separators windows t) (drop f.length t))) ≡ true → length t ≡ 2
drive_read t f h alone = grind arith

pub disk_alone-two : (t : List ℕ) → is_disk_alone (kinds (parts_of windows t)) ≡ true → length t ≡ 2
disk_alone-two t alone = by (prefix_of windows t) refl
  where
    by : (o : Option Found) → prefix_of windows t ≡ o → length t ≡ 2
    by None e = absurd (read-no_drive Either (body_parts Either t) (body_parts-read Either t) (ap (λ ps. is_disk_alone (kinds ps)) (sym (parts_of-none t e)) ∙ alone))
    by (Some f) e = drive_read t f (prefix-read t f e) (ap (λ ps. is_disk_alone (kinds ps)) (sym (parts_of-some t f e)) ∙ alone)

-- a text of another length is no drive alone
pub no_disk_alone : (t : List ℕ) → (length t == 2) ≡ false → false ≡ is_disk_alone (kinds (parts_of windows t))
no_disk_alone t e = sym (false_from_ne_true _ (λ h. both_ways _ e (eq-eqb _ 2 (disk_alone-two t h))))

-- a list with a name, or with another component, at its end
pub without_last_name-name : (ps : List Part) (p : Part) → is_name p.kind ≡ true → without_last_name (ps ++ p ∷ []) ≡ ps
without_last_name-name [] p e = rw e refl
without_last_name-name (q ∷ []) p e = rw e refl
without_last_name-name (q ∷ r ∷ ps) p e = ap (λ rs. q ∷ rs) (without_last_name-name (r ∷ ps) p e)

pub without_last_name-other : (ps : List Part) (p : Part) → is_name p.kind ≡ false → without_last_name (ps ++ p ∷ []) ≡ ps ++ p ∷ []
without_last_name-other [] p e = rw e refl
without_last_name-other (q ∷ []) p e = rw e refl
without_last_name-other (q ∷ r ∷ ps) p e = ap (λ rs. q ∷ rs) (without_last_name-other (r ∷ ps) p e)

-- the cases of a push
pub push-empty : (base : List ℕ) (path : List ℕ) → (length path == 0) ≡ true → push_windows base path ≡ base
push-empty base path e = grind (arith, eqb-true)

pub push-prefixed : (base : List ℕ) (path : List ℕ) → (length path == 0) ≡ false → has_prefix (kinds (parts_of windows path)) ≡ true → push_windows base path ≡ path
push-prefixed base path h e = grind arith

pub push-anew : (base : List ℕ) (path : List ℕ) → (length path == 0) ≡ false → has_prefix (kinds (parts_of windows path)) ≡ false → has_any_verbatim_prefix (kinds (parts_of windows base)) ≡ true
    → push_windows base path ≡ spelled (merged (parts_of windows base) (parts_of windows path))
push-anew base path h e f = grind arith

pub push-rooted : (base : List ℕ) (path : List ℕ) → (length path == 0) ≡ false → has_prefix (kinds (parts_of windows path)) ≡ false → has_any_verbatim_prefix (kinds (parts_of windows base)) ≡ false
    → begins_with_root (kinds (parts_of windows path)) ≡ true → push_windows base path ≡ raw_prefix base ++ path
push-rooted base path h e f g = grind arith

pub push-relative : (base : List ℕ) (path : List ℕ) → (length path == 0) ≡ false → has_prefix (kinds (parts_of windows path)) ≡ false → has_any_verbatim_prefix (kinds (parts_of windows base)) ≡ false
    → begins_with_root (kinds (parts_of windows path)) ≡ false → push_windows base path ≡ ended_windows base ++ path
push-relative base path h e f g = grind arith

-- what begins with no separator of Windows and with no drive is put behind
put_behind-first : (b : ℕ) (bs : List ℕ) → is_separator Either b ≡ false → drive (b ∷ bs) ≡ None → IsPutBehind (b ∷ bs)
put_behind-first b bs plain no_drive = grind (arith, common_steps, filled, first_parts, parts_of-none, prefix_of-unseparated, slice_split-cons_no, later_parts)

-- the same of a text by its first byte
pub put_behind-told : (path : List ℕ) → 1 ≤ length path → is_separator Either (slice_index path 0) ≡ false → drive path ≡ None → IsPutBehind path
put_behind-told path h plain no_drive = grind (arith, put_behind-first)

-- such a path is put behind a base that is not spelled anew
pub push-put_behind : (base path : List ℕ) → IsPutBehind path → has_any_verbatim_prefix (kinds (parts_of windows base)) ≡ false → push_windows base path ≡ ended_windows base ++ path
push-put_behind base path is plain = push-relative base path is.filled is.unprefixed plain is.relative

-- a path that stands in a text from one place up to another
module _ (text : List ℕ) (start end : ℕ) (ordered : start ≤ end) (within : end ≤ length text) where
  pub path-length : length (slice_range text start end) ≡ end - start
  path-length = length-take-le (end - start) (drop start text) (omega (arith, length-drop start text))

  -- what stands up to its end
  pub up_to-end : take end text ≡ take start text ++ slice_range text start end
  up_to-end = let whole : end ≡ start + (end - start) = omega arith in ap (λ n. take n text) whole ∙ take-add start (end - start) text

  -- and up to a place in it
  pub up_to-inside : (n : ℕ) → n ≤ length (slice_range text start end) → take (start + n) text ≡ take start text ++ take n (slice_range text start end)
  up_to-inside n inside = grind (arith, take-add, take-take, path-length)

-- what is said of the room for a push, where components are merged into the base and where none is
module _ (room : ℕ) (base path : List ℕ) where
  fits-by : (b : Bool) → merges windows base path ≡ b → FitsPush windows room base path → FitsBy windows room base path b
  fits-by b e fits = subst (FitsBy windows room base path) e fits

  pub fits-plain : spells_anew windows base ≡ false → FitsPush windows room base path → length (push windows base path) ≤ room
  fits-plain e = fits-by false (ap (λ b. not (is_empty path || has_prefix (kinds (parts_of windows path))) && b) e ∙ and-false (not (is_empty path || has_prefix (kinds (parts_of windows path)))))

  pub fits-merged : is_empty path ≡ false → has_prefix (kinds (parts_of windows path)) ≡ false → spells_anew windows base ≡ true → FitsPush windows room base path
      → (spelled (parts_of windows base) ≡ base) × (length base + length path < room)
  fits-merged e f g = fits-by true (λ i. not (e i || f i) && g i)

-- What stands behind a prefix that is written anew: with one component more, and without its last name.

-- a component at the end is written behind `\`
behind-parted : (ns : List Part) (p : Part) → names_behind true (ns ++ p ∷ []) ≡ names_behind true ns ++ backslash ∷ p.text
behind-parted [] p = ap (λ t. backslash ∷ t) (append-nil p.text)
behind-parted (n ∷ ns) p = ap (λ t. backslash ∷ n.text ++ t) (behind-parted ns p) ∙ ap (λ t. backslash ∷ t) (sym (append_assoc n.text (names_behind true ns) (backslash ∷ p.text)))

-- also where the first one is not
behind-rooted : (n : Part) (ns : List Part) (p : Part) → names_behind false (n ∷ ns ++ p ∷ []) ≡ names_behind false (n ∷ ns) ++ backslash ∷ p.text
behind-rooted n ns p = ap (λ t. n.text ++ t) (behind-parted ns p) ∙ sym (append_assoc n.text (names_behind true ns) (backslash ∷ p.text))

-- what stands has bytes
filled-length : (p : Part) → IsStanding p → 0 < length p.text
filled-length p is = filled-long p.text is.filled

-- how many bytes are written
parted-length : (ns : List Part) → AllByRecursion IsStanding ns → length (names_behind true ns) ≡ 1 → ⊥
parted-length [] all one = absurd (omega (arith, one))
parted-length (n ∷ ns) all one = absurd (omega (arith, one, length-append n.text (names_behind true ns), filled-length n all.0))

rooted-length : (n : Part) (ns : List Part) → AllByRecursion IsStanding (n ∷ ns) → 0 < length (names_behind false (n ∷ ns))
rooted-length n ns all = omega (arith, length-append n.text (names_behind true ns), filled-length n all.0)

-- one component more is put behind `\`, or at once behind a root alone
pub stands-more : (parted : Bool) (ps : List Part) (p : Part) (old middle new component : List ℕ) → Stands parted ps old → IsStanding p → p.text ≡ component
    → (length old ≡ 1 → middle ≡ old) → ((length old ≡ 1 → ⊥) → middle ≡ old ++ backslash ∷ []) → new ≡ middle ++ component → Stands parted (ps ++ p ∷ []) new
stands-more parted ps p old middle new component h is same joined apart put = by parted h.names h.standing h.list h.written
  where
    more : (ns : List Part) → AllByRecursion IsStanding ns → AllByRecursion IsStanding (ns ++ p ∷ [])
    more ns all = AllByRecursion-append IsStanding ns (p ∷ []) all (is, tt)

    behind : old ++ backslash ∷ p.text ≡ (old ++ backslash ∷ []) ++ component
    behind = sym (append_assoc old (backslash ∷ []) p.text) ∙ ap (λ t. (old ++ backslash ∷ []) ++ t) same

    by : (b : Bool) (ns : List Part) → AllByRecursion IsStanding ns → ps ≡ (if b then [] else root_part (backslash ∷ []) ∷ []) ++ ns
        → old ≡ (if b then [] else backslash ∷ []) ++ names_behind b ns → Stands b (ps ++ p ∷ []) new
    by true ns all list written = grind (arith, parted-length, more, behind, behind-parted)
    by false [] all list written = grind (arith, append-nil)
    by false (n ∷ ns) all list written = grind (arith, rooted-length, more, behind, behind-rooted)

-- what stands, as what stands before its last component, `\` and that one
record IsEnded (parted : Bool) (ps : List Part) (text : List ℕ) : Type 0 where
  pub others : List Part
  pub last : Part
  pub before : List ℕ
  pub is : IsStanding last
  pub list : ps ≡ others ++ last ∷ []
  pub written : text ≡ before ++ backslash ∷ last.text
  pub some : 0 < length before → Stands parted others before
  pub none : length before ≡ 0 → Stands parted others (if parted then [] else backslash ∷ [])

-- a list with an element, and what stands before its last one
record IsListEnded (ps : List Part) : Type 0 where
  pub front : List Part
  pub last : Part
  pub is : ps ≡ front ++ last ∷ []

ended : (p : Part) (ps : List Part) → IsListEnded (p ∷ ps)
ended p [] = record { front = []; last = p; is = refl }
ended p (q ∷ ps) = let rest = ended q ps in record { front = p ∷ rest.front; last = rest.last; is = ap (λ qs. p ∷ qs) rest.is }

standing-split : (ps : List Part) (p : Part) → AllByRecursion IsStanding (ps ++ p ∷ []) → AllByRecursion IsStanding ps × IsStanding p
standing-split [] p all = (tt, all.0)
standing-split (q ∷ ps) p all = let rest = standing-split ps p all.1 in ((all.0, rest.0), rest.1)

-- more than a root stands where there is more than one byte
stands-ended : (parted : Bool) (ps : List Part) (text : List ℕ) → Stands parted ps text → 1 < length text → IsEnded parted ps text
stands-ended parted ps text h long = by parted h.names h.standing h.list h.written
  where
    at : (b : Bool) (front : List Part) (last : Part) → AllByRecursion IsStanding (front ++ last ∷ []) → ps ≡ (if b then [] else root_part (backslash ∷ []) ∷ []) ++ (front ++ last ∷ [])
        → text ≡ (if b then [] else backslash ∷ []) ++ names_behind b (front ++ last ∷ []) → IsEnded b ps text
    at true front last all list written =
        let both = standing-split front last all in
        let rest : Stands true front (names_behind true front) = record { names = front; standing = both.0; list = refl; written = refl } in
        record {
          others = front;
          last = last;
          before = names_behind true front;
          is = both.1;
          list = list;
          written = written ∙ behind-parted front last;
          some = λ filled. rest;
          none = λ empty. subst (Stands true front) (nil_from_length (names_behind true front) empty) rest;
        }
    at false [] last all list written =
        record {
          others = root_part (backslash ∷ []) ∷ [];
          last = last;
          before = [];
          is = all.0;
          list = list;
          written = written ∙ ap (λ t. backslash ∷ t) (append-nil last.text);
          some = λ filled. absurd (omega (arith, filled));
          none = λ empty. record { names = []; standing = tt; list = refl; written = refl };
        }
    at false (n ∷ ns) last all list written =
        let both = standing-split (n ∷ ns) last all in
        record {
          others = root_part (backslash ∷ []) ∷ n ∷ ns;
          last = last;
          before = backslash ∷ names_behind false (n ∷ ns);
          is = both.1;
          list = list;
          written = written ∙ ap (λ t. backslash ∷ t) (behind-rooted n ns last);
          some = λ filled. record { names = n ∷ ns; standing = both.0; list = refl; written = refl };
          none = λ empty. absurd (omega (arith, empty));
        }

    by : (b : Bool) (ns : List Part) → AllByRecursion IsStanding ns → ps ≡ (if b then [] else root_part (backslash ∷ []) ∷ []) ++ ns
        → text ≡ (if b then [] else backslash ∷ []) ++ names_behind b ns → IsEnded b ps text
    by true [] all list written = absurd (omega (arith, long, ap length written))
    by false [] all list written = absurd (omega (arith, long, ap length written))
    by b (n ∷ ns) all list written =
        let end = ended n ns in
        at b end.front end.last (subst (AllByRecursion IsStanding) end.is all) (list ∙ ap (λ qs. (if b then [] else root_part (backslash ∷ []) ∷ []) ++ qs) end.is)
        (written ∙ ap (λ qs. (if b then [] else backslash ∷ []) ++ names_behind b qs) end.is)

-- no name stands where there is one byte at the most
pub stands-short : (parted : Bool) (ps : List Part) (text : List ℕ) → Stands parted ps text → length text ≤ 1 → without_last_name ps ≡ ps
stands-short parted ps text h least = by parted h.names h.standing h.list h.written
  where
    by : (b : Bool) (ns : List Part) → AllByRecursion IsStanding ns → ps ≡ (if b then [] else root_part (backslash ∷ []) ∷ []) ++ ns
        → text ≡ (if b then [] else backslash ∷ []) ++ names_behind b ns → without_last_name ps ≡ ps
    by true [] all list written = ap without_last_name list ∙ sym list
    by false [] all list written = ap without_last_name list ∙ sym list
    by true (n ∷ ns) all list written = absurd (omega (arith, least, ap length written, length-append n.text (names_behind true ns), filled-length n all.0))
    by false (n ∷ ns) all list written = absurd (omega (arith, least, ap length written, rooted-length n ns all))

-- whether a text is empty, `.` or `..`
abbrev pub is_dots : List ℕ → Bool
is_dots name = is_empty name || is_dot name || is_dot_dot name

-- the last component, at the last `\` behind the first byte
module _ (parted : Bool) (ps : List Part) (text : List ℕ) (h : Stands parted ps text) (long : 1 < length text) (start : ℕ) (place : IsLastPlace (is_separator Backslash) (drop 1 text) start) where
  abbrev end : IsEnded parted ps text
  end = stands-ended parted ps text h long

  at : start ≡ length end.before
  at = by end.before end.written
    where
      by : (before : List ℕ) → text ≡ before ++ backslash ∷ end.last.text → start ≡ length before
      by [] e = place-none (is_separator Backslash) end.last.text start (subst (λ u. IsLastPlace (is_separator Backslash) (drop 1 u) start) e place) end.is.unseparated
      by (b ∷ bs) e =
          place-behind (is_separator Backslash) bs backslash end.last.text start refl end.is.unseparated (subst (λ u. IsLastPlace (is_separator Backslash) (drop 1 u) start) e place)
          ∙ omega arith

  last_text : drop start (drop 1 text) ≡ end.last.text
  last_text = ap (λ n. drop n (drop 1 text)) at ∙ by end.before end.written
    where
      by : (before : List ℕ) → text ≡ before ++ backslash ∷ end.last.text → drop (length before) (drop 1 text) ≡ end.last.text
      by [] e = ap (drop 1) e
      by (b ∷ bs) e =
          let next : suc (length bs) ≡ length bs + 1 = omega arith in
          ap (λ u. drop (suc (length bs)) (drop 1 u)) e ∙ ap (λ n. drop n (bs ++ backslash ∷ end.last.text)) next ∙ drop-append-add bs (backslash ∷ end.last.text) 1

  -- no name is last
  pub stands-dots : is_dots (drop start (drop 1 text)) ≡ true → without_last_name ps ≡ ps
  stands-dots dots =
      ap without_last_name end.list
      ∙ without_last_name-other end.others end.last (end.is.named ∙ ap (λ t. not (is_dots t)) (sym last_text) ∙ ap not dots)
      ∙ sym end.list

  -- what is left of the list, and of the text
  less : is_dots (drop start (drop 1 text)) ≡ false → without_last_name ps ≡ end.others
  less dotless = ap without_last_name end.list ∙ without_last_name-name end.others end.last (end.is.named ∙ ap (λ t. not (is_dots t)) (sym last_text) ∙ ap not dotless)

  left : take start text ≡ end.before
  left = ap (λ n. take n text) at ∙ ap (take (length end.before)) end.written ∙ take-append_seam end.before (backslash ∷ end.last.text)

  pub stands-cut : is_dots (drop start (drop 1 text)) ≡ false → 0 < start → Stands parted (without_last_name ps) (take start text)
  stands-cut dotless some = grind (arith, less, left, at)

  pub stands-alone : is_dots (drop start (drop 1 text)) ≡ false → start ≡ 0 → Stands parted (without_last_name ps) (take (if parted then 0 else 1) text)
  stands-alone dotless h = grind (arith, less, at, nil_from_length)
