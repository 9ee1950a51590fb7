-- A path of a verbatim drive without its `\\?\`: what the test for it finds, and what it is read as.
use Rattle.std.proofs.Common.{◌≡◌, List, [], ◌∷◌, true, false, ◌&&◌, drop, refl, sym, ap, ◌∙◌, ℕ, ◌≤◌, ◌==◌, ◌++◌, Bool, if◌then◌else◌, length, take, arith, append-nil, subst, ◌⊎◌, inl, inr, ◌↔◌, map, ◌<◌}
use Rattle.std.specs.Prelude.{Some, None, Option, option_and_then, nat_lt}
use Rattle.std.specs.List.{list_all, slice_split, onto_first, AllByRecursion}
use Rattle.std.proofs.lemmas.Bool.{cases_Bool, not-true, eqb-true, and_parts}
use Rattle.std.proofs.lemmas.List.{drop-drop, nil_from_length}
use Rattle.std.proofs.lemmas.List.Elements.{All-head, All-tail}
use Rattle.std.proofs.lemmas.List.Splits.{slice_split-cons_yes, slice_split-cons_no}
use Rattle.std.specs.Str.{str_eq_ignore_ascii_case, str_to_ascii_lowercase}
use Rattle.std.specs.Char.{to_ascii_lowercase}
use Rattle.std.specs.Bool.{one_answer, IsTrue}
use Rattle.std.proofs.lemmas.Slice.Eq.{bytes_eq-Decides}
use Rattle.std.proofs.Math.Bool.{and-false}
use Rattle.typed_path.specs.declared.scan.separators.Separators.{Separators}
use Rattle.typed_path.specs.declared.scan.separators.Separators.TheVariants.{Backslash, Either}
use Rattle.typed_path.specs.components.{Part, Placed, kinds, parts, windows, separators, is_separator, is_verbatim, backslash, Prefix, verbatim_disk, disk, Kind, prefix, root, prefix_part, parent_part, name_part, current_part, root_part, Found, found, prefix_of, drive, parts_of, is_dot, is_dot_dot, comps, after_mark, question}
use Rattle.typed_path.specs.scan.{first_part, last_of}
use Rattle.typed_path.specs.queries.{is_exact, is_simple, is_verbatim_drive, is_written_root, is_exact_name, is_absolute, has_root, file_name_of, name_of, can_be_simplified, simplified_text, with_drive}
use Rattle.typed_path.specs.places.{resolve}
use Rattle.typed_path.specs.promises.{IsAlikeBehind}
use Rattle.typed_path.proofs.lemmas.lists.Lists.{IsUnseparated, slice_split-some}
use Rattle.typed_path.proofs.lemmas.components.Segments.{later_parts, first_part as segment_part, first_parts, body_parts, body_parts-read, AreRead}
use Rattle.typed_path.proofs.lemmas.components.Prefixes.{Read, of_verbatim_disk, prefix-read, prefix-fits}
use Rattle.typed_path.proofs.lemmas.components.FirmPrefixes.{drive-stays, separates-either}
use Rattle.typed_path.proofs.lemmas.components.WindowsNames.{allowed-unseparated}
use Rattle.typed_path.proofs.lemmas.components.PrefixCuts.{parts_of-none, parts_of-some}
use Rattle.typed_path.proofs.lemmas.scan.Steps.{last_of-behind}
use Rattle.typed_path.proofs.lemmas.components.PartedPrefixes.{drive-either}

pub none_exact : (cs : List Placed) → None ≡ first_part cs → true ≡ list_all is_exact (kinds (parts cs))
none_exact cs h = grind arith

pub step_exact : (cs ds : List Placed) (p : Part) → Some p ≡ first_part cs → ds ≡ drop 1 cs → list_all is_exact (kinds (parts cs)) ≡ (is_exact p.kind && list_all is_exact (kinds (parts ds)))
step_exact cs ds p h rest = grind arith

-- a component that was taken is one less
pub one_less : (cs ds : List Placed) (p : Part) → Some p ≡ first_part cs → ds ≡ drop 1 cs → length ds < length cs
one_less cs ds p h rest = grind arith

pub none_simple : (cs : List Placed) → None ≡ first_part cs → false ≡ is_simple (kinds (parts cs))
none_simple cs h = grind arith

pub one_simple : (cs ds : List Placed) (p : Part) → Some p ≡ first_part cs → ds ≡ drop 1 cs → None ≡ first_part ds → false ≡ is_simple (kinds (parts cs))
one_simple cs ds p h rest h1 = grind arith

pub two_simple : (cs ds es : List Placed) (p q : Part) → Some p ≡ first_part cs → ds ≡ drop 1 cs → Some q ≡ first_part ds → es ≡ drop 1 ds
    → (is_verbatim_drive p.kind && is_written_root q.kind && list_all is_exact (kinds (parts es))) ≡ is_simple (kinds (parts cs))
two_simple cs ds es p q one rest two more = grind arith

-- what the test finds: a verbatim drive, and a root and names in what stands behind it
pub record IsSimple (t : List ℕ) : Type 0 where
  pub letter : ℕ
  pub prefixed : prefix_of windows t ≡ Some (found (verbatim_disk letter) 6)
  pub marked : after_mark question t ≡ Some (drop 4 t)
  pub dropped : drive (drop 4 t) ≡ Some letter
  pub names : (ks : List Kind) × (kinds (body_parts (separators windows t) (drop 6 t)) ≡ root ∷ ks) × (list_all is_exact ks ≡ true)

-- a list that is read without a prefix is not simple
unprefixed : (s : Separators) (ps : List Part) → AreRead s ps → is_simple (kinds ps) ≡ false
unprefixed s ps read = grind arith

pub simple_text : (t : List ℕ) → is_simple (kinds (parts_of windows t)) ≡ true → IsSimple t
simple_text t is = by (prefix_of windows t) refl
  where
    s : Separators
    s = separators windows t

    rooted : (k : Kind) → is_written_root k ≡ true → k ≡ root
    rooted root e = refl
    rooted k e = cc

    behind : (p : Prefix) (ks : List Kind) → is_simple (prefix p ∷ ks) ≡ true → (is_verbatim_drive (prefix p) ≡ true) × ((ls : List Kind) × (ks ≡ root ∷ ls) × (list_all is_exact ls ≡ true))
    behind p ks e = grind (arith, and_parts, rooted)

    read : (f : Found) → prefix_of windows t ≡ Some f → is_verbatim_drive (prefix f.prefix) ≡ true → (ls : List Kind) × (kinds (body_parts s (drop f.length t)) ≡ root ∷ ls) × (list_all is_exact ls ≡ true) → Read s t f → IsSimple t
    read f e drives names (of_verbatim_disk rest letter mark found_drive) = grind (arith, of_verbatim_disk)
    read f e drives names r = cc

    by : (o : Option Found) → prefix_of windows t ≡ o → IsSimple t
    by None e = absurd (never (sym is ∙ ap (λ ps. is_simple (kinds ps)) (parts_of-none t e) ∙ unprefixed Either (body_parts Either t) (body_parts-read Either t)))
      where
        never : true ≡ false → ⊥
        never h = cc
    by (Some f) e =
        let told = behind f.prefix (kinds (body_parts s (drop f.length t))) (sym (ap (λ ps. is_simple (kinds ps)) (parts_of-some t f e)) ∙ is) in
        read f e told.0 told.1 (prefix-read t f e)

-- such a text has six bytes or more
pub simple_long : (t : List ℕ) → is_simple (kinds (parts_of windows t)) ≡ true → 4 ≤ length t
simple_long t is =
    let h = simple_text t is in
    omega (arith, (prefix-fits windows t _ h.prefixed).fits)

-- a name that Windows takes as it is written holds no separator
exact-unseparated : (name : List ℕ) → is_exact_name name ≡ true → IsUnseparated (is_separator Either) name
exact-unseparated name e = grind (arith, allowed-unseparated, not-true)

-- what is cut at `\` alone, in pieces without `/`, is cut at and_parts in the same pieces
recut : (text : List ℕ) → AllByRecursion (IsUnseparated (is_separator Either)) (slice_split (is_separator Backslash) text) → slice_split (is_separator Either) text ≡ slice_split (is_separator Backslash) text
recut [] each = refl
recut (b ∷ bs) each = by (λ h. recut bs h) (cases_Bool (is_separator Backslash b))
  where
    Again : Type 0
    Again = AllByRecursion (IsUnseparated (is_separator Either)) (slice_split (is_separator Backslash) bs) → slice_split (is_separator Either) bs ≡ slice_split (is_separator Backslash) bs

    plain : Again → (piece : List ℕ) (others : List (List ℕ)) → slice_split (is_separator Backslash) bs ≡ piece ∷ others → AllByRecursion (IsUnseparated (is_separator Either)) (onto_first b (piece ∷ others))
        → is_separator Backslash b ≡ false → slice_split (is_separator Either) (b ∷ bs) ≡ slice_split (is_separator Backslash) (b ∷ bs)
    plain again piece others split all e =
        let own = all.0 in
        let rest : AllByRecursion (IsUnseparated (is_separator Either)) (slice_split (is_separator Backslash) bs) = subst (AllByRecursion (IsUnseparated (is_separator Either))) (sym split) (All-tail (λ c. is_separator Either c ≡ false) b piece own, all.1) in
        slice_split-cons_no (is_separator Either) b bs (All-head (λ c. is_separator Either c ≡ false) b piece own)
        ∙ ap (onto_first b) (again rest) ∙ sym (slice_split-cons_no (is_separator Backslash) b bs e)

    by : Again → (is_separator Backslash b ≡ true) ⊎ (is_separator Backslash b ≡ false) → slice_split (is_separator Either) (b ∷ bs) ≡ slice_split (is_separator Backslash) (b ∷ bs)
    by again h = grind (arith, slice_split-cons_yes, separates-either, slice_split-some, slice_split-cons_no, plain)

-- pieces that are read verbatim as such names are read so otherwise too
pub record Rereads (others : List (List ℕ)) : Type 0 where
  pub same : later_parts Either others ≡ later_parts Backslash others
  pub unseparated : AllByRecursion (IsUnseparated (is_separator Either)) others

reread : (others : List (List ℕ)) → list_all is_exact (kinds (later_parts Backslash others)) ≡ true → Rereads others
reread [] exact = record { same = refl; unseparated = tt }
reread (piece ∷ others) exact =
    let h = by (length piece == 0) refl (is_dot piece) (is_dot_dot piece) exact (λ more. reread others more) in
    record { same = h.0; unseparated = h.1 }
  where
    rest : List Part
    rest = later_parts Backslash others

    part : Separators → Bool → Bool → Bool → List Part
    part s none dotted twice = if none then [] else (if dotted then (if is_verbatim s then current_part ∷ [] else []) else (if twice then parent_part else name_part piece) ∷ [])

    Goal : Bool → Bool → Bool → Type 0
    Goal none dotted twice = (part Either none dotted twice ++ later_parts Either others ≡ part Backslash none dotted twice ++ rest) × AllByRecursion (IsUnseparated (is_separator Either)) (piece ∷ others)

    by : (none : Bool) → (length piece == 0) ≡ none → (dotted twice : Bool) → list_all is_exact (kinds (part Backslash none dotted twice ++ rest)) ≡ true
        → (list_all is_exact (kinds rest) ≡ true → Rereads others) → Goal none dotted twice
    by none e dotted twice exact again = grind (arith, nil_from_length, eqb-true, and_parts, rest, exact-unseparated)

heads : {k l : Kind} {ks ls : List Kind} → k ∷ ks ≡ l ∷ ls → (k ≡ l) × (ks ≡ ls)
heads h = (cc, cc)

-- so what stands behind a verbatim drive is read alike behind the drive
same_behind : (s : Separators) (text : List ℕ) (ks : List Kind) → kinds (body_parts s text) ≡ root ∷ ks → list_all is_exact ks ≡ true → (s ≡ Backslash) ⊎ (s ≡ Either) → body_parts Either text ≡ body_parts s text
same_behind s text ks is exact (inr e) = ap (λ r. body_parts r text) (sym e)
same_behind s [] ks is exact (inl e) = cc
same_behind s (b ∷ bs) ks is exact (inl e) =
    let some = slice_split-some (is_separator Backslash) (b ∷ bs) in
    let read : kinds (first_parts Backslash (some.0 ∷ some.1)) ≡ root ∷ ks = ap (λ ps. kinds (first_parts Backslash ps)) (sym some.2) ∙ ap (λ r. kinds (body_parts r (b ∷ bs))) (sym e) ∙ is in
    let first = heads read in
    let h = reread some.1 (ap (list_all is_exact) first.1 ∙ exact) in
    let cut = recut (b ∷ bs) (subst (AllByRecursion (IsUnseparated (is_separator Either))) (sym some.2) (empty-first some.0 first.0, h.unseparated)) in
    ap (first_parts Either) (cut ∙ some.2) ∙ ap (λ ps. segment_part Backslash some.0 ∷ ps) h.same ∙ ap (first_parts Backslash) (sym some.2) ∙ ap (λ r. body_parts r (b ∷ bs)) (sym e)
  where
    empty-first : (piece : List ℕ) → (segment_part Backslash piece).kind ≡ root → IsUnseparated (is_separator Either) piece
    empty-first piece h = by (length piece == 0) refl (is_dot piece) (is_dot_dot piece) h
      where
        by : (none : Bool) → (length piece == 0) ≡ none → (dotted twice : Bool)
            → (if none then root_part (backslash ∷ []) else (if dotted then current_part else (if twice then parent_part else name_part piece))).kind ≡ root → IsUnseparated (is_separator Either) piece
        by none e dotted twice h = grind (arith, nil_from_length, eqb-true)

of_either : (t : List ℕ) → (separators windows t ≡ Backslash) ⊎ (separators windows t ≡ Either)
of_either t = grind arith

-- a path of a verbatim drive, and the same without its mark: all but the prefix is the same
pub record IsReread (t : List ℕ) : Type 0 where
  pub letter : ℕ
  pub behind : List Part
  pub read : parts_of windows t ≡ prefix_part (verbatim_disk letter) (take 6 t) ∷ behind
  pub reread : parts_of windows (drop 4 t) ≡ prefix_part (disk letter) (take 2 (drop 4 t)) ∷ behind

pub simple_read : (t : List ℕ) → is_simple (kinds (parts_of windows t)) ≡ true → IsReread t
simple_read t is =
    let h = simple_text t is in
    let s = separators windows t in
    let rest = drop 4 t in
    let drives : prefix_of windows rest ≡ Some (found (disk h.letter) 2) = ap (prefix_of windows) (sym (append-nil rest)) ∙ drive-stays rest [] h.letter h.dropped in
    record {
      letter = h.letter;
      behind = body_parts s (drop 6 t);
      read = parts_of-some t _ h.prefixed;
      reread = parts_of-some rest _ drives
          ∙ ap (λ r. prefix_part (disk h.letter) (take 2 rest) ∷ body_parts r (drop 2 rest)) (drive-either rest h.letter h.dropped)
          ∙ ap (λ text. prefix_part (disk h.letter) (take 2 rest) ∷ body_parts Either text) (drop-drop 2 4 t)
          ∙ ap (λ ps. prefix_part (disk h.letter) (take 2 rest) ∷ ps) (same_behind s (drop 6 t) h.names.0 h.names.1 h.names.2 (of_either t));
    }

pub simple_of : (t : List ℕ) → can_be_simplified t ≡ true → is_simple (kinds (parts_of windows t)) ≡ true
simple_of t e = (and_parts (nat_lt (length t) 264) (is_simple (kinds (parts_of windows t))) e).1

-- the name at the end of a list
abbrev end_name : List Kind → Option (List ℕ)
end_name [] = None
end_name (k ∷ []) = name_of k
end_name (k ∷ l ∷ ks) = end_name (l ∷ ks)

end_named : (cs : List Placed) → option_and_then (λ last. name_of last.part.kind) (last_of cs) ≡ end_name (kinds (parts cs))
end_named [] = refl
end_named (c ∷ []) = refl
end_named (p ∷ c ∷ cs) = ap (option_and_then (λ last. name_of last.part.kind)) (last_of-behind p c cs) ∙ end_named (c ∷ cs)

-- two prefixes before the same components
same_end : (p q : Prefix) (ks : List Kind) → end_name (prefix p ∷ ks) ≡ end_name (prefix q ∷ ks)
same_end p q ks = grind arith

pub alike_behind : (t : List ℕ) → IsAlikeBehind t (simplified_text windows t)
alike_behind t = by (can_be_simplified t) refl
  where
    Alike : Bool → List ℕ → Type 0
    Alike simple u =
        (kinds (parts_of windows u) ≡ (if simple then with_drive (kinds (parts_of windows t)) else kinds (parts_of windows t)))
        × (drop 1 (parts_of windows u) ≡ drop 1 (parts_of windows t))
        × (is_absolute windows (kinds (parts_of windows u)) ≡ is_absolute windows (kinds (parts_of windows t)))
        × (has_root windows (kinds (parts_of windows u)) ≡ has_root windows (kinds (parts_of windows t)))
        × (file_name_of windows u ≡ file_name_of windows t)
        × (drop 1 (resolve (parts_of windows u)) ≡ drop 1 (resolve (parts_of windows t)))

    given : (simple : Bool) → can_be_simplified t ≡ simple → Alike simple (if simple then drop 4 t else t)
    given true e =
        let h = simple_read t (simple_of t e) in (
          ap kinds h.reread ∙ sym (ap (λ ps. with_drive (kinds ps)) h.read),
          ap (drop 1) h.reread ∙ sym (ap (drop 1) h.read),
          ap (λ ps. is_absolute windows (kinds ps)) h.reread ∙ sym (ap (λ ps. is_absolute windows (kinds ps)) h.read),
          ap (λ ps. has_root windows (kinds ps)) h.reread ∙ sym (ap (λ ps. has_root windows (kinds ps)) h.read),
          end_named (comps windows (drop 4 t)) ∙ ap (λ ps. end_name (kinds ps)) h.reread ∙ same_end (disk h.letter) (verbatim_disk h.letter) (kinds h.behind)
              ∙ sym (end_named (comps windows t) ∙ ap (λ ps. end_name (kinds ps)) h.read),
          ap (λ ps. drop 1 (resolve ps)) h.reread ∙ sym (ap (λ ps. drop 1 (resolve ps)) h.read),
        )
    given false e = (refl, refl, refl, refl, refl, refl)

    by : (simple : Bool) → can_be_simplified t ≡ simple → IsAlikeBehind t (simplified_text windows t)
    by simple e = let h = given (can_be_simplified t) refl in record { kinds_alike = h.0; behind = h.1; absolute = h.2; rooted = h.3; named = h.4; resolved = h.5 }

-- what is left begins with a drive, and is left as it is
pub simplified_again : (t : List ℕ) → simplified_text windows (simplified_text windows t) ≡ simplified_text windows t
simplified_again t = by (can_be_simplified t) refl
  where
    not_again : IsReread t → can_be_simplified (drop 4 t) ≡ false
    not_again h = ap (λ b. nat_lt (length (drop 4 t)) 264 && b) (ap (λ ps. is_simple (kinds ps)) h.reread ∙ unsimple h.behind) ∙ and-false (nat_lt (length (drop 4 t)) 264)
      where
        unsimple : (ps : List Part) → is_simple (kinds (prefix_part (disk h.letter) (take 2 (drop 4 t)) ∷ ps)) ≡ false
        unsimple ps = grind arith

    by : (simple : Bool) → can_be_simplified t ≡ simple → simplified_text windows (if simple then drop 4 t else t) ≡ (if simple then drop 4 t else t)
    by simple e = grind (arith, not_again, simple_read, simple_of)

-- texts that are told to be the same, ASCII case aside, are
pub told_same : (one other : List ℕ) (told : Bool) → IsTrue told ↔ (map to_ascii_lowercase one ≡ map to_ascii_lowercase other) → told ≡ str_eq_ignore_ascii_case one other
told_same one other told is = one_answer told (str_eq_ignore_ascii_case one other) is (bytes_eq-Decides (str_to_ascii_lowercase one) (str_to_ascii_lowercase other))
