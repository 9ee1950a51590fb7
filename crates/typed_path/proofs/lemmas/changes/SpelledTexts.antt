-- A text of Windows that is spelled as it is read, and what a push writes anew.
use Rattle.std.proofs.Common.{◌≡◌, ℕ, true, List, [], ◌∷◌, ◌++◌, take, drop, Option, Some, None, refl, sym, ap, subst, ◌∙◌, append-nil, false, ◌⊎◌, inl, inr, ◌+◌, Bool, if◌then◌else◌, length, append_assoc, arith, ◌<◌, not, nat_lt, codes, option_and_then, length-append, length-take, length-drop, lt-ltb, le-ltb, eqb-true, take-append-drop, drop-drop}
use Rattle.std.proofs.lemmas.Grind.{common_steps}
use Rattle.std.specs.List.{AllByRecursion}
use Rattle.std.proofs.lemmas.Bool.{both_ways, cond_both, cases_lt, cases_Bool, cond-true, cond-false}
use Rattle.std.proofs.lemmas.List.{append_cancel_left, nil_from_length}
use Rattle.std.proofs.lemmas.List.Sums.{sum_by-cons}
use Rattle.std.specs.Str.{bytes_eq}
use Rattle.std.proofs.lemmas.Slice.Eq.{bytes_eq-Decides}
use Rattle.std.proofs.Math.Seq.{drop-append-add}
use Rattle.typed_path.specs.declared.scan.separators.Separators.{Separators}
use Rattle.typed_path.specs.components.{windows, backslash, separators, question, Prefix, Kind, root, Part, kinds, root_part, prefix_part, prefix, current, parent, normal, is_name, verbatim_unc, Found, prefix_of, is_empty, found, after_mark, after_unc, name, second_name, names_length, verbatim_unc_case, parts_of}
use Rattle.typed_path.specs.queries.{is_verbatim_prefix, begins_with_root, has_prefix}
use Rattle.typed_path.specs.changes.{spelled, prefix_alone, without_last_name, merge_by_kind, merged, IsSpelled, is_row, names_behind, IsStanding, IsMergeable, AreMergeable, Stands, room_of}
use Rattle.typed_path.proofs.lemmas.components.Prefixes.{OfWindows, separators-windows, backslash-separates, root_text-windows, after_mark-reads, after_unc-reads, both-read, Read, of_verbatim_unc, of_verbatim_disk, of_verbatim, IsBehindMark, prefix_by}
use Rattle.typed_path.proofs.lemmas.components.Segments.{pieces, later_parts, body_parts, body_parts-read, AreRead, IsWritten, IsLaterPart}
use Rattle.typed_path.proofs.lemmas.changes.Joins.{later_parts-spelled, row-read, row-spelled, joint-relative, IsPiece, later-piece}
use Rattle.typed_path.proofs.lemmas.promises.WindowsBases.{Rest, nothing as bare, from_root, from_other, spelled-behind}
use Rattle.typed_path.proofs.lemmas.components.PrefixCuts.{name-length, parts_of-some, verbatim-none, verbatim-some}
use Rattle.typed_path.proofs.lemmas.components.FirmPrefixes.{parted, name-recut, both-extend, mark-recut, share_made, mark-extends, unc-extends, firm-again}
use Rattle.typed_path.proofs.lemmas.lists.Options.{some_is, unless-none}

-- What stands behind the prefix of a text of Windows that is spelled as it is read.

-- what stands behind the prefix: nothing, or a root and later components
pub data Behind (s : Separators) : List Part → List Part → List ℕ → Type 0 where
  nothing : Behind s [] [] []
  rooted : (ps : List Part) → AllByRecursion (IsLaterPart s) ps → Behind s (root_part (backslash ∷ []) ∷ ps) ps (backslash ∷ spelled ps)

-- a root is spelled before what stands behind it
spelled-root : (text : List ℕ) (ps : List Part) → spelled (root_part text ∷ ps) ≡ text ++ spelled ps
spelled-root text ps = grind (arith, append-nil)

-- such a list, spelled behind its prefix
pub spelled-prefixed : (s : Separators) (p : Prefix) (raw : List ℕ) (ps qs : List Part) (text : List ℕ) → Behind s ps qs text → spelled (prefix_part p raw ∷ ps) ≡ raw ++ text
spelled-prefixed s p raw _ _ _ nothing = sym (append-nil raw)
spelled-prefixed s p raw _ _ _ (rooted ps later) = ap (λ t. t ++ spelled (root_part (backslash ∷ []) ∷ ps)) (append-nil raw) ∙ ap (λ t. raw ++ t) (spelled-root (backslash ∷ []) ps)

module _ (s : Separators) (w : OfWindows s) where
  -- later components, spelled and read again
  pub later-again : (ps : List Part) → AllByRecursion (IsLaterPart s) ps → later_parts s (pieces s (spelled ps)) ≡ ps
  later-again [] later = refl
  later-again (p ∷ ps) later = later_parts-spelled s w p ps later

  -- a text that begins with `\` is read as a root and what stands later
  pub body_parts-rooted : (text : List ℕ) → body_parts s (backslash ∷ text) ≡ root_part (backslash ∷ []) ∷ later_parts s (pieces s text)
  body_parts-rooted text = grind arith

  -- what stands behind the prefix is read again
  behind-again : (ps qs : List Part) (text : List ℕ) → Behind s ps qs text → body_parts s text ≡ ps
  behind-again _ _ _ nothing = refl
  behind-again _ _ _ (rooted ps later) = body_parts-rooted (spelled ps) ∙ ap (λ qs. root_part (backslash ∷ []) ∷ qs) (later-again ps later)

  -- what is spelled behind a prefix, and read again as what was spelled
  rest-behind : (ps : List Part) (rest : List ℕ) → Rest ps rest → body_parts s rest ≡ ps → AreRead s ps → (qs : List Part) × Behind s ps qs rest
  rest-behind _ _ bare again read = ([], nothing)
  rest-behind _ _ (from_root p ps e) again read = (ps, by p.kind p.text e read.0)
    where
      by : (k : Kind) (text : List ℕ) → begins_with_root (k ∷ []) ≡ true → IsWritten s k text → Behind s (record { kind = k; text = text } ∷ ps) ps (spelled (record { kind = k; text = text } ∷ ps))
      by root text e written =
          let one : Behind s (root_part (backslash ∷ []) ∷ ps) ps (spelled (root_part (backslash ∷ []) ∷ ps)) =
          subst (Behind s (root_part (backslash ∷ []) ∷ ps) ps) (sym (spelled-root (backslash ∷ []) ps)) (rooted ps read.1) in
          subst (λ t. Behind s (root_part t ∷ ps) ps (spelled (root_part t ∷ ps))) (sym (written ∙ root_text-windows s w)) one
      by k text e written = cc
  rest-behind _ _ (from_other p ps e) again read =
      absurd (both_ways (begins_with_root (p.kind ∷ [])) e (sym (ap (λ rs. begins_with_root (take 1 (kinds rs))) (sym (body_parts-rooted (spelled (p ∷ ps))) ∙ again))))

-- a text with a verbatim prefix and such a list behind it is spelled as it is read
pub behind-spelled : (t : List ℕ) (f : Found) (ps qs : List Part) → prefix_of windows t ≡ Some f → is_verbatim_prefix f.prefix ≡ true → Behind (separators windows t) ps qs (drop f.length t)
    → IsSpelled t × (parts_of windows t ≡ prefix_part f.prefix (take f.length t) ∷ ps)
behind-spelled t f ps qs is marked behind =
    let s = separators windows t in
    let parts : parts_of windows t ≡ prefix_part f.prefix (take f.length t) ∷ ps =
    parts_of-some t f is ∙ ap (λ rs. prefix_part f.prefix (take f.length t) ∷ rs) (behind-again s (separators-windows t) ps qs (drop f.length t) behind) in
    ((verbatim-some t f is ∙ marked, ap spelled parts ∙ spelled-prefixed s f.prefix (take f.length t) ps qs (drop f.length t) behind ∙ take-append-drop f.length t), parts)

-- the prefix of a text, and what stands behind it
pub record IsShaped (t : List ℕ) : Type 0 where
  pub found : Found
  pub is : prefix_of windows t ≡ Some found
  pub marked : is_verbatim_prefix found.prefix ≡ true
  pub others : List Part
  pub behind : Behind (separators windows t) (body_parts (separators windows t) (drop found.length t)) others (drop found.length t)

-- a text that is spelled as it is read has that shape
pub spelled-shaped : (t : List ℕ) → IsSpelled t → IsShaped t
spelled-shaped t is = by (prefix_of windows t) refl
  where
    s : Separators
    s = separators windows t

    by : (o : Option Found) → prefix_of windows t ≡ o → IsShaped t
    by None none = absurd (both_ways _ (verbatim-none t none) is.0)
    by (Some f) some =
        let raw = take f.length t in
        let own = body_parts s (drop f.length t) in
        let written = spelled-behind f.prefix raw own in
        let same : written.0 ≡ drop f.length t =
        append_cancel_left raw written.0 (drop f.length t) (sym written.1 ∙ ap spelled (sym (parts_of-some t f some)) ∙ is.1 ∙ sym (take-append-drop f.length t)) in
        let shape = rest-behind s (separators-windows t) own (drop f.length t) (subst (Rest own) same written.2) refl (body_parts-read s (drop f.length t)) in
        record { found = f; is = some; marked = sym (verbatim-some t f some) ∙ is.0; others = shape.0; behind = shape.1 }

-- How a push spells a text of Windows anew, told by what stands behind the prefix.

-- what stands behind a verbatim prefix tells how a push spells its text anew
module _ (t : List ℕ) (f : Found) (is : prefix_of windows t ≡ Some f) (marked : is_verbatim_prefix f.prefix ≡ true) where
  behind-told : (ps qs : List Part) (text : List ℕ) → drop f.length t ≡ text → Behind (separators windows t) ps qs text → IsSpelled t
  behind-told ps qs text e behind = (behind-spelled t f ps qs is marked (subst (Behind (separators windows t) ps qs) (sym e) behind)).0

  -- a root
  pub root-spelled : drop f.length t ≡ backslash ∷ [] → IsSpelled t
  root-spelled e = behind-told (root_part (backslash ∷ []) ∷ []) [] (backslash ∷ []) e (rooted [] tt)

  -- or a root and a row
  pub row-spelled_text : (text : List ℕ) → drop f.length t ≡ backslash ∷ text → is_row (separators windows t) text ≡ true → IsSpelled t
  row-spelled_text text e h =
      let s = separators windows t in
      let row = row-read s text (separators-windows t) h in
      let ps = row.first ∷ row.others in
      behind-told (root_part (backslash ∷ []) ∷ ps) ps (backslash ∷ text) e (subst (λ u. Behind s (root_part (backslash ∷ []) ∷ ps) ps (backslash ∷ u)) row.same (rooted ps row.later))

  -- of a text that is spelled as it stands
  told : IsSpelled t → (drop f.length t ≡ []) ⊎ ((text : List ℕ) × (drop f.length t ≡ backslash ∷ text) × ((text ≡ []) ⊎ (is_row (separators windows t) text ≡ true)))
  told own =
      let shape = spelled-shaped t own in
      let same : shape.found ≡ f = some_is (sym shape.is ∙ is) in
      by _ shape.others (drop shape.found.length t) shape.behind (ap (λ g. drop g.length t) (sym same))
    where
      s : Separators
      s = separators windows t

      by : (ps qs : List Part) (text : List ℕ) → Behind s ps qs text → drop f.length t ≡ text
          → (drop f.length t ≡ []) ⊎ ((text : List ℕ) × (drop f.length t ≡ backslash ∷ text) × ((text ≡ []) ⊎ (is_row s text ≡ true)))
      by _ _ _ nothing e = inl e
      by _ _ _ (rooted [] later) e = inr ([], e, inl refl)
      by _ _ _ (rooted (q ∷ qs) later) e = inr (spelled (q ∷ qs), e, inr (row-spelled s (separators-windows t) q qs later))

  -- another byte than `\`
  pub other-unspelled : (b : ℕ) (bs : List ℕ) → drop f.length t ≡ b ∷ bs → (b ≡ backslash → ⊥) → IsSpelled t → ⊥
  other-unspelled b bs e other own = grind (arith, told)

  -- a root and no row
  pub row-unspelled : (text : List ℕ) → drop f.length t ≡ backslash ∷ text → is_empty text ≡ false → is_row (separators windows t) text ≡ false → IsSpelled t → ⊥
  row-unspelled text e filled no_row own = grind (arith, told, both_ways)

pub plain-unspelled : (t : List ℕ) (f : Found) → prefix_of windows t ≡ Some f → is_verbatim_prefix f.prefix ≡ false → IsSpelled t → ⊥
plain-unspelled t f is plain own = both_ways _ (verbatim-some t f is ∙ plain) own.0

-- Components merged into what stands behind a prefix that is written anew, and what comes of it as one text.

-- a list that begins with no prefix
abbrev pub IsUnprefixed : List Part → Type 0
IsUnprefixed ps = has_prefix (kinds ps) ≡ false

first-unprefixed : (k : Kind) (ks ls : List Kind) → has_prefix (k ∷ ks) ≡ false → has_prefix (k ∷ ls) ≡ false
first-unprefixed k ks ls e = grind arith

-- there is nothing that a root leaves of it
alone-nothing : (ps : List Part) → IsUnprefixed ps → prefix_alone ps ≡ []
alone-nothing ps e = grind arith

-- lists that begin with no prefix stay so
merge-unprefixed : (ps : List Part) (k : Kind) (text : List ℕ) → IsUnprefixed ps → IsMergeable (record { kind = k; text = text }) k → IsUnprefixed (merge_by_kind ps (record { kind = k; text = text }) k)
merge-unprefixed ps (prefix q) text e is = absurd is
merge-unprefixed ps root text e is = ap (λ qs. has_prefix (kinds (qs ++ root_part text ∷ []))) (alone-nothing ps e)
merge-unprefixed ps current text e is = e
merge-unprefixed [] parent text e is = refl
merge-unprefixed (p ∷ []) parent text e is = cond_both (is_name p.kind) [] (p ∷ []) IsUnprefixed (λ name. refl) (λ other. e)
merge-unprefixed (p ∷ q ∷ ps) parent text e is = first-unprefixed p.kind (kinds (q ∷ ps)) (kinds (without_last_name (q ∷ ps))) e
merge-unprefixed [] (normal name) text e is = refl
merge-unprefixed (p ∷ ps) (normal name) text e is = first-unprefixed p.kind (kinds ps) (kinds (ps ++ record { kind = normal name; text = text } ∷ [])) e

-- merged behind a prefix, a component leaves that alone
module _ (p : Prefix) (raw : List ℕ) where
  merge-behind : (ps : List Part) (k : Kind) (text : List ℕ) → IsUnprefixed ps → IsMergeable (record { kind = k; text = text }) k
      → merge_by_kind (prefix_part p raw ∷ ps) (record { kind = k; text = text }) k ≡ prefix_part p raw ∷ merge_by_kind ps (record { kind = k; text = text }) k
  merge-behind ps k text e is = grind arith

  -- and so do many
  pub merged-behind : (ps qs : List Part) → IsUnprefixed ps → AreMergeable qs → merged (prefix_part p raw ∷ ps) qs ≡ prefix_part p raw ∷ merged ps qs
  merged-behind ps [] e are = refl
  merged-behind ps (q ∷ qs) e are =
      ap (λ rs. merged rs qs) (merge-behind ps q.kind q.text e are.0)
      ∙ merged-behind (merge_by_kind ps q q.kind) qs (merge-unprefixed ps q.kind q.text e are.0) are.1

-- components that stand, spelled
pub spelled-standing : (n : Part) (ns : List Part) → AllByRecursion IsStanding (n ∷ ns) → spelled (n ∷ ns) ≡ n.text ++ names_behind true ns
spelled-standing n [] all = sym (append-nil n.text)
spelled-standing n (m ∷ ns) all = grind (arith, common_steps, joint-relative, append_assoc, spelled-standing m ns all.1)

-- what stands behind a prefix, spelled with that
pub stands-spelled : (p : Prefix) (raw : List ℕ) (is_parted : Bool) (ps : List Part) (text : List ℕ) → Stands is_parted ps text → spelled (prefix_part p raw ∷ ps) ≡ raw ++ text
stands-spelled p raw is_parted ps text h = grind (arith, append-nil, joint-relative, append_assoc, spelled-standing)

-- a path that is partly merged into what stands
pub record IsMerging (is_parted : Bool) (old : List ℕ) (all : List Part) (now : Bool) (text : List ℕ) (rest : List Part) : Type 0 where
  pub lists : (ps : List Part) → Stands is_parted ps old → (qs : List Part) × Stands now qs text × (merged qs rest ≡ merged ps all)
  pub left : AreMergeable rest

module _ {is_parted : Bool} {old : List ℕ} {all : List Part} {now : Bool} {text : List ℕ} where
  -- the next component is merged
  pub merging-next : (p : Part) (some rest : List Part) (next : Bool) (new : List ℕ) → IsMerging is_parted old all now text some → some ≡ p ∷ rest
      → ((ps : List Part) → Stands now ps text → Stands next (merge_by_kind ps p p.kind) new) → IsMerging is_parted old all next new rest
  merging-next p some rest next new h step one =
      record {
        lists = λ ps stands. let l = h.lists ps stands in (merge_by_kind l.0 p p.kind, one l.0 l.1, ap (merged l.0) (sym step) ∙ l.2);
        left = (subst AreMergeable step h.left).1;
      }

  -- all are
  pub merging-end : (rest : List Part) → IsMerging is_parted old all now text rest → rest ≡ [] → (ps : List Part) → Stands is_parted ps old → Stands now (merged ps all) text
  merging-end rest h none ps stands = let l = h.lists ps stands in subst (λ qs. Stands now qs text) (ap (merged l.0) (sym none) ∙ l.2) l.1

-- the room that is left once a component is put
pub room-next : (p : Part) (old rest : List Part) → old ≡ p ∷ rest → room_of old ≡ room_of (p ∷ []) + room_of rest
room-next p old rest step = grind (arith, common_steps, sum_by-cons)

-- The prefix of a text that is spelled as it is read, and has more than a root behind that: it stays, whatever stands behind the root.

module _ (s : Separators) where
  -- a share is found where its mark is
  share-found : (u now : List ℕ) → option_and_then (after_unc s) (after_mark question u) ≡ Some now → is_empty (name s now) ≡ false
      → prefix_by s u ≡ Some (found (verbatim_unc (name s now) (second_name s now)) (8 + names_length s now))
  share-found u now mark filled = grind arith

  -- its mark stays where the text is cut behind it and has more put behind that
  share-marked : (m : ℕ) (t rest x : List ℕ) → option_and_then (after_unc s) (after_mark question t) ≡ Some rest
      → option_and_then (after_unc s) (after_mark question (take (8 + m) t ++ x)) ≡ Some (take m rest ++ x)
  share-marked m t rest x mark =
      mark-recut 8 (λ u. option_and_then (after_unc s) (after_mark question u)) (both-read 4 4 (after_mark question) (after_unc s) (after_mark-reads question) (after_unc-reads s))
      (both-extend (after_mark question) (after_unc s) (mark-extends question) (unc-extends s)) m t rest x mark

  -- the second name is what stands behind the first one and a separator
  second-behind : (k : ℕ) (front x : List ℕ) → length front + k ≡ length (name s (front ++ x)) + 1 → second_name s (front ++ x) ≡ name s (drop k x)
  second-behind k front x long = grind (arith, name-length, drop-append-add)

module _ (s : Separators) (w : OfWindows s) where
  -- behind a separator at the front stands no name before it
  name-none : (x : List ℕ) → name s (backslash ∷ x) ≡ []
  name-none x = rw (backslash-separates s w) refl

  -- an empty share stays where the separator before it stands
  shared-stays : (t rest x : List ℕ) → IsBehindMark 8 (option_and_then (after_unc s) (after_mark question t)) t rest → is_empty (name s rest) ≡ false → is_empty (second_name s rest) ≡ true
      → length (name s rest) < length rest
      → prefix_by s (take (8 + names_length s rest) t ++ backslash ∷ x) ≡ Some (found (verbatim_unc (name s rest) (second_name s rest)) (8 + names_length s rest))
  shared-stays t rest x mark filled empty less =
      let m = names_length s rest in
      let front = take m rest in
      let now = front ++ backslash ∷ x in
      let none : second_name s rest ≡ [] = nil_from_length (second_name s rest) (eqb-true _ 0 empty) in
      let size : m ≡ length (name s rest) + 1 + length (second_name s rest) = cond-true (nat_lt (length (name s rest)) (length rest)) _ (length (name s rest)) (lt-ltb _ _ less) in
      let first : name s now ≡ name s rest = name-recut s m rest (backslash ∷ x) (parted backslash x (backslash-separates s w)) (omega arith) in
      let second : second_name s now ≡ second_name s rest =
      second-behind s 0 front (backslash ∷ x) (omega (arith, ap length first, ap length none, length-take m rest)) ∙ name-none x ∙ sym none in
      let inside : length (name s now) < length now = omega (arith, ap length first, length-append front (backslash ∷ x), length-take m rest) in
      let same : names_length s now ≡ m =
      cond-true (nat_lt (length (name s now)) (length now)) _ (length (name s now)) (lt-ltb _ _ inside) ∙ omega (arith, ap length first, ap length second) in
      share-found s (take (8 + m) t ++ backslash ∷ x) now (share-marked s m t rest (backslash ∷ x) mark.marked) (ap is_empty first ∙ filled)
      ∙ (λ i. Some (found (verbatim_unc (first i) (second i)) (8 + same i)))

  -- behind `UNC` and `\` stands what a share is read from
  unc-marked : (x : List ℕ) → after_unc s (codes "UNC" ++ backslash ∷ x) ≡ Some x
  unc-marked x = ap (λ b. if b then Some x else None) (backslash-separates s w)

  -- later components, spelled, begin with a name
  spelled-named : (k : Kind) (text : List ℕ) (ps : List Part) → IsPiece s k text → 0 < length (name s (spelled (record { kind = k; text = text } ∷ ps)))
  spelled-named k text ps piece = grind arith

  -- so `UNC` with such behind it is no name
  unc-read : (t rest : List ℕ) (p : Part) (ps : List Part) → IsLaterPart s p → after_mark question t ≡ Some rest → rest ≡ codes "UNC" ++ backslash ∷ spelled (p ∷ ps) → verbatim_unc_case s t ≡ None → ⊥
  unc-read t rest p ps later mark is none =
      let now = spelled (p ∷ ps) in
      let made : share_made verbatim_unc 8 s now ≡ None =
      sym (ap (λ o. option_and_then (share_made verbatim_unc 8 s) (option_and_then (after_unc s) o)) mark ∙ ap (λ r. option_and_then (share_made verbatim_unc 8 s) (after_unc s r)) is
      ∙ ap (option_and_then (share_made verbatim_unc 8 s)) (unc-marked now)) ∙ none in
      let empty : length (name s now) ≡ 0 = eqb-true _ 0 (unless-none (is_empty (name s now)) _ made) in
      absurd (omega (arith, spelled-named p.kind p.text ps (later-piece s p.kind p.text later)))

  -- an empty share
  share-kept : (t rest x : List ℕ) (p : Part) (ps : List Part) → IsBehindMark 8 (option_and_then (after_unc s) (after_mark question t)) t rest → is_empty (name s rest) ≡ false
      → is_empty (second_name s rest) ≡ true → drop (8 + names_length s rest) t ≡ backslash ∷ spelled (p ∷ ps)
      → prefix_by s (take (8 + names_length s rest) t ++ backslash ∷ x) ≡ Some (found (verbatim_unc (name s rest) (second_name s rest)) (8 + names_length s rest))
  share-kept t rest x p ps mark filled empty behind = grind (arith, common_steps, cases_lt, shared-stays, cond-false, le-ltb, length-drop)

  -- each verbatim prefix
  pub verbatim-kept : (t x : List ℕ) (f : Found) (p : Part) (ps : List Part) → Read s t f → is_verbatim_prefix f.prefix ≡ true → IsLaterPart s p → drop f.length t ≡ backslash ∷ spelled (p ∷ ps)
      → prefix_by s (take f.length t ++ backslash ∷ x) ≡ Some f
  verbatim-kept t x _ p ps (of_verbatim_unc rest mark filled) kind later behind = elim (cases_Bool (is_empty (second_name s rest))) [
    | inr shared ↦ firm-again s t _ _ (of_verbatim_unc rest mark filled) (ap not shared) refl (parted backslash _ (backslash-separates s w)) (omega arith)
    | inl empty ↦ share-kept t rest x p ps mark filled empty behind
  ]
  verbatim-kept t x _ p ps (of_verbatim_disk rest letter mark drives) kind later behind =
      firm-again s t _ _ (of_verbatim_disk rest letter mark drives) refl refl (parted backslash _ (backslash-separates s w)) (omega arith)
  verbatim-kept t x _ p ps (of_verbatim rest mark filled no_unc no_drive) kind later behind = elim (cases_Bool (bytes_eq (name s rest) (codes "UNC"))) [
    | inl same ↦
        let m = length (name s rest) in
        let front : take m rest ≡ codes "UNC" = ap (λ k. take k rest) (name-length s rest) ∙ (bytes_eq-Decides (name s rest) (codes "UNC")).0 same in
        let rests : drop m rest ≡ backslash ∷ spelled (p ∷ ps) = ap (drop m) (sym mark.dropped) ∙ drop-drop m 4 t ∙ behind in
        absurd (unc-read t rest p ps later mark.marked (sym (take-append-drop m rest) ∙ (λ i. front i ++ rests i)) no_unc)
    | inr other ↦ firm-again s t _ _ (of_verbatim rest mark filled no_unc no_drive) (ap not other) refl (parted backslash _ (backslash-separates s w)) (omega arith)
  ]
  verbatim-kept t x _ p ps read kind later behind = cc
