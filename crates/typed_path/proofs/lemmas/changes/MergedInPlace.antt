-- Components as they are read, merged behind a prefix, and read again.
use Rattle.std.proofs.Common.{◌≡◌, ℕ, suc, ◌+◌, ◌≤◌, ◌<◌, ne_eqb, Bool, true, false, if◌then◌else◌, List, [], ◌∷◌, ◌++◌, length, take, drop, slice_range, ◌-◌, Some, None, refl, sym, ap, subst, ◌∙◌, append_assoc, append-nil, arith, length-take-le, length-drop, Option, take-append-drop, take-take, drop-drop}
use Rattle.std.proofs.lemmas.Grind.{common_steps}
use Rattle.std.specs.List.{AllByRecursion}
use Rattle.std.proofs.lemmas.Bool.{cond_both, both_ways}
use Rattle.std.proofs.lemmas.List.{drop-take}
use Rattle.std.proofs.lemmas.List.Sums.{sum_by-cons, sum_by-append}
use Rattle.std.proofs.Math.Seq.{drop-append_seam, take-append_seam}
use Rattle.typed_path.specs.declared.scan.separators.Separators.{Separators}
use Rattle.typed_path.specs.declared.scan.separators.Separators.TheVariants.{Backslash, Either}
use Rattle.typed_path.specs.components.{windows, backslash, separators, is_separator, begins_verbatim, Kind, prefix, root, current, parent, normal, Part, kinds, root_part, prefix_part, is_name, Found, prefix_of, is_empty, parts_of}
use Rattle.typed_path.specs.queries.{has_prefix, has_any_verbatim_prefix, begins_with_root}
use Rattle.typed_path.specs.changes.{spelled, merged, raw_length, spells_anew, without_last_name, merge_by_kind, push_windows, IsStanding, IsReadFirst, AreReadBehind, IsMergeable, AreMergeable, Stands, IsSpelled, names_behind, room_of, IsKnown}
use Rattle.typed_path.proofs.lemmas.lists.Lists.{AllByRecursion-weaker, width, width-slice_split}
use Rattle.typed_path.proofs.lemmas.components.Prefixes.{OfWindows, separators-windows, prefix-fits, prefix-read, prefix_by}
use Rattle.typed_path.proofs.lemmas.components.Segments.{pieces, first_part, later_part, first_parts, later_parts, body_parts, body_parts-read, AreRead, IsWritten, IsLater, IsLaterPart, IsWritten-later, each-written, IsWrittenPart}
use Rattle.typed_path.proofs.lemmas.changes.SpelledTexts.{Behind, nothing, rooted, spelled-shaped, IsUnprefixed, merged-behind, spelled-standing, stands-spelled, IsShaped, spelled-prefixed, behind-spelled, verbatim-kept}
use Rattle.typed_path.proofs.lemmas.components.PrefixCuts.{prefix-size, verbatim-size, verbatim-take, parts_of-none, parts_of-some, unprefixed}
use Rattle.typed_path.proofs.lemmas.changes.WindowsPushes.{push-anew}
use Rattle.typed_path.proofs.lemmas.components.WindowsNames.{clean-either}

-- Components as they are read, which stand behind a prefix or are merged there, and the room that they take.

module _ (s : Separators) (w : OfWindows s) where
  -- a later component stands
  pub later-standing : (k : Kind) (text : List ℕ) → IsLater s k text → IsStanding (record { kind = k; text = text })
  later-standing k text later = grind arith

  pub each-standing : (ps : List Part) → AllByRecursion (IsLaterPart s) ps → AllByRecursion IsStanding ps
  each-standing ps later = AllByRecursion-weaker (IsLaterPart s) IsStanding (λ p. later-standing p.kind p.text) ps later

  -- so does a first one that is no root
  first-read : (k : Kind) (text : List ℕ) → IsWritten s k text → IsReadFirst (record { kind = k; text = text }) k
  first-read k text written = grind arith

  -- what is read behind a prefix
  pub read-behind : (ps : List Part) → AreRead s ps → AreReadBehind ps
  read-behind ps read = grind (arith, first-read, each-standing)

  -- what stands behind the prefix of a text that is spelled as it is read
  pub behind-stands : (ps qs : List Part) (text : List ℕ) → Behind s ps qs text → Stands (is_empty text) ps text
  behind-stands _ _ _ nothing = record { names = []; standing = tt; list = refl; written = refl }
  behind-stands _ _ _ (rooted ps later) = subst (λ b. Stands b (root_part (backslash ∷ []) ∷ ps) (backslash ∷ spelled ps)) (sym (ne_eqb (suc (length (spelled ps))) 0 (λ e. cc))) (record { names = ps; standing = each-standing ps later; list = refl; written = ap (λ t. backslash ∷ t) (by ps (each-standing ps later)) })
    where
      by : (ps : List Part) → AllByRecursion IsStanding ps → spelled ps ≡ names_behind false ps
      by [] all = refl
      by (p ∷ ps) all = spelled-standing p ps all

-- components that are merged
written-mergeable : (k : Kind) (text : List ℕ) → IsWritten Either k text → IsMergeable (record { kind = k; text = text }) k
written-mergeable k text written = grind arith

later-mergeable : (k : Kind) (text : List ℕ) → IsLater Either k text → IsMergeable (record { kind = k; text = text }) k
later-mergeable k text later = written-mergeable k text (IsWritten-later Either k text later)

read-mergeable : (ps : List Part) → AreRead Either ps → AreMergeable ps
read-mergeable [] read = tt
read-mergeable (p ∷ ps) read =
    (written-mergeable p.kind p.text read.0, AllByRecursion-weaker (IsLaterPart Either) (λ p. IsMergeable p p.kind) (λ q. later-mergeable q.kind q.text) ps read.1)

-- a list without a prefix is that of a text without one
pub no-prefix : (t : List ℕ) → has_prefix (kinds (parts_of windows t)) ≡ false → prefix_of windows t ≡ None
no-prefix t h = by (prefix_of windows t) refl
  where
    by : (o : Option Found) → prefix_of windows t ≡ o → o ≡ None
    by o e = grind (arith, both_ways, parts_of-some)

-- those of a text without a prefix are
pub text-mergeable : (t : List ℕ) → has_prefix (kinds (parts_of windows t)) ≡ false → AreMergeable (parts_of windows t)
text-mergeable t h = subst AreMergeable (sym (parts_of-none t (no-prefix t h))) (read-mergeable (body_parts Either t) (body_parts-read Either t))

-- the room that the component of a piece takes
abbrev size : Part → ℕ
size p = length p.text + (if begins_with_root (p.kind ∷ []) then 0 else 1)

module _ (s : Separators) where
  first-size : (piece : List ℕ) → size (first_part s piece) ≤ length piece + 1
  first-size piece = grind arith

  later-size : (piece : List ℕ) → room_of (later_part s piece) ≤ length piece + 1
  later-size piece = grind arith

  later-sizes : (ns : List (List ℕ)) → room_of (later_parts s ns) ≤ width ns
  later-sizes [] = omega arith
  later-sizes (n ∷ ns) = omega (arith, later-size n, later-sizes ns, sum_by-append size (later_part s n) (later_parts s ns))

  first-sizes : (ns : List (List ℕ)) → room_of (first_parts s ns) ≤ width ns
  first-sizes ns = grind (arith, common_steps, first-size, later-sizes, sum_by-cons, first_part, later_parts)

  pub room-body : (t : List ℕ) → room_of (body_parts s t) ≤ length t + 1
  room-body [] = omega arith
  room-body (b ∷ bs) = omega (arith, first-sizes (pieces s (b ∷ bs)), width-slice_split (is_separator s) (b ∷ bs))

-- the components of a text without a prefix take a byte more than the text at the most
pub room-text : (t : List ℕ) → has_prefix (kinds (parts_of windows t)) ≡ false → room_of (parts_of windows t) ≤ length t + 1
room-text t h = subst (λ ps. room_of ps ≤ length t + 1) (sym (parts_of-none t (no-prefix t h))) (room-body Either t)

-- what is read behind a prefix: a root and what stands behind it, or what stands there at once
pub read-rooted : (ps : List Part) → AreReadBehind ps → begins_with_root (kinds ps) ≡ true → (qs : List Part) × (ps ≡ root_part (backslash ∷ []) ∷ qs) × AllByRecursion IsStanding qs
read-rooted ps read e = grind arith

pub read-relative : (ps : List Part) → AreReadBehind ps → begins_with_root (kinds ps) ≡ false → AllByRecursion IsStanding ps
read-relative ps read e = grind arith

-- some of them are put
pub record ArePut (parted : Bool) (text : List ℕ) (all rest : List Part) : Type 0 where
  pub done : List Part
  pub stands : Stands parted done text
  pub list : all ≡ done ++ rest
  pub standing : AllByRecursion IsStanding rest

pub put-relative : (text : List ℕ) (ps : List Part) → text ≡ [] → AreReadBehind ps → begins_with_root (kinds ps) ≡ false → ArePut true text ps ps
put-relative text ps e read relative = grind arith

pub put-rooted : (text : List ℕ) (ps rest : List Part) → text ≡ backslash ∷ [] → AreReadBehind ps → begins_with_root (kinds ps) ≡ true → rest ≡ drop 1 ps → ArePut false text ps rest
put-rooted text ps rest e read is same =
    let h = read-rooted ps read is in
    let left : h.0 ≡ rest = sym (same ∙ ap (drop 1) h.1) in
    record {
      done = root_part (backslash ∷ []) ∷ [];
      stands = record { names = []; standing = tt; list = refl; written = e };
      list = h.1 ∙ ap (λ qs. root_part (backslash ∷ []) ∷ qs) left;
      standing = subst (AllByRecursion IsStanding) left h.2;
    }

module _ {parted : Bool} {text : List ℕ} {all : List Part} where
  pub put-next : (p : Part) (some rest : List Part) (new : List ℕ) → ArePut parted text all some → some ≡ p ∷ rest
      → ((ps : List Part) → Stands parted ps text → IsStanding p → Stands parted (ps ++ p ∷ []) new) → ArePut parted new all rest
  put-next p some rest new h step one =
      let standing = subst (AllByRecursion IsStanding) step h.standing in
      record {
        done = h.done ++ p ∷ [];
        stands = one h.done h.stands standing.0;
        list = h.list ∙ ap (λ qs. h.done ++ qs) step ∙ sym (append_assoc h.done (p ∷ []) rest);
        standing = standing.1;
      }

  pub put-end : (rest : List Part) → ArePut parted text all rest → rest ≡ [] → Stands parted all text
  put-end rest h none = subst (λ qs. Stands parted qs text) (sym (h.list ∙ ap (λ qs. h.done ++ qs) none ∙ append-nil h.done)) h.stands

-- what is read behind a prefix begins with none
read-unprefixed : (ps : List Part) → AreReadBehind ps → IsUnprefixed ps
read-unprefixed ps read = grind arith

-- a base with a prefix, and the list behind it
pub record IsBased (base : List ℕ) : Type 0 where
  pub found : Found
  pub is : prefix_of windows base ≡ Some found
  pub list : parts_of windows base ≡ prefix_part found.prefix (take found.length base) ∷ drop 1 (parts_of windows base)
  pub read : AreReadBehind (drop 1 (parts_of windows base))

pub prefixed-based : (base : List ℕ) → has_prefix (kinds (parts_of windows base)) ≡ true → IsBased base
prefixed-based base h = by (prefix_of windows base) refl
  where
    s : Separators
    s = separators windows base

    by : (o : Option Found) → prefix_of windows base ≡ o → IsBased base
    by None none = absurd (both_ways _ (unprefixed (λ p. true) base none) h)
    by (Some f) some = grind (arith, parts_of-some, body_parts, s, read-behind, separators-windows, body_parts-read)

-- a path merged into what stands behind the prefix of a base, as one text with that
pub merged-text : (base other text : List ℕ) (head : ℕ) (now : Bool) → has_prefix (kinds (parts_of windows base)) ≡ true → has_prefix (kinds (parts_of windows other)) ≡ false
    → head ≡ raw_length (prefix_of windows base) → take head text ≡ take head base → Stands now (merged (drop 1 (parts_of windows base)) (parts_of windows other)) (drop head text)
    → text ≡ spelled (merged (parts_of windows base) (parts_of windows other))
merged-text base other text head now own no_prefix size kept stands =
    let based = prefixed-based base own in
    let f = based.found in
    let rest = drop 1 (parts_of windows base) in
    let long : head ≡ f.length = size ∙ ap raw_length based.is in
    sym (take-append-drop head text)
    ∙ ap (λ t. t ++ drop head text) (kept ∙ ap (λ n. take n base) long)
    ∙ sym (stands-spelled f.prefix (take f.length base) now (merged rest (parts_of windows other)) (drop head text) stands)
    ∙ ap spelled (sym (ap (λ ps. merged ps (parts_of windows other)) based.list ∙ merged-behind f.prefix (take f.length base) rest (parts_of windows other) (read-unprefixed rest based.read) (text-mergeable other no_prefix)))

-- what stands behind the prefix of a base that is spelled as it stands
pub spelled-stands : (base : List ℕ) (head : ℕ) → IsSpelled base → head ≡ raw_length (prefix_of windows base) → Stands (is_empty (drop head base)) (drop 1 (parts_of windows base)) (drop head base)
spelled-stands base head own size =
    let shape = spelled-shaped base own in
    let f = shape.found in
    let s = separators windows base in
    let rest : drop 1 (parts_of windows base) ≡ body_parts s (drop f.length base) = ap (drop 1) (parts_of-some base f shape.is) in
    let at : f.length ≡ head = sym (size ∙ ap raw_length shape.is) in
    subst (λ n. Stands (is_empty (drop n base)) (drop 1 (parts_of windows base)) (drop n base)) at
    (subst (λ ps. Stands (is_empty (drop f.length base)) ps (drop f.length base)) (sym rest) (behind-stands s (separators-windows base) (body_parts s (drop f.length base)) shape.others (drop f.length base) shape.behind))

-- such a base has a prefix
pub spelled-prefixed_list : (base : List ℕ) → spells_anew windows base ≡ true → has_prefix (kinds (parts_of windows base)) ≡ true
spelled-prefixed_list base anew = by (kinds (parts_of windows base)) anew
  where
    by : (ks : List Kind) → has_any_verbatim_prefix ks ≡ true → has_prefix ks ≡ true
    by ks e = grind arith

-- a base that stands in a text, written in place: what is left of the text before it, and its prefix
module _ (old new : List ℕ) (start head kept : ℕ) (inside : start + head ≤ kept) (within : kept ≤ length old) (same : take (start + head) new ≡ take (start + head) (take kept old)) where
  pub place-before : take start new ≡ take start old
  place-before =
      sym (take-take start (start + head) new (omega arith)) ∙ ap (take start) same ∙ take-take start (start + head) (take kept old) (omega arith)
      ∙ take-take start kept old (omega arith)

  pub place-range : slice_range old start kept ≡ drop start (take kept old)
  place-range = let whole : kept ≡ start + (kept - start) = omega arith in sym (drop-take start (kept - start) old) ∙ ap (λ n. drop start (take n old)) (sym whole)

  pub place-prefix : take head (drop start new) ≡ take head (slice_range old start kept)
  place-prefix =
      sym (drop-take start head new) ∙ ap (drop start) same ∙ drop-take start head (take kept old) ∙ ap (take head) (sym place-range)

  pub place-text : take start new ++ drop start new ≡ take start old ++ drop start new
  place-text = ap (λ t. t ++ drop start new) place-before

  -- what stands behind the prefix, once the text is cut
  pub place-behind : drop (start + head) (take kept old) ≡ drop head (slice_range old start kept)
  place-behind = sym (drop-drop head start (take kept old)) ∙ ap (drop head) (sym place-range)

-- A text that is spelled as it is read, once a path is merged into it: it stays so, and keeps its prefix where more than a root stood behind that.

module _ (s : Separators) where
  -- a root and later components behind it
  abbrev IsRooted : List Part → Type 0
  IsRooted ps = (ns : List Part) × (ps ≡ root_part (backslash ∷ []) ∷ ns) × AllByRecursion (IsLaterPart s) ns

  -- later components, without a last name
  later-fewer : (ns : List Part) → AllByRecursion (IsLaterPart s) ns → AllByRecursion (IsLaterPart s) (without_last_name ns)
  later-fewer [] later = tt
  later-fewer (n ∷ []) later = cond_both (is_name n.kind) [] (n ∷ []) (AllByRecursion (IsLaterPart s)) (λ name. tt) (λ other. later)
  later-fewer (n ∷ m ∷ ns) later = (later.0, later-fewer (m ∷ ns) later.1)

  -- a component of a path without a prefix, merged into such a list
  rooted-next : (ns : List Part) → AllByRecursion (IsLaterPart s) ns → (k : Kind) (text : List ℕ) → IsWritten Either k text → IsRooted (merge_by_kind (root_part (backslash ∷ []) ∷ ns) (record { kind = k; text = text }) k)
  rooted-next ns later (prefix p) text written = absurd written
  rooted-next ns later root text written = ([], ap (λ t. root_part t ∷ []) written, tt)
  rooted-next ns later current text written = (ns, refl, later)
  rooted-next [] later parent text written = ([], refl, tt)
  rooted-next (n ∷ ns) later parent text written = (without_last_name (n ∷ ns), refl, later-fewer (n ∷ ns) later)
  rooted-next ns later (normal name) text written = grind (arith, common_steps, clean-either)

  rooted-merged : (qs ps : List Part) → IsRooted ps → AllByRecursion (IsWrittenPart Either) qs → IsRooted (merged ps qs)
  rooted-merged [] ps is written = is
  rooted-merged (q ∷ qs) ps is written =
      rooted-merged qs (merge_by_kind ps q q.kind) (subst (λ rs. IsRooted (merge_by_kind rs q q.kind)) (sym is.1) (rooted-next is.0 is.2 q.kind q.text written.0)) written.1

module _ (t n : List ℕ) (own : IsSpelled t) (no_prefix : has_prefix (kinds (parts_of windows n)) ≡ false) (more : raw_length (prefix_of windows t) + 1 < length t) where
  abbrev shape : IsShaped t
  shape = spelled-shaped t own

  abbrev f : Found
  f = shape.found

  abbrev raw : List ℕ
  raw = take f.length t

  abbrev s : Separators
  s = separators windows t

  raw-long : length raw ≡ f.length
  raw-long = length-take-le f.length t (prefix-fits windows t f shape.is).fits

  -- what stands behind the prefix
  record IsLong (ps : List Part) (text : List ℕ) : Type 0 where
    pub first : Part
    pub others : List Part
    pub later : AllByRecursion (IsLaterPart s) (first ∷ others)
    pub list : ps ≡ root_part (backslash ∷ []) ∷ first ∷ others
    pub written : text ≡ backslash ∷ spelled (first ∷ others)

  long : IsLong (body_parts s (drop f.length t)) (drop f.length t)
  long = by _ shape.others (drop f.length t) shape.behind (omega (arith, more, ap raw_length shape.is, length-drop f.length t))
    where
      by : (ps qs : List Part) (text : List ℕ) → Behind s ps qs text → 1 < length text → IsLong ps text
      by _ _ _ nothing size = absurd (omega (arith, size))
      by _ _ _ (rooted [] later) size = absurd (omega (arith, size))
      by _ _ _ (rooted (q ∷ qs) later) size = record { first = q; others = qs; later = later; list = refl; written = refl }

  abbrev own_list : List Part
  own_list = root_part (backslash ∷ []) ∷ long.first ∷ long.others

  -- once the path is merged
  now : IsRooted s (merged own_list (parts_of windows n))
  now = grind (arith, parts_of-none, no-prefix, each-written, body_parts, body_parts-read, rooted-merged, long)

  abbrev rest : List ℕ
  rest = backslash ∷ spelled now.0

  behind-now : Behind s (merged own_list (parts_of windows n)) now.0 rest
  behind-now = subst (λ ps. Behind s ps now.0 rest) (sym now.1) (rooted now.0 now.2)

  text-now : spelled (merged (parts_of windows t) (parts_of windows n)) ≡ raw ++ rest
  text-now =
      ap (λ ps. spelled (merged ps (parts_of windows n))) (parts_of-some t f shape.is ∙ ap (λ ps. prefix_part f.prefix raw ∷ ps) long.list)
      ∙ ap spelled (merged-behind f.prefix raw own_list (parts_of windows n) refl (text-mergeable n no_prefix))
      ∙ spelled-prefixed s f.prefix raw (merged own_list (parts_of windows n)) now.0 rest behind-now

  separators-stay : separators windows (raw ++ rest) ≡ s
  separators-stay =
      let size = verbatim-size f.prefix t f.length (prefix-size t f shape.is) shape.marked in
      let front : take f.length (raw ++ rest) ≡ raw = ap (λ k. take k (raw ++ rest)) (sym raw-long) ∙ take-append_seam raw rest in
      ap (λ b. if b then Backslash else Either) (sym (verbatim-take (raw ++ rest) f.length size) ∙ ap begins_verbatim front ∙ verbatim-take t f.length size)

  prefix-stays : prefix_of windows (raw ++ rest) ≡ Some f
  prefix-stays =
      ap (λ z. prefix_by z (raw ++ rest)) separators-stay
      ∙ verbatim-kept s (separators-windows t) t (spelled now.0) f long.first long.others (prefix-read t f shape.is) shape.marked long.later.0 long.written

  -- the text is spelled as it is read, and its prefix is the one that it had
  pub known-again : IsKnown windows (Some (raw_length (prefix_of windows t))) (spelled (merged (parts_of windows t) (parts_of windows n)))
  known-again =
      let u = raw ++ rest in
      let cut : drop f.length u ≡ rest = ap (λ k. drop k u) (sym raw-long) ∙ drop-append_seam raw rest in
      let behind : Behind (separators windows u) (merged own_list (parts_of windows n)) now.0 (drop f.length u) =
      subst (λ z. Behind z (merged own_list (parts_of windows n)) now.0 (drop f.length u)) (sym separators-stay) (subst (Behind s (merged own_list (parts_of windows n)) now.0) (sym cut) behind-now) in
      subst (λ v. IsKnown windows (Some (raw_length (prefix_of windows t))) v) (sym text-now)
      ((behind-spelled u f (merged own_list (parts_of windows n)) now.0 prefix-stays shape.marked behind).0, ap raw_length shape.is ∙ sym (ap raw_length prefix-stays))

-- so it is with each path that is pushed
pub keeps-known : (t n : List ℕ) (head : ℕ) → IsKnown windows (Some head) t → prefix_of windows n ≡ None → head + 1 < length t → IsKnown windows (Some head) (push_windows t n)
keeps-known t [] head known none more = known
keeps-known t (b ∷ bs) head known none more =
    let n = b ∷ bs in
    let no_prefix = unprefixed (λ p. true) n none in
    subst (IsKnown windows (Some head)) (sym (push-anew t n (ne_eqb (suc (length bs)) 0 (λ e. cc)) no_prefix known.0.0))
    (subst (λ h. IsKnown windows (Some h) (spelled (merged (parts_of windows t) (parts_of windows n)))) (sym known.1) (known-again t n known.0 no_prefix (omega (arith, more, known.1))))
