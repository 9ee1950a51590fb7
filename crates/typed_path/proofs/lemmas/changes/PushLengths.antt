-- How long a path is onto which others are pushed one by one: the normal text of a path, a path in another dialect, and one made absolute.
use Rattle.std.proofs.Common.{◌≡◌, ℕ, ◌+◌, ◌≤◌, ◌==◌, ◌⊎◌, inl, inr, not, Bool, true, false, if◌then◌else◌, List, [], ◌∷◌, ◌++◌, map, length, take, drop, Option, Some, None, IfSome, Ok, Err, IfOk, refl, sym, ap, subst, ◌∙◌, arith, eqb-true, ne_eqb, append_assoc, length-append, length-take, length-drop}
use Rattle.std.proofs.lemmas.Grind.{common_steps}
use Rattle.std.specs.List.{AllByRecursion}
use Rattle.std.proofs.lemmas.Bool.{cond_both, both_ways}
use Rattle.std.proofs.lemmas.List.Sums.{sum_by-cons}
use Rattle.typed_path.specs.declared.scan.separators.Separators.{Separators}
use Rattle.typed_path.specs.declared.scan.separators.Separators.TheVariants.{Slash, Either}
use Rattle.typed_path.specs.declared.errors.CheckedPathError.{CheckedPathError}
use Rattle.typed_path.specs.components.{Dialect, unix, windows, slash, backslash, separators, root_text, root_of, Prefix, Kind, Part, kinds, texts, prefix_part, Found, prefix_of, parts_of}
use Rattle.typed_path.specs.queries.{begins_with_root, has_prefix, has_any_verbatim_prefix, is_disk, is_absolute}
use Rattle.typed_path.specs.changes.{push, push_unix, push_windows, push_all, ended_windows, raw_prefix, spelled, merged, room_of}
use Rattle.typed_path.specs.places.{resolve, normal_text}
use Rattle.typed_path.specs.conversions.{same_dialect, crossed, crossed_all, converted, crossing_fault, push_unless, push_checked_each, converted_checked, absolute_under}
use Rattle.typed_path.proofs.lemmas.lists.Lists.{AllByRecursion-weaker}
use Rattle.typed_path.proofs.lemmas.components.Prefixes.{separators-windows, root_text-windows, prefix-fits}
use Rattle.typed_path.proofs.lemmas.components.PrefixCuts.{IsSize, prefix-size, parts_of-none, parts_of-some}
use Rattle.typed_path.proofs.lemmas.components.Segments.{body_parts, body_parts-read, IsWritten, IsWrittenPart, each-written, parts_of-unix}
use Rattle.typed_path.proofs.lemmas.changes.Joins.{Ending, parted, ending}
use Rattle.typed_path.proofs.lemmas.changes.Lengths.{size, ended-length}
use Rattle.typed_path.proofs.lemmas.changes.MergedInPlace.{room-body, room-text, no-prefix}
use Rattle.typed_path.proofs.lemmas.changes.WindowsPushes.{push-prefixed, push-anew, push-rooted, push-relative}
use Rattle.typed_path.proofs.lemmas.places.Resolving.{resolve-each}
use Rattle.typed_path.proofs.lemmas.promises.UnixContained.{push_unix-nothing}
use Rattle.typed_path.proofs.lemmas.promises.WindowsStable.{push-first}
use Rattle.typed_path.proofs.lemmas.changes.SpelledLengths.{merged-size, anew, IsMarked, has-marked, anew-most, anew-least, raw-undriven, root-undriven, joined-undriven, merged-undriven, IsDriven}

-- Paths that are pushed one by one.

-- the room that a text takes where it is pushed: that of its bytes and a separator, or of a root
abbrev Costs : Dialect → List ℕ → ℕ → Type 0
Costs d x n = (length x + 1 ≤ n) ⊎ ((x ≡ root_of d) × (1 ≤ n))

-- a text of Windows keeps within some room, also where it is spelled anew
record IsTaken (u : List ℕ) (room : ℕ) : Type 0 where
  fits : length u ≤ room
  again : IsMarked u → anew u ≤ room
  spare : u ≡ slash ∷ [] → 2 ≤ room

abbrev Takes : Dialect → List ℕ → ℕ → Type 0
Takes unix u room = length u ≤ room
Takes windows u room = IsTaken u room

takes-fits : (d : Dialect) (u : List ℕ) (room : ℕ) → Takes d u room → length u ≤ room
takes-fits unix u room h = h
takes-fits windows u room h = h.fits

takes-more : (d : Dialect) (u : List ℕ) (room more : ℕ) → room ≤ more → Takes d u room → Takes d u more
takes-more unix u room more le h = grind arith
takes-more windows u room more le h = grind arith

takes-nothing : (d : Dialect) → Takes d [] 0
takes-nothing unix = omega arith
takes-nothing windows = record { fits = omega arith; again = λ m. cc; spare = λ e. cc }

cost-one : (d : Dialect) (x : List ℕ) (n : ℕ) → Costs d x n → 1 ≤ n
cost-one d x n h = grind arith

unix-step : (base x : List ℕ) (room n : ℕ) → length base ≤ room → Costs unix x n → length (push_unix base x) ≤ room + n
unix-step base x room n fits h = grind (arith, ended-length, length-append)

module _ (base : List ℕ) (b : ℕ) (x : List ℕ) (room n : ℕ) (h : IsTaken base room) (cost : Costs windows (b ∷ x) n) where
  -- one with a prefix
  prefixed-taken : has_prefix (kinds (parts_of windows (b ∷ x))) ≡ true → IsTaken (b ∷ x) (room + n)
  prefixed-taken e = by cost
    where
      by : Costs windows (b ∷ x) n → IsTaken (b ∷ x) (room + n)
      by (inl long) = record {
        fits = omega (arith, long);
        again = λ m. omega (arith, anew-most (b ∷ x) m, long);
        spare = λ e. omega (arith, long);
      }
      by (inr (is, one)) = let both = ap (λ t. has_prefix (kinds (parts_of windows t))) (sym is) ∙ e in cc

  -- one that is merged
  merged-taken : IsMarked base → has_prefix (kinds (parts_of windows (b ∷ x))) ≡ false → IsTaken (spelled (merged (parts_of windows base) (parts_of windows (b ∷ x)))) (room + n)
  merged-taken marked unprefixed =
      let has = has-marked base marked in
      let some = prefix-fits windows base has.prefixed has.is in
      let fits : length new ≤ room + n = omega (arith, merged-size (parts_of windows base) (parts_of windows (b ∷ x)), h.again marked, by cost) in
      record {
        fits = fits;
        again = λ m. omega (arith, anew-least new (merged-undriven base (b ∷ x) marked unprefixed) m, fits);
        spare = λ e. omega (arith, cost-one windows (b ∷ x) n cost, some.filled, some.fits, h.fits);
      }
    where
      new : List ℕ
      new = spelled (merged (parts_of windows base) (parts_of windows (b ∷ x)))

      by : Costs windows (b ∷ x) n → room_of (parts_of windows (b ∷ x)) ≤ n
      by (inl long) = omega (arith, room-text (b ∷ x) unprefixed, long)
      by (inr (is, one)) = subst (λ t. room_of (parts_of windows t) ≤ n) (sym is) (omega (arith, one))

  module _ (plain : has_any_verbatim_prefix (kinds (parts_of windows base)) ≡ false) where
    -- one that keeps the prefix alone
    rooted-taken : IsTaken (raw_prefix base ++ b ∷ x) (room + n)
    rooted-taken = grind (arith, length-take, length-append, anew-most, anew-least, root-undriven)

    -- one that is put behind the whole
    relative-taken : has_prefix (kinds (parts_of windows (b ∷ x))) ≡ false → begins_with_root (kinds (parts_of windows (b ∷ x))) ≡ false → IsTaken (ended_windows base ++ b ∷ x) (room + n)
    relative-taken unprefixed relative = by cost
      where
        alone : (t : List ℕ) → (t ≡ slash ∷ []) ⊎ (t ≡ slash ∷ [] → ⊥)
        alone [] = inr (λ e. cc)
        alone (c ∷ d ∷ t) = inr (λ e. cc)
        alone (c ∷ []) = by (c == slash) refl
          where
            by : (same : Bool) → (c == slash) ≡ same → (c ∷ [] ≡ slash ∷ []) ⊎ (c ∷ [] ≡ slash ∷ [] → ⊥)
            by same e = grind (arith, eqb-true, both_ways)

        behind : length (b ∷ x) + 1 ≤ n → (mid : List ℕ) → Ending base mid → IsTaken ((base ++ mid) ++ b ∷ x) (room + n)
        behind long _ (parted no_drive some unended) =
            let u = (base ++ backslash ∷ []) ++ b ∷ x in
            let long_is : length u ≡ length base + 1 + length (b ∷ x) = omega (arith, length-append (base ++ backslash ∷ []) (b ∷ x), length-append base (backslash ∷ [])) in
            record {
              fits = omega (arith, long_is, h.fits, long);
              again = λ m. elim (alone base) [
                | inl is ↦ omega (arith, anew-most u m, long_is, h.spare is, ap length is, long)
                | inr other ↦
                    let free : IsDriven u → ⊥ = λ d. joined-undriven base plain (b ∷ x) some unended other (no-prefix (b ∷ x) unprefixed) (subst IsDriven (append_assoc base (backslash ∷ []) (b ∷ x)) d) in
                    omega (arith, anew-least u free m, long_is, h.fits, long)
              ];
              spare = λ e. omega (arith, long);
            }
        behind long _ end = record {
          fits = omega (arith, length-append (base ++ []) (b ∷ x), length-append base [], h.fits, long);
          again = λ m. omega (arith, anew-most ((base ++ []) ++ b ∷ x) m, length-append (base ++ []) (b ∷ x), length-append base [], h.fits, long);
          spare = λ e. omega (arith, long);
        }

        by : Costs windows (b ∷ x) n → IsTaken (ended_windows base ++ b ∷ x) (room + n)
        by (inl long) =
            let end = ending base in
            subst (λ t. IsTaken (t ++ b ∷ x) (room + n)) (sym end.1) (behind long end.0 end.2)
        by (inr (is, one)) = let both = ap (λ t. begins_with_root (kinds (parts_of windows t))) (sym is) ∙ relative in cc

windows-step : (base x : List ℕ) (room n : ℕ) → IsTaken base room → Costs windows x n → IsTaken (push_windows base x) (room + n)
windows-step base [] room n h cost = takes-more windows base room (room + n) (omega arith) h
windows-step base (b ∷ x) room n h cost =
    by (has_prefix (kinds (parts_of windows path))) refl (has_any_verbatim_prefix (kinds (parts_of windows base))) refl (begins_with_root (kinds (parts_of windows path))) refl
  where
    path : List ℕ
    path = b ∷ x

    filled : (length path == 0) ≡ false
    filled = ne_eqb (length path) 0 (λ e. cc)

    by : (prefixed : Bool) → has_prefix (kinds (parts_of windows path)) ≡ prefixed → (marked : Bool) → has_any_verbatim_prefix (kinds (parts_of windows base)) ≡ marked
        → (rooted : Bool) → begins_with_root (kinds (parts_of windows path)) ≡ rooted → IsTaken (push_windows base path) (room + n)
    by true e marked f rooted g = subst (λ u. IsTaken u (room + n)) (sym (push-prefixed base path filled e)) (prefixed-taken base b x room n h cost e)
    by false e true f rooted g = subst (λ u. IsTaken u (room + n)) (sym (push-anew base path filled e f)) (merged-taken base b x room n h cost f e)
    by false e false f true g = subst (λ u. IsTaken u (room + n)) (sym (push-rooted base path filled e f g)) (rooted-taken base b x room n h cost f)
    by false e false f false g = subst (λ u. IsTaken u (room + n)) (sym (push-relative base path filled e f g)) (relative-taken base b x room n h cost f e g)

step : (d : Dialect) (base x : List ℕ) (room n : ℕ) → Takes d base room → Costs d x n → Takes d (push d base x) (room + n)
step unix base x room n h cost = unix-step base x room n h cost
step windows base x room n h cost = windows-step base x room n h cost

pushed : (d : Dialect) (written : Part → List ℕ) (ps : List Part) (base : List ℕ) (room : ℕ) → AllByRecursion (λ p. Costs d (written p) (size p)) ps → Takes d base room
    → Takes d (push_all d base (map written ps)) (room + room_of ps)
pushed d written [] base room costs h = takes-more d base room (room + room_of []) (omega arith) h
pushed d written (p ∷ ps) base room costs h =
    takes-more d (push_all d base (map written (p ∷ ps))) (room + size p + room_of ps) (room + room_of (p ∷ ps)) (omega (arith, sum_by-cons size p ps))
    (pushed d written ps (push d base (written p)) (room + size p) costs.1 (step d base (written p) room (size p) h costs.0))

-- Normal texts.

room-resolve : (ps : List Part) → room_of (resolve ps) ≤ room_of ps
room-resolve [] = omega arith
room-resolve (p ∷ ps) = grind (arith, common_steps, cond_both, sum_by-cons, size, room-resolve ps)

own-cost : (d : Dialect) (s : Separators) → root_text s ≡ root_of d → (k : Kind) (text : List ℕ) → IsWritten s k text → Costs d text (size (record { kind = k; text = text }))
own-cost d s same k text written = grind arith

normal-body : (d : Dialect) (s : Separators) → root_text s ≡ root_of d → (t base : List ℕ) (room : ℕ) → Takes d base room
    → length (push_all d base (texts (resolve (body_parts s t)))) ≤ room + (length t + 1)
normal-body d s same t base room h =
    let ps = body_parts s t in
    let Cost : Part → Type 0 = λ p. Costs d p.text (size p) in
    let each = AllByRecursion-weaker (IsWrittenPart s) Cost (λ p. own-cost d s same p.kind p.text) ps (each-written s ps (body_parts-read s t)) in
    omega (
      arith,
      takes-fits d (push_all d base (texts (resolve ps))) (room + room_of (resolve ps)) (pushed d (λ p. p.text) (resolve ps) base room (resolve-each Cost ps each) h),
      room-resolve ps,
      room-body s t,
    )

-- a prefix takes two bytes or more
two-bytes : (p : Prefix) (t : List ℕ) (a : ℕ) → IsSize p t a → 2 ≤ a
two-bytes p t a size = grind arith

raw-taken : (t : List ℕ) (f : Found) → prefix_of windows t ≡ Some f → IsTaken (take f.length t) f.length
raw-taken t f is = record {
  fits = omega (arith, length-take f.length t);
  again = λ m. omega (arith, anew-least (take f.length t) (raw-undriven t f is) m, length-take f.length t);
  spare = λ e. two-bytes f.prefix t f.length (prefix-size t f is);
}

pub normal_text_length : (d : Dialect) (t : List ℕ) → length (normal_text d t) ≤ length t + 1
normal_text_length unix t =
    subst (λ ps. length (push_all unix [] (texts (resolve ps))) ≤ length t + 1) (sym (parts_of-unix t))
    (omega (arith, normal-body unix Slash refl t [] 0 (takes-nothing unix)))
normal_text_length windows t = by (prefix_of windows t) refl
  where
    by : (o : Option Found) → prefix_of windows t ≡ o → length (normal_text windows t) ≤ length t + 1
    by None none =
        subst (λ ps. length (push_all windows [] (texts (resolve ps))) ≤ length t + 1) (sym (parts_of-none t none))
        (omega (arith, normal-body windows Either refl t [] 0 (takes-nothing windows)))
    by (Some f) some =
        let s = separators windows t in
        let raw = take f.length t in
        let body = body_parts s (drop f.length t) in
        subst (λ ps. length (push_all windows [] (texts (resolve ps))) ≤ length t + 1) (sym (parts_of-some t f some))
        (subst (λ base. length (push_all windows base (texts (resolve body))) ≤ length t + 1) (sym (push-first raw))
        (omega (
          arith,
          normal-body windows s (root_text-windows s (separators-windows t)) (drop f.length t) raw f.length (raw-taken t f some),
          length-drop f.length t,
          (prefix-fits windows t f some).fits,
        )))

-- Paths in another dialect.

crossed-cost : (e : Dialect) (s : Separators) (k : Kind) (text : List ℕ) → IsWritten s k text
    → Costs e (crossed e (record { kind = k; text = text })) (size (record { kind = k; text = text }))
crossed-cost e s k text written = grind arith

-- what stands behind a prefix
crossed-each : (e : Dialect) (s : Separators) (t : List ℕ) → AllByRecursion (λ p. Costs e (crossed e p) (size p)) (body_parts s t)
crossed-each e s t =
    let ps = body_parts s t in
    AllByRecursion-weaker (IsWrittenPart s) (λ p. Costs e (crossed e p) (size p)) (λ p. crossed-cost e s p.kind p.text) ps (each-written s ps (body_parts-read s t))

-- and a prefix, pushed first
crossed-first : (e : Dialect) (t : List ℕ) (f : Found) → prefix_of windows t ≡ Some f → Takes e (push e [] (crossed e (prefix_part f.prefix (take f.length t)))) f.length
crossed-first unix t f is =
    let raw = take f.length t in
    cond_both (not (is_disk f.prefix)) (slash ∷ []) raw (λ x. length (push_unix [] x) ≤ f.length)
    (λ e. omega (arith, ap length (push_unix-nothing (slash ∷ [])), (prefix-fits windows t f is).filled)) (λ e. omega (arith, ap length (push_unix-nothing raw), length-take f.length t))
crossed-first windows t f is =
    let raw = take f.length t in
    cond_both (not (is_disk f.prefix)) (backslash ∷ []) raw (λ x. IsTaken (push_windows [] x) f.length)
    (λ e. subst (λ u. IsTaken u f.length) (sym (push-first (backslash ∷ []))) (record {
      fits = (prefix-fits windows t f is).filled;
      again = λ m. cc;
      spare = λ same. two-bytes f.prefix t f.length (prefix-size t f is);
    }))
    (λ e. subst (λ u. IsTaken u f.length) (sym (push-first raw)) (raw-taken t f is))

-- a checked push that is not refused makes what a push makes
pub checked-all : (e : Dialect) (ps : List Part) (base u : List ℕ) → push_checked_each e (Ok base) ps ≡ Ok u → u ≡ push_all e base (map (crossed e) ps)
checked-all e [] base u done = let is : base ≡ u = cc in sym is
checked-all e (p ∷ ps) base u done = by (checked-all e ps) (crossing_fault e p) done
  where
    refused : (why : CheckedPathError) (qs : List Part) → push_checked_each e (Err why) qs ≡ Ok u → ⊥
    refused why [] done = cc
    refused why (q ∷ qs) done = cc

    by : ((base u : List ℕ) → push_checked_each e (Ok base) ps ≡ Ok u → u ≡ push_all e base (map (crossed e) ps))
        → (o : Option CheckedPathError) → push_checked_each e (push_unless e base o (crossed e p)) ps ≡ Ok u → u ≡ push_all e (push e base (crossed e p)) (map (crossed e) ps)
    by others o done = grind (arith, refused)

crossed-taken : (d e : Dialect) (t : List ℕ) → Takes e (crossed_all e (parts_of d t)) (length t + 1)
crossed-taken unix e t =
    subst (λ ps. Takes e (push_all e [] (map (crossed e) ps)) (length t + 1)) (sym (parts_of-unix t))
    (takes-more e _ (0 + room_of (body_parts Slash t)) (length t + 1) (omega (arith, room-body Slash t)) (pushed e (crossed e) (body_parts Slash t) [] 0 (crossed-each e Slash t) (takes-nothing e)))
crossed-taken windows e t = by (prefix_of windows t) refl
  where
    by : (o : Option Found) → prefix_of windows t ≡ o → Takes e (crossed_all e (parts_of windows t)) (length t + 1)
    by None none =
        subst (λ ps. Takes e (push_all e [] (map (crossed e) ps)) (length t + 1)) (sym (parts_of-none t none))
        (takes-more e _ (0 + room_of (body_parts Either t)) (length t + 1) (omega (arith, room-body Either t)) (pushed e (crossed e) (body_parts Either t) [] 0 (crossed-each e Either t) (takes-nothing e)))
    by (Some f) some =
        let s = separators windows t in
        let body = body_parts s (drop f.length t) in
        subst (λ ps. Takes e (push_all e [] (map (crossed e) ps)) (length t + 1)) (sym (parts_of-some t f some))
        (takes-more e _ (f.length + room_of body) (length t + 1)
        (omega (arith, room-body s (drop f.length t), length-drop f.length t, (prefix-fits windows t f some).fits))
        (pushed e (crossed e) body (push e [] (crossed e (prefix_part f.prefix (take f.length t)))) f.length (crossed-each e s (drop f.length t)) (crossed-first e t f some)))

pub converted_length : (d e : Dialect) (t : List ℕ) → length (converted d e t) ≤ length t + 1
converted_length d e t =
    cond_both (same_dialect d e) t (crossed_all e (parts_of d t)) (λ u. length u ≤ length t + 1)
    (λ same. omega arith) (λ other. takes-fits e (crossed_all e (parts_of d t)) (length t + 1) (crossed-taken d e t))

pub converted_checked_length : (d e : Dialect) (t : List ℕ) → IfOk (converted_checked d e t) (λ u. length u ≤ length t + 1)
converted_checked_length d e t = grind (arith, common_steps, checked-all, takes-fits, crossed-taken)

-- Paths made absolute.

copied-taken : (d : Dialect) (t : List ℕ) → Takes d t (length t + 1)
copied-taken unix t = omega arith
copied-taken windows t = record { fits = omega arith; again = λ m. omega (arith, anew-most t m); spare = λ e. omega (arith, ap length e) }

directory-taken : (d e : Dialect) (directory : List ℕ) → Takes d (converted e d directory) (length directory + 1)
directory-taken d e directory =
    cond_both (same_dialect e d) directory (crossed_all d (parts_of e directory)) (λ u. Takes d u (length directory + 1))
    (λ same. copied-taken d directory) (λ other. crossed-taken e d directory)

pub absolute_length : (d e : Dialect) (directory t : List ℕ) → IfSome (absolute_under d e directory t) (λ u. length u ≤ length directory + length t + 3)
absolute_length d e directory t =
    let base = converted e d directory in
    let joined = push d base t in
    let Fits : Option (List ℕ) → Type 0 = λ o. IfSome o (λ u. length u ≤ length directory + length t + 3) in
    let room = takes-fits d joined (length directory + 1 + (length t + 1)) (step d base t (length directory + 1) (length t + 1) (directory-taken d e directory) (inl (omega arith))) in
    cond_both (is_absolute d (kinds (parts_of d t))) (Some (normal_text d t)) (if is_absolute d (kinds (parts_of d joined)) then Some (normal_text d joined) else None) Fits
    (λ own. omega (arith, normal_text_length d t))
    (λ relative. cond_both (is_absolute d (kinds (parts_of d joined))) (Some (normal_text d joined)) None Fits (λ f. omega (arith, normal_text_length d joined, room)) (λ f. tt))

-- the same of an answer that is known

pub checked_known : (d e : Dialect) (t u : List ℕ) → converted_checked d e t ≡ Ok u → length u ≤ length t + 1
checked_known d e t u is = subst (λ r. IfOk r (λ u. length u ≤ length t + 1)) is (converted_checked_length d e t)

pub absolute_known : (d e : Dialect) (directory t u : List ℕ) → absolute_under d e directory t ≡ Some u → length u ≤ length directory + length t + 3
absolute_known d e directory t u is = subst (λ o. IfSome o (λ u. length u ≤ length directory + length t + 3)) is (absolute_length d e directory t)
