-- One name more of a batch, and that its bound has room for it.
use Rattle.std.proofs.Common.{◌≡◌, true, ℕ, suc, ◌+◌, ◌*◌, ◌-◌, ◌<◌, ◌≤◌, ◌⊎◌, inl, inr, ⊎_elim, List, [], ◌∷◌, ◌++◌, length, map, take, drop, set, slice_range, slice_index, slice_index_or, Option, Some, None, option_map, is_some, true≢false, length-take, refl, sym, ap, ap₂, subst, ◌∙◌, arith, append_assoc, append-nil}
use Rattle.std.proofs.lemmas.List.{drop-drop, drop_at, take_at, length-append, length-map, map-append, length-take-le, length-drop}
use Rattle.std.proofs.Math.Logic.{⊎_map}
use Rattle.std.proofs.lemmas.Bool.{and_parts}
use Rattle.std.proofs.lemmas.Grind.{take_at_read}
use Rattle.std.proofs.lemmas.Str.{IsUtf8-append, IsUtf8-from_is_utf8, IsUtf8-nil, is_utf8-from_IsUtf8}
use Rattle.std.proofs.lemmas.Nat.{mul-le}
use Rattle.std.proofs.Math.Nat.{suc-mul}
use Rattle.std.specs.List.{AllByRecursion}
use Rattle.std.specs.Str.{is_utf8}
use Rattle.typed_path.specs.components.{Dialect}
use Rattle.typed_path.specs.declared.errors.CheckedPathError.{CheckedPathError}
use Rattle.typed_path.specs.declared.errors.JoinError.{JoinError}
use Rattle.typed_path.specs.declared.errors.JoinError.TheVariants as join
use Rattle.typed_path.specs.declared.errors.PortableError.{PortableError}
use Rattle.typed_path.specs.changes.{either_fault, fault}
use Rattle.typed_path.specs.queries.{portable_fault}
use Rattle.typed_path.specs.texts.{are_texts}
use Rattle.typed_path.proofs.lemmas.changes.Lengths.{push_length}
use Rattle.typed_path.proofs.lemmas.texts.TextChanges.{push-text}
use Rattle.typed_path_c.specs.declared.batch.Rule.{Rule}
use Rattle.typed_path_c.specs.declared.batch.Rule.TheVariants.{Checked, Portable}
use Rattle.typed_path_c.specs.Answers.{done, bad_ends, too_small, out_of_memory, Suffices}
use Rattle.typed_path_c.specs.Batch.{refused_by, names_from, last_from, next_name, AreEnds, name_answer, name_status, answers, answer_ends, answer_unless, ArePut, IsBatch, IsContained, IsFull, IsNextEnd}
use Rattle.typed_path_c.specs.Parts.{over}
use Rattle.typed_path_c.proofs.Held.{held}
use Rattle.typed_path_c.proofs.Spans.{over_item, over_length}

module _ (names : List ℕ) where
  names-more : (start : ℕ) (ends : List ℕ) (end : ℕ) → names_from names start (ends ++ end ∷ []) ≡ names_from names start ends ++ slice_range names (last_from start ends) end ∷ []
  names-more start [] end = refl
  names-more start (e ∷ ends) end = ap (λ ns. slice_range names start e ∷ ns) (names-more e ends end)

  order-more : (start : ℕ) (ends : List ℕ) (end : ℕ) → AreEnds names start ends → last_from start ends ≤ end → end ≤ length names → AreEnds names start (ends ++ end ∷ [])
  order-more start [] end order ahead within = (ahead, within, order)
  order-more start (e ∷ ends) end order ahead within = (order.0, order.1, order-more e ends end order.2 ahead within)

  length-names : (start : ℕ) (ends : List ℕ) → length (names_from names start ends) ≡ length ends
  length-names start [] = refl
  length-names start (e ∷ ends) = ap suc (length-names e ends)

  count : (n : ℕ) (ends : List ℕ) → n ≤ length ends → length (names_from names 0 (take n ends)) ≡ n
  count n ends some = length-names 0 (take n ends) ∙ length-take-le n ends some

last-more : (start : ℕ) (ends : List ℕ) (end : ℕ) → last_from start (ends ++ end ∷ []) ≡ end
last-more start [] end = refl
last-more start (e ∷ ends) end = last-more e ends end

-- What is put for a name that is not refused lies within the base.

faultless : (rule : Rule) (d : Dialect) (name : List ℕ) → refused_by rule d name ≡ None → fault d name ≡ None
faultless Checked d name accepted = unmapped (fault d name) accepted
  where
    unmapped : (o : Option CheckedPathError) → option_map join.Checked o ≡ None → o ≡ None
    unmapped None e = refl
    unmapped (Some why) e = absurd (true≢false (ap is_some e))
faultless Portable d name accepted = of_either (portable_fault d name) (fault d name) accepted
  where
    of_either : (p : Option PortableError) (o : Option CheckedPathError) → either_fault p o ≡ None → o ≡ None
    of_either None None e = refl
    of_either None (Some why) e = absurd (true≢false (ap is_some e))
    of_either (Some why) o e = absurd (true≢false (ap is_some e))

contained-each : (rule : Rule) (d : Dialect) (base : List ℕ) (names : List (List ℕ)) → AllByRecursion (IsContained rule d base) names
contained-each rule d base [] = tt
contained-each rule d base (name ∷ names) = (λ accepted. held d base name (faultless rule d name accepted), contained-each rule d base names)

-- Of texts it is a text.

answer-text : (d : Dialect) (base name : List ℕ) (refused : Option JoinError) → is_utf8 base ≡ true → is_utf8 name ≡ true → is_utf8 (answer_unless d base name refused) ≡ true
answer-text d base name None is other = push-text d base is name other
answer-text d base name (Some e) is other = is_utf8-from_IsUtf8 [] IsUtf8-nil

answers-text : (rule : Rule) (d : Dialect) (base : List ℕ) (names : List (List ℕ)) → is_utf8 base ≡ true → are_texts names ≡ true → is_utf8 (answers rule d base names) ≡ true
answers-text rule d base [] is others = is_utf8-from_IsUtf8 [] IsUtf8-nil
answers-text rule d base (name ∷ names) is others =
    let both = and_parts (is_utf8 name) (are_texts names) others in
    is_utf8-from_IsUtf8 (answers rule d base (name ∷ names)) (IsUtf8-append (name_answer rule d base name) (answers rule d base names)
    (IsUtf8-from_is_utf8 (name_answer rule d base name) (answer-text d base name (refused_by rule d name) is both.0))
    (IsUtf8-from_is_utf8 (answers rule d base names) (answers-text rule d base names is both.1)))

module _ (rule : Rule) (d : Dialect) (base : List ℕ) where
  answers-more : (names : List (List ℕ)) (name : List ℕ) → answers rule d base (names ++ name ∷ []) ≡ answers rule d base names ++ name_answer rule d base name
  answers-more [] name = append-nil (name_answer rule d base name)
  answers-more (n ∷ names) name =
      ap (λ t. name_answer rule d base n ++ t) (answers-more names name) ∙ sym (append_assoc (name_answer rule d base n) (answers rule d base names) (name_answer rule d base name))

  answer_ends-more : (at : ℕ) (names : List (List ℕ)) (name : List ℕ)
      → answer_ends rule d base at (names ++ name ∷ []) ≡ answer_ends rule d base at names ++ (at + length (answers rule d base names) + length (name_answer rule d base name)) ∷ []
  answer_ends-more at [] name = ap (λ n. n ∷ []) (omega arith)
  answer_ends-more at (n ∷ names) name =
      let next = at + length (name_answer rule d base n) in
      ap (λ ns. next ∷ ns)
      (answer_ends-more next names name
      ∙ ap (λ e. answer_ends rule d base next names ++ e ∷ []) (omega (arith, length-append (name_answer rule d base n) (answers rule d base names))))

  length-ends : (at : ℕ) (names : List (List ℕ)) → length (answer_ends rule d base at names) ≡ length names
  length-ends at [] = refl
  length-ends at (n ∷ names) = ap suc (length-ends (at + length (name_answer rule d base n)) names)

  -- an answer has at most three bytes more than base and name
  answer-length : (name : List ℕ) (refused : Option JoinError) → length (answer_unless d base name refused) ≤ length name + (length base + 3)
  answer-length name None = omega (arith, push_length d base name)
  answer-length name (Some e) = omega arith

  -- a batch that was done for the first names
  pub record Runs (names ends old new ends_old ends_new statuses_old statuses_new : List ℕ) (n start at : ℕ) : Type 0 where
    pub some : n ≤ length ends
    pub in_order : AreEnds names 0 (take n ends)
    pub put : ArePut rule d base (names_from names 0 (take n ends)) old new ends_old ends_new statuses_old statuses_new
    pub starts : start ≡ last_from 0 (take n ends)
    pub ends_at : at ≡ length (answers rule d base (names_from names 0 (take n ends)))
    pub within : start ≤ length names
    pub short : at ≤ start + n * (length base + 3)

  -- at first
  pub none-run : (names ends old ends_old statuses_old : List ℕ) (n : ℕ) → n ≡ 0 → Runs names ends old old ends_old ends_old statuses_old statuses_old n 0 0
  none-run names ends old ends_old statuses_old n e = subst (λ n. Runs names ends old old ends_old ends_old statuses_old statuses_old n 0 0) (sym e)
      (record {
        some = omega arith;
        in_order = tt;
        put = record { bytes = refl; fits = omega arith; ends = refl; statuses = refl; has_ends = omega arith; has_statuses = omega arith };
        starts = refl;
        ends_at = refl;
        within = omega arith;
        short = omega arith;
      })

  -- the buffer keeps its length
  long : (names : List (List ℕ)) (old new ends_old ends_new statuses_old statuses_new : List ℕ) → ArePut rule d base names old new ends_old ends_new statuses_old statuses_new → length new ≡ length old
  long names old new ends_old ends_new statuses_old statuses_new put =
      let before = answers rule d base names in
      omega (arith, ap length put.bytes, length-append before (drop (length before) old), length-drop (length before) old, put.fits)

  -- one more answer is put
  module _ (done_names : List (List ℕ)) (name old new ends_old ends_new statuses_old statuses_new later : List ℕ) (at end status n : ℕ)
      (put : ArePut rule d base done_names old new ends_old ends_new statuses_old statuses_new) (is : at ≡ length (answers rule d base done_names)) (count : length done_names ≡ n)
      (goes : end ≡ at + length (name_answer rule d base name)) (within : end ≤ length new) (told : status ≡ name_status rule d name)
      (stands : later ≡ take at new ++ name_answer rule d base name ++ drop end new) (room : n < length ends_new) (free : n < length statuses_new) where
    abbrev pub before : List ℕ
    before = answers rule d base done_names

    abbrev pub own : List ℕ
    own = name_answer rule d base name

    kept : take at new ≡ before
    kept = ap (take at) put.bytes ∙ take_at before (drop (length before) old) at (sym is)

    behind : drop end new ≡ drop (length (before ++ own)) old
    behind =
        ap₂ drop goes put.bytes
        ∙ sym (drop-drop (length own) at (before ++ drop (length before) old))
        ∙ ap (drop (length own)) (drop_at before (drop (length before) old) at (sym is))
        ∙ drop-drop (length own) (length before) old
        ∙ ap (λ k. drop k old) (sym (length-append before own))

    pub put-more : ArePut rule d base (done_names ++ name ∷ []) old later ends_old (set ends_new n end) statuses_old (set statuses_new n status)
    put-more = record {
      bytes = stands ∙ ap₂ (λ a b. a ++ own ++ b) kept behind
          ∙ ap (λ t. t ++ drop (length t) old) (sym (answers-more done_names name));
      fits = omega (arith, ap length (answers-more done_names name), length-append before own, goes, is, within, long done_names old new ends_old ends_new statuses_old statuses_new put);
      ends = ap₂ (λ xs k. set xs k end) put.ends (sym (length-ends 0 done_names ∙ count))
          ∙ sym (over_item (answer_ends rule d base 0 done_names) ends_old end (omega (arith, length-ends 0 done_names, count, room, ap length put.ends, over_length (answer_ends rule d base 0 done_names) ends_old)))
          ∙ ap (λ e. over (answer_ends rule d base 0 done_names ++ e ∷ []) ends_old) (omega (arith, goes, is))
          ∙ ap (λ xs. over xs ends_old) (sym (answer_ends-more 0 done_names name));
      statuses = ap₂ (λ xs k. set xs k status) put.statuses (sym (length-map done_names (name_status rule d) ∙ count))
          ∙ sym (over_item (map (name_status rule d) done_names) statuses_old status (omega (arith, length-map done_names (name_status rule d), count, free, ap length put.statuses, over_length (map (name_status rule d) done_names) statuses_old)))
          ∙ ap (λ s. over (map (name_status rule d) done_names ++ s ∷ []) statuses_old) told
          ∙ ap (λ xs. over xs statuses_old) (sym (map-append (name_status rule d) done_names (name ∷ [])));
      has_ends = omega (arith, length-append done_names (name ∷ []), count, room, ap length put.ends, over_length (answer_ends rule d base 0 done_names) ends_old);
      has_statuses = omega (arith, length-append done_names (name ∷ []), count, free, ap length put.statuses, over_length (map (name_status rule d) done_names) statuses_old);
    }

  -- and the batch was done for one name more
  module _ (names ends old new ends_old ends_new statuses_old statuses_new later : List ℕ) (n start at end status : ℕ)
      (runs : Runs names ends old new ends_old ends_new statuses_old statuses_new n start at) (more : n < length ends)
      (ahead : start ≤ slice_index_or ends n 0) (inside : slice_index_or ends n 0 ≤ length names) where
    abbrev pub next : ℕ
    next = slice_index_or ends n 0

    taken : take (n + 1) ends ≡ take n ends ++ next ∷ []
    taken = (take_at_read ends n 0 more).1

    names-taken : names_from names 0 (take (n + 1) ends) ≡ names_from names 0 (take n ends) ++ slice_range names start next ∷ []
    names-taken = ap (names_from names 0) taken ∙ names-more names 0 (take n ends) next
        ∙ ap (λ s. names_from names 0 (take n ends) ++ slice_range names s next ∷ []) (sym runs.starts)

    pub runs-on : end ≡ at + length (name_answer rule d base (slice_range names start next)) → end ≤ length new → status ≡ name_status rule d (slice_range names start next)
        → later ≡ take at new ++ name_answer rule d base (slice_range names start next) ++ drop end new → n < length ends_new → n < length statuses_new
        → Runs names ends old later ends_old (set ends_new n end) statuses_old (set statuses_new n status) (n + 1) next end
    runs-on goes within told stands room free = record {
      some = omega (arith, more);
      in_order = subst (AreEnds names 0) (sym taken) (order-more names 0 (take n ends) next runs.in_order (subst (λ s. s ≤ next) runs.starts ahead) inside);
      put = subst (λ ns. ArePut rule d base ns old later ends_old (set ends_new n end) statuses_old (set statuses_new n status)) (sym names-taken)
          (put-more (names_from names 0 (take n ends)) (slice_range names start next) old new ends_old ends_new statuses_old statuses_new later at end status n
          runs.put runs.ends_at (count names n ends runs.some) goes within told stands room free);
      starts = sym (ap (last_from 0) taken ∙ last-more 0 (take n ends) next);
      ends_at = goes
          ∙ ap (λ k. k + length (name_answer rule d base (slice_range names start next))) runs.ends_at
          ∙ sym (length-append (answers rule d base (names_from names 0 (take n ends))) (name_answer rule d base (slice_range names start next)))
          ∙ ap length (sym (answers-more (names_from names 0 (take n ends)) (slice_range names start next)))
          ∙ ap (λ ns. length (answers rule d base ns)) (sym names-taken);
      within = inside;
      short =
          let name = slice_range names start next in
          omega (arith, goes, runs.short, answer-length name (refused_by rule d name), length-take (next - start) (drop start names), ahead, suc-mul n (length base + 3));
    }

  module _ (names ends old new ends_old ends_new statuses_old statuses_new : List ℕ) (n start at : ℕ)
      (runs : Runs names ends old new ends_old ends_new statuses_old statuses_new n start at) where
    long-new : length new ≡ length old
    long-new = long (names_from names 0 (take n ends)) old new ends_old ends_new statuses_old statuses_new runs.put

    -- what is put lies within the buffer
    pub length-run : at ≤ length new
    length-run = omega (arith, runs.ends_at, runs.put.fits, long-new)

    long-ends : length ends_new ≡ length ends_old
    long-ends = ap length runs.put.ends ∙ over_length (answer_ends rule d base 0 (names_from names 0 (take n ends))) ends_old

    long-statuses : length statuses_new ≡ length statuses_old
    long-statuses = ap length runs.put.statuses ∙ over_length (map (name_status rule d) (names_from names 0 (take n ends))) statuses_old

    counted : length (names_from names 0 (take n ends)) ≡ n
    counted = count names n ends runs.some

    -- the bound has room for the next name
    never-full : (status : ℕ)
        → (status ≡ too_small → IsNextEnd names ends n × IsFull rule d base (names_from names 0 (take n ends)) old ends_old statuses_old (next_name names ends n))
        → length ends ≤ length ends_old → length ends ≤ length statuses_old → Suffices (length names + length ends * (length base + 3)) old status
    never-full status full has_ends has_statuses room small =
        let (next_end, why) = full small in
        let more = next_end.0 in
        let last = last_from 0 (take n ends) in
        let next = next_name names ends n in
        ⊎_elim (λ h. omega (arith, h, counted, more, has_ends)) (⊎_elim (λ h. omega (arith, h, counted, more, has_statuses)) (λ h. omega (
          arith,
          h,
          room,
          runs.ends_at,
          runs.starts,
          runs.short,
          runs.within,
          answer-length next (refused_by rule d next),
          length-take (slice_index ends n - last) (drop last names),
          length-drop last names,
          suc-mul n (length base + 3),
          mul-le (suc n) (length base + 3) (length ends) (length base + 3) (omega (arith, more)) (omega arith),
        ))) why

    -- how it ended
    ended : (status : ℕ) → (status ≡ done → n ≡ length ends) → (status ≡ bad_ends → (n < length ends) × ((slice_index ends n < last_from 0 (take n ends)) ⊎ (length names < slice_index ends n)))
        → (status ≡ too_small → IsNextEnd names ends n × IsFull rule d base (names_from names 0 (take n ends)) old ends_old statuses_old (next_name names ends n))
        → (status ≡ out_of_memory → IsNextEnd names ends n × (n < length ends_old) × (n < length statuses_old) × (refused_by rule d (next_name names ends n) ≡ None))
        → (status ≡ done) ⊎ (status ≡ bad_ends) ⊎ (status ≡ too_small) ⊎ (status ≡ out_of_memory) → IsBatch rule d base names ends old new ends_old ends_new statuses_old statuses_new n status
    ended status all ill full memory known = record {
      some = runs.some;
      in_order = runs.in_order;
      put = runs.put;
      contained = contained-each rule d base (names_from names 0 (take n ends));
      text = λ is others. answers-text rule d base (names_from names 0 (take n ends)) is others;
      all = all;
      ill = ill;
      full = full;
      memory = memory;
      fits = never-full status full;
      known = known;
    }

    -- a batch that was done for all
    pub ended-all : length ends ≤ n → IsBatch rule d base names ends old new ends_old ends_new statuses_old statuses_new n done
    ended-all all = ended done (λ e. omega (arith, all, runs.some)) (λ e. absurd (omega (arith, e))) (λ e. absurd (omega (arith, e))) (λ e. absurd (omega (arith, e))) (inl refl)

    -- one whose next end is wrong
    pub ended-ill : n < length ends → (slice_index_or ends n 0 < start) ⊎ ((start ≤ slice_index_or ends n 0) × (length names < slice_index_or ends n 0))
        → IsBatch rule d base names ends old new ends_old ends_new statuses_old statuses_new n bad_ends
    ended-ill more either = ended bad_ends (λ e. absurd (omega (arith, e)))
        (λ e. (more, ⊎_map (λ less. subst (λ s. slice_index_or ends n 0 < s) runs.starts less) (λ both. both.1) either)) (λ e. absurd (omega (arith, e))) (λ e. absurd (omega (arith, e))) (inr (inl refl))

    -- one whose next end is right
    module _ (more : n < length ends) (ahead : start ≤ slice_index_or ends n 0) (inside : slice_index_or ends n 0 ≤ length names) where
      next-end : IsNextEnd names ends n
      next-end = (more, subst (λ s. s ≤ slice_index_or ends n 0) runs.starts ahead, inside)

      -- and whose next name has no room
      pub ended-full : (length ends_new ≤ n) ⊎ ((n < length ends_new) × (length statuses_new ≤ n))
          → IsBatch rule d base names ends old new ends_old ends_new statuses_old statuses_new n too_small
      ended-full either = ended too_small (λ e. absurd (omega (arith, e))) (λ e. absurd (omega (arith, e)))
          (λ e. (next-end, ⊎_elim (λ h. inl (omega (arith, h, long-ends, counted))) (λ h. inr (inl (omega (arith, h.1, long-statuses, counted)))) either))
          (λ e. absurd (omega (arith, e))) (inr (inr (inl refl)))

      -- or was not joined
      pub ended-err : (later : List ℕ) (status : ℕ) → later ≡ new → n < length ends_new → n < length statuses_new
          → ((status ≡ out_of_memory) × (refused_by rule d (slice_range names start (slice_index_or ends n 0)) ≡ None))
          ⊎ ((status ≡ too_small) × (length new < at + length (name_answer rule d base (slice_range names start (slice_index_or ends n 0)))))
          → IsBatch rule d base names ends old later ends_old ends_new statuses_old statuses_new n status
      ended-err later status same has_end has_status why =
          let answer = ap (λ s. length (name_answer rule d base (slice_range names s (slice_index ends n)))) runs.starts in
          let faultless = ap (λ s. refused_by rule d (slice_range names s (slice_index ends n))) runs.starts in
          subst (λ t. IsBatch rule d base names ends old t ends_old ends_new statuses_old statuses_new n status) (sym same) (ended status
          (λ e. absurd (⊎_elim (λ w. omega (arith, w.0, e)) (λ w. omega (arith, w.0, e)) why))
          (λ e. absurd (⊎_elim (λ w. omega (arith, w.0, e)) (λ w. omega (arith, w.0, e)) why))
          (λ e. (next-end, ⊎_elim (λ w. absurd (omega (arith, w.0, e))) (λ w. inr (inr (omega (arith, w.1, runs.ends_at, long-new, answer)))) why))
          (λ e. (next-end, omega (arith, has_end, long-ends), omega (arith, has_status, long-statuses), ⊎_elim (λ w. sym faultless ∙ w.1) (λ w. absurd (omega (arith, w.0, e))) why))
          (⊎_elim (λ w. inr (inr (inr w.0))) (λ w. inr (inr (inl w.0))) why))
