-- The bytes of a key as they are fed to a hasher, so many a word.
use Rattle.std.proofs.Common.{◌≡◌, ℕ, zero, suc, ◌+◌, ◌-◌, ◌^◌, ◌<◌, ◌≤◌, Bool, true, false, List, [], ◌∷◌, ◌++◌, length, take, drop, fold, Option, Some, None, refl, sym, ap, ◌∙◌, arith, subst, if◌then◌else◌, append-nil, length-append, length-drop, length-take-le}
use Rattle.std.specs.Prelude.{nat_lt}
use Rattle.std.specs.List.{concat}
use Rattle.std.proofs.Math.Seq.{paste, take-add}
use Rattle.std.proofs.lemmas.List.Edits.{paste_all}
use Rattle.std.proofs.lemmas.Bool.{lt-ltb, le-ltb}
use Rattle.std.proofs.lemmas.List.{append_assoc, take_at, drop_at, take-append-drop, take-append-le}
use Rattle.typed_path.specs.components.{Dialect, Part, Placed, Prefix, kinds, parts}
use Rattle.typed_path.specs.scan.{first_part}
use Rattle.typed_path.specs.queries.{first_prefix, behind_prefix}
use Rattle.typed_path.specs.order.{AreFed, AreFedAlike, IsPutFrom, chunked, key_bytes, left_key_bytes, key_words_before, kind_key_words, kinds_key_words, length_prefixed, length_words}
use Rattle.typed_path.specs.order.KeyBytes.{chunked_by}
use Rattle.typed_path.proofs.lemmas.order.KeyWords.{told_apart}
use Rattle.typed_path.proofs.lemmas.order.KeyBytes.{fed-split, prefix-split, prefixed-bytes}

-- Chunks of a list.

few-ltb : (bytes : List ℕ) → length bytes ≤ 128 → nat_lt 128 (length bytes) ≡ false
few-ltb bytes few = le-ltb 128 (length bytes) few

-- the number of steps does not matter
chunked_by-enough : (m n : ℕ) (bytes : List ℕ) → length bytes ≤ m → length bytes ≤ n → chunked_by m bytes ≡ chunked_by n bytes
chunked_by-enough zero zero bytes few least = refl
chunked_by-enough zero (suc n) bytes few least = sym (ap (λ b. if b then take 128 bytes ∷ chunked_by n (drop 128 bytes) else bytes ∷ []) (few-ltb bytes (omega (arith, few))))
chunked_by-enough (suc m) zero bytes few least = ap (λ b. if b then take 128 bytes ∷ chunked_by m (drop 128 bytes) else bytes ∷ []) (few-ltb bytes (omega (arith, least)))
chunked_by-enough (suc m) (suc n) bytes few least =
    ap (λ cs. if nat_lt 128 (length bytes) then take 128 bytes ∷ cs else bytes ∷ [])
    (chunked_by-enough m n (drop 128 bytes) (omega (arith, few, length-drop 128 bytes)) (omega (arith, least, length-drop 128 bytes)))

-- a full chunk, and what comes behind it
pub chunked-full : (front behind : List ℕ) → length front ≡ 128 → 1 ≤ length behind → chunked (front ++ behind) ≡ front ∷ chunked behind
chunked-full front behind full some =
    let size = length-append front behind in
    chunked_by-enough (length (front ++ behind)) (suc (length behind + 127)) (front ++ behind) (omega arith) (omega (arith, size, full))
    ∙ ap (λ b. if b then take 128 (front ++ behind) ∷ chunked_by (length behind + 127) (drop 128 (front ++ behind)) else (front ++ behind) ∷ []) (lt-ltb 128 (length (front ++ behind)) (omega (arith, size, full, some)))
    ∙ (λ i. take_at front behind 128 full i ∷ chunked_by (length behind + 127) (drop_at front behind 128 full i))
    ∙ ap (λ cs. front ∷ cs) (chunked_by-enough (length behind + 127) (length behind) behind (omega arith) (omega arith))

-- few bytes are one word
pub chunked-few : (bytes : List ℕ) → length bytes ≤ 128 → chunked bytes ≡ bytes ∷ []
chunked-few bytes few =
    chunked_by-enough (length bytes) (suc (length bytes)) bytes (omega arith) (omega arith)
    ∙ ap (λ b. if b then take 128 bytes ∷ chunked_by (length bytes) (drop 128 bytes) else bytes ∷ []) (few-ltb bytes few)

-- joined, they are all bytes
chunked_by-joined : (n : ℕ) (bytes : List ℕ) → concat (chunked_by n bytes) ≡ bytes
chunked_by-joined zero bytes = append-nil bytes
chunked_by-joined (suc n) bytes = by (nat_lt 128 (length bytes)) (chunked_by-joined n (drop 128 bytes))
  where
    by : (b : Bool) → concat (chunked_by n (drop 128 bytes)) ≡ drop 128 bytes → concat (if b then take 128 bytes ∷ chunked_by n (drop 128 bytes) else bytes ∷ []) ≡ bytes
    by true rest = ap (λ xs. take 128 bytes ++ xs) rest ∙ take-append-drop 128 bytes
    by false rest = append-nil bytes

pub chunked-joined : (bytes : List ℕ) → concat (chunked bytes) ≡ bytes
chunked-joined bytes = chunked_by-joined (length bytes) bytes

-- so two paths are fed alike exactly if they have the same components
pub fed_alike : (d : Dialect) (t u : List ℕ) → length t < 2 ^ 64 → length u < 2 ^ 64 → AreFedAlike d t u
fed_alike d t u fits other_fits = (
  (λ e. (told_apart d t u fits other_fits [] [] (ap (λ bs. bs ++ []) (sym (chunked-joined (key_bytes d t)) ∙ ap concat e ∙ chunked-joined (key_bytes d u)))).0),
  λ same. ap (λ ks. chunked (concat (kinds_key_words ks))) same,
)

-- bytes that fill a chunk
pub chunk-filled : (old front new : List ℕ) (used end : ℕ) → 128 ≤ length old → used + length front ≡ 128 → IsPutFrom used front old new end → (take 128 new ≡ take used old ++ front) × (length (take 128 new) ≡ 128)
chunk-filled old front new used end room whole put =
    let ends : end ≡ 128 = omega (arith, put.ends, whole) in
    let size : length (take used old ++ front) ≡ 128 = omega (arith, length-append (take used old) front, length-take-le used old (omega (arith, room, whole)), whole) in (
      ap (take 128) (put.put (omega (arith, ends, room))) ∙ take_at (take used old ++ front) (drop end old) 128 size,
      length-take-le 128 new (omega (arith, put.long, room)),
    )

-- bytes that stand behind a full chunk are brought to its front
pub chunk-brought : (bytes : List ℕ) (n : ℕ) → length bytes ≡ 192 → n ≤ 64 → take n (paste bytes 0 (drop 128 bytes) 64) ≡ take n (drop 128 bytes)
chunk-brought bytes n size low =
    let rest : length (drop 128 bytes) ≡ 64 = omega (arith, length-drop 128 bytes, size) in
    ap (take n) (paste_all bytes 0 (drop 128 bytes) 64 (sym rest)) ∙ take-append-le n (drop 128 bytes) (drop (0 + 64) bytes) (omega (arith, rest, low))

module _ {S : Type 0} (write : S → List ℕ → S) where
  -- nothing was fed
  pub fed_none : (s : S) (waiting : List ℕ) → AreFed write [] s waiting waiting s
  fed_none s waiting more = ap (λ bs. fold write s (chunked (bs ++ more))) (append-nil waiting)

  -- bytes behind others
  pub fed_both : (us vs : List ℕ) (s t u : S) (w x y : List ℕ) → AreFed write us s w x t → AreFed write vs t x y u → AreFed write (us ++ vs) s w y u
  fed_both us vs s t u w x y first second more =
      ap (λ bs. fold write s (chunked bs)) (ap (λ bs. bs ++ more) (sym (append_assoc w us vs)) ∙ append_assoc (w ++ us) vs more)
      ∙ first (vs ++ more) ∙ ap (λ bs. fold write t (chunked bs)) (sym (append_assoc x vs more)) ∙ second more

  -- the same bytes, as another list
  pub fed_same : (us vs : List ℕ) (s t : S) (w x : List ℕ) → us ≡ vs → AreFed write us s w x t → AreFed write vs s w x t
  fed_same us vs s t w x same fed = subst (λ bs. AreFed write bs s w x t) same fed

  -- bytes under other names of what they led to
  pub fed_moved : (us : List ℕ) (s t u : S) (w x y : List ℕ) → u ≡ t → y ≡ x → AreFed write us s w x t → AreFed write us s w y u
  fed_moved us s t u w x y there same fed more = fed more ∙ (λ i. fold write (sym there i) (chunked (sym same i ++ more)))

  -- a full chunk was fed
  pub fed_full : (left front behind w full : List ℕ) (s t : S) → left ≡ front ++ behind → full ≡ w ++ front → length full ≡ 128 → 1 ≤ length behind → t ≡ write s full → (more : List ℕ)
      → fold write s (chunked (w ++ left ++ more)) ≡ fold write t (chunked (behind ++ more))
  fed_full left front behind w full s t split is size some wrote more =
      ap (λ bs. fold write s (chunked bs)) (ap (λ bs. w ++ bs ++ more) split ∙ ap (λ bs. bs ++ more) (sym (append_assoc w front behind) ∙ ap (λ bs. bs ++ behind) (sym is)) ∙ append_assoc full behind more)
      ∙ ap (fold write s) (chunked-full full (behind ++ more) size (omega (arith, some, length-append behind more)))
      ∙ ap (λ u. fold write u (chunked (behind ++ more))) (sym wrote)

  -- the bytes of a name were fed behind their number
  pub fed_name : (us name : List ℕ) (s t u : S) (w x y : List ℕ) → us ≡ concat (length_words (length name)) → AreFed write us s w x t → AreFed write name t x y u → AreFed write (concat (length_prefixed name)) s w y u
  fed_name us name s t u w x y is first second =
      fed_same (us ++ name) (concat (length_prefixed name)) s u w y (ap (λ bs. bs ++ name) is ∙ prefixed-bytes name) (fed_both us name s t u w x y first second)

  -- A walk over the components.

  -- the prefix was fed, if there is one
  pub chunk-prefix : (s t : S) (all w : List ℕ) (cs ds : List Placed) (o : Option Prefix) → all ≡ left_key_bytes cs → o ≡ first_prefix (kinds (parts cs)) → ds ≡ behind_prefix cs
      → AreFed write (concat (key_words_before o)) s [] w t → fold write s (chunked all) ≡ fold write t (chunked (w ++ left_key_bytes ds))
  chunk-prefix s t all w cs ds o is first behind fed =
      ap (λ bs. fold write s (chunked bs)) (is ∙ prefix-split cs ∙ (λ i. concat (key_words_before (sym first i)) ++ left_key_bytes (sym behind i)))
      ∙ fed (left_key_bytes ds)

  -- names were laid out behind the bytes that wait
  module _ (bytes new : List ℕ) (used count : ℕ) (cs ds : List Placed) (kept : take used new ≡ take used bytes) (laid : left_key_bytes cs ≡ take count (drop used new) ++ left_key_bytes ds) where
    pub names-wait : take used bytes ++ left_key_bytes cs ≡ take (used + count) new ++ left_key_bytes ds
    names-wait =
        ap (λ xs. xs ++ left_key_bytes cs) (sym kept) ∙ ap (λ xs. take used new ++ xs) laid ∙ sym (append_assoc (take used new) (take count (drop used new)) (left_key_bytes ds))
        ∙ ap (λ xs. xs ++ left_key_bytes ds) (sym (take-add used count new))

    -- a full chunk of them is fed
    pub names-fed : (s t : S) → length new ≡ 192 → used + count ≤ 192 → 128 < used + count → t ≡ write s (take 128 new)
        → fold write s (chunked (take used bytes ++ left_key_bytes cs)) ≡ fold write t (chunked (take (used + count - 128) (drop 128 new) ++ left_key_bytes ds))
    names-fed s t size within over wrote =
        let behind = take (used + count - 128) (drop 128 new) in
        let parted : used + count ≡ 128 + (used + count - 128) = omega (arith, over) in
        let full : length (take 128 new) ≡ 128 = length-take-le 128 new (omega (arith, size)) in
        let some : length behind ≡ used + count - 128 = length-take-le (used + count - 128) (drop 128 new) (omega (arith, within, size, length-drop 128 new)) in
        ap (λ bs. fold write s (chunked bs)) (names-wait ∙ ap (λ n. take n new ++ left_key_bytes ds) parted ∙ ap (λ xs. xs ++ left_key_bytes ds) (take-add 128 (used + count - 128) new) ∙ append_assoc (take 128 new) behind (left_key_bytes ds))
        ∙ ap (fold write s) (chunked-full (take 128 new) (behind ++ left_key_bytes ds) full (omega (arith, some, over, length-append behind (left_key_bytes ds))))
        ∙ ap (λ u. fold write u (chunked (behind ++ left_key_bytes ds))) (sym wrote)

  -- a run of bytes was
  pub chunk-run : (s t : S) (w x run : List ℕ) (cs ds : List Placed) → left_key_bytes cs ≡ run ++ left_key_bytes ds → AreFed write run s w x t
      → fold write s (chunked (w ++ left_key_bytes cs)) ≡ fold write t (chunked (x ++ left_key_bytes ds))
  chunk-run s t w x run cs ds left fed = ap (λ bs. fold write s (chunked bs)) (ap (λ bs. w ++ bs) left ∙ sym (append_assoc w run (left_key_bytes ds))) ∙ fed (left_key_bytes ds)

  -- a component was
  pub chunk-step : (s t : S) (w x : List ℕ) (p : Part) (cs ds : List Placed) → Some p ≡ first_part cs → ds ≡ drop 1 cs → AreFed write (concat (kind_key_words p.kind)) s w x t
      → fold write s (chunked (w ++ left_key_bytes cs)) ≡ fold write t (chunked (x ++ left_key_bytes ds))
  chunk-step s t w x p [] ds first rest fed = cc first
  chunk-step s t w x p (c ∷ cs) ds first rest fed =
      let same : p ≡ c.part = cc first in
      chunk-run s t w x (concat (kind_key_words p.kind)) (c ∷ cs) ds (fed-split c cs ∙ (λ i. concat (kind_key_words (sym same i).kind) ++ left_key_bytes (sym rest i))) fed

  -- all were, and the word behind them
  pub chunk-end : (s t : S) (w x : List ℕ) (cs : List Placed) → None ≡ first_part cs → length x ≤ 128 → AreFed write (0 ∷ []) s w x t → fold write s (chunked (w ++ left_key_bytes cs)) ≡ write t x
  chunk-end s t w x [] none few fed =
      ap (λ bs. fold write s (chunked bs)) (sym (append-nil (w ++ 0 ∷ []))) ∙ fed [] ∙ ap (λ bs. fold write t (chunked bs)) (append-nil x) ∙ ap (fold write t) (chunked-few x few)
  chunk-end s t w x (c ∷ cs) none few fed = cc none
