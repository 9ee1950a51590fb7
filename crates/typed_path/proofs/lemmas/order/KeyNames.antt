-- Names that stand side by side in a text, laid out as a key has them.
use Rattle.std.proofs.Common.{◌≡◌, ℕ, ◌+◌, ◌-◌, ◌^◌, ◌/◌, ◌<◌, ◌≤◌, ◌==◌, ◌&&◌, ◌||◌, Bool, true, false, List, [], ◌∷◌, ◌++◌, length, take, drop, get_or, refl, sym, ap, ◌∙◌, arith, subst, cond, if◌then◌else◌, length-append, length-drop, length-take-le, take_all, append-nil, ⊎_elim, set, suc}
use Rattle.std.specs.Prelude.{replicate}
use Rattle.std.specs.List.{concat, before_first, position_or_len}
use Rattle.std.specs.Hash.{u8, usize}
use Rattle.std.specs.Int.{bit_at}
use Rattle.std.proofs.lemmas.Bool.{lt-ltb, or_parts, cases_lt}
use Rattle.std.proofs.lemmas.List.{append_assoc, drop-drop, drop-take, drop-replicate, drop_more, drop_all, take-take, take-append-le, take_at, drop_at, drop-append-le, set_split, drop-set-lt, drop-set-add, length-replicate, length-set, get_or-take, get_or-drop, get_or_append_left, get_or-append_right, get_or-replicate}
use Rattle.std.proofs.Math.Seq.{take-append-add, take-set-lt}
use Rattle.std.proofs.lemmas.Nat.{shr-shr}
use Rattle.std.proofs.lemmas.List.Sums.{position_or_len_is}
use Rattle.typed_path.specs.declared.scan.separators.Separators.{Separators}
use Rattle.typed_path.specs.declared.scan.cursor.Begin.{Begin}
use Rattle.typed_path.specs.declared.scan.cursor.Begin.TheVariants.{Body, Inside}
use Rattle.typed_path.specs.components.{dot, is_separator, later_body, kinds, later, first, component, name_part}
use Rattle.typed_path.specs.scan.{IsMask, is_one_of, stands_at, body_from}
use Rattle.typed_path.specs.changes.{begins_no_name, is_name_piece}
use Rattle.typed_path.specs.order.{IsPutFrom, left_key_bytes, length_prefixed, kinds_key_words}
use Rattle.typed_path.proofs.lemmas.components.Segments.{later_body-first, later_body-separator, body_of-first, segment-byte, parts-later_body}
use Rattle.typed_path.proofs.lemmas.order.KeyBytes.{fed-split}
use Rattle.typed_path.proofs.lemmas.scan.Searches.{mask-behind, mask-alike, of-set, of-unset, set-of}

-- what a text that follows a component feeds
abbrev pub keyed : Separators → List ℕ → List ℕ
keyed s text = left_key_bytes (later_body s 0 text)

-- so many bytes of a text, with separators behind them
abbrev pub padded : ℕ × ℕ → List ℕ → ℕ → List ℕ
padded pair left size = take size left ++ replicate (63 - size) pair.0

-- the keys of the names of a text up to a place are laid out in a block, behind which the text stands as it is
pub record IsLaidOut (s : Separators) (pair : ℕ × ℕ) (all left : List ℕ) (size : ℕ) (block : List ℕ) (marks begin : ℕ) : Type 0 where
  pub short : begin < size
  pub long : length block ≡ 64
  pub laid : all ≡ take begin block ++ keyed s (drop begin left)
  pub behind : drop (begin + 1) block ≡ drop begin (padded pair left size)
  pub marked : IsMask (λ k. is_one_of pair (get_or (padded pair left size) (begin + k) 0)) (63 - begin) marks
  pub named : is_name_piece (before_first (is_separator s) (drop begin left)) ≡ true

-- A block within a longer buffer.

abbrev pub window : ℕ → List ℕ → List ℕ
window at buffer = take 64 (drop at buffer)

module _ (at : ℕ) (buffer : List ℕ) (room : at + 64 ≤ length buffer) where
  pub window-long : length (window at buffer) ≡ 64
  window-long = length-take-le 64 (drop at buffer) (omega (arith, room, length-drop at buffer))

  pub window-at : (k : ℕ) → k < 64 → get_or (window at buffer) k 0 ≡ get_or buffer (at + k) 0
  window-at k low = get_or-take 64 (drop at buffer) k 0 low ∙ get_or-drop at buffer k 0

  pub window-set : (k v : ℕ) → k < 64 → window at (set buffer (at + k) v) ≡ set (window at buffer) k v
  window-set k v low = ap (take 64) (drop-set-add at buffer k v) ∙ take-set-lt 64 (drop at buffer) k v low

  pub window-front : (n : ℕ) → n ≤ 64 → take n (window at buffer) ≡ take n (drop at buffer)
  window-front n low = take-take n 64 (drop at buffer) low

-- separators, and a text one place behind the first of them
pub windowed : (at size middle end x : ℕ) (left old half new : List ℕ) → at + 64 ≤ length old → size ≤ length left → size ≤ 61
    → IsPutFrom at (replicate 64 x) old half middle → IsPutFrom (at + 1) (take size left) half new end
    → (length new ≡ length old) × (take at new ≡ take at old) × (drop 1 (window at new) ≡ take size left ++ replicate (63 - size) x)
windowed at size middle end x left old half new room within small first second =
    let middle-is : middle ≡ at + 64 = first.ends in
    let taken : length (take size left) ≡ size = length-take-le size left within in
    let end-is : end ≡ at + 1 + size = omega (arith, second.ends, taken) in
    let half-is = first.put (omega (arith, middle-is, room)) in
    let new-is = second.put (omega (arith, end-is, small, room, first.long)) in
    let front-long : length (take at old) ≡ at = length-take-le at old (omega (arith, room)) in
    let front : take at half ≡ take at old = ap (take at) (half-is ∙ append_assoc (take at old) (replicate 64 x) (drop middle old)) ∙ take_at (take at old) (replicate 64 x ++ drop middle old) at front-long in
    let behind : drop at half ≡ replicate 64 x ++ drop middle old = ap (drop at) (half-is ∙ append_assoc (take at old) (replicate 64 x) (drop middle old)) ∙ drop_at (take at old) (replicate 64 x ++ drop middle old) at front-long in
    let more-long : length (take (at + 1) half) ≡ at + 1 = length-take-le (at + 1) half (omega (arith, room, first.long)) in
    let rest : drop end half ≡ replicate (63 - size) x ++ drop middle old =
    ap (λ n. drop n half) end-is ∙ ap (λ n. drop n half) (there-is at size) ∙ sym (drop-drop (1 + size) at half) ∙ ap (drop (1 + size)) behind
    ∙ drop-append-le (1 + size) (replicate 64 x) (drop middle old) (omega (arith, small)) ∙ ap (λ xs. xs ++ drop middle old) (drop-replicate (1 + size) 64 x ∙ ap (λ n. replicate n x) (left-over size)) in
    let put : drop (at + 1) new ≡ (take size left ++ replicate (63 - size) x) ++ drop middle old =
    ap (drop (at + 1)) (new-is ∙ append_assoc (take (at + 1) half) (take size left) (drop end half)) ∙ drop_at (take (at + 1) half) (take size left ++ drop end half) (at + 1) more-long
    ∙ ap (λ xs. take size left ++ xs) rest ∙ sym (append_assoc (take size left) (replicate (63 - size) x) (drop middle old)) in (
      second.long ∙ first.long,
      ap (take at) (new-is ∙ append_assoc (take (at + 1) half) (take size left) (drop end half)) ∙ take-append-le at (take (at + 1) half) (take size left ++ drop end half) (omega (arith, more-long))
          ∙ take-take at (at + 1) half (omega arith) ∙ front,
      drop-take 1 63 (drop at new) ∙ ap (take 63) (drop-drop 1 at new ∙ put)
          ∙ take_at (take size left ++ replicate (63 - size) x) (drop middle old) 63 (length-append (take size left) (replicate (63 - size) x) ∙ ap (λ n. n + length (replicate (63 - size) x)) taken ∙ ap (λ n. size + n) (length-replicate (63 - size) x) ∙ whole-is size small),
    )
  where
    there-is : (a b : ℕ) → a + 1 + b ≡ a + (1 + b)
    there-is a b = omega arith

    left-over : (b : ℕ) → 64 - (1 + b) ≡ 63 - b
    left-over b = omega arith

    whole-is : (b : ℕ) → b ≤ 61 → b + (63 - b) ≡ 63
    whole-is b low = omega (arith, low)

-- What names feed.

-- wherever the text stands
keyed-anywhere : (s : Separators) (at : ℕ) (text : List ℕ) → left_key_bytes (later_body s at text) ≡ keyed s text
keyed-anywhere s at text = ap (λ ps. concat (kinds_key_words (kinds ps))) (parts-later_body s at text ∙ sym (parts-later_body s 0 text))

pub keyed-at : (s : Separators) (at : ℕ) (text : List ℕ) → keyed s text ≡ left_key_bytes (later_body s at text)
keyed-at s at text = sym (keyed-anywhere s at text)

-- a short name behind the number of its bytes
short-prefixed : (name : List ℕ) → length name < 245 → concat (length_prefixed name) ≡ (10 + length name) ∷ name
short-prefixed name short =
    ap (λ b. concat ((if b then u8 (10 + length name) else u8 255 ++ usize (length name)) ++ name ∷ [])) (lt-ltb (length name) 245 short)
    ∙ ap (λ xs. (10 + length name) ∷ xs) (append-nil name)

-- a segment that is a name is one component
later-name : (s : Separators) (name : List ℕ) (at : ℕ) → is_name_piece name ≡ true → later s (record { text = name; start = at }) ≡ component (name_part name) at
later-name s name at named = grind arith

-- and so is the first segment
first-name : (s : Separators) (name : List ℕ) (at : ℕ) → is_name_piece name ≡ true → first s (record { text = name; start = at }) ≡ component (name_part name) at
first-name s name at named = grind arith

-- a name, and what stands behind it
pub keyed-name : (s : Separators) (text name behind : List ℕ) → name ≡ before_first (is_separator s) text → behind ≡ drop (position_or_len (is_separator s) text) text → is_name_piece name ≡ true → length name < 245
    → keyed s text ≡ (10 + length name) ∷ name ++ keyed s behind
keyed-name s text name behind is rest named short =
    ap left_key_bytes (later_body-first s 0 text)
    ∙ (λ i. left_key_bytes (later s (record { text = sym is i; start = 0 }) ++ later_body s (0 + position_or_len (is_separator s) text) (sym rest i)))
    ∙ ap (λ cs. left_key_bytes (cs ++ later_body s (0 + position_or_len (is_separator s) text) behind)) (later-name s name 0 named)
    ∙ fed-split (record { part = name_part name; start = 0 }) (later_body s (0 + position_or_len (is_separator s) text) behind)
    ∙ ap (λ xs. concat (length_prefixed name) ++ xs) (keyed-anywhere s (0 + position_or_len (is_separator s) text) behind)
    ∙ ap (λ xs. xs ++ keyed s behind) (short-prefixed name short)

-- and what is left of the components behind it
pub behind-name : (s : Separators) (at : ℕ) (text : List ℕ) → is_name_piece (before_first (is_separator s) text) ≡ true
    → left_key_bytes (drop 1 (later_body s at text)) ≡ keyed s (drop (position_or_len (is_separator s) text) text)
behind-name s at text named =
    let name = before_first (is_separator s) text in
    let n = position_or_len (is_separator s) text in
    ap (λ cs. left_key_bytes (drop 1 cs)) (later_body-first s at text ∙ ap (λ cs. cs ++ later_body s (at + n) (drop n text)) (later-name s name at named))
    ∙ keyed-anywhere s (at + n) (drop n text)

-- a separator feeds nothing
keyed-separator : (s : Separators) (x : ℕ) (text : List ℕ) → is_separator s x ≡ true → keyed s (x ∷ text) ≡ keyed s text
keyed-separator s x text separates = ap left_key_bytes (later_body-separator s 0 x text separates) ∙ keyed-anywhere s 1 text

-- a text that begins with a name feeds the same at the beginning of a path as behind a component
pub keyed-begun : (begin : Begin) (s : Separators) (at b : ℕ) (bs : List ℕ) → is_name_piece (before_first (is_separator s) (b ∷ bs)) ≡ true → left_key_bytes (body_from begin s at (b ∷ bs)) ≡ keyed s (b ∷ bs)
keyed-begun Inside s at b bs named = keyed-anywhere s at (b ∷ bs)
keyed-begun Body s at b bs named =
    let name = before_first (is_separator s) (b ∷ bs) in
    let behind = later_body s (at + position_or_len (is_separator s) (b ∷ bs)) (drop (position_or_len (is_separator s) (b ∷ bs)) (b ∷ bs)) in
    ap left_key_bytes (body_of-first s at (b ∷ bs) ∙ ap (λ cs. cs ++ behind) (first-name s name at named ∙ sym (later-name s name at named)) ∙ sym (later_body-first s at (b ∷ bs)))
    ∙ keyed-anywhere s at (b ∷ bs)

module _ (s : Separators) (pair : ℕ × ℕ) (same : (b : ℕ) → is_separator s b ≡ is_one_of pair b) where
  pad-separates : is_one_of pair pair.0 ≡ true
  pad-separates = grind arith

  lone : (a : ℕ) (d : Bool) → (a == dot && (true || d)) ≡ false → is_name_piece (a ∷ []) ≡ true
  lone a d opens = grind arith

  two : (a b : ℕ) (more : List ℕ) (d : Bool) → (a == dot && (d || b == dot)) ≡ false → is_name_piece (a ∷ b ∷ more) ≡ true
  two a b [] d opens = grind arith
  two a b (c ∷ more) d opens = grind arith

  no-pad : (b : ℕ) → begins_no_name pair pair.0 b ≡ false → ⊥
  no-pad b opens = grind arith

  -- a segment of two bytes or more that begins so is a name
  opened-name : (a b : ℕ) (bs : List ℕ) → begins_no_name pair a b ≡ false → is_name_piece (before_first (is_separator s) (a ∷ b ∷ bs)) ≡ true
  opened-name a b bs opens = by (is_separator s b) refl
    where
      each : (is_one_of pair a ≡ false) × ((a == dot && (is_one_of pair b || b == dot)) ≡ false)
      each = or_parts (is_one_of pair a) (a == dot && (is_one_of pair b || b == dot)) opens

      front : before_first (is_separator s) (a ∷ b ∷ bs) ≡ a ∷ before_first (is_separator s) (b ∷ bs)
      front = segment-byte s a (b ∷ bs) ∙ ap (λ c. cond c [] (a ∷ before_first (is_separator s) (b ∷ bs))) (same a ∙ each.0)

      by : (c : Bool) → is_separator s b ≡ c → is_name_piece (before_first (is_separator s) (a ∷ b ∷ bs)) ≡ true
      by true e =
          ap is_name_piece (front ∙ ap (λ xs. a ∷ xs) (segment-byte s b bs ∙ ap (λ c. cond c [] (b ∷ before_first (is_separator s) bs)) e))
          ∙ lone a (b == dot) (ap (λ c. a == dot && (c || b == dot)) (sym e ∙ same b) ∙ each.1)
      by false e =
          ap is_name_piece (front ∙ ap (λ xs. a ∷ xs) (segment-byte s b bs ∙ ap (λ c. cond c [] (b ∷ before_first (is_separator s) bs)) e))
          ∙ two a b (before_first (is_separator s) bs) (is_one_of pair b) each.1

  -- and so is what begins with a byte that is neither separator nor dot
  plain : (a : ℕ) → begins_no_name pair a pair.0 ≡ false → (is_one_of pair a ≡ false) × ((a == dot) ≡ false)
  plain a opens = grind arith

  plain-opens : (a b : ℕ) → begins_no_name pair a pair.0 ≡ false → begins_no_name pair a b ≡ false
  plain-opens a b opens = grind (arith, plain)

  plain-name : (a : ℕ) (bs : List ℕ) → begins_no_name pair a pair.0 ≡ false → is_name_piece (before_first (is_separator s) (a ∷ bs)) ≡ true
  plain-name a [] opens =
      ap is_name_piece (segment-byte s a [] ∙ ap (λ c. cond c [] (a ∷ [])) (same a ∙ (plain a opens).0))
      ∙ lone a false (ap (λ c. c && true) (plain a opens).1)
  plain-name a (b ∷ bs) opens = opened-name a b bs (plain-opens a b opens)

  module _ (left : List ℕ) (size : ℕ) (within : size ≤ length left) (small : size ≤ 61) where
    padded-front : (k : ℕ) → k < size → get_or (padded pair left size) k 0 ≡ get_or left k 0
    padded-front k low =
        get_or_append_left (take size left) (replicate (63 - size) pair.0) 0 k (omega (arith, low, length-take-le size left within)) ∙ get_or-take size left k 0 low

    padded-behind : (k : ℕ) → size ≤ k → k < 63 → get_or (padded pair left size) k 0 ≡ pair.0
    padded-behind k low high =
        get_or-append_right (take size left) (replicate (63 - size) pair.0) size k 0 (length-take-le size left within) low ∙ get_or-replicate (63 - size) (k - size) pair.0 0 (omega (arith, low, high))

    -- what stands there tells of a name
    pub named-at : (i : ℕ) → i ≤ size → begins_no_name pair (get_or (padded pair left size) i 0) (get_or (padded pair left size) (i + 1) 0) ≡ false
        → (i < size) × (is_name_piece (before_first (is_separator s) (drop i left)) ≡ true)
    named-at i low opens = ⊎_elim here past (cases_lt i size)
      where
        by-next : (bs : List ℕ) → drop (i + 1) left ≡ bs → i < size → is_name_piece (before_first (is_separator s) (get_or left i 0 ∷ bs)) ≡ true
        by-next [] e short =
            let last : size ≤ i + 1 = omega (arith, within, ap length e, length-drop (i + 1) left) in
            plain-name (get_or left i 0) [] ((λ k. begins_no_name pair (sym (padded-front i short) k) (sym (padded-behind (i + 1) last (omega (arith, low, small))) k)) ∙ opens)
        by-next (b ∷ bs) e short = ⊎_elim
            (λ l. opened-name (get_or left i 0) b bs ((λ k. begins_no_name pair (sym (padded-front i short) k)
            ((ap (λ xs. get_or xs 0 0) (sym e) ∙ get_or-drop (i + 1) left 0 0 ∙ ap (λ n. get_or left n 0) (omega arith) ∙ sym (padded-front (i + 1) l)) k)) ∙ opens))
            (λ h. plain-name (get_or left i 0) (b ∷ bs) ((λ k. begins_no_name pair (sym (padded-front i short) k) (sym (padded-behind (i + 1) h (omega (arith, low, small))) k)) ∙ opens))
            (cases_lt (i + 1) size)

        here : i < size → (i < size) × (is_name_piece (before_first (is_separator s) (drop i left)) ≡ true)
        here l = (l, ap (λ xs. is_name_piece (before_first (is_separator s) xs)) (drop_more left i 0 (omega (arith, l, within))) ∙ by-next (drop (i + 1) left) refl l)

        past : size ≤ i → (i < size) × (is_name_piece (before_first (is_separator s) (drop i left)) ≡ true)
        past h = absurd (no-pad (get_or (padded pair left size) (i + 1) 0) ((λ k. begins_no_name pair (sym (padded-behind i h (omega (arith, low, small))) k) (get_or (padded pair left size) (i + 1) 0)) ∙ opens))

    -- a text that begins with a name, put into a block of separators
    module _ (two_or_more : 2 ≤ size) (opens : begins_no_name pair (get_or left 0 0) (get_or left 1 0) ≡ false) where
      opened : begins_no_name pair (get_or (padded pair left size) 0 0) (get_or (padded pair left size) (0 + 1) 0) ≡ false
      opened = (λ i. begins_no_name pair (padded-front 0 (omega (arith, two_or_more)) i) (padded-front 1 two_or_more i)) ∙ opens

      begun-named : is_name_piece (before_first (is_separator s) left) ≡ true
      begun-named = (named-at 0 (omega arith) opened).1

      begun-keyed : (begin : Begin) (at : ℕ) → left_key_bytes (body_from begin s at left) ≡ keyed s left
      begun-keyed begin at =
          let first = drop_more left 0 0 (omega (arith, two_or_more, within)) in
          ap (λ xs. left_key_bytes (body_from begin s at xs)) first
          ∙ keyed-begun begin s at (get_or left 0 0) (drop 1 left) (ap (λ xs. is_name_piece (before_first (is_separator s) xs)) (sym first) ∙ begun-named)
          ∙ ap (keyed s) (sym first)

      pub begun : (begin : Begin) (from at marks : ℕ) (block whole : List ℕ) → length block ≡ 64 → drop 1 block ≡ padded pair left size → ((k : ℕ) → k < 64 → get_or block k 0 ≡ get_or whole (at + k) 0)
          → IsMask (λ k. stands_at pair whole (at + k)) 64 marks → IsLaidOut s pair (left_key_bytes (body_from begin s from left)) left size block (marks / 2) 0
      begun begin from at marks block whole long behind there marked =
          let own : IsMask (λ k. stands_at pair block k) 64 marks = record { within = λ k low. marked.within k low ∙ ap (λ b. if is_one_of pair b then 1 else 0) (sym (there k low)); beyond = marked.beyond } in
          record {
            short = omega (arith, two_or_more);
            long = long;
            laid = begun-keyed begin from;
            behind = behind;
            marked = mask-alike (λ k. stands_at pair block (1 + k)) (λ k. is_one_of pair (get_or (padded pair left size) (0 + k) 0)) 63 (marks / 2)
                (λ k. ap (λ n. is_one_of pair (get_or (padded pair left size) n 0)) (omega arith) ∙ ap (λ xs. is_one_of pair (get_or xs k 0)) (sym behind) ∙ ap (is_one_of pair) (get_or-drop 1 block k 0))
                (mask-behind (λ k. stands_at pair block k) 1 63 marks own);
            named = begun-named;
          }

    -- A step over the names, which puts the length of one.

    module _ (all block : List ℕ) (marks begin len : ℕ) (laid : IsLaidOut s pair all left size block marks begin) where
      abbrev own : List ℕ
      own = drop begin left

      own-long : length own ≡ length left - begin
      own-long = length-drop begin left

      -- the bytes behind the place
      own-at : (k : ℕ) → begin + k < size → get_or (padded pair left size) (begin + k) 0 ≡ get_or own k 0
      own-at k low = padded-front (begin + k) low ∙ sym (get_or-drop begin left k 0)

      module _ (low : len < 64) (is_set : bit_at marks len ≡ 1) (none : (k : ℕ) → k < len → bit_at marks k ≡ 0) where
        abbrev bits : ℕ → Bool
        bits k = is_one_of pair (get_or (padded pair left size) (begin + k) 0)

        own-set : (len < 63 - begin) × (is_one_of pair (get_or (padded pair left size) (begin + len) 0) ≡ true)
        own-set = of-set (λ k. is_one_of pair (get_or (padded pair left size) (begin + k) 0)) (63 - begin) marks len laid.marked is_set

        own-clear : (k : ℕ) → k < len → begin + k < size → is_separator s (get_or own k 0) ≡ false
        own-clear k before within_it =
            same (get_or own k 0) ∙ ap (is_one_of pair) (sym (own-at k within_it))
            ∙ of-unset (λ j. is_one_of pair (get_or (padded pair left size) (begin + j) 0)) (63 - begin) marks k laid.marked (omega (arith, before, own-set.0)) (none k before)

        -- the block behind the place, up to another
        own-block : (n : ℕ) → begin + n ≤ size → take n (drop (begin + 1) block) ≡ take n own
        own-block n fits =
            ap (take n) laid.behind
            ∙ sym (drop-take begin n (padded pair left size))
            ∙ ap (drop begin) (take-append-le (begin + n) (take size left) (replicate (63 - size) pair.0) (omega (arith, fits, length-take-le size left within)) ∙ take-take (begin + n) size left fits)
            ∙ drop-take begin n left

        -- with a length put
        put-front : (n v : ℕ) → begin + n ≤ size → take (begin + 1 + n) (set block begin v) ≡ take begin block ++ v ∷ take n own
        put-front n v fits =
            let room : begin < length block = omega (arith, laid.long, laid.short, small) in
            let size-of : length (take begin block) ≡ begin = length-take-le begin block (omega (arith, room)) in
            let count : begin + 1 + n ≡ length (take begin block) + suc n = omega (arith, size-of) in
            let one : suc begin ≡ begin + 1 = omega arith in
            ap (take (begin + 1 + n)) (set_split block begin v room)
            ∙ ap (λ m. take m (take begin block ++ v ∷ drop (suc begin) block)) count
            ∙ take-append-add (take begin block) (v ∷ drop (suc begin) block) (suc n)
            ∙ ap (λ xs. take begin block ++ v ∷ xs) (ap (λ m. take n (drop m block)) one ∙ own-block n fits)

        module _ (within_it : begin + 1 + len ≤ size) where
          length-is : position_or_len (is_separator s) own ≡ len
          length-is = position_or_len_is (is_separator s) own len 0 (omega (arith, own-long, within_it, within))
              (λ k l. own-clear k l (omega (arith, l, within_it)))
              (λ l. same (get_or own len 0) ∙ ap (is_one_of pair) (sym (own-at len (omega (arith, within_it)))) ∙ own-set.1)

          name-long : length (take len own) ≡ len
          name-long = length-take-le len own (omega (arith, own-long, within_it, within))

          keyed-step : keyed s own ≡ (10 + len) ∷ take len own ++ keyed s (drop (begin + 1 + len) left)
          keyed-step =
              let stands = drop_more own len 0 (omega (arith, own-long, within_it, within)) in
              let separates = same (get_or own len 0) ∙ ap (is_one_of pair) (sym (own-at len (omega (arith, within_it)))) ∙ own-set.1 in
              keyed-name s own (take len own) (drop len own) (ap (λ n. take n own) (sym length-is)) (ap (λ n. drop n own) (sym length-is))
              (ap (λ n. is_name_piece (take n own)) (sym length-is) ∙ laid.named) (omega (arith, name-long, within_it, small))
              ∙ ap (λ n. (10 + n) ∷ take len own ++ keyed s (drop len own)) name-long
              ∙ ap (λ xs. (10 + len) ∷ take len own ++ xs) (ap (keyed s) stands ∙ keyed-separator s (get_or own len 0) (drop (len + 1) own) separates ∙ ap (keyed s) (drop-drop (len + 1) begin left ∙ ap (λ n. drop n left) (omega arith)))

          -- the length of a name was put, and no name follows at once
          pub parted-laid : (at : ℕ) → all ≡ take (begin + 1 + len) (set block begin (10 + len)) ++ left_key_bytes (drop 1 (later_body s at own))
          parted-laid at =
              laid.laid
              ∙ ap (λ xs. take begin block ++ xs) (keyed-name s own (take len own) (drop len own) (ap (λ n. take n own) (sym length-is)) (ap (λ n. drop n own) (sym length-is))
              (ap (λ n. is_name_piece (take n own)) (sym length-is) ∙ laid.named) (omega (arith, name-long, within_it, small))
              ∙ ap (λ n. (10 + n) ∷ take len own ++ keyed s (drop len own)) name-long)
              ∙ sym (append_assoc (take begin block) ((10 + len) ∷ take len own) (keyed s (drop len own)))
              ∙ ap (λ xs. xs ++ keyed s (drop len own)) (sym (put-front len (10 + len) (omega (arith, within_it))))
              ∙ ap (λ xs. take (begin + 1 + len) (set block begin (10 + len)) ++ xs) (ap (λ n. keyed s (drop n own)) (sym length-is) ∙ sym (behind-name s at own laid.named))

          -- where its separator stands
          pub ends-at : len ≡ position_or_len (is_separator s) own
          ends-at = sym length-is

          block-at : (k : ℕ) → begin ≤ k → get_or block (k + 1) 0 ≡ get_or (padded pair left size) k 0
          block-at k low =
              ap (λ n. get_or block n 0) (omega (arith, low)) ∙ sym (get_or-drop (begin + 1) block (k - begin) 0) ∙ ap (λ xs. get_or xs (k - begin) 0) laid.behind
              ∙ get_or-drop begin (padded pair left size) (k - begin) 0 ∙ ap (λ n. get_or (padded pair left size) n 0) (omega (arith, low))

          -- the length of a name was put, and a name follows
          pub stepped : begins_no_name pair (get_or block (begin + 1 + len + 1) 0) (get_or block (begin + 1 + len + 2) 0) ≡ false
              → IsLaidOut s pair all left size (set block begin (10 + len)) (marks / 2 ^ len / 2) (begin + 1 + len)
          stepped opens =
              let two : begin + 1 + len + 1 + 1 ≡ begin + 1 + len + 2 = omega arith in
              let there : begins_no_name pair (get_or (padded pair left size) (begin + 1 + len) 0) (get_or (padded pair left size) (begin + 1 + len + 1) 0) ≡ false
              = (λ i. begins_no_name pair (sym (block-at (begin + 1 + len) (omega arith)) i) ((sym (block-at (begin + 1 + len + 1) (omega arith)) ∙ ap (λ n. get_or block n 0) two) i)) ∙ opens in
              let next = named-at (begin + 1 + len) within_it there in
              record {
                short = next.0;
                long = length-set block begin (10 + len) ∙ laid.long;
                laid = laid.laid ∙ ap (λ xs. take begin block ++ xs) keyed-step ∙ sym (append_assoc (take begin block) ((10 + len) ∷ take len own) (keyed s (drop (begin + 1 + len) left)))
                    ∙ ap (λ xs. xs ++ keyed s (drop (begin + 1 + len) left)) (sym (put-front len (10 + len) (omega (arith, within_it))));
                behind = drop-set-lt (begin + 1 + len + 1) block begin (10 + len) (omega arith)
                    ∙ ap (λ n. drop n block) (omega arith) ∙ sym (drop-drop (len + 1) (begin + 1) block) ∙ ap (drop (len + 1)) laid.behind
                    ∙ drop-drop (len + 1) begin (padded pair left size) ∙ ap (λ n. drop n (padded pair left size)) (omega arith);
                marked = mask-alike (λ k. bits (len + 1 + k)) (λ k. is_one_of pair (get_or (padded pair left size) (begin + 1 + len + k) 0)) (63 - (begin + 1 + len)) (marks / 2 ^ len / 2)
                    (λ k. ap (λ n. is_one_of pair (get_or (padded pair left size) n 0)) (omega arith))
                    (subst (IsMask (λ k. bits (len + 1 + k)) (63 - (begin + 1 + len))) (sym (shr-shr marks len 1))
                    (mask-behind bits (len + 1) (63 - (begin + 1 + len)) marks (subst (λ n. IsMask bits n marks) (omega (arith, within_it, small)) laid.marked)));
                named = next.1;
              }

        -- the last name, behind which nothing stands
        module _ (ended : size ≡ length left) (over : size < begin + 1 + len) where
          pads : bit_at marks (size - begin) ≡ 1
          pads =
              let back : begin + (size - begin) ≡ size = omega (arith, laid.short) in
              set-of bits (63 - begin) marks (size - begin) laid.marked (omega (arith, small, laid.short))
              (ap (λ n. is_one_of pair (get_or (padded pair left size) n 0)) back ∙ ap (is_one_of pair) (padded-behind size (omega arith) (omega (arith, small))) ∙ pad-separates)

          last-is : len ≡ length own
          last-is = ⊎_elim (λ l. absurd (omega (arith, pads, none (size - begin) l))) (λ h. omega (arith, over, h, own-long, ended)) (cases_lt (size - begin) len)

          none-separates : position_or_len (is_separator s) own ≡ length own
          none-separates = position_or_len_is (is_separator s) own (length own) 0 (omega arith)
              (λ k l. own-clear k (omega (arith, l, last-is)) (omega (arith, l, own-long, ended)))
              (λ l. absurd (omega (arith, l)))

          -- the whole text is laid out
          pub ended-laid : (at : ℕ) → all ≡ take (size + 1) (set block begin (10 + len)) ++ left_key_bytes (later_body s at (drop size left))
          ended-laid at =
              let whole = take_all (length own) own (omega arith) in
              let count : size + 1 ≡ begin + 1 + length own = omega (arith, own-long, ended, laid.short) in
              let nothing : drop (length own) own ≡ [] = drop_all (length own) own (omega arith) in
              let rest : drop size left ≡ [] = drop_all size left (omega (arith, ended)) in
              laid.laid
              ∙ ap (λ xs. take begin block ++ xs) (keyed-name s own own [] (sym whole ∙ ap (λ n. take n own) (sym none-separates)) (sym nothing ∙ ap (λ n. drop n own) (sym none-separates))
              (ap is_name_piece (sym whole ∙ ap (λ n. take n own) (sym none-separates)) ∙ laid.named) (omega (arith, own-long, ended, small)))
              ∙ sym (append_assoc (take begin block) ((10 + length own) ∷ own) (keyed s []))
              ∙ ap (λ xs. (take begin block ++ (10 + length own) ∷ xs) ++ keyed s []) (sym whole)
              ∙ ap (λ xs. xs ++ keyed s []) (sym (put-front (length own) (10 + length own) (omega (arith, own-long, ended, laid.short))))
              ∙ (λ i. take (sym count i) (set block begin (10 + sym last-is i)) ++ keyed s [])
              ∙ ap (λ xs. take (size + 1) (set block begin (10 + len)) ++ xs) (sym (keyed-anywhere s at []) ∙ ap (λ xs. left_key_bytes (later_body s at xs)) (sym rest))
