use Rattle.std.proofs.Common.{◌≡◌, ◌≤◌, ◌<◌, ◌+◌, ◌/◌, ◌^◌, ◌++◌, drop, set, get_or, ℕ, length, take, refl, sym, ap, ◌∙◌, arith, subst}
use Rattle.std.specs.List.{position_or_len}
use Rattle.std.proofs.lemmas.List.{length-set, take-set-le}
use Rattle.typed_path.specs.changes.{begins_no_name}
use Rattle.typed_path.specs.components.{is_separator, later_body}
use Rattle.typed_path.specs.scan.{is_one_of, body_from}
use Rattle.typed_path.specs.order.{left_key_bytes}
use Rattle.typed_path.specs.views.BodyViews.{body_items, body_slice}
use Rattle.typed_path.proofs.lemmas.order.KeyNames.{IsLaidOut, begun, ended-laid, ends-at, keyed, keyed-at, parted-laid, stepped, window, window-at, window-front, window-long, window-set, windowed}
use Rattle.typed_path.proofs.common.key_names.lay_names.Goals as goal

pub names-init : goal.names-init
names-init c =
    let v = c.args.body.now in
    let at = c.args.at in
    let left = c.as_bytes-left.result.now in
    let size = c.min-size.result in
    let whole = c.put_bytes-2.new.out in
    let within : size ≤ length left = omega (arith, c.min-size.ensures) in
    let small : size ≤ 61 = omega (arith, c.min-size.ensures) in
    let two : 2 ≤ size = omega (arith, c.min-size.ensures, c.in-len2-up.len_at_least) in
    let put = windowed at size c.put_bytes.result c.put_bytes-2.result c.pair-pair.result.0 left c.args.block.now c.put_bytes.new.out whole c.requires.room within small c.put_bytes.ensures c.put_bytes-2.ensures in
    let room : at + 64 ≤ length whole = omega (arith, c.requires.room, put.0) in
    let laid = begun v.separators c.pair-pair.result c.pair-pair.ensures left size within small two (sym c.begins_no_name.ensures ∙ c.if-begins_no_name.false)
    v.begin v.from at c.marks_at-marks.result (window at whole) whole (window-long at whole room) put.2 (window-at at whole room) c.marks_at-marks.ensures in (
      refl,
      put.0,
      put.1,
      subst (λ t. IsLaidOut v.separators c.pair-pair.result (left_key_bytes (body_from v.begin v.separators v.from t)) left size (window at whole) (c.marks_at-marks.result / 2) 0) c.as_bytes-left.ensures laid,
    )

pub names-preserved : goal.names-preserved
names-preserved c =
    let v = c.names.body in
    let at = c.args.at in
    let left = c.as_bytes-left.result.now in
    let size = c.min-size.result in
    let block = c.names.block in
    let begin = c.names.begin in
    let len = c.lowest-length.result in
    let laid = c.names.invariant.3 in
    let same : (b : ℕ) → is_separator v.separators b ≡ is_one_of c.pair-pair.result b = λ b. ap (λ u. is_separator u.separators b) c.names.invariant.0 ∙ c.pair-pair.ensures b in
    let within : size ≤ length left = omega (arith, c.min-size.ensures) in
    let small : size ≤ 61 = omega (arith, c.min-size.ensures) in
    let room : at + 64 ≤ length block = omega (arith, c.requires.room, c.names.invariant.1) in
    let low : begin < 64 = omega (arith, laid.short, small) in
    let there : (k : ℕ) → k < 64 → get_or (window at block) k 0 ≡ get_or block (at + k) 0 = window-at at block room in
    let one = there (begin + 1 + len + 1) (omega (arith, c.if-size-end.false, small)) ∙ ap (λ n. get_or block n 0) (omega arith) in
    let two = there (begin + 1 + len + 2) (omega (arith, c.if-size-end.false, small)) ∙ ap (λ n. get_or block n 0) (omega arith) in
    let opens = (λ i. begins_no_name c.pair-pair.result (one i) (two i)) ∙ sym c.begins_no_name-parted.ensures ∙ c.if-parted.false in (
      c.names.invariant.0,
      length-set block (at + begin) (10 + len) ∙ c.names.invariant.1,
      take-set-le at block (at + begin) (10 + len) (omega arith) ∙ c.names.invariant.2,
      subst (λ w. IsLaidOut v.separators c.pair-pair.result (left_key_bytes (body_items c.args.body.now)) left size w (c.names.marks / 2 ^ len / 2) (begin + 1 + len)) (sym (window-set at block room begin (10 + len) low))
          (stepped v.separators c.pair-pair.result same left size within small (left_key_bytes (body_items c.args.body.now)) (window at block) c.names.marks begin len
          laid c.lowest-length.ensures.within c.lowest-length.ensures.set c.lowest-length.ensures.below c.if-size-end.false opens),
    )

pub take_segment-requires-clause-ends : goal.take_segment-requires-clause-ends
take_segment-requires-clause-ends c =
    let v = c.names.body in
    let at = c.args.at in
    let left = c.as_bytes-left.result.now in
    let size = c.min-size.result in
    let block = c.names.block in
    let begin = c.names.begin in
    let len = c.lowest-length.result in
    let laid = c.names.invariant.3 in
    let same : (b : ℕ) → is_separator v.separators b ≡ is_one_of c.pair-pair.result b = λ b. ap (λ u. is_separator u.separators b) c.names.invariant.0 ∙ c.pair-pair.ensures b in
    let within : size ≤ length left = omega (arith, c.min-size.ensures) in
    let small : size ≤ 61 = omega (arith, c.min-size.ensures) in
    let slice = ap (drop begin) (c.as_bytes-left.ensures ∙ ap body_slice (sym c.names.invariant.0)) ∙ sym c.further-then-parted.ensures.slice in
    ends-at v.separators c.pair-pair.result same left size within small (left_key_bytes (body_items c.args.body.now)) (window at block) c.names.marks begin len
    laid c.lowest-length.ensures.within c.lowest-length.ensures.set c.lowest-length.ensures.below c.if-size-end.false
    ∙ (λ i. position_or_len (is_separator (sym c.further-then-parted.ensures.separators i)) (slice i))

pub returns-then-size-end-clause-laid : goal.returns-then-size-end-clause-laid
returns-then-size-end-clause-laid c =
    let v = c.names.body in
    let at = c.args.at in
    let left = c.as_bytes-left.result.now in
    let size = c.min-size.result in
    let block = c.names.block in
    let begin = c.names.begin in
    let len = c.lowest-length.result in
    let laid = c.names.invariant.3 in
    let same : (b : ℕ) → is_separator v.separators b ≡ is_one_of c.pair-pair.result b = λ b. ap (λ u. is_separator u.separators b) c.names.invariant.0 ∙ c.pair-pair.ensures b in
    let within : size ≤ length left = omega (arith, c.min-size.ensures) in
    let small : size ≤ 61 = omega (arith, c.min-size.ensures) in
    let whole : size ≡ length left = omega (arith, within, c.if-size-left.false) in
    let room : at + 64 ≤ length block = omega (arith, c.requires.room, c.names.invariant.1) in
    let more : at + 64 ≤ length (set block (at + begin) (10 + len)) = omega (arith, room, length-set block (at + begin) (10 + len)) in
    ended-laid v.separators c.pair-pair.result same left size within small (left_key_bytes (body_items c.args.body.now)) (window at block) c.names.marks begin len
    laid c.lowest-length.ensures.within c.lowest-length.ensures.set c.lowest-length.ensures.below whole c.if-size-end.true (v.from + size)
    ∙ ap (λ xs. xs ++ left_key_bytes (later_body v.separators (v.from + size) (drop size left)))
    (ap (take (size + 1)) (sym (window-set at block room begin (10 + len) (omega (arith, laid.short, small)))) ∙ window-front at (set block (at + begin) (10 + len)) more (size + 1) (omega (arith, small)))
    ∙ ap (λ cs. take (size + 1) (drop at (set block (at + begin) (10 + len))) ++ left_key_bytes cs)
    (ap (λ t. later_body v.separators (v.from + size) (drop size t)) (c.as_bytes-left.ensures ∙ ap body_slice (sym c.names.invariant.0)) ∙ sym c.further.ensures.items)

pub returns-then-parted-clause-laid : goal.returns-then-parted-clause-laid
returns-then-parted-clause-laid c =
    let v = c.names.body in
    let at = c.args.at in
    let left = c.as_bytes-left.result.now in
    let size = c.min-size.result in
    let block = c.names.block in
    let begin = c.names.begin in
    let len = c.lowest-length.result in
    let laid = c.names.invariant.3 in
    let same : (b : ℕ) → is_separator v.separators b ≡ is_one_of c.pair-pair.result b = λ b. ap (λ u. is_separator u.separators b) c.names.invariant.0 ∙ c.pair-pair.ensures b in
    let within : size ≤ length left = omega (arith, c.min-size.ensures) in
    let small : size ≤ 61 = omega (arith, c.min-size.ensures) in
    let room : at + 64 ≤ length block = omega (arith, c.requires.room, c.names.invariant.1) in
    let more : at + 64 ≤ length (set block (at + begin) (10 + len)) = omega (arith, room, length-set block (at + begin) (10 + len)) in
    let end = begin + 1 + len in
    parted-laid v.separators c.pair-pair.result same left size within small (left_key_bytes (body_items c.args.body.now)) (window at block) c.names.marks begin len
    laid c.lowest-length.ensures.within c.lowest-length.ensures.set c.lowest-length.ensures.below c.if-size-end.false (v.from + begin)
    ∙ ap (λ xs. xs ++ left_key_bytes (drop 1 (later_body v.separators (v.from + begin) (drop begin left))))
    (ap (take end) (sym (window-set at block room begin (10 + len) (omega (arith, laid.short, small)))) ∙ window-front at (set block (at + begin) (10 + len)) more end (omega (arith, c.if-size-end.false, small)))
    ∙ ap (λ cs. take end (drop at (set block (at + begin) (10 + len))) ++ left_key_bytes cs)
    (ap (λ t. drop 1 (later_body v.separators (v.from + begin) (drop begin t))) (c.as_bytes-left.ensures ∙ ap body_slice (sym c.names.invariant.0))
    ∙ ap (drop 1) (sym c.further-then-parted.ensures.items) ∙ sym c.take_segment.ensures.items)

pub returns-then-begin-ne0-clause-laid : goal.returns-then-begin-ne0-clause-laid
returns-then-begin-ne0-clause-laid c =
    let v = c.names.body in
    let at = c.args.at in
    let block = c.names.block in
    let small : c.min-size.result ≤ 61 = omega (arith, c.min-size.ensures) in
    let room : at + 64 ≤ length block = omega (arith, c.requires.room, c.names.invariant.1) in
    c.names.invariant.3.laid
    ∙ ap (λ xs. xs ++ keyed v.separators (drop c.names.begin c.as_bytes-left.result.now)) (window-front at block room c.names.begin (omega (arith, c.names.invariant.3.short, small)))
    ∙ ap (λ xs. take c.names.begin (drop at block) ++ xs) (keyed-at v.separators (v.from + c.names.begin) (drop c.names.begin c.as_bytes-left.result.now)
    ∙ ap left_key_bytes (ap (λ t. later_body v.separators (v.from + c.names.begin) (drop c.names.begin t)) (c.as_bytes-left.ensures ∙ ap body_slice (sym c.names.invariant.0)) ∙ sym c.further-then-begin-ne0.ensures.items))
