use Rattle.std.proofs.Common.{◌≡◌, ◌≤◌, ◌+◌, ◌++◌, List, length, take, slice_range, sym, ap, subst, ◌∙◌, append-nil, append_assoc, length-append, arith, ℕ, true, false, length-take-le}
use Rattle.std.proofs.lemmas.Result.{on_ok_weaker}
use Rattle.typed_path.specs.components.{windows, kinds, parts, parts_of, is_empty, prefix_of}
use Rattle.typed_path.specs.queries.{has_prefix, has_any_verbatim_prefix, begins_with_root}
use Rattle.typed_path.specs.changes.{push_windows, raw_length, raw_prefix, ended_windows}
use Rattle.typed_path.proofs.lemmas.changes.WindowsPushes.{fits-plain, fits-merged, push-empty, push-anew, push-rooted, push-relative, path-length, up_to-end, up_to-inside}
use Rattle.typed_path.proofs.windows.push.push_at.Goals as goal

-- whether the path at a place of a text is verbatim, where the text is another's
verbatim_of : {t u : List ℕ} (start end : ℕ) → t ≡ u
    → has_any_verbatim_prefix (kinds (parts_of windows (slice_range t start end))) ≡ has_any_verbatim_prefix (kinds (parts_of windows (slice_range u start end)))
verbatim_of start end e = ap (λ t. has_any_verbatim_prefix (kinds (parts_of windows (slice_range t start end)))) e

pub returns-then-is_empty-clause-ok : goal.returns-then-is_empty-clause-ok
returns-then-is_empty-clause-ok c = grind (arith, up_to-end, push-empty)

-- the path is merged into its base
module _ (c : goal.After-merge_at) where
  abbrev merged_base : List ℕ
  merged_base = slice_range c.args.text.now.items c.args.start c.args.kept

  some : is_empty c.args.other.now ≡ false
  some = sym c.is_empty.ensures ∙ c.if-is_empty.false

  no_prefix : has_prefix (kinds (parts_of windows c.args.other.now)) ≡ false
  no_prefix = sym (c.has_prefix.ensures ∙ ap (λ cs. has_prefix (kinds (parts cs))) c.of_windows-path.ensures.items) ∙ c.if-has_prefix.false

  marked : has_any_verbatim_prefix (kinds (parts_of windows merged_base)) ≡ true
  marked = sym (verbatim_of c.args.start c.args.kept c.deref.ensures.value) ∙ sym c.has_verbatim_kind.ensures ∙ c.if-has_verbatim_kind.true

pub returns-then-has_verbatim_kind-clause-ok : goal.returns-then-has_verbatim_kind-clause-ok
returns-then-has_verbatim_kind-clause-ok c = grind (arith, on_ok_weaker, push-anew, c.merge_at.ensures.ok)

pub returns-then-has_verbatim_kind-clause-succeeds : goal.returns-then-has_verbatim_kind-clause-succeeds
returns-then-has_verbatim_kind-clause-succeeds c = grind (arith, fits-merged, some, no_prefix, marked, path-length)

pub returns-then-has_prefix-clause-succeeds : goal.returns-then-has_prefix-clause-succeeds
returns-then-has_prefix-clause-succeeds c = grind arith

-- a rooted path, behind the prefix of its base
module _ (c : goal.After-put_over-then-begins_with_root) where
  abbrev rooted_base : List ℕ
  rooted_base = slice_range c.args.text.now.items c.args.start c.args.kept

  rooted : push_windows rooted_base c.args.other.now ≡ raw_prefix rooted_base ++ c.args.other.now
  rooted =
      push-rooted rooted_base c.args.other.now (sym c.is_empty.ensures ∙ c.if-is_empty.false)
      (sym (c.has_prefix.ensures ∙ ap (λ cs. has_prefix (kinds (parts cs))) c.of_windows-path.ensures.items) ∙ c.if-has_prefix.false)
      (sym (verbatim_of c.args.start c.args.kept c.deref.ensures.value) ∙ sym c.has_verbatim_kind.ensures ∙ c.if-has_verbatim_kind.false)
      (sym (c.begins_with_root.ensures ∙ ap (λ cs. begins_with_root (kinds (parts cs))) c.of_windows-path.ensures.items) ∙ c.if-begins_with_root.true)

  prefix_within : c.prefix_len.result ≤ length rooted_base
  prefix_within = subst (λ t. c.prefix_len.result ≤ length (slice_range t c.args.start c.args.kept)) c.deref.ensures.value c.prefix_len.ensures.within

  prefix_is : c.prefix_len.result ≡ raw_length (prefix_of windows rooted_base)
  prefix_is = c.prefix_len.ensures.length ∙ ap (λ t. raw_length (prefix_of windows (slice_range t c.args.start c.args.kept))) c.deref.ensures.value

pub returns-then-begins_with_root-clause-ok : goal.returns-then-begins_with_root-clause-ok
returns-then-begins_with_root-clause-ok c = λ known.
    let text = c.args.text.now.items in
    let start = c.args.start in
    let other = c.args.other.now in
    on_ok_weaker c.put_over-then-begins_with_root.result
    (λ e. e ∙ ap (λ u. u ++ other) (append-nil (take (start + c.prefix_len.result) text)
    ∙ up_to-inside text start c.args.kept c.requires.ordered c.requires.within c.prefix_len.result (prefix_within c)
    ∙ ap (λ m. take start text ++ take m (rooted_base c)) (prefix_is c))
    ∙ append_assoc (take start text) (raw_prefix (rooted_base c)) other
    ∙ ap (λ u. take start text ++ u) (sym (rooted c)))
    c.put_over-then-begins_with_root.ensures.ok

pub returns-then-begins_with_root-clause-succeeds : goal.returns-then-begins_with_root-clause-succeeds
returns-then-begins_with_root-clause-succeeds c =
    λ room within known fits.
    let plain = sym (verbatim_of c.args.start c.args.kept c.deref.ensures.value) ∙ sym c.has_verbatim_kind.ensures ∙ c.if-has_verbatim_kind.false in
    let fitting = fits-plain room (rooted_base c) c.args.other.now plain fits in
    let size = ap length (rooted c) ∙ length-append (raw_prefix (rooted_base c)) c.args.other.now in
    let raw = ap (λ n. length (take n (rooted_base c))) (sym (prefix_is c)) ∙ length-take-le c.prefix_len.result (rooted_base c) (prefix_within c) in
    c.put_over-then-begins_with_root.ensures.succeeds (omega (arith, size, raw, fitting, within))

-- a relative path, behind the base and its separator
module _ (c : goal.After-put_over-2) where
  abbrev relative_base : List ℕ
  relative_base = slice_range c.args.text.now.items c.args.start c.args.kept

  separator_is : ended_windows relative_base ≡ relative_base ++ c.separator_behind-separator.result.now
  separator_is = grind arith

  relative : push_windows relative_base c.args.other.now ≡ relative_base ++ c.separator_behind-separator.result.now ++ c.args.other.now
  relative =
      push-relative relative_base c.args.other.now (sym c.is_empty.ensures ∙ c.if-is_empty.false)
      (sym (c.has_prefix.ensures ∙ ap (λ cs. has_prefix (kinds (parts cs))) c.of_windows-path.ensures.items) ∙ c.if-has_prefix.false)
      (sym (verbatim_of c.args.start c.args.kept c.deref.ensures.value) ∙ sym c.has_verbatim_kind.ensures ∙ c.if-has_verbatim_kind.false)
      (sym (c.begins_with_root.ensures ∙ ap (λ cs. begins_with_root (kinds (parts cs))) c.of_windows-path.ensures.items) ∙ c.if-begins_with_root.false)
      ∙ ap (λ u. u ++ c.args.other.now) separator_is

pub returns-clause-ok : goal.returns-clause-ok
returns-clause-ok c = grind (arith, on_ok_weaker, up_to-end, append_assoc, relative)

pub returns-clause-succeeds : goal.returns-clause-succeeds
returns-clause-succeeds c =
    λ room within known fits.
    let plain = sym (verbatim_of c.args.start c.args.kept c.deref.ensures.value) ∙ sym c.has_verbatim_kind.ensures ∙ c.if-has_verbatim_kind.false in
    let fitting = fits-plain room (relative_base c) c.args.other.now plain fits in
    let separator = c.separator_behind-separator.result.now in
    let size = ap length (relative c) ∙ length-append (relative_base c ++ separator) c.args.other.now in
    let front = length-append (relative_base c) separator in
    let base = path-length c.args.text.now.items c.args.start c.args.kept c.requires.ordered c.requires.within in
    c.put_over-2.ensures.succeeds (omega (arith, size, front, base, fitting, within, c.requires.ordered))
