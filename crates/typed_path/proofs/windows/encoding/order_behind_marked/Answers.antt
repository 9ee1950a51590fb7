use Rattle.std.proofs.Common.{sym, ap, ◌∙◌}
use Rattle.std.proofs.lemmas.List.{take_rest}
use Rattle.typed_path.specs.components.{windows, body, comps}
use Rattle.typed_path.specs.changes.{raw_length, HaveOnePrefix}
use Rattle.typed_path.specs.order.{left_cmp}
use Rattle.typed_path.specs.views.BodyViews.{body_items}
use Rattle.typed_path.specs.views.PieceViews.{found_of}
use Rattle.typed_path.proofs.lemmas.components.Prefixes.{prefix-fits}
use Rattle.typed_path.proofs.lemmas.order.Comparisons.{prefixed-bare, bare-prefixed}
use Rattle.typed_path.proofs.lemmas.order.DifferentPrefixes.{bare-found, behind-bare}
use Rattle.typed_path.proofs.lemmas.order.SharedNames.{one-order, parted-rest}
use Rattle.typed_path.proofs.windows.encoding.order_behind_marked.Goals as goal
use Rattle.typed_path.proofs.lemmas.components.PrefixCuts.{first-found}

-- the other alone has a prefix
pub returns-in_default : goal.returns-in_default
returns-in_default c =
    let t = c.args.path.now in
    let u = c.args.other.now in
    let none = sym c.in_default.ensures in
    let others = c.in_ok-find_prefix.ensures in
    sym (c.reverse.ensures
    ∙ bare-prefixed (comps windows u) (comps windows t) (body_items c.whole.result) (found_of c.in_ok-find_prefix.field-0).prefix c.order_of_prefixed.result
    (first-found u (found_of c.in_ok-find_prefix.field-0) (sym others)) (bare-found t none) (behind-bare t (body_items c.whole.result) none (c.whole.ensures none)) c.order_of_prefixed.ensures)

-- what stands behind the prefix differs first at the same byte
pub compare_parted-requires : goal.compare_parted-requires
compare_parted-requires c =
    parted-rest c.args.path.now c.args.other.now c.first_difference-shared.result c.in-Some.found.length c.first_difference-shared.ensures
    (c.begins_with_prefix.ensures.begun c.if-begins_with_prefix.true)

pub returns-then-begins_with_prefix : goal.returns-then-begins_with_prefix
returns-then-begins_with_prefix c =
    let t = c.args.path.now in
    let u = c.args.other.now in
    let n = c.in-Some.found.length in
    let s = c.of_windows-separators.result in
    let told = c.begins_with_prefix.ensures in
    let begins = c.if-begins_with_prefix.true in
    let read = c.of_windows-separators.ensures in
    let found = c.in-Some.ensures in
    let one : HaveOnePrefix t u n s = (sym read, told.separators begins ∙ sym read, told.prefix begins ∙ found, ap raw_length found) in
    one-order t u n s one c.compare_parted.result
    (sym (λ i. left_cmp (body s 0 (take_rest t n i)) (body s 0 (take_rest u n i))) ∙ sym c.compare_parted.ensures)

pub order_by_both_prefixes-requires-clause-within : goal.order_by_both_prefixes-requires-clause-within
order_by_both_prefixes-requires-clause-within c = (
  (prefix-fits windows c.args.path.now (found_of c.in-Some.found) (sym c.in-Some.ensures)).fits,
  (prefix-fits windows c.args.other.now (found_of c.in-Some-find_prefix.others) (sym c.in-Some-find_prefix.ensures)).fits,
)

-- the first alone has one
pub returns-in-None : goal.returns-in-None
returns-in-None c =
    let t = c.args.path.now in
    let u = c.args.other.now in
    let none = sym c.in-None.ensures in
    sym (prefixed-bare (comps windows t) (comps windows u) (body_items c.whole-in-None.result) (found_of c.in-Some.found).prefix c.order_of_prefixed-in-None.result
    (first-found t (found_of c.in-Some.found) (sym c.in-Some.ensures)) (bare-found u none) (behind-bare u (body_items c.whole-in-None.result) none (c.whole-in-None.ensures none)) c.order_of_prefixed-in-None.ensures)
