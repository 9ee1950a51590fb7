use Rattle.std.proofs.Common.{◌∙◌, ap₂, sym, arith}
use Rattle.std.proofs.lemmas.List.{get_or-map, length-map}
use Rattle.std.specs.Char.{to_ascii_lowercase}
use Rattle.std.specs.Ordering.{nat_cmp}
use Rattle.std.specs.Str.{str_to_ascii_lowercase}
use Rattle.typed_path.proofs.lemmas.order.LoweredLists.{order-apart, order-ended}
use Rattle.typed_path.proofs.common.ascii_case.compare_lowered_names.Goals as goal

pub returns-then-shared-other : goal.returns-then-shared-other
returns-then-shared-other c =
    let a = c.args.name.now in
    let b = c.args.other.now in
    let n = c.first_difference_in_lower_case-shared.result in
    let own = length-map a to_ascii_lowercase in
    let other = length-map b to_ascii_lowercase in
    c.cmp.ensures
    ∙ ap₂ nat_cmp (c.to_ascii_lowercase.ensures.value ∙ sym (get_or-map to_ascii_lowercase a n 0 0 c.if-shared-name.true)) (c.to_ascii_lowercase-then-shared-other.ensures.value ∙ sym (get_or-map to_ascii_lowercase b n 0 0 c.if-shared-other.true))
    ∙ sym (order-apart (str_to_ascii_lowercase a) (str_to_ascii_lowercase b) n c.first_difference_in_lower_case-shared.ensures (omega (arith, own)) (omega (arith, other)))

pub returns : goal.returns
returns c =
    let a = c.args.name.now in
    let b = c.args.other.now in
    let n = c.first_difference_in_lower_case-shared.result in
    let own = length-map a to_ascii_lowercase in
    let other = length-map b to_ascii_lowercase in
    c.cmp-2.ensures ∙ ap₂ nat_cmp (sym own) (sym other)
    ∙ sym (order-ended (str_to_ascii_lowercase a) (str_to_ascii_lowercase b) n c.first_difference_in_lower_case-shared.ensures (omega (arith, own, other, c.else-shared-name.either)))
