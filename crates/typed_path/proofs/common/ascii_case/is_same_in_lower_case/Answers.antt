use Rattle.std.proofs.Common.{◌==◌, ◌∙◌, ap, sym}
use Rattle.std.proofs.lemmas.List.{length-map}
use Rattle.std.specs.Char.{to_ascii_lowercase}
use Rattle.std.specs.Str.{str_to_ascii_lowercase}
use Rattle.typed_path.proofs.lemmas.order.LoweredLists.{same-ended}
use Rattle.typed_path.proofs.common.ascii_case.is_same_in_lower_case.Goals as goal

pub returns-then-text-other : goal.returns-then-text-other
returns-then-text-other c =
    let a = c.args.text.now in
    let b = c.args.other.now in
    let own = length-map a to_ascii_lowercase in
    ap (λ m. c.first_difference_in_lower_case.result == m) (sym own)
    ∙ same-ended (str_to_ascii_lowercase a) (str_to_ascii_lowercase b) c.first_difference_in_lower_case.result c.first_difference_in_lower_case.ensures (own ∙ c.if-text-other.true ∙ sym (length-map b to_ascii_lowercase))
