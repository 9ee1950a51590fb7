use Rattle.std.proofs.Common.{◌≡◌, true, false, Option, Some, None, Ordering, sym, ◌∙◌, inl, inr, arith}
use Rattle.std.specs.Prelude.{IfSome}
use Rattle.std.specs.Option.{is_some}
use Rattle.std.specs.List.{starts_with}
use Rattle.std.specs.Str.{bytes_eq}
use Rattle.std.specs.Ordering.{is_ne}
use Rattle.typed_path.specs.components.{body, parts, texts}
use Rattle.typed_path.proofs.lemmas.order.SharedNames.{AreInOrder, names-parted, parted-begins}
use Rattle.typed_path.proofs.lemmas.order.Fronts.{firsts-apart}
use Rattle.typed_path.proofs.scan.cut.are_apart.Goals as goal

pub returns-then-part_in_one_segment : goal.returns-then-part_in_one_segment
returns-then-part_in_one_segment c = λ told. by c.order_of_ends.result c.order_of_ends.ensures (sym c.is_some.ensures ∙ told)
  where
    by : (r : Option Ordering) → IfSome r (λ order. (is_ne order ≡ true) × AreInOrder c.args.separators c.args.text.now c.args.other.now c.args.shared order) → is_some r ≡ true
        → starts_with bytes_eq (texts (parts (body c.args.separators 0 c.args.text.now))) (texts (parts (body c.args.separators 0 c.args.other.now))) ≡ false
    by None told some = cc
    by (Some o) told some =
        let s = c.args.separators in
        let t = c.args.text.now in
        let u = c.args.other.now in
        let k = c.args.shared in
        elim (c.part_in_one_segment.ensures c.if-part_in_one_segment.true) [
          | inl named ↦ parted-begins s t u o (names-parted s t u k named.0 named.1 o named.2 named.3 told.1) told.0
          | inr parted ↦ firsts-apart s t u k o parted (omega (arith, c.if-shared-eq0.false)) told.1 told.0
        ]
