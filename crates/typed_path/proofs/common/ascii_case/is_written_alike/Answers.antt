use Rattle.std.proofs.Common.{◌∙◌, sym, ap, arith, get_or}
use Rattle.typed_path.specs.order.{lowered_behind, mark_in}
use Rattle.typed_path.specs.views.PieceViews.{kind_view}
use Rattle.typed_path.proofs.lemmas.order.LoweredLists.{alike-each, differ-length, length-lowered}
use Rattle.typed_path.proofs.common.ascii_case.is_written_alike.Goals as goal

pub returns-then-own-other : goal.returns-then-own-other
returns-then-own-other c =
    let a = c.args.own.text.now in
    let b = c.args.other.text.now in
    let n = mark_in (kind_view c.args.own.kind a) in
    let m = mark_in (kind_view c.args.other.kind b) in
    sym (differ-length (lowered_behind n a) (lowered_behind m b) (λ e. c.if-own-other.true (sym (length-lowered n a) ∙ e ∙ length-lowered m b)))

pub returns : goal.returns
returns c =
    let a = c.args.own.text.now in
    let b = c.args.other.text.now in
    let n = mark_in (kind_view c.args.own.kind a) in
    let m = mark_in (kind_view c.args.other.kind b) in
    sym (alike-each (lowered_behind n a) (lowered_behind m b) (length-lowered n a ∙ c.if-own-other.false ∙ sym (length-lowered m b))
    (λ k l. ap (λ x. get_or (lowered_behind x a) k 0) (sym (c.kept_len-kept.ensures a)) ∙ c.loop-at.invariant k (omega (arith, l, length-lowered n a)) ∙ ap (λ x. get_or (lowered_behind x b) k 0) (c.kept_len-others.ensures b)))
